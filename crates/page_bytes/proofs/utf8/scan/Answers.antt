use Rattle.std.proofs.Common.{◌≡◌, Some, None, Err, ◌∷◌, ◌-◌, length, refl, ◌∙◌, arith}
use Rattle.std.proofs.lemmas.Grind.{common_steps}
use Rattle.page_bytes.specs.declared.utf8_fault.Utf8Fault.TheVariants.{Byte}
use Rattle.page_bytes.proofs.Faults.{on, more, fault-on-the-way, stopped}
use Rattle.page_bytes.proofs.utf8.scan.Goals as goal

pub returns-in_err-state : goal.returns-in_err-state
returns-in_err-state c =
    let first : c.loop-byte.rest.now ≡ c.in-Some.byte.now ∷ c.in-Some.behind.now = grind (arith, common_steps) in
    let none : None ≡ c.after.result = grind (arith, common_steps) in
    let is : c.from_residual.result ≡ Err (Byte (length c.args.bytes.now - length c.loop-byte.rest.now)) = grind (arith, common_steps) in
    rw is (fault-on-the-way _ _ _ _ _ _ c.loop-byte.invariant first (none ∙ c.after.ensures) refl)

pub loop-byte-preserved : goal.loop-byte-preserved
loop-byte-preserved c =
    let first : c.loop-byte.rest.now ≡ c.in-Some.byte.now ∷ c.in-Some.behind.now = grind (arith, common_steps) in
    let some : Some c.in_ok-state.state ≡ c.after.result = grind (arith, common_steps) in
    on _ _ _ _ (more _ _ _ _ _ _ c.loop-byte.invariant first (some ∙ c.after.ensures)) c.skip_ascii-rest-in-Some.ensures

pub returns : goal.returns
returns c = stopped _ _ _ c.loop-byte.invariant (grind (arith, common_steps))
