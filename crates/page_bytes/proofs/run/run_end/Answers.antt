use Rattle.std.proofs.Common.{sym, arith}
use Rattle.std.proofs.lemmas.Grind.{common_steps}
use Rattle.page_bytes.proofs.RunLaws.{longest, run_end-rest, run_end-past, run_end-le}
use Rattle.page_bytes.proofs.run.run_end.Goals as goal

pub overflow_add-result : goal.overflow_add-result
overflow_add-result g c =
    let all = c.in-Some.ensures.lookup.0 in
    omega (arith, run_end-rest (g.C.ByteClass.holds c.args.class.now) _ _ _ _ all.0 all.2 c.run_len.ensures, run_end-le (g.C.ByteClass.holds c.args.class.now) c.args.page.now c.args.from all.0)

pub returns-in-Some : goal.returns-in-Some
returns-in-Some g c =
    let all = c.in-Some.ensures.lookup.0 in
    let e = run_end-rest (g.C.ByteClass.holds c.args.class.now) _ _ _ _ all.0 all.2 c.run_len.ensures in
    record { is = e; longest = longest _ _ _ _ e }

pub returns-in-None : goal.returns-in-None
returns-in-None g c =
    let e = sym (run_end-past (g.C.ByteClass.holds c.args.class.now) _ _ (grind (arith, common_steps))) in
    record { is = e; longest = longest _ _ _ _ e }
