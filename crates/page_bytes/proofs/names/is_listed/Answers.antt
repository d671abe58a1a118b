use Rattle.std.proofs.Common.{rules, ◌≡◌, ℕ, ◌<◌, false, eqb, List, length, sym, ◌∙◌, ⊎_elim, arith}
use Rattle.std.proofs.lemmas.Bool.Decides.{nat_tests}
use Rattle.std.proofs.lemmas.Fn.{always_returns_same}
use Rattle.std.proofs.lemmas.Grind.{common_steps}
use Rattle.std.specs.Iterator.Adapters.{zip_first, zip_second}
use Rattle.std.specs.Slice.Iter.{iter_rest}
use Rattle.std.specs.Str.{bytes_eq}
use Rattle.page_bytes.proofs.Listing.{is_lf, left_more, passed, hit, knows, same-long, same-off, same-empty}
use Rattle.page_bytes.proofs.names.is_listed.Goals as goal

some : (name : List ℕ) → false ≡ eqb (length name) 0 → 0 < length name
some name e = grind (arith, nat_tests)

pub names-preserved-then-line-name : goal.names-preserved-then-line-name
names-preserved-then-line-name c =
    let s = c.in-Some.ensures.steps in
    let more = left_more c.names.line-iterator c.next.new.self c.in-Some.line.now s.0 s.1 (s.2 is_lf (always_returns_same _ _ _ (λ a r q k. search rules))).1 in
    passed _ _ _ _ _ more (same-long _ _ c.if-line-name.true) c.names.invariant

pub names-preserved : goal.names-preserved
names-preserved c =
    let s = c.in-Some.ensures.steps in
    let more = left_more c.names.line-iterator c.next.new.self c.in-Some.line.now s.0 s.1 (s.2 is_lf (always_returns_same _ _ _ (λ a r q k. search rules))).1 in
    let front : c.in-Some.line.now ≡ iter_rest (zip_first c.into_iter-a-iterator.result) = grind (arith, common_steps) in
    let back : c.args.name.now ≡ iter_rest (zip_second c.into_iter-a-iterator.result) = grind (arith, common_steps) in
    let both : bytes_eq c.in-Some.line.now c.args.name.now ≡ bytes_eq (iter_rest (zip_first c.into_iter-a-iterator.result)) (iter_rest (zip_second c.into_iter-a-iterator.result)) = cc in
    let s2 = c.in-Some-2.ensures.steps in
    passed _ _ _ _ _ more (both ∙ sym c.loop-a.invariant.0 ∙ same-off _ _ _ _ _ _ s2.0 s2.1 c.if-a-b.true) c.names.invariant

pub returns-in-names : goal.returns-in-names
returns-in-names c =
    let s = c.in-Some.ensures.steps in
    let more = left_more c.names.line-iterator c.next.new.self c.in-Some.line.now s.0 s.1 (s.2 is_lf (always_returns_same _ _ _ (λ a r q k. search rules))).1 in
    let front : c.in-Some.line.now ≡ iter_rest (zip_first c.into_iter-a-iterator.result) = grind (arith, common_steps) in
    let back : c.args.name.now ≡ iter_rest (zip_second c.into_iter-a-iterator.result) = grind (arith, common_steps) in
    let both : bytes_eq c.in-Some.line.now c.args.name.now ≡ bytes_eq (iter_rest (zip_first c.into_iter-a-iterator.result)) (iter_rest (zip_second c.into_iter-a-iterator.result)) = cc in
    knows c.args.list.now c.args.name.now _ (some _ c.if-is_empty.ensures) (sym c.names.invariant ∙ hit _ _ _ _ more (both ∙ sym c.loop-a.invariant.0 ∙ same-empty _ _ c.loop-a.invariant.1 (⊎_elim (λ h. h.1.0) (λ h. let e = h.1.0 in c.loop-a.invariant.1 ∙ e) c.in-None-2.ensures.steps)))
