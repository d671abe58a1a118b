use Rattle.std.proofs.Common.{◌≤◌, eqb, length, sym, ap, ◌∙◌, ⊎_elim, arith}
use Rattle.std.specs.List.{starts_with}
use Rattle.std.proofs.lemmas.Slice.{between_to_end}
use Rattle.marks.proofs.Texts.{text-front, text-past}
use Rattle.marks.proofs.cursor.Cursor.text_at.Goals as goal

pub returns-in-Some-get-clause-is : goal.returns-in-Some-get-clause-is
returns-in-Some-get-clause-is c =
    let page = c.args.self.now.page.now in
    let p = c.args.self.now.pos in
    c.starts_with.ensures.value
    ∙ ap (λ rest. starts_with eqb rest c.args.text.now) (c.in-Some-get.ensures.lookup.0.2 ∙ between_to_end page p (length page) (omega arith))
    ∙ text-front c.args.text.now page p

pub returns-in-None-clause-is : goal.returns-in-None-clause-is
returns-in-None-clause-is c =
    let page = c.args.self.now.page.now in
    let p = c.args.self.now.pos in
    let past : length page ≤ p = ⊎_elim (λ h. omega arith) (λ h. omega arith) c.in-None.ensures.lookup.0 in
    c.is_empty.ensures ∙ sym (text-past c.args.text.now page p past)
