use Rattle.std.proofs.Common.{rules, ◌≡◌, ◌≤◌, length, get_or, sym, ◌∙◌, arith}
use Rattle.std.proofs.lemmas.Option.{gets, get_or_from_slice_get}
use Rattle.marks.proofs.Lines.{no-line-past}
use Rattle.marks.proofs.cursor.Cursor.delimiter_end.Goals as goal

pub returns-in_err-mark-clause-is : goal.returns-in_err-mark-clause-is
returns-in_err-mark-clause-is c =
    let page = c.args.self.now.page.now in
    let p = c.args.self.now.pos in
    let past : length page ≤ p = grind (arith, gets) in
    c.from_residual.ensures ∙ sym (no-line-past page p past)

pub returns-clause-is : goal.returns-clause-is
returns-clause-is c =
    let page = c.args.self.now.page.now in
    let p = c.args.self.now.pos in
    let m = c.in_ok-mark.mark in
    let same : get_or page p 0 ≡ m = get_or_from_slice_get page p m 0 (sym c.byte.ensures ∙ c.in_ok-mark.was) in
    rw same (search rules)
