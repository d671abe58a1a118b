use Rattle.std.proofs.Common.{◌∙◌, sym, arith}
use Rattle.std.proofs.lemmas.Bool.Decides.{nat_tests}
use Rattle.marks.proofs.Leads.{lead-mark, no-lead}
use Rattle.marks.proofs.cursor.Cursor.punctuation_end.Goals as goal

pub returns-in_err-byte : goal.returns-in_err-byte
returns-in_err-byte c =
    c.from_residual.ensures ∙ no-lead c.args.self.now.page.now c.args.self.now.pos (sym c.byte.ensures ∙ c.in_err-byte.was)

pub returns-in_default : goal.returns-in_default
returns-in_default c =
    let lead = lead-mark c.args.self.now.page.now c.args.self.now.pos c.in_ok-byte.field-0 (sym c.byte.ensures ∙ c.in_ok-byte.was) in
    let other = c.in_default in
    grind (arith, nat_tests)
