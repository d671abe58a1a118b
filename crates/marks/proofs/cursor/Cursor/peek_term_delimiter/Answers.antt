use Rattle.std.proofs.Common.{◌+◌, codes, sym, ◌∙◌, arith}
use Rattle.std.proofs.lemmas.Bool.Decides.{nat_tests}
use Rattle.std.proofs.lemmas.Option.{cond_some}
use Rattle.marks.specs.Places.{text_at}
use Rattle.marks.proofs.Bytes.{is_at-read}
use Rattle.marks.proofs.Terms.{term-colons}
use Rattle.marks.proofs.cursor.Cursor.peek_term_delimiter.Goals as goal

pub returns-in_ok-behind-in-58 : goal.returns-in_ok-behind-in-58
returns-in_ok-behind-in-58 c =
    let page = c.args.self.now.page.now in
    let p = c.args.self.now.pos in
    let two = cond_some (text_at (codes "::") page p) (p + 2) c.in_ok-behind-in-58.behind (sym c.text_end.ensures ∙ c.in_ok-behind-in-58.was) in
    rw (c.with_pos.ensures, ← two.1) at c.colons_end.ensures ∙ term-colons page p two.0

pub returns-in_default : goal.returns-in_default
returns-in_default c =
    let at = is_at-read c.args.self.now.page.now c.args.self.now.pos c.in_ok-byte.field-0 (sym c.byte.ensures ∙ c.in_ok-byte.was) in
    let other = c.in_default in
    grind (arith, nat_tests, at 58, at 59)
