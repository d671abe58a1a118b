use Rattle.std.proofs.Common.{true, false, ◌∙◌}
use Rattle.marks.specs.Callout.{callout_end}
use Rattle.source_lexer.proofs.Tried.{tried-end}
use Rattle.source_lexer.proofs.start.Start.callout_end.Goals as goal

pub returns-in_err-callout : goal.returns-in_err-callout
returns-in_err-callout c =
    let s = c.args.self.now in
    c.from_residual.ensures ∙ tried-end (callout_end s.page.now s.pos) s.pos _ false (rw c.cursor-cursor.ensures at c.in_err-callout.ensures.passed)

pub returns : goal.returns
returns c =
    let s = c.args.self.now in
    tried-end (callout_end s.page.now s.pos) s.pos _ true (rw c.cursor-cursor.ensures at c.in_ok-callout.ensures.passed)
