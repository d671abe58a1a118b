use Rattle.std.proofs.Common.{[], ◌∷◌, codes}
use Rattle.marks.specs.AttrRef.{name_char}
use Rattle.marks.specs.Shape.{upto}
use Rattle.marks.specs.Spelling.{spelt_end}
use Rattle.marks.proofs.Passing.{behind-passed}
use Rattle.marks.proofs.cursor.Cursor.name_end.Goals as goal

pub returns : goal.returns
returns c =
    behind-passed _ _ _ _ (spelt_end (upto name_char (codes "}") ∷ []) c.args.self.page.now) _ c.in_ok-pass_one.ensures.passed (rw c.pass_one.ensures.page at c.upto_end.ensures)
