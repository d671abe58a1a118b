-- A mark past ASCII, by its first byte. Assumes nothing.
use Rattle.std.proofs.Common.{◌≡◌, ℕ, cond, eqb, List, [], ◌∷◌, Some, None, Option, arith}
use Rattle.std.specs.List.{slice_get}
use Rattle.std.specs.Option.{option_or}
use Rattle.std.proofs.lemmas.Bool.Decides.{nat_tests}
use Rattle.std.proofs.lemmas.Option.{gets}
use Rattle.marks.specs.Shape.{text, one}
use Rattle.marks.specs.Spelling.{spelt_end}
use Rattle.marks.specs.Wide.{space_or_quote, punctuation_end}
use Rattle.marks.proofs.Bytes.{is_at-read}

module _ (page : List ℕ) (p : ℕ) where
  -- the mark that the first byte lets it be
  abbrev by_lead : ℕ → Option ℕ
  by_lead b =
      cond (eqb b 0xc2) (spelt_end (text (0xc2 ∷ 0xa0 ∷ []) ∷ []) page p)
      (cond (eqb b 0xe2) (option_or (spelt_end (text (0xe2 ∷ 0x80 ∷ []) ∷ one space_or_quote ∷ []) page p) (spelt_end (text (0xe2 ∷ 0x81 ∷ 0xa0 ∷ []) ∷ []) page p))
      (cond (eqb b 0xe3) (spelt_end (text (0xe3 ∷ 0x80 ∷ 0x80 ∷ []) ∷ []) page p)
      (cond (eqb b 0xef) (spelt_end (text (0xef ∷ 0xbb ∷ 0xbf ∷ []) ∷ []) page p) None)))

  pub lead-mark : (b : ℕ) → slice_get page p ≡ Some b → by_lead b ≡ punctuation_end page p
  lead-mark b read = let at = is_at-read page p b read in grind (arith, nat_tests, at 0xc2, at 0xe2, at 0xe3, at 0xef)

  pub no-lead : slice_get page p ≡ None → None ≡ punctuation_end page p
  no-lead read = grind (arith, nat_tests, gets)
