-- A callout: a number or a dot in angle brackets, `<1>` or `<.>`, or the same inside an XML comment, `<!--1-->` or `<!--.-->`.
-- Assumes nothing.
use Rattle.std.specs.Prelude.{ℕ, List, [], ◌∷◌, codes, Option}
use Rattle.std.specs.Char.{is_ascii_digit}
use Rattle.marks.specs.Shape.{text, one, upto, Shape, SpeltBy}
use Rattle.marks.specs.Spelling.{first_end}

-- a number between two texts
abbrev pub numbered : List ℕ → List ℕ → Shape
numbered open₁ close = text open₁ ∷ one is_ascii_digit ∷ upto is_ascii_digit close ∷ []

-- `<`, digits, `>`; `<.>`; `<!--`, digits, `-->`; `<!--.-->`
abbrev pub callouts : List Shape
callouts =
    numbered (codes "<") (codes ">")
    ∷ (text (codes "<.>") ∷ [])
    ∷ numbered (codes "<!--") (codes "-->")
    ∷ (text (codes "<!--.-->") ∷ [])
    ∷ []

-- a callout stands from p up to e
abbrev pub CalloutAt : List ℕ → ℕ → ℕ → Type 0
CalloutAt page p e = SpeltBy callouts page p e

-- where the one that begins at p ends
abbrev pub callout_end : List ℕ → ℕ → Option ℕ
callout_end page p = first_end callouts page p
