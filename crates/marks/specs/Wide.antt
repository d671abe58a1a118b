-- The characters past ASCII that are marks, and the sentinel of a passed attribute. Assumes nothing.
use Rattle.std.specs.Prelude.{ℕ, Bool, ◌||◌, List, [], ◌∷◌, codes, Option, ◌==◌}
use Rattle.marks.specs.Shape.{text, one, Shape}
use Rattle.marks.specs.Spelling.{spelt_end, first_end}

-- the last byte of U+2007, U+2018, U+2019, U+201C, U+201D or U+202F
abbrev pub space_or_quote : ℕ → Bool
space_or_quote b = ((b == 0x87 || b == 0x98) || (b == 0x99 || b == 0x9c)) || (b == 0x9d || b == 0xaf)

-- U+00A0; the above; U+2060; U+3000; U+FEFF
abbrev pub wide_marks : List Shape
wide_marks =
    (text (0xc2 ∷ 0xa0 ∷ []) ∷ []) ∷ (text (0xe2 ∷ 0x80 ∷ []) ∷ one space_or_quote ∷ []) ∷ (text (0xe2 ∷ 0x81 ∷ 0xa0 ∷ []) ∷ []) ∷ (text (0xe3 ∷ 0x80 ∷ 0x80 ∷ []) ∷ []) ∷ (text (0xef ∷ 0xbb ∷ 0xbf ∷ []) ∷ []) ∷ []

abbrev pub punctuation_end : List ℕ → ℕ → Option ℕ
punctuation_end page p = first_end wide_marks page p

-- ESC and `ass:`
abbrev pub pass_mark : Shape
pass_mark = text (27 ∷ codes "ass:") ∷ []

abbrev pub pass_end : List ℕ → ℕ → Option ℕ
pass_end page p = spelt_end pass_mark page p
