-- An attribute reference, as `{name}`: the name begins with a word character and goes on with word characters or
-- hyphens, and no backslash stands before the opening brace. Assumes nothing.
use Rattle.std.specs.Prelude.{◌≡◌, ℕ, Bool, false, cond, ◌||◌, List, [], ◌∷◌, None, codes, Option, ◌==◌}
use Rattle.std.specs.Char.{is_ascii_alphanumeric}
use Rattle.marks.specs.Places.{escaped}
use Rattle.marks.specs.Shape.{text, one, upto, Shape, Spelt}
use Rattle.marks.specs.Spelling.{spelt_end}

-- what a name begins with, a word character: a letter, a digit or `_`
abbrev pub word_char : ℕ → Bool
word_char b = is_ascii_alphanumeric b || b == 95

-- what it goes on with: word characters and `-`
abbrev pub name_char : ℕ → Bool
name_char b = word_char b || b == 45

-- the name rule: a word character, then word characters or hyphens, up to the text behind the name
abbrev pub name_before : List ℕ → Shape
name_before close = one word_char ∷ upto name_char close ∷ []

-- a name in braces
abbrev pub braced_name : Shape
braced_name = text (codes "{") ∷ name_before (codes "}")

-- an attribute reference stands from p up to e
abbrev pub AttrRefAt : List ℕ → ℕ → ℕ → Type 0
AttrRefAt page p e = (escaped page p ≡ false) × Spelt braced_name page p e

-- where the one that begins at p ends
abbrev pub attr_ref_end : List ℕ → ℕ → Option ℕ
attr_ref_end page p = cond (escaped page p) None (spelt_end braced_name page p)
