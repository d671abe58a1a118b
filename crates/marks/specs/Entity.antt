-- A character reference: by a decimal number, `&#167;`, by a hexadecimal one, `&#xa7;`, or by a name of a letter and then
-- letters or digits, `&sect;`. No backslash stands before it. Assumes nothing.
use Rattle.std.specs.Prelude.{◌≡◌, ℕ, false, cond, List, [], ◌∷◌, None, codes, Option}
use Rattle.std.specs.Char.{is_ascii_digit, is_ascii_hexdigit, is_ascii_alphabetic, is_ascii_alphanumeric}
use Rattle.marks.specs.Places.{escaped}
use Rattle.marks.specs.Shape.{text, one, upto, Shape, SpeltBy}
use Rattle.marks.specs.Spelling.{first_end}

-- `&#`, digits, `;`
abbrev pub decimal_reference : Shape
decimal_reference = text (codes "&#") ∷ one is_ascii_digit ∷ upto is_ascii_digit (codes ";") ∷ []

-- `&#x`, hexadecimal digits, `;`
abbrev pub hex_reference : Shape
hex_reference = text (codes "&#x") ∷ one is_ascii_hexdigit ∷ upto is_ascii_hexdigit (codes ";") ∷ []

-- `&`, a letter, letters or digits, `;`
abbrev pub named_reference : Shape
named_reference = text (codes "&") ∷ one is_ascii_alphabetic ∷ one is_ascii_alphanumeric ∷ upto is_ascii_alphanumeric (codes ";") ∷ []

abbrev pub references : List Shape
references = decimal_reference ∷ hex_reference ∷ named_reference ∷ []

-- a character reference stands from p up to e
abbrev pub EntityAt : List ℕ → ℕ → ℕ → Type 0
EntityAt page p e = (escaped page p ≡ false) × SpeltBy references page p e

-- where the one that begins at p ends
abbrev pub entity_end : List ℕ → ℕ → Option ℕ
entity_end page p = cond (escaped page p) None (first_end references page p)
