-- Refusals by their numbers, and the grounds on which a text is refused. Assumes nothing.
use Rattle.std.specs.Prelude.{ℕ, ◌+◌, ◌≤◌, Bool, cond, not, List, [], ◌∷◌, ◌++◌, length, take, drop, Some, None, Ok, Err, codes, IsUtf8, Option, Result, nat_lt}
use Rattle.page_bytes.specs.declared.refusal.Refusal.{Refusal}
use Rattle.page_bytes.specs.declared.refusal.Refusal.TheVariants.{AreaTooLong, PastArea, TextTooLong, NotUtf8}
use Rattle.page_bytes.specs.Utf8.{well_formed}

-- the number of a refusal
abbrev pub number_of : Refusal → ℕ
number_of AreaTooLong = 1
number_of PastArea = 2
number_of TextTooLong = 3
number_of NotUtf8 = 4

-- its ground in words
abbrev pub reason_of : Refusal → List ℕ
reason_of AreaTooLong = codes "the area has more than 16777216 bytes"
reason_of PastArea = codes "the text reaches past its area"
reason_of TextTooLong = codes "the text has more than 1048576 bytes"
reason_of NotUtf8 = codes "the text is not well-formed UTF-8"

-- the number that a call was refused with, if it was
abbrev pub refusal_of : {X : Type 0} → Result X Refusal → Option ℕ
refusal_of (Ok x) = None
refusal_of (Err refusal) = Some (number_of refusal)

-- grounds in the order in which they are tried, each its number and whether it holds: the number of the first that does
abbrev pub first_ground : List (ℕ × Bool) → Option ℕ
first_ground [] = None
first_ground ((number, holds) ∷ grounds) = cond holds (Some number) (first_ground grounds)

-- the part of an area from a start on, of a length, or shorter where the area ends first
abbrev pub part : List ℕ → ℕ → ℕ → List ℕ
part area start len = take len (drop start area)

-- the area has more than 16,777,216 bytes
abbrev pub area_grounds : List ℕ → List (ℕ × Bool)
area_grounds area = (1, nat_lt 16777216 (length area)) ∷ []

-- the text reaches past its area
abbrev pub part_grounds : List ℕ → ℕ → ℕ → List (ℕ × Bool)
part_grounds area start len = (2, nat_lt (length area) (start + len)) ∷ []

-- the text has more than 1,048,576 bytes, or is not well-formed UTF-8
abbrev pub text_grounds : List ℕ → List (ℕ × Bool)
text_grounds text = (3, nat_lt 1048576 (length text)) ∷ (4, not (well_formed text)) ∷ []

-- all of these, for a page that is a part of an area
abbrev pub page_grounds : List ℕ → ℕ → ℕ → List (ℕ × Bool)
page_grounds area start len = area_grounds area ++ (part_grounds area start len ++ text_grounds (part area start len))

-- what may be read: a text is short enough and well-formed UTF-8, and a page is a text within an area that is short enough
abbrev pub IsText : List ℕ → Type 0
IsText text = (length text ≤ 1048576) × IsUtf8 text

abbrev pub IsPage : List ℕ → ℕ → ℕ → Type 0
IsPage area start len = (length area ≤ 16777216) × (start + len ≤ length area) × IsText (part area start len)
