-- Sets of names, a name being a list of bytes. Assumes nothing.
use Rattle.std.specs.Prelude.{ℕ, Bool, false, not, ◌&&◌, ◌||◌, List, [], ◌∷◌, length, take, ◌==◌, nat_lt}
use Rattle.std.specs.List.{slice_split}
use Rattle.std.specs.Str.{bytes_eq}

-- what stands between the LFs of a text
abbrev pub lines_of : List ℕ → List (List ℕ)
lines_of bs = slice_split (λ b. b == 10) bs

abbrev pub member : List ℕ → List (List ℕ) → Bool
member name [] = false
member name (line ∷ lines) = bytes_eq line name || member name lines

-- a written list, whose lines are names: the name is one of them, and not empty
abbrev pub listed : List ℕ → List ℕ → Bool
listed list name = not (length name == 0) && member name (lines_of list)

-- a family of names: they have a beginning in common, and each is longer
abbrev pub in_family : List ℕ → List ℕ → Bool
in_family beginning name = nat_lt (length beginning) (length name) && bytes_eq (take (length beginning) name) beginning
