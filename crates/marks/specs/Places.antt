-- What stands at a place of a page, and around it. Assumes nothing.
use Rattle.std.specs.Prelude.{ℕ, ◌+◌, ◌-◌, Bool, true, not, ◌&&◌, ◌||◌, List, [], ◌∷◌, length, ◌==◌, nat_eq, nat_lt, slice_index, slice_range}
use Rattle.page_bytes.specs.Runs.{run_end}

-- the byte b stands at the place
abbrev pub is_at : List ℕ → ℕ → ℕ → Bool
is_at page i b = nat_lt i (length page) && slice_index page i == b

-- a byte of the class stands at the place
abbrev pub class_at : (ℕ → Bool) → List ℕ → ℕ → Bool
class_at is page i = nat_lt i (length page) && is (slice_index page i)

-- the text stands there
abbrev pub text_at : List ℕ → List ℕ → ℕ → Bool
text_at [] page i = true
text_at (b ∷ bs) page i = is_at page i b && text_at bs page (i + 1)

-- the page's first place, or LF stands before it
abbrev pub line_start : List ℕ → ℕ → Bool
line_start page p = p == 0 || is_at page (p - 1) 10

-- a backslash stands before it
abbrev pub escaped : List ℕ → ℕ → Bool
escaped page p = not (p == 0) && is_at page (p - 1) 92

-- where the run of the byte that stands there ends
abbrev pub mark_run : List ℕ → ℕ → ℕ
mark_run page p = run_end (λ b. nat_eq b (slice_index page p)) page p

-- what stands from p up to q
abbrev pub part : List ℕ → ℕ → ℕ → List ℕ
part page p q = slice_range page p q
