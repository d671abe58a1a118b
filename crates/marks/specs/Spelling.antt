-- Where a stretch of a given shape ends, worked out from its start. Assumes nothing.
use Rattle.std.specs.Prelude.{ℕ, ◌+◌, cond, List, [], ◌∷◌, length, Some, None, Option}
use Rattle.std.specs.Option.{option_or}
use Rattle.page_bytes.specs.Runs.{run_end}
use Rattle.marks.specs.Places.{text_at, class_at}
use Rattle.marks.specs.Shape.{text, one, upto, Shape}

abbrev pub spelt_end : Shape → List ℕ → ℕ → Option ℕ
spelt_end [] page p = Some p
spelt_end (text w ∷ s) page p = cond (text_at w page p) (spelt_end s page (p + length w)) None
spelt_end (one is ∷ s) page p = cond (class_at is page p) (spelt_end s page (p + 1)) None
spelt_end (upto is w ∷ s) page p =
    cond (text_at w page (run_end is page p)) (spelt_end s page (run_end is page p + length w)) None

-- by the first of the shapes that fits
abbrev pub first_end : List Shape → List ℕ → ℕ → Option ℕ
first_end [] page p = None
first_end (s ∷ ss) page p = option_or (spelt_end s page p) (first_end ss page p)
