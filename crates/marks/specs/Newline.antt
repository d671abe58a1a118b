-- A line end: LF, or CR and LF. Assumes nothing.
use Rattle.std.specs.Prelude.{ℕ, ◌+◌, cond, List, Some, None, Option}
use Rattle.marks.specs.Places.{is_at}

abbrev pub newline_end : List ℕ → ℕ → Option ℕ
newline_end page p =
    cond (is_at page p 10) (Some (p + 1)) (cond (is_at page p 13) (cond (is_at page (p + 1) 10) (Some (p + 1 + 1)) None) None)
