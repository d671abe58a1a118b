-- Lines and columns of a page. Assumes nothing.
use Rattle.std.specs.Prelude.{ℕ, ◌+◌, Bool, cond, not, List, take, count_by, ◌==◌, nat_lt}
use Rattle.std.specs.List.{suffix_len}

abbrev pub is_lf : ℕ → Bool
is_lf b = b == 10

-- the line behind some bytes: one more than the LFs among them
abbrev pub line_after : List ℕ → ℕ
line_after front = count_by is_lf front + 1

-- the column behind them: how many at their end are no LF
abbrev pub column_after : List ℕ → ℕ
column_after front = suffix_len (λ b. not (is_lf b)) front

-- the line and the column of a place are those behind the bytes before it
abbrev pub line_of : List ℕ → ℕ → ℕ
line_of page place = line_after (take place page)

abbrev pub column_of : List ℕ → ℕ → ℕ
column_of page place = column_after (take place page)

-- how many lines there are: one for each LF, and one more where bytes stand behind the last
abbrev pub line_count : List ℕ → ℕ
line_count page = count_by is_lf page + cond (nat_lt 0 (column_after page)) 1 0
