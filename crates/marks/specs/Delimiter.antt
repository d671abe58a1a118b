-- A delimiter line: at a line start, some marks of one sort and nothing else on the line. Assumes nothing.
use Rattle.std.specs.Prelude.{◌≡◌, ℕ, ◌-◌, ◌<◌, Bool, true, cond, not, ◌&&◌, ◌||◌, List, length, Some, None, Option, ◌==◌, nat_eq, nat_le, slice_index}
use Rattle.marks.specs.Places.{is_at, line_start, mark_run}
use Rattle.marks.specs.Shape.{AllOf}

-- `*`, `_`, `-`, `+`, `.`, `/` or `=`
abbrev pub block_mark : ℕ → Bool
block_mark m = (m == 42 || (m == 95 || m == 45)) || ((m == 43 || m == 46) || (m == 47 || m == 61))

-- how many of a mark make a line: two of `-`, four of a block mark, and of `=` five or more too
abbrev pub fence : ℕ → ℕ → Bool
fence m n = (m == 45 && n == 2) || ((block_mark m && n == 4) || (m == 61 && nat_le 5 n))

-- three backticks, whatever follows on the line
abbrev pub code_fence : ℕ → ℕ → Bool
code_fence m n = m == 96 && n == 3

-- the line ends behind the marks: at CR, LF or the page's end
abbrev pub line_ends : List ℕ → ℕ → Bool
line_ends page p = nat_le (length page) p || (is_at page p 10 || is_at page p 13)

-- the marks end there: no more of them follows, and with a fence nothing else
abbrev pub closed : List ℕ → ℕ → ℕ → ℕ → Bool
closed page m n e = (fence m n && line_ends page e) || (code_fence m n && not (is_at page e m))

-- a delimiter line stands from p up to e: it begins a line, is made of one mark, and is closed
pub record DelimiterAt (page : List ℕ) (p e : ℕ) : Type 0 where
  pub starts : line_start page p ≡ true
  pub onward : p < e
  pub marks : AllOf (λ b. nat_eq b (slice_index page p)) page p e
  pub enough : closed page (slice_index page p) (e - p) e ≡ true

-- the same of a whole run of marks, behind which no more of the mark follows
abbrev pub delimits : List ℕ → ℕ → ℕ → ℕ → Bool
delimits page m n e = (fence m n && line_ends page e) || code_fence m n

-- where the one that begins at p ends
abbrev pub delimiter_end : List ℕ → ℕ → Option ℕ
delimiter_end page p =
    cond (line_start page p && delimits page (slice_index page p) (mark_run page p - p) (mark_run page p)) (Some (mark_run page p)) None

-- its length and its mark
abbrev pub length_and_mark : List ℕ → ℕ → Option ℕ → Option (ℕ × ℕ)
length_and_mark page p None = None
length_and_mark page p (Some e) = Some (e - p, slice_index page p)
