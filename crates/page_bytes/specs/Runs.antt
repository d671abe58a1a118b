-- The longest run of a set of bytes from a place on. Assumes nothing.
use Rattle.std.specs.Prelude.{◌≡◌, ℕ, ◌+◌, ◌<◌, ◌≤◌, Bool, true, false, List, length, drop, slice_index}
use Rattle.std.specs.List.{prefix_len}

-- where the longest run from a place ends: `prefix_len` is how many bytes at the front are members
unfoldable pub run_end : (ℕ → Bool) → List ℕ → ℕ → ℕ
run_end is page from = from + prefix_len is (drop from page)

-- the longest run of members from a place goes up to `end`
pub record LongestRun (is : ℕ → Bool) (page : List ℕ) (from end : ℕ) : Type 0 where
  -- it does not end before the place
  pub onward : from ≤ end
  -- each of its bytes is a member
  pub members : (k : ℕ) → from ≤ k → k < end → is (slice_index page k) ≡ true
  -- it ends within the text, if it begins there
  pub within : from ≤ length page → end ≤ length page
  -- where it ends before the text does, no member stands
  pub stops : end < length page → is (slice_index page end) ≡ false
  -- from a place at the end or past it, it ends at that place
  pub past : length page ≤ from → end ≡ from
