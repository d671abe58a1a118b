-- A directive, as `include::target[]`: the name of one and two colons, with more of it behind. Assumes nothing.
use Rattle.std.specs.Prelude.{◌≡◌, ℕ, ◌+◌, ◌≤◌, true, false, ◌⊎◌, List, length, codes, slice_index}
use Rattle.std.specs.Char.{is_ascii_whitespace}
use Rattle.marks.specs.Places.{text_at}
use Rattle.words.specs.Word.{among, directive_names}

-- three bytes at least follow the colons, or `endif::[]` ends the page
abbrev pub Enough : List ℕ → List ℕ → ℕ → Type 0
Enough page name e = (e + 3 ≤ length page) ⊎ ((name ≡ codes "endif") × (text_at (codes "[]") page e ≡ true) × (length page ≡ e + 2))

pub record DirectiveAt (page : List ℕ) (p e : ℕ) : Type 0 where
  pub name : List ℕ
  pub listed : among directive_names name ≡ true
  pub stands : text_at name page p ≡ true
  pub colons : text_at (codes "::") page (p + length name) ≡ true
  pub ends : e ≡ p + length name + 2
  pub enough : Enough page name e
  -- no space, tab, LF, FF or CR stands behind the colons
  pub tight : is_ascii_whitespace (slice_index page e) ≡ false
