-- How a token is spelt: a shape is a list of pieces, and a stretch of the page fits it if it can be parted so.
-- Assumes nothing.
use Rattle.std.specs.Prelude.{◌≡◌, ℕ, ◌+◌, ◌<◌, ◌≤◌, Bool, true, ◌⊎◌, List, [], ◌∷◌, length}
use Rattle.marks.specs.Places.{text_at, class_at}

pub data Piece : Type 0 where
  -- this text
  text : List ℕ → Piece
  -- one byte of the class
  one : (ℕ → Bool) → Piece
  -- bytes of the class, some or none, and then this text
  upto : (ℕ → Bool) → List ℕ → Piece

abbrev pub Shape : Type 0
Shape = List Piece

-- each place from p up to q has a byte of the class
abbrev pub AllOf : (ℕ → Bool) → List ℕ → ℕ → ℕ → Type 0
AllOf is page p q = (k : ℕ) → p ≤ k → k < q → class_at is page k ≡ true

-- what stands from p up to e is spelt so
abbrev pub Spelt : Shape → List ℕ → ℕ → ℕ → Type 0
Spelt [] page p e = p ≡ e
Spelt (text w ∷ s) page p e = (text_at w page p ≡ true) × Spelt s page (p + length w) e
Spelt (one is ∷ s) page p e = (class_at is page p ≡ true) × Spelt s page (p + 1) e
Spelt (upto is w ∷ s) page p e = (q : ℕ) × ((p ≤ q) × AllOf is page p q × (text_at w page q ≡ true) × Spelt s page (q + length w) e)

-- one of the shapes is that of what stands from p up to e
abbrev pub SpeltBy : List Shape → List ℕ → ℕ → ℕ → Type 0
SpeltBy [] page p e = ⊥
SpeltBy (s ∷ ss) page p e = Spelt s page p e ⊎ SpeltBy ss page p e
