-- What stands at a place, by the byte that is read there. Assumes nothing.
use Rattle.std.proofs.Common.{◌≡◌, ℕ, Bool, eqb, List, Some, arith}
use Rattle.std.specs.List.{slice_get}
use Rattle.std.proofs.lemmas.Bool.Decides.{nat_tests}
use Rattle.std.proofs.lemmas.Option.{gets}
use Rattle.marks.specs.Places.{is_at, class_at}

module _ (page : List ℕ) (p b : ℕ) (read : slice_get page p ≡ Some b) where
  pub is_at-read : (n : ℕ) → is_at page p n ≡ eqb b n
  is_at-read n = grind (arith, nat_tests, gets)

  pub class_at-read : (is : ℕ → Bool) → class_at is page p ≡ is b
  class_at-read is = grind (arith, nat_tests, gets)
