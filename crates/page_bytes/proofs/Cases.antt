-- Cases on a test, with what it came to. Assumes nothing.
use Rattle.std.proofs.Common.{◌≡◌, ℕ, ◌<◌, ◌≤◌, Bool, true, false, refl, ⊎_elim}
use Rattle.std.proofs.lemmas.Bool.{cases_lt}

pub by : {A : Type 0} (v : Bool) → (v ≡ true → A) → (v ≡ false → A) → A
by true f g = f refl
by false f g = g refl

-- below a number, or not
pub below : {A : Type 0} (c n : ℕ) → (c < n → A) → (n ≤ c → A) → A
below c n f g = ⊎_elim f g (cases_lt c n)
