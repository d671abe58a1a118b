-- What a trial scan answers, as an end. Assumes nothing.
use Rattle.std.proofs.Common.{◌≡◌, ℕ, Bool, Some, None, Option, ap}
use Rattle.std.specs.Bool.{then_some}
use Rattle.marks.specs.Trials.{tried}

-- where the cursor stands after an accepted scan, and none after one that was given up
pub tried-end : (o : Option ℕ) (p q : ℕ) (r : Bool) → (r, q) ≡ tried o p → then_some r q ≡ o
tried-end None p q r h = ap (λ (t : Bool × ℕ). then_some t.0 t.1) h
tried-end (Some e) p q r h = ap (λ (t : Bool × ℕ). then_some t.0 t.1) h
