-- A spelling of which a piece has been passed. Assumes nothing.
use Rattle.std.proofs.Common.{◌≡◌, ℕ, Bool, true, false, cond, Some, None, Option, ap, ◌∙◌}
use Rattle.std.proofs.lemmas.Bool.{true≢false}
use Rattle.marks.specs.Trials.{tried}

-- it ends where what stands behind the piece ends
pub behind-passed : (b : Bool) (e p q : ℕ) (rest : ℕ → Option ℕ) (end : Option ℕ) → ◌≡◌ {A = Bool × ℕ} (true, q) (tried (cond b (Some e) None) p) → end ≡ rest q → end ≡ cond b (rest e) None
behind-passed true e p q rest end h is = is ∙ ap rest (ap (λ (a : Bool × ℕ). a.1) h)
behind-passed false e p q rest end h is = absurd (true≢false (ap (λ (a : Bool × ℕ). a.0) h))
