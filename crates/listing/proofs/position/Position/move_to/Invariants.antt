use Rattle.std.proofs.Common.{◌≡◌, ◌+◌}
use Rattle.listing.proofs.position.Position.move_to.Given as goal

abbrev pub invariant-loop-b : goal.invariant-loop-b
invariant-loop-b l = (l.self.page ≡ l.initial.self.page) × (l.self.place ≡ l.initial.self.place + l.b-index)
