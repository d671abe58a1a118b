use Rattle.std.proofs.Common.{not, take, arith}
use Rattle.std.proofs.lemmas.List.Sums.{suffix_len-le-length}
use Rattle.std.proofs.lemmas.Grind.{common_steps}
use Rattle.lines.specs.Lines.{is_lf}
use Rattle.listing.proofs.position.Position.move_to.Goals as goal

-- a column counts bytes before the place
pub overflow_add-self-else-b-eq10 : goal.overflow_add-self-else-b-eq10
overflow_add-self-else-b-eq10 c =
    let self = c.loop-b.self in
    grind (arith, common_steps, suffix_len-le-length (λ b. not (is_lf b)) (take self.place self.page.now))
