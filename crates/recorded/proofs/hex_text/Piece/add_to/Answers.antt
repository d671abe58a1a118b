use Rattle.std.proofs.Common.{vec_items, arith}
use Rattle.std.proofs.Concat.{repeat-nil, repeat_push}
use Rattle.std.proofs.lemmas.Grind.{common_steps}
use Rattle.recorded.proofs.hex_text.Piece.add_to.Goals as goal

pub returns-then-len-eq0 : goal.returns-then-len-eq0
returns-then-len-eq0 c = grind (arith, common_steps, repeat-nil)

pub loop-preserved : goal.loop-preserved
loop-preserved c =
    grind (arith, common_steps, repeat_push c.loop.counter (vec_items c.args.self.now.bytes), c.in_ok-extend_from_slice.ensures.items)
