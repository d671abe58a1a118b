use Rattle.std.proofs.Common.{◌≡◌, ◌++◌, vec_items}
use Rattle.std.specs.List.{repeat}
use Rattle.recorded.proofs.hex_text.Piece.add_to.Given as goal

-- so many of the piece's repetitions stand behind the page
abbrev pub invariant-loop : goal.invariant-loop
invariant-loop l = vec_items l.page ≡ vec_items l.initial.page ++ repeat l.counter (vec_items l.self.bytes)
