use Rattle.std.proofs.Common.{◌≡◌, ◌≤◌, take, count_by}
use Rattle.page_bytes.proofs.run.count_members.Given as goal

-- the members among the bytes so far
abbrev pub invariant-loop-b : goal.invariant-loop-b
invariant-loop-b g l = (l.count ≤ l.b-index) × (l.count ≡ count_by (g.C.ByteClass.holds l.class) (take l.b-index l.page))
