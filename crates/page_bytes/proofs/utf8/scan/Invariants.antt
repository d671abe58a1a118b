use Rattle.std.proofs.Common.{length}
use Rattle.page_bytes.proofs.Faults.{Reads}
use Rattle.page_bytes.proofs.utf8.scan.Given as goal

abbrev pub invariant-loop-byte : goal.invariant-loop-byte
invariant-loop-byte l = Reads l.bytes l.rest l.state

abbrev pub decreases-loop-byte : goal.decreases-loop-byte
decreases-loop-byte l = length l.rest
