use Rattle.std.proofs.Common.{◌≡◌, ℕ, ◌<◌, vec_items, vec_len}
use Rattle.recorded.specs.Hex.{SpeltAt}
use Rattle.recorded.proofs.hex.decode_hex.Given as goal

-- the bytes so far are those of the pairs so far
abbrev pub invariant-loop-high : goal.invariant-loop-high
invariant-loop-high l = record {
  count : vec_len l.bytes ≡ l.high-index;
  spelt : (k : ℕ) → k < l.high-index → SpeltAt l.digits (vec_items l.bytes) k;
}
