use Rattle.std.proofs.Common.{◌≡◌, length}
use Rattle.kc_value.specs.NameHash as hashing
use Rattle.kc_value.proofs.seed.with_bytes.Given as goal

abbrev pub invariant-loop-rest : goal.invariant-loop-rest
invariant-loop-rest l = record {
  value : hashing.with_bytes l.key l.value l.rest ≡ hashing.with_bytes l.key l.fn.value l.bytes;
}

abbrev pub decreases-loop-rest : goal.decreases-loop-rest
decreases-loop-rest l = length l.rest
