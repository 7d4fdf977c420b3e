use Rattle.std.proofs.Common.{◌≡◌, ◌≤◌, ◌-◌, length, take}
use Rattle.std.specs.Io.KnownBytes.{Consumes}
use Rattle.kmin_disk.proofs.comparison.reads_as.Given as goal

abbrev pub invariant-loop-agreed : goal.invariant-loop-agreed
invariant-loop-agreed g l = record {
  reads : Consumes (g.S.Source.left l.initial.source) (g.S.Source.left l.source) (take l.agreed l.bytes);
  within : l.agreed ≤ length l.bytes;
  unfailed : g.S.Source.failures l.source ≡ g.S.Source.failures l.initial.source;
}

abbrev pub decreases-loop-agreed : goal.decreases-loop-agreed
decreases-loop-agreed g l = length l.bytes - l.agreed
