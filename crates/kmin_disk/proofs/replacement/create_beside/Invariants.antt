use Rattle.std.proofs.Common.{◌≡◌, ◌<◌}
use Rattle.kmin_disk.specs.Replacements.{HasTakenName}
use Rattle.kmin_disk.proofs.replacement.create_beside.Given as goal

abbrev pub invariant-loop-attempt : goal.invariant-loop-attempt
invariant-loop-attempt g l = record {
  state : (g.D.ReadDisk.disk l.disk).state ≡ (g.D.ReadDisk.disk l.initial.disk).state;
  failures : (g.D.ReadDisk.disk l.disk).failures ≡ (g.D.ReadDisk.disk l.initial.disk).failures;
  taken : 0 < l.attempt → HasTakenName (g.D.ReadDisk.disk l.initial.disk).state l.path;
}
