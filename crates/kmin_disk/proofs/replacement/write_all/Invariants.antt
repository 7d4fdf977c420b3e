use Rattle.std.proofs.Common.{◌≡◌, ◌≤◌, ◌-◌, length, take}
use Rattle.kmin_disk.specs.NewFiles.{Takes}
use Rattle.kmin_disk.proofs.replacement.write_all.Given as goal

abbrev pub invariant-loop-written : goal.invariant-loop-written
invariant-loop-written g l = record {
  within : l.written ≤ length l.bytes;
  takes : Takes (g.D.WriteDisk.draft l.initial.new) (g.D.WriteDisk.draft l.new) (take l.written l.bytes);
  state : (g.D.ReadDisk.disk l.disk).state ≡ (g.D.ReadDisk.disk l.initial.disk).state;
  failures : (g.D.ReadDisk.disk l.disk).failures ≡ (g.D.ReadDisk.disk l.initial.disk).failures;
}

abbrev pub decreases-loop-written : goal.decreases-loop-written
decreases-loop-written g l = length l.initial.bytes - l.written
