-- All that a run of the program works on but standard error, as contracts see it before and after.
use Rattle.std.specs.Prelude.{ℕ, List, Option}
use Rattle.kmin_disk.specs.Disks.{Disk}
use Rattle.kmin_inputs.specs.FileContents.{Surroundings}

-- standard input: the bytes that are left, as far as that is known, and the count of its failed reads
pub record Input : Type 0 where
  pub left : Option (List ℕ)
  pub failures : ℕ

-- all that a run changes: the disk, and standard output with the bytes that it took and the count of its failed writes
pub record Outputs : Type 0 where
  pub disk : Disk
  pub taken : Option (List ℕ)
  pub failures : ℕ

-- what is known of the files, how many calls on them failed, without those on the disk, standard input, and all that a run changes
pub record RunState : Type 0 where
  pub known : Surroundings
  pub counted : ℕ
  pub input : Input
  pub outputs : Outputs
