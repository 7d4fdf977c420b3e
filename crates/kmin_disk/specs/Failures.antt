-- How calls change a disk's count of failures.
use Rattle.std.specs.Prelude.{ℕ, zero, suc, ◌+◌, ◌-◌, ◌^◌, min, Option, Some, None, Result, Ok, Err}
use Rattle.kc_value.specs.Streams.{one_failure_more}
use Rattle.kmin_disk.specs.declared.fault.CreateFault.{CreateFault}
use Rattle.kmin_disk.specs.declared.fault.CreateFault.TheVariants.{Taken, Failed}
use Rattle.kmin_disk.specs.declared.fault.ReplaceFault.{ReplaceFault}
use Rattle.kmin_disk.specs.declared.fault.ReplaceFault.TheVariants.{NotRegular, Unchanged, NamesTaken, Left, FolderNotSynced, OutOfMemory}
use Rattle.kmin_disk.specs.declared.fault.UpdateFault.{UpdateFault}
use Rattle.kmin_disk.specs.declared.fault.UpdateFault.TheVariants.{Unread, Replace}

-- a disk's count of failed calls after opening a file, by the count before and the result: one more if the file couldn't be opened
abbrev pub failures_after_open : {T : Type 0} → ℕ → Option T → ℕ
failures_after_open n None = one_failure_more n
failures_after_open n (Some file) = n

-- a disk's count of failed calls after closing a file, by the count before and how many reads of the file failed, up to 2^64 - 1
abbrev pub failures_after_close : (n failed_reads : ℕ) → ℕ
failures_after_close n zero = n
failures_after_close n (suc more) = min (n + suc more) (2 ^ 64 - 1)

-- a disk's count of failed calls after creating a new file, by the count before and the result: a name in use is no failure
abbrev pub failures_after_create : {T : Type 0} → ℕ → Result T CreateFault → ℕ
failures_after_create n (Ok new) = n
failures_after_create n (Err Taken) = n
failures_after_create n (Err Failed) = one_failure_more n

-- a disk's count of failed calls after a fault of replacing a file: one more if a call failed, two more if the new file couldn't
-- be removed either
abbrev pub failures_of_fault : ℕ → ReplaceFault → ℕ
failures_of_fault n NotRegular = n
failures_of_fault n Unchanged = one_failure_more n
failures_of_fault n NamesTaken = n
failures_of_fault n (Left new_path) = one_failure_more (one_failure_more n)
failures_of_fault n FolderNotSynced = one_failure_more n
failures_of_fault n OutOfMemory = n

-- a disk's count of failed calls after replacing a file, by the count before and the result: the same if the file is replaced
abbrev pub failures_after_replace : {T : Type 0} → ℕ → Result T ReplaceFault → ℕ
failures_after_replace n (Ok done) = n
failures_after_replace n (Err fault) = failures_of_fault n fault

-- a disk's count of failed calls after a fault of updating a file: one more after a failed read, and else as after the fault of
-- replacing it
abbrev pub failures_of_update : ℕ → UpdateFault → ℕ
failures_of_update n Unread = one_failure_more n
failures_of_update n (Replace fault) = failures_of_fault n fault

-- a disk's count of failed calls after updating a file, by the count before and the result: the same if the file has its bytes
abbrev pub failures_after_update : {T : Type 0} → ℕ → Result T UpdateFault → ℕ
failures_after_update n (Ok done) = n
failures_after_update n (Err fault) = failures_of_update n fault
