-- Faults with their files and lines.
use Rattle.std.specs.Prelude.{◌≡◌, ℕ, Some}
use Rattle.kc_tree_model.specs.declared.fault.TreeFault.{TreeFault}
use Rattle.kc_tree_model.specs.declared.fault.TreeKind.{TreeKind}
use Rattle.kc_parser.specs.between.MemoryFaults.{no_memory}

-- a fault is that of running out of memory, which has no file and no line
abbrev pub IsMemory : TreeFault → Type 0
IsMemory f = f ≡ no_memory

-- the fault of this kind at a line of a file, from the number of the file and of the line
abbrev pub fault_in : ℕ → ℕ → TreeKind → TreeFault
fault_in file line kind = record { file = Some file; line = line; kind = kind }
