-- The fault reported when memory runs out.
use Rattle.std.specs.Prelude.{None}
use Rattle.kc_tree_model.specs.declared.fault.TreeFault.{TreeFault}
use Rattle.kc_tree_model.specs.declared.fault.TreeKind.TheVariants.{OutOfMemory}

-- the fault of running out of memory, which has no file and no line
abbrev pub no_memory : TreeFault
no_memory = record { file = None; line = 0; kind = OutOfMemory }
