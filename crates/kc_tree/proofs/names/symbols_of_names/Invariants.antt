use Rattle.kc_tree.specs.checker.NameTable.{IsTable}
use Rattle.kc_tree.proofs.names.symbols_of_names.Given as goal

abbrev pub invariant-loop-s : goal.invariant-loop-s
invariant-loop-s l = IsTable l.names l.symbols l.s l.table.items
