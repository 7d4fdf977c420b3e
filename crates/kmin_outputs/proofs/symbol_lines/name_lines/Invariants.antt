use Rattle.kmin_outputs.proofs.Common.{◌≡◌, take, flat_map}
use Rattle.kmin_outputs.specs.Outputs.{name_line}
use Rattle.kmin_outputs.proofs.symbol_lines.name_lines.Given as goal

-- `text` has the lines of the symbols before this one
abbrev pub invariant-loop-s : goal.invariant-loop-s
invariant-loop-s l = l.text.items ≡ flat_map (name_line l.front l.tree.tree) (take l.s-index l.symbols)
