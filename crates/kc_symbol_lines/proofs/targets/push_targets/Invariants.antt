use Rattle.kc_symbol_lines.proofs.Common.{◌≡◌, ◌++◌, drop, target_keys, target_places}
use Rattle.kc_symbol_lines.proofs.targets.push_targets.Given as goal

abbrev pub invariant-loop-line : goal.invariant-loop-line
invariant-loop-line l = record {
  keys : l.found.keys.items ++ target_keys l.tree l.which (drop l.line-index l.lines) ≡ l.fn.found.keys.items ++ target_keys l.tree l.which l.lines;
  items : l.found.items.items ++ target_places l.tree l.which l.file (drop l.line-index l.lines) ≡ l.fn.found.items.items ++ target_places l.tree l.which l.file l.lines;
}
