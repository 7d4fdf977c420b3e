use Rattle.kc_symbol_lines.proofs.Common.{◌≡◌, ◌++◌, List, map, drop, flat_map, Exprs, is_linux_6_12, Group, HasLines, HasBlocks, prompts_at, dependency_at, defaults_at, ranges_at, each_items}
use Rattle.kc_symbol_lines.proofs.symbol.definition_lines.Given as goal

abbrev pub invariant-loop-number : goal.invariant-loop-number
invariant-loop-number l = record {
  prompts : (exprs : Exprs) (read : List Group) → HasLines exprs l.lines read → HasBlocks l.blocks read
      → each_items l.found.prompts.items ++ flat_map (prompts_at (is_linux_6_12 l.language) l.lines read) (drop l.number-index l.numbers)
      ≡ flat_map (prompts_at (is_linux_6_12 l.language) l.lines read) l.numbers;
  direct : (exprs : Exprs) (read : List Group) → HasLines exprs l.lines read → HasBlocks l.blocks read
      → each_items l.found.direct.items ++ map (dependency_at (is_linux_6_12 l.language) l.lines read) (drop l.number-index l.numbers)
      ≡ map (dependency_at (is_linux_6_12 l.language) l.lines read) l.numbers;
  defaults : (exprs : Exprs) (read : List Group) → HasLines exprs l.lines read → HasBlocks l.blocks read
      → l.found.defaults.items ++ flat_map (defaults_at l.lines) (drop l.number-index l.numbers) ≡ flat_map (defaults_at l.lines) l.numbers;
  ranges : (exprs : Exprs) (read : List Group) → HasLines exprs l.lines read → HasBlocks l.blocks read
      → l.found.ranges.items ++ flat_map (ranges_at l.lines) (drop l.number-index l.numbers) ≡ flat_map (ranges_at l.lines) l.numbers;
}
