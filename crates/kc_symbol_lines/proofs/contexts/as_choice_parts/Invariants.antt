use Rattle.kc_symbol_lines.proofs.Common.{◌≡◌, ◌++◌, map, drop, as_choice_part}
use Rattle.kc_symbol_lines.proofs.contexts.as_choice_parts.Given as goal

abbrev pub invariant-loop-part : goal.invariant-loop-part
invariant-loop-part l = l.marked.items ++ map as_choice_part (drop l.part-index l.parts) ≡ map as_choice_part l.parts
