use Rattle.kc_symbol_lines.proofs.Common.{◌≡◌, ◌++◌, drop, parts_in}
use Rattle.kc_symbol_lines.proofs.own_lines.push_parts.Given as goal

abbrev pub invariant-loop-line : goal.invariant-loop-line
invariant-loop-line l = l.found.items ++ parts_in l.which l.own.file (drop l.line-index l.own.lines.now) ≡ l.fn.found.items ++ parts_in l.which l.own.file l.own.lines.now
