use Rattle.kc_symbol_lines.proofs.Common.{◌≡◌, ◌++◌, drop, places_in}
use Rattle.kc_symbol_lines.proofs.own_lines.push_places.Given as goal

abbrev pub invariant-loop-line : goal.invariant-loop-line
invariant-loop-line l = l.found.items ++ places_in l.given l.own.file (drop l.line-index l.own.lines.now) ≡ l.fn.found.items ++ places_in l.given l.own.file l.own.lines.now
