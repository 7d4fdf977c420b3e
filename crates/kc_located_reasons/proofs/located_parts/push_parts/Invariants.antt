use Rattle.kc_located_reasons.proofs.Common.{◌≡◌, ◌++◌, map, drop, part_at}
use Rattle.kc_located_reasons.proofs.located_parts.push_parts.Given as goal

abbrev pub invariant-loop-part : goal.invariant-loop-part
invariant-loop-part l = l.found.items ++ map (part_at l.at) (drop l.part-index l.parts) ≡ l.fn.found.items ++ map (part_at l.at) l.parts
