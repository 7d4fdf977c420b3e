use Rattle.kc_explanation.proofs.Common.{◌≡◌, ◌++◌, map, drop, part_lines}
use Rattle.std.specs.Global.{Vec}
use Rattle.kc_located_reasons.specs.declared.located_parts.LocatedPart.{LocatedPart}
use Rattle.kc_explanation.specs.checker.PartLines.{part_text}
use Rattle.kc_explanation.proofs.part_texts.push_part_lines.Given as goal

abbrev pub invariant-loop-list : goal.invariant-loop-list
invariant-loop-list l =
    l.out.items ++ part_lines l.lead (map (λ (v : Vec LocatedPart). map (part_text l.by) v.items) (drop l.list-index l.lists))
    ≡ l.fn.out.items ++ part_lines l.fn.word (map (λ (v : Vec LocatedPart). map (part_text l.by) v.items) l.lists)
