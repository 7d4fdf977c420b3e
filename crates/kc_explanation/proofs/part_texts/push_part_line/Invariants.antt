use Rattle.std.proofs.Common.{◌≡◌, ◌∷◌, ◌++◌, [], map, drop}
use Rattle.kc_explanation.specs.checker.PartLines.{part_text, joined_parts, part_line}
use Rattle.kc_explanation.proofs.part_texts.push_part_line.Given as goal

abbrev pub invariant-loop-part : goal.invariant-loop-part
invariant-loop-part l =
    l.out.items ++ (joined_parts l.lead (map (part_text l.by) (drop l.part-index l.parts)) ++ 10 ∷ [])
    ≡ l.fn.out.items ++ part_line l.fn.word (map (part_text l.by) l.parts)
