use Rattle.kc_explanation.proofs.Common.{◌++◌, ap, map, ◌∙◌, on_ok_weaker, exprs_of, needed_lines}
use Rattle.kc_explanation.proofs.ExplanationLemmas.{joined_three}
use Rattle.std.specs.Global.{Vec}
use Rattle.kc_located_reasons.specs.declared.located_parts.LocatedPart.{LocatedPart}
use Rattle.kc_explanation.specs.checker.PartLines.{part_text}
use Rattle.kc_explanation.proofs.located_explanation.push_details.Goals as goal

pub returns : goal.returns
returns c =
    on_ok_weaker c.push_part_lines.result
    (λ w. joined_three c.args.out.now.items _ _ _ _ _ _
    (c.in_ok-push_needs.ensures
    ∙ ap (λ b. c.args.out.now.items ++ needed_lines b (map (λ (v : Vec LocatedPart). map (part_text c.args.by.now) v.items) c.args.needs.now)) (c.is_without_prompt.ensures (exprs_of c.args.by.now)))
    c.in_ok-push_forces.ensures w)
    c.push_part_lines.ensures
