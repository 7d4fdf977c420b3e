use Rattle.kmin_faults.proofs.Common.{◌&&◌, ◌∙◌, ap, sym, nat_le, begins_before, defined_by}
use Rattle.kc_parser.specs.declared.listing.Group.{Group}
use Rattle.kmin_faults.proofs.NearestDefinitions.{after_all, nearer_next, further_next}
use Rattle.kmin_faults.proofs.first_places.definition_at.Goals as goal
use Rattle.kmin_faults.proofs.first_places.definition_at.Goals.{then-is_nearer, else-is_nearer}

pub loop-group-preserved : goal.loop-group-preserved
loop-group-preserved c =
    let g = c.group-item.result in
    let near = λ (g : Group). begins_before c.args.at g && nat_le c.loop-group.nearest g.line in
    elim c.if-is_nearer.branch [
      | then-is_nearer w ↦ nearer_next c.args.groups.now c.args.at c.loop-group.group-index g c.loop-group.found c.loop-group.nearest _ _ c.loop-group-test.true
          c.loop-group.invariant (ap near (sym c.group-item.is) ∙ sym c.is_nearer.ensures ∙ w.if-is_nearer.true)
          (w.found-is ∙ w.defined_by-found.ensures ∙ ap (λ (g : Group). defined_by g.head) c.group-item.is)
          (w.nearest-is ∙ ap (λ (g : Group). g.line) c.group-item.is)
      | else-is_nearer w ↦ further_next c.args.groups.now c.args.at c.loop-group.group-index g c.loop-group.found c.loop-group.nearest _ _ c.loop-group-test.true
          c.loop-group.invariant (ap near (sym c.group-item.is) ∙ sym c.is_nearer.ensures ∙ w.if-is_nearer.false) w.found-is w.nearest-is
    ]

pub returns : goal.returns
returns c = after_all c.args.groups.now c.args.at c.loop-group.group-index c.loop-group.found c.loop-group.nearest c.loop-group-test.false c.loop-group.invariant
