use Rattle.kc_checks.proofs.Common.{sym, ◌∙◌, arith, common_steps, paths_in}
use Rattle.kc_checks.proofs.MissingPathLists.{all_shown, none_left}
use Rattle.kc_checks.proofs.missing_files.absent_paths.Goals as goal

pub returns : goal.returns
returns c = λ read s.
    let all = all_shown c.args.texts.now c.args.root.now c.args.listing.now read s in
    sym (none_left c.args.texts.now c.args.listing.now.texts.items (paths_in c.loop-group.paths) c.args.listing.now.groups.items c.loop-group.group-index
    (rw (← c.deref-group-items.ensures.value) c.loop-group-test.false) (rw (← c.deref-group-items.ensures.value) c.loop-group.auto.group-index-end))
    ∙ (rw (c.deref-group-items.ensures.value) at c.loop-group.invariant) ∙ all

pub offset_bounds-group-items-group-index : goal.offset_bounds-group-items-group-index
offset_bounds-group-items-group-index c = grind (arith, common_steps)

pub loop-group-preserved : goal.loop-group-preserved
loop-group-preserved c = grind (arith, common_steps)
