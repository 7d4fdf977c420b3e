use Rattle.kc_tree_model.proofs.ReadingLaws.TreesOfRelation.{tree_related}
use Rattle.kc_builder.proofs.Common.{ap, TreeModel, reading}
use Rattle.kc_builder.proofs.AssemblySteps.{consistent_of, whole_is}
use Rattle.kc_builder.proofs.TreeLineSteps.{of_arena, tree_with_lines}
use Rattle.kc_builder.proofs.tree_reader.read_tree_with_lines.Goals as goal

pub into_tree-requires-clause-fits : goal.into_tree-requires-clause-fits
into_tree-requires-clause-fits c = c.in_ok-lists.ensures.ok.lists.fits

pub into_tree-requires-clause-consistent : goal.into_tree-requires-clause-consistent
into_tree-requires-clause-consistent c =
    let k = c.in_ok-lists.ensures.ok in
    consistent_of c.args.texts.now c.args.root.now c.in_ok-lists.lists k.untold k.lists

pub returns-in-Ok-clause-lines : goal.returns-in-Ok-clause-lines
returns-in-Ok-clause-lines c =
    let files = c.args.texts.now in
    let root = c.args.root.now in
    let k = c.in_ok-lists.ensures.ok in
    let g = c.in_ok-lists.lists in
    let t = c.in-Ok.tree in
    let lines = c.in_ok-lists.lines in
    tree_with_lines files root t lines
    ((tree_related files root t.tree).0 (k.untold, whole_is files root g t k.lists c.in-Ok.ensures.ok))
    (of_arena g.arena t lines (reading files root).read (ap (λ (h : TreeModel). h.exprs) c.in-Ok.ensures.ok) k.lines_are)
