use Rattle.kc_tree_model.proofs.ReadingLaws.TreesOfRelation.{tree_related}
use Rattle.kc_builder.proofs.AssemblySteps.{consistent_of, whole_is}
use Rattle.kc_builder.proofs.tree_reader.read_tree.Goals as goal

pub into_tree-requires-clause-fits : goal.into_tree-requires-clause-fits
into_tree-requires-clause-fits c = c.in_ok-lists.ensures.ok.lists.fits

pub into_tree-requires-clause-consistent : goal.into_tree-requires-clause-consistent
into_tree-requires-clause-consistent c =
    let k = c.in_ok-lists.ensures.ok in
    consistent_of c.args.texts.now c.args.root.now c.in_ok-lists.lists k.untold k.lists

pub returns-in-Ok-clause-tree : goal.returns-in-Ok-clause-tree
returns-in-Ok-clause-tree c =
    let files = c.args.texts.now in
    let root = c.args.root.now in
    let k = c.in_ok-lists.ensures.ok in
    (tree_related files root c.in-Ok.tree.tree).0 (k.untold, whole_is files root c.in_ok-lists.lists c.in-Ok.tree k.lists c.in-Ok.ensures.ok)
