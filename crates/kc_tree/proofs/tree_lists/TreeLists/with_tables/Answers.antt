use Rattle.kc_tree.proofs.Common.{ap, Tree, TreeModel}
use Rattle.kc_tree.proofs.FinishedTables.{sound_tree, whole_same}
use Rattle.kc_tree.proofs.tree_lists.TreeLists.with_tables.Goals as goal

pub invariant_of-result : goal.invariant_of-result
invariant_of-result c =
    let a = c.args in
    let k = c.requires.tables in
    sound_tree a.self a.attributes a.members a.member_defaults a.unit_numbers a.symbol_of_name k.attributes k.members k.member_defaults
    c.requires.fits c.requires.consistent k.units k.distinct k.names

pub returns : goal.returns
returns c = record {
  value = let a = c.args in
      let k = c.requires.tables in
      let held : Tree → TreeModel = λ w. record { exprs = a.self.arena; tree = w } in
      ap held (whole_same a.self a.attributes a.members a.member_defaults a.unit_numbers a.symbol_of_name k.attributes k.members k.member_defaults);
}
