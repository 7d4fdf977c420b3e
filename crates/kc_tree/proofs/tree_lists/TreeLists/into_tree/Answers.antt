use Rattle.kc_tree.proofs.Common.{◌≡◌, arith, length}
use Rattle.kc_tree.proofs.FinishedTables.{name_at, names_apart}
use Rattle.kc_tree.proofs.tree_lists.TreeLists.into_tree.Goals as goal

pub symbols_of_names-requires-clause-there : goal.symbols_of_names-requires-clause-there
symbols_of_names-requires-clause-there c =
    rw (c.deref.ensures.value, c.name_count.ensures.count) (name_at c.args.self c.requires.consistent c.name_count.ensures.distinct c.requires.fits)

pub symbols_of_names-requires-clause-differ : goal.symbols_of_names-requires-clause-differ
symbols_of_names-requires-clause-differ c =
    rw c.deref.ensures.value (names_apart c.args.self c.requires.consistent c.name_count.ensures.distinct c.requires.fits)

pub with_tables-requires-clause-tables : goal.with_tables-requires-clause-tables
with_tables-requires-clause-tables c =
    let g = c.args.self in
    let k : c.len.result ≡ length g.choices.items = omega (arith, c.len.ensures) in
    let n : c.len-2.result ≡ length g.choices.items = omega (arith, c.len-2.ensures) in
    let s : c.len-3.result ≡ length g.symbols.items = omega (arith, c.len-3.ensures) in
    record {
      attributes = rw s at c.in_ok-attributes.ensures.ok;
      members = rw k at c.in_ok-members.ensures.ok;
      member_defaults = rw n at c.in_ok-member_defaults.ensures.ok;
      units = c.in_ok-unit_numbers.ensures.ok;
      names = rw (c.name_count.ensures.count, c.deref.ensures.value) at c.in_ok-symbol_of_name.ensures.ok;
      distinct = c.name_count.ensures.distinct;
    }
