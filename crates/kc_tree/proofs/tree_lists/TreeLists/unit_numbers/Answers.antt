use Rattle.kc_tree.proofs.Common.{◌≡◌, arith, length, AreNumbered}
use Rattle.kc_tree.proofs.UnitLists.{symbols_there, choices_there, units_apart, members_there, units_had}
use Rattle.kc_tree.proofs.tree_lists.TreeLists.unit_numbers.Goals as goal

pub number_units-requires-clause-symbols : goal.number_units-requires-clause-symbols
number_units-requires-clause-symbols c =
    rw c.deref.ensures.value (λ u s e. omega (arith, symbols_there c.args.self.now c.requires.consistent u s e, c.len.ensures))

pub number_units-requires-clause-choices : goal.number_units-requires-clause-choices
number_units-requires-clause-choices c =
    rw c.deref.ensures.value (λ u k e. omega (arith, choices_there c.args.self.now c.requires.consistent u k e, c.len-2.ensures))

pub number_units-requires-clause-differ : goal.number_units-requires-clause-differ
number_units-requires-clause-differ c = rw c.deref.ensures.value (units_apart c.args.self.now c.requires.consistent)

pub number_members-requires-clause-there : goal.number_members-requires-clause-there
number_members-requires-clause-there c =
    let n = c.in_ok-numbers.ensures.ok.choices_len in
    rw c.deref-2.ensures.value (λ s k r e f. omega (arith, members_there c.args.self.now c.requires.consistent s k r e f, c.len-2.ensures, n))

pub returns : goal.returns
returns c = record {
  ok = let g = c.args.self.now in
      let s : c.len.result ≡ length g.symbols.items = omega (arith, c.len.ensures) in
      let k : c.len-2.result ≡ length g.choices.items = omega (arith, c.len-2.ensures) in
      let n : AreNumbered (length g.symbols.items) (length g.choices.items) g.units.items (length g.units.items) c.in_ok-numbers.numbers.symbols.items
      c.in_ok-numbers.numbers.choices.items = rw (s, k, c.deref.ensures.value) at c.in_ok-numbers.ensures.ok in
      rw c.number_members.ensures.choices (units_had g c.requires.consistent c.in_ok-numbers.numbers.symbols.items c.in_ok-numbers.numbers.choices.items
      c.number_members.new.numbers.symbols.items n c.number_members.ensures.len (rw c.deref-2.ensures.value at c.number_members.ensures.units));
}
