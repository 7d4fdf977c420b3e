use Rattle.kc_tree.specs.checker.UnitNumbers.{AreNumbered}
use Rattle.kc_tree.proofs.unit_numbers.number_units.Given as goal

abbrev pub invariant-loop-u : goal.invariant-loop-u
invariant-loop-u l = AreNumbered l.symbols l.choices l.units l.u l.of_symbol.items l.of_choice.items
