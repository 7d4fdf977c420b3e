use Rattle.std.specs.Prelude.{◌≡◌, ◌<◌, ◌≤◌, ℕ, Some, length}
use Rattle.kc_tree.proofs.Common.{slice_get, slice_index, own_or_choice, SymbolRow}
use Rattle.kc_tree.proofs.unit_numbers.number_members.Given as goal

abbrev pub invariant-loop-s : goal.invariant-loop-s
invariant-loop-s l = record {
  len : length l.numbers.symbols.items ≡ length l.initial.numbers.symbols.items;
  choices : l.numbers.choices.items ≡ l.initial.numbers.choices.items;
  done : (s : ℕ) (r : SymbolRow) → s < l.s → slice_get l.symbols s ≡ Some r
      → slice_index l.numbers.symbols.items s ≡ own_or_choice (slice_index l.initial.numbers.symbols.items s) l.initial.numbers.choices.items r.choice;
  left : (s : ℕ) → l.s ≤ s → slice_index l.numbers.symbols.items s ≡ slice_index l.initial.numbers.symbols.items s;
}
