-- The bounds of the numbers in a tree's lists.
use Rattle.std.specs.Prelude.{◌≡◌, ℕ, ◌+◌, ◌<◌, ◌^◌, List, length, map, All, Some, None, slice_get, slice_index}
use Rattle.kc_expr.specs.Lookup.{index_of_name}
use Rattle.kc_tree_model.specs.declared.ids.Unit.TheVariants.{Symbol as of_symbol, Choice as of_choice}
use Rattle.kc_tree_model.specs.TreeLookup.{IsConsistent, unit_of, index_of_unit, symbol_named}
use Rattle.kc_tree.specs.between.Views.{DefaultFits, RangeFits, HasOperands, ReverseDependencyFits, MemberDefaultFits}
use Rattle.kc_tree.specs.between.StoredView.{tree_from_rows}
use Rattle.kc_tree.specs.declared.rows.SymbolRow.{SymbolRow}
use Rattle.kc_tree.specs.declared.rows.ChoiceRow.{ChoiceRow}
use Rattle.kc_tree.specs.declared.rows.EntryRow.{EntryRow}
use Rattle.kc_tree.specs.declared.rows.EntryRow.TheVariants.{Definition, ChoiceBegins, MenuBegins, MenuEnds, Comment}
use Rattle.kc_tree.specs.declared.tree.Tree.TheInside.{Inside}

-- the expression, symbol, choice and title numbers in an entry's row are below the four counts, in this order
abbrev pub EntryRowFits : ℕ → ℕ → ℕ → ℕ → EntryRow → Type 0
EntryRowFits nodes symbols choices titles (Definition s) = s < symbols
EntryRowFits nodes symbols choices titles (ChoiceBegins c) = c < choices
EntryRowFits nodes symbols choices titles (MenuBegins title dependency visible) = (title < titles) × (dependency < nodes) × (visible < nodes)
EntryRowFits nodes symbols choices titles (MenuEnds title dependency visible) = (title < titles) × (dependency < nodes) × (visible < nodes)
EntryRowFits nodes symbols choices titles (Comment title dependency) = (title < titles) × (dependency < nodes)

-- the numbers in the lists that store a tree are in range, and the bounds of ranges are operands
pub record StoredFit (t : Inside) : Type 0 where
  pub few_symbols : length t.symbols.items < 2 ^ 32
  pub few_choices : length t.choices.items < 2 ^ 32
  pub few_units : length t.units.items < 2 ^ 32
  pub names : All (λ (r : SymbolRow). r.name < length t.arena.names) t.symbols.items
  pub prompts : All (λ i. i < length t.arena.nodes) t.attributes.prompts.items.items
  pub defaults : All (DefaultFits (length t.arena.nodes)) t.attributes.defaults.items.items
  pub ranges : All (RangeFits (length t.arena.nodes)) t.attributes.ranges.items.items
  pub bounds : All (HasOperands t.arena) t.attributes.ranges.items.items
  pub selectors : All (ReverseDependencyFits (length t.arena.nodes) (length t.symbols.items)) t.attributes.selectors.items.items
  pub impliers : All (ReverseDependencyFits (length t.arena.nodes) (length t.symbols.items)) t.attributes.impliers.items.items
  pub direct : All (λ i. i < length t.arena.nodes) t.attributes.direct.items.items
  pub choice_prompts : (c i : ℕ) (r : ChoiceRow) → slice_get t.choices.items c ≡ Some r → r.prompt ≡ Some i → i < length t.arena.nodes
  pub members : All (λ s. s < length t.symbols.items) t.members.items.items
  pub member_defaults : All (MemberDefaultFits (length t.arena.nodes) (length t.symbols.items)) t.member_defaults.items.items
  pub entries : All (EntryRowFits (length t.arena.nodes) (length t.symbols.items) (length t.choices.items) (length t.titles.items)) t.entries.items
  pub symbol_units : (u s : ℕ) → slice_get t.units.items u ≡ Some (of_symbol s) → s < length t.symbols.items
  pub choice_units : (u c : ℕ) → slice_get t.units.items u ≡ Some (of_choice c) → c < length t.choices.items

-- each list of a tree with an element per symbol or per choice has one for every symbol or choice; lists of starts have one more
pub record HasPlaces (t : Inside) : Type 0 where
  pub prompts : length t.attributes.prompts.starts.items ≡ length t.symbols.items + 1
  pub defaults : length t.attributes.defaults.starts.items ≡ length t.symbols.items + 1
  pub ranges : length t.attributes.ranges.starts.items ≡ length t.symbols.items + 1
  pub selectors : length t.attributes.selectors.starts.items ≡ length t.symbols.items + 1
  pub impliers : length t.attributes.impliers.starts.items ≡ length t.symbols.items + 1
  pub direct : length t.attributes.direct.starts.items ≡ length t.symbols.items + 1
  pub members : length t.members.starts.items ≡ length t.choices.items + 1
  pub member_defaults : length t.member_defaults.starts.items ≡ length t.choices.items + 1
  pub unit_of_symbol : length t.unit_numbers.symbols.items ≡ length t.symbols.items
  pub unit_of_choice : length t.unit_numbers.choices.items ≡ length t.choices.items

-- the lists that store a tree are sound: numbers are in range, each symbol and choice has its unit, the table has the symbol of
-- each name, no symbol has a name outside the arena, and the tree is consistent
pub record IsSoundTree (t : Inside) : Type 0 where
  pub fits : StoredFit t
  pub places : HasPlaces t
  pub units : (s : ℕ) → s < length t.symbols.items → (slice_index t.unit_numbers.symbols.items s ≡ unit_of (tree_from_rows t) s) × (slice_index t.unit_numbers.symbols.items s < length t.units.items)
  pub choice_units : (c : ℕ) → c < length t.choices.items → (slice_index t.unit_numbers.choices.items c ≡ index_of_unit (tree_from_rows t) (of_choice c)) × (slice_index t.unit_numbers.choices.items c < length t.units.items)
  pub table : t.symbol_of_name.items ≡ map (symbol_named (tree_from_rows t)) t.arena.names
  pub absent : (x : List ℕ) → index_of_name x t.arena.names ≡ None → symbol_named (tree_from_rows t) x ≡ None
  pub consistent : IsConsistent (tree_from_rows t)
