-- The bounds of the numbers in the collected lists.
use Rattle.std.specs.Prelude.{◌≡◌, ℕ, ◌<◌, ◌^◌, length, All, Some, slice_get}
use Rattle.kc_tree.specs.between.Views.{DefaultFits, RangeFits, HasOperands, ReverseDependencyFits, MemberDefaultFits}
use Rattle.kc_tree.specs.between.GatheredAttributes.{AreKeys, HaveKeys}
use Rattle.kc_tree.specs.between.StoredFits.{EntryRowFits}
use Rattle.kc_tree.specs.declared.rows.SymbolRow.{SymbolRow}
use Rattle.kc_tree.specs.declared.rows.ChoiceRow.{ChoiceRow}
use Rattle.kc_tree.specs.declared.tree_lists.TreeLists.{TreeLists}

-- the symbol, choice, name, expression and title numbers in the collected lists are in range, and bounds of ranges are operands
pub record GatheredFit (g : TreeLists) : Type 0 where
  pub few_symbols : length g.symbols.items < 2 ^ 32
  pub few_choices : length g.choices.items < 2 ^ 32
  pub few_units : length g.units.items < 2 ^ 32
  pub names : All (λ (r : SymbolRow). r.name < length g.arena.names) g.symbols.items
  pub keys : HaveKeys (length g.symbols.items) g.attributes
  pub member_keys : AreKeys (length g.choices.items) g.members.keys.items
  pub member_default_keys : AreKeys (length g.choices.items) g.member_defaults.keys.items
  pub prompts : All (λ i. i < length g.arena.nodes) g.attributes.prompts.items.items
  pub defaults : All (DefaultFits (length g.arena.nodes)) g.attributes.defaults.items.items
  pub ranges : All (RangeFits (length g.arena.nodes)) g.attributes.ranges.items.items
  pub bounds : All (HasOperands g.arena) g.attributes.ranges.items.items
  pub selectors : All (ReverseDependencyFits (length g.arena.nodes) (length g.symbols.items)) g.attributes.selectors.items.items
  pub impliers : All (ReverseDependencyFits (length g.arena.nodes) (length g.symbols.items)) g.attributes.impliers.items.items
  pub direct : All (λ i. i < length g.arena.nodes) g.attributes.direct.items.items
  pub choice_prompts : (c i : ℕ) (r : ChoiceRow) → slice_get g.choices.items c ≡ Some r → r.prompt ≡ Some i → i < length g.arena.nodes
  pub members : All (λ s. s < length g.symbols.items) g.members.items.items
  pub member_defaults : All (MemberDefaultFits (length g.arena.nodes) (length g.symbols.items)) g.member_defaults.items.items
  pub entries : All (EntryRowFits (length g.arena.nodes) (length g.symbols.items) (length g.choices.items) (length g.titles.items)) g.entries.items
