-- The collected attributes of symbols, each under its symbol's number.
use Rattle.std.specs.Prelude.{ℕ, ◌<◌, List, length, slice_index}
use Rattle.kc_tree.specs.between.GroupedItems.{IsGrouped}
use Rattle.kc_tree.specs.declared.attributes.Attributes.{Attributes}
use Rattle.kc_tree.specs.declared.attributes.GroupedAttributes.{GroupedAttributes}

-- each key of a list is below a count
abbrev pub AreKeys : ℕ → List ℕ → Type 0
AreKeys count keys = (i : ℕ) → i < length keys → slice_index keys i < count

-- the keys of each list of collected attributes, which are symbols' numbers, are below `count`
pub record HaveKeys (count : ℕ) (a : Attributes) : Type 0 where
  pub prompts : AreKeys count a.prompts.keys.items
  pub defaults : AreKeys count a.defaults.keys.items
  pub ranges : AreKeys count a.ranges.keys.items
  pub selectors : AreKeys count a.selectors.keys.items
  pub impliers : AreKeys count a.impliers.keys.items
  pub direct : AreKeys count a.direct.keys.items

-- each list of collected attributes is grouped by its keys, which are below `count`
pub record AreGrouped (count : ℕ) (a : Attributes) (g : GroupedAttributes) : Type 0 where
  pub prompts : IsGrouped count a.prompts.keys.items a.prompts.items.items g.prompts.starts.items g.prompts.items.items
  pub defaults : IsGrouped count a.defaults.keys.items a.defaults.items.items g.defaults.starts.items g.defaults.items.items
  pub ranges : IsGrouped count a.ranges.keys.items a.ranges.items.items g.ranges.starts.items g.ranges.items.items
  pub selectors : IsGrouped count a.selectors.keys.items a.selectors.items.items g.selectors.starts.items g.selectors.items.items
  pub impliers : IsGrouped count a.impliers.keys.items a.impliers.items.items g.impliers.starts.items g.impliers.items.items
  pub direct : IsGrouped count a.direct.keys.items a.direct.items.items g.direct.starts.items g.direct.items.items
