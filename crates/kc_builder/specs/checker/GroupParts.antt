-- What the groups of a listing give its tree, as it is gathered.
use Rattle.std.specs.Prelude.{◌≡◌, ℕ, List, [], ◌++◌, All, filter, length, map, option_to_list}
use Rattle.kc_tokens.specs.declared.language.Language.{Language}
use Rattle.kc_tree_model.specs.Blocks.{Group}
use Rattle.kc_tree_model.specs.Conditions.{groups_in_context}
use Rattle.kc_tree_model.specs.Contents.{contents_of, tree_of_groups}
use Rattle.kc_parser.specs.declared.listing.Group.{Group as CodeGroup}
use Rattle.kc_parser.specs.declared.listing.Line.{Line as CodeLine}
use Rattle.kc_parser.specs.declared.listing.Listing.{Listing}
use Rattle.kc_parser.specs.declared.listing.SymbolTable.{SymbolTable}
use Rattle.kc_checks.specs.between.Summaries.{group_at, own_lines}
use Rattle.kc_conditions.specs.between.GroupConditions.{conditions_at, own_conditions}
use Rattle.kc_conditions.specs.declared.group_walk.GroupConditions.{GroupConditions}
use Rattle.kc_conditions.specs.declared.listing_walk.WalkedListing.{WalkedListing}
use Rattle.kc_tree.specs.between.StoredView.{entry_from_row}
use Rattle.kc_tree.specs.between.StoredFits.{EntryRowFits}
use Rattle.kc_tree.specs.declared.symbol.MemberDefault.{MemberDefault}
use Rattle.kc_builder.specs.checker.ChoiceDefaults.{group_default_rows, AreDefaultsOf}
use Rattle.kc_builder.specs.checker.ChoiceRows.{group_rows, opens, AreChoiceRows}
use Rattle.kc_builder.specs.checker.Definitions.{AreAttributes, HasStatement}
use Rattle.kc_builder.specs.checker.Entries.{entry_row}
use Rattle.kc_builder.specs.declared.group_parts.GroupParts.{GroupParts}

-- nothing is gathered
pub record AreEmpty (p : GroupParts) : Type 0 where
  pub prompts : (p.attributes.prompts.keys.items ≡ []) × (p.attributes.prompts.items.items ≡ [])
  pub symbol_defaults : (p.attributes.defaults.keys.items ≡ []) × (p.attributes.defaults.items.items ≡ [])
  pub ranges : (p.attributes.ranges.keys.items ≡ []) × (p.attributes.ranges.items.items ≡ [])
  pub selectors : (p.attributes.selectors.keys.items ≡ []) × (p.attributes.selectors.items.items ≡ [])
  pub impliers : (p.attributes.impliers.keys.items ≡ []) × (p.attributes.impliers.items.items ≡ [])
  pub direct : (p.attributes.direct.keys.items ≡ []) × (p.attributes.direct.items.items ≡ [])
  pub rows : p.rows.items ≡ []
  pub default_keys : p.defaults.keys.items ≡ []
  pub defaults : p.defaults.items.items ≡ []
  pub entries : p.entries.items ≡ []

-- `new` is `old` with what a group gives, by its attribute lines with their conditions, and by its own conditions; the number counts
-- the choices before it
pub record HasGroup (names : SymbolTable) (g : CodeGroup) (ls : List CodeLine) (cs : List ℕ) (own : GroupConditions) (n : ℕ) (old new : GroupParts) : Type 0 where
  pub attributes : HasStatement g.head names old.attributes new.attributes ls cs own.dependency
  pub rows : new.rows.items ≡ old.rows.items ++ group_rows g ls cs
  pub default_keys : new.defaults.keys.items ≡ old.defaults.keys.items ++ map (λ (_ : MemberDefault). n) (group_default_rows g.head names ls cs)
  pub defaults : new.defaults.items.items ≡ old.defaults.items.items ++ group_default_rows g.head names ls cs
  pub entries : new.entries.items ≡ old.entries.items ++ option_to_list (entry_row g.head own n)

-- the same of the group of this number in a walked listing
abbrev pub HasNextGroup : WalkedListing → ℕ → ℕ → (old new : GroupParts) → Type 0
HasNextGroup w i n old new =
    HasGroup w.listing.names (group_at w.listing.groups.items i) (own_lines w.listing i) (own_conditions w.groups.items w.conditions.items i) (conditions_at w.groups.items i) n old new

-- what is gathered is what the statements read give their tree
pub record AreParts (language : Language) (l : Listing) (read : List Group) (p : GroupParts) : Type 0 where
  pub attributes : AreAttributes language l.names.arena (contents_of read) p.attributes
  pub rows : AreChoiceRows language l.names.arena (filter opens (groups_in_context read)) p.rows.items
  pub defaults : AreDefaultsOf language l (contents_of read) (groups_in_context read) (length (contents_of read).choices) p.defaults
  pub entries : map (entry_from_row l.names.arena l.texts.items) p.entries.items ≡ (tree_of_groups language read).entries
  pub entries_fit : All (EntryRowFits (length l.names.arena.nodes) (length l.names.symbols.items) (length (contents_of read).choices) (length l.texts.items)) p.entries.items
