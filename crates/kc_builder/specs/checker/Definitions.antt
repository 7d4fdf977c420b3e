-- The attributes that definitions give symbols, by the conditions of groups and of their attributes.
use Rattle.std.specs.Prelude.{◌≡◌, ℕ, ◌<◌, List, [], ◌∷◌, ◌++◌, length, map, All, Option, Some, option_to_list, slice_get}
use Rattle.kc_tokens.specs.declared.language.Language.{Language}
use Rattle.kc_expr.specs.between.Arena.{Exprs, node_expr}
use Rattle.kc_tree_model.specs.Conditions.{GroupInContext, context_of, dependency_of}
use Rattle.kc_tree_model.specs.Contents.{Contents, definitions_of, symbol_of}
use Rattle.kc_parser.specs.declared.listing.GroupHead.{GroupHead as CodeHead}
use Rattle.kc_parser.specs.declared.listing.GroupHead.TheVariants as codes
use Rattle.kc_parser.specs.declared.listing.Line.{Line as CodeLine}
use Rattle.kc_parser.specs.declared.listing.SymbolTable.{SymbolTable}
use Rattle.kc_tree.specs.between.Views.{default_view, range_view, reverse_dependency_view, DefaultFits, RangeFits, HasOperands, ReverseDependencyFits}
use Rattle.kc_tree.specs.between.GatheredAttributes.{HaveKeys}
use Rattle.kc_builder.specs.checker.GatheredItems.{gathered_prompt, gathered_default, gathered_range, own_key, target_key, gathered_reverse_dependency, HasAppended}
use Rattle.kc_tree.specs.between.GroupedItems.{items_of}
use Rattle.kc_tree_model.specs.declared.statement.ReverseKind.TheVariants.{Select, Imply}
use Rattle.kc_tree.specs.declared.items_with_keys.ItemsWithKeys.{ItemsWithKeys}
use Rattle.kc_tree.specs.declared.attributes.Attributes.{Attributes}

-- `new` is `old` with the key and the item that one attribute line gives appended, if it gives them
pub record HasItem {T : Type 0} (key : CodeLine → ℕ → Option ℕ) (item : CodeLine → ℕ → Option T) (old new : ItemsWithKeys T) (l : CodeLine) (c : ℕ) : Type 0 where
  pub keys : new.keys.items ≡ old.keys.items ++ option_to_list (key l c)
  pub items : new.items.items ≡ old.items.items ++ option_to_list (item l c)

-- `new` has the selectors, the impliers and the dependencies of `old`
pub record HasSame (old new : Attributes) : Type 0 where
  pub selectors : new.selectors ≡ old.selectors
  pub impliers : new.impliers ≡ old.impliers
  pub direct : new.direct ≡ old.direct

-- `new` is `old` with the prompt, the default or the range that one attribute line gives symbol `s` appended
pub record HasLine (s : ℕ) (old new : Attributes) (l : CodeLine) (c : ℕ) : Type 0 where
  pub prompts : HasItem (own_key s gathered_prompt) gathered_prompt old.prompts new.prompts l c
  pub defaults : HasItem (own_key s gathered_default) gathered_default old.defaults new.defaults l c
  pub ranges : HasItem (own_key s gathered_range) gathered_range old.ranges new.ranges l c
  pub others : HasSame old new

-- `new` is `old` with the prompts, defaults and ranges that the attribute lines of a definition give symbol `s` appended
pub record HasOwn (s : ℕ) (old new : Attributes) (lines : List CodeLine) (conditions : List ℕ) : Type 0 where
  pub prompts : HasAppended (own_key s gathered_prompt) gathered_prompt old.prompts new.prompts lines conditions
  pub defaults : HasAppended (own_key s gathered_default) gathered_default old.defaults new.defaults lines conditions
  pub ranges : HasAppended (own_key s gathered_range) gathered_range old.ranges new.ranges lines conditions
  pub others : HasSame old new

-- `new` is `old` with the attributes and the dependency that one definition of symbol `s` gives appended
pub record HasDefinition (names : SymbolTable) (s : ℕ) (old new : Attributes) (lines : List CodeLine) (conditions : List ℕ) (dependency : ℕ) : Type 0 where
  pub prompts : HasAppended (own_key s gathered_prompt) gathered_prompt old.prompts new.prompts lines conditions
  pub defaults : HasAppended (own_key s gathered_default) gathered_default old.defaults new.defaults lines conditions
  pub ranges : HasAppended (own_key s gathered_range) gathered_range old.ranges new.ranges lines conditions
  pub selectors : HasAppended (target_key names Select) (gathered_reverse_dependency names Select s) old.selectors new.selectors lines conditions
  pub impliers : HasAppended (target_key names Imply) (gathered_reverse_dependency names Imply s) old.impliers new.impliers lines conditions
  pub direct_keys : new.direct.keys.items ≡ old.direct.keys.items ++ s ∷ []
  pub direct_items : new.direct.items.items ≡ old.direct.items.items ++ dependency ∷ []

-- `new` is `old` with what a statement gives symbols appended: what a definition gives, and nothing for another statement
abbrev pub HasStatement : CodeHead → SymbolTable → (old new : Attributes) → List CodeLine → List ℕ → ℕ → Type 0
HasStatement (codes.Config s) names old new ls cs d = HasDefinition names s old new ls cs d
HasStatement w names old new ls cs d = new ≡ old

-- the collected attributes, each under a symbol's number, represent those of all symbols, and their numbers are in range
pub record AreAttributes (language : Language) (e : Exprs) (c : Contents) (a : Attributes) : Type 0 where
  pub keys : HaveKeys (length c.names) a
  pub prompts_are : (s : ℕ) (x : List ℕ) → slice_get c.names s ≡ Some x → map (node_expr e) (items_of s a.prompts.keys.items a.prompts.items.items) ≡ (symbol_of language c x).prompts
  pub defaults_are : (s : ℕ) (x : List ℕ) → slice_get c.names s ≡ Some x → map (default_view e) (items_of s a.defaults.keys.items a.defaults.items.items) ≡ (symbol_of language c x).defaults
  pub ranges_are : (s : ℕ) (x : List ℕ) → slice_get c.names s ≡ Some x → map (range_view e) (items_of s a.ranges.keys.items a.ranges.items.items) ≡ (symbol_of language c x).ranges
  pub selectors_are : (s : ℕ) (x : List ℕ) → slice_get c.names s ≡ Some x → map (reverse_dependency_view e) (items_of s a.selectors.keys.items a.selectors.items.items) ≡ (symbol_of language c x).selectors
  pub impliers_are : (s : ℕ) (x : List ℕ) → slice_get c.names s ≡ Some x → map (reverse_dependency_view e) (items_of s a.impliers.keys.items a.impliers.items.items) ≡ (symbol_of language c x).impliers
  pub direct_are : (s : ℕ) (x : List ℕ) → slice_get c.names s ≡ Some x → map (node_expr e) (items_of s a.direct.keys.items a.direct.items.items) ≡ map (λ (p : GroupInContext). dependency_of (context_of language p) p.group) (definitions_of c x)
  pub prompts_fit : All (λ i. i < length e.nodes) a.prompts.items.items
  pub defaults_fit : All (DefaultFits (length e.nodes)) a.defaults.items.items
  pub ranges_fit : All (RangeFits (length e.nodes)) a.ranges.items.items
  pub bounds_fit : All (HasOperands e) a.ranges.items.items
  pub selectors_fit : All (ReverseDependencyFits (length e.nodes) (length c.names)) a.selectors.items.items
  pub impliers_fit : All (ReverseDependencyFits (length e.nodes) (length c.names)) a.impliers.items.items
  pub direct_fit : All (λ i. i < length e.nodes) a.direct.items.items
