-- The places of selects and implies by their targets, and the definitions of each symbol.
use Rattle.std.specs.Prelude.{◌≡◌, ℕ, ◌<◌, List, [], ◌∷◌, ◌++◌, All, length, map, flat_map, Option, Some, None, option_map, option_and_then, option_to_list, slice_get}
use Rattle.kc_tree.specs.TreeModel.{TreeModel}
use Rattle.kc_tree.specs.between.Views.{symbol_of_name_id}
use Rattle.kc_tree.specs.between.GroupedItems.{items_of}
use Rattle.kc_tree_model.specs.Statements.{select_of, imply_of}
use Rattle.kc_tree_model.specs.Blocks.{Group}
use Rattle.kc_tree_model.specs.Conditions.{GroupInContext}
use Rattle.kc_tree_model.specs.Contents.{contents_of, definitions_of}
use Rattle.kc_tree_model.specs.Limits.{names_defined}
use Rattle.kc_reasons_model.specs.SymbolLines.{target_positions}
use Rattle.kc_statements.specs.between.StatementViews.{ReadAttribute}
use Rattle.kc_parser.specs.declared.listing.Line.{Line}
use Rattle.kc_tree_model.specs.declared.statement.ReverseKind.{ReverseKind}
use Rattle.kc_tree_model.specs.declared.statement.ReverseKind.TheVariants.{Select, Imply}
use Rattle.kc_symbol_lines.specs.declared.located.Position.{Position}
use Rattle.kc_symbol_lines.specs.declared.targets.GatheredLines.{GatheredLines}
use Rattle.kc_symbol_lines.specs.between.LinesView.{position_view}
use Rattle.kc_tree_model.specs.between.Attributes.{target_given}
use Rattle.kc_symbol_lines.specs.checker.OwnLines.{position_at}

-- the number of the symbol that an attribute selects, or implies, if an entry defines it
abbrev pub target_symbol : TreeModel → ReverseKind → ReadAttribute → Option ℕ
target_symbol t which a = option_and_then (symbol_of_name_id t.tree t.exprs.names) (target_given which a)

abbrev pub target_keys : TreeModel → ReverseKind → List Line → List ℕ
target_keys t which [] = []
target_keys t which (l ∷ ls) = option_to_list (target_symbol t which l.attribute) ++ target_keys t which ls

abbrev pub target_places : TreeModel → ReverseKind → ℕ → List Line → List Position
target_places t which file [] = []
target_places t which file (l ∷ ls) = option_to_list (option_map (λ _. position_at file l.number) (target_symbol t which l.attribute)) ++ target_places t which file ls

-- `new` is `old` with a definition by the group with number `number` of a file, with these lines
pub record HasDefinition (t : TreeModel) (symbol number file : ℕ) (ls : List Line) (old new : GatheredLines) : Type 0 where
  pub symbols : new.definitions.keys.items ≡ old.definitions.keys.items ++ symbol ∷ []
  pub numbers : new.definitions.items.items ≡ old.definitions.items.items ++ number ∷ []
  pub selected : new.selectors.keys.items ≡ old.selectors.keys.items ++ target_keys t Select ls
  pub selectors : new.selectors.items.items ≡ old.selectors.items.items ++ target_places t Select file ls
  pub implied : new.impliers.keys.items ≡ old.impliers.keys.items ++ target_keys t Imply ls
  pub impliers : new.impliers.items.items ≡ old.impliers.items.items ++ target_places t Imply file ls

-- the numbers of the groups that define a symbol, and the places of the selects and implies that target it
pub record AreGathered (read : List Group) (found : GatheredLines) : Type 0 where
  pub symbols : All (λ s. s < length (names_defined read)) found.definitions.keys.items
  pub selected : All (λ s. s < length (names_defined read)) found.selectors.keys.items
  pub implied : All (λ s. s < length (names_defined read)) found.impliers.keys.items
  pub definitions : (s : ℕ) (name : List ℕ) → slice_get (names_defined read) s ≡ Some name
      → items_of s found.definitions.keys.items found.definitions.items.items ≡ map (λ (p : GroupInContext). p.group.number) (definitions_of (contents_of read) name)
  pub selectors : (s : ℕ) (name : List ℕ) → slice_get (names_defined read) s ≡ Some name
      → map position_view (items_of s found.selectors.keys.items found.selectors.items.items) ≡ flat_map (target_positions select_of (contents_of read) name) (contents_of read).places
  pub impliers : (s : ℕ) (name : List ℕ) → slice_get (names_defined read) s ≡ Some name
      → map position_view (items_of s found.impliers.keys.items found.impliers.items.items) ≡ flat_map (target_positions imply_of (contents_of read) name) (contents_of read).places
