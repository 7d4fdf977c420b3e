-- The index by which the lines of symbols are found.
use Rattle.std.specs.Prelude.{◌≡◌, ℕ, ◌+◌, List, length, map, flat_map, slice_get, Some}
use Rattle.kc_tree_model.specs.Statements.{select_of, imply_of}
use Rattle.kc_tree_model.specs.Blocks.{Group}
use Rattle.kc_tree_model.specs.Conditions.{GroupInContext}
use Rattle.kc_tree_model.specs.Contents.{contents_of, definitions_of, tree_of_groups}
use Rattle.kc_tree_model.specs.Limits.{names_defined}
use Rattle.kc_reasons_model.specs.SymbolLines.{target_positions}
use Rattle.kc_tree.specs.TreeModel.{TreeModel}
use Rattle.kc_tree.specs.between.GroupedItems.{items_at}
use Rattle.kc_builder.specs.between.TreeLines.{HasLines}
use Rattle.kc_builder.specs.declared.tree_lines.TreeLines.{TreeLines}
use Rattle.kc_symbol_lines.specs.declared.index.LineIndex.{LineIndex}
use Rattle.kc_symbol_lines.specs.between.LinesView.{position_view}
use Rattle.kc_symbol_lines.specs.checker.Blocks.{HasBlocks}

-- a tree and lines are of groups that were read
pub record IsReadTree (t : TreeModel) (lines : TreeLines) : Type 0 where
  pub read : List Group
  pub tree_is : t.tree ≡ tree_of_groups t.tree.language read
  pub has : HasLines t.exprs lines read

-- the index has the blocks around each group that was read, the definitions of each symbol, and the selects and implies that target it
pub record IsIndexOf (read : List Group) (index : LineIndex) : Type 0 where
  pub blocks : HasBlocks index.blocks.items read
  pub symbols : length index.definitions.starts.items ≡ length (names_defined read) + 1
  pub selected : length index.selectors.starts.items ≡ length (names_defined read) + 1
  pub implied : length index.impliers.starts.items ≡ length (names_defined read) + 1
  pub definitions : (s : ℕ) (name : List ℕ) → slice_get (names_defined read) s ≡ Some name
      → items_at index.definitions.starts.items index.definitions.items.items s ≡ map (λ (p : GroupInContext). p.group.number) (definitions_of (contents_of read) name)
  pub selectors : (s : ℕ) (name : List ℕ) → slice_get (names_defined read) s ≡ Some name
      → map position_view (items_at index.selectors.starts.items index.selectors.items.items s) ≡ flat_map (target_positions select_of (contents_of read) name) (contents_of read).places
  pub impliers : (s : ℕ) (name : List ℕ) → slice_get (names_defined read) s ≡ Some name
      → map position_view (items_at index.impliers.starts.items index.impliers.items.items s) ≡ flat_map (target_positions imply_of (contents_of read) name) (contents_of read).places

-- it is the index of all groups of which the tree and the lines are
abbrev pub IsIndex : TreeModel → TreeLines → LineIndex → Type 0
IsIndex t lines index = (read : List Group) → t.tree ≡ tree_of_groups t.tree.language read → HasLines t.exprs lines read → IsIndexOf read index
