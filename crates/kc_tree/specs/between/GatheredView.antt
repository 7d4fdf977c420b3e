-- The tree that the collected lists represent.
use Rattle.std.specs.Prelude.{ℕ, [], map, option_map, slice_index_or}
use Rattle.kc_expr.specs.between.Arena.{node_expr}
use Rattle.kc_tree_model.specs.Contents.{own_dependencies}
use Rattle.kc_tree_model.specs.Trees as tree
use Rattle.kc_tree_model.specs.Trees.{Tree}
use Rattle.kc_tree.specs.between.Views.{default_view, range_view, reverse_dependency_view, member_default_view}
use Rattle.kc_tree.specs.between.GroupedItems.{items_of}
use Rattle.kc_tree.specs.between.StoredView.{from_rows, entry_from_row}
use Rattle.kc_tree.specs.declared.rows.SymbolRow.{SymbolRow}
use Rattle.kc_tree.specs.declared.rows.ChoiceRow.{ChoiceRow}
use Rattle.kc_tree.specs.declared.tree_lists.TreeLists.{TreeLists}

-- the symbol that a number and a row represent, with the attributes collected under the number
abbrev pub symbol_gathered : TreeLists → ℕ → SymbolRow → tree.Symbol
symbol_gathered g s r = record {
  name = slice_index_or g.arena.names r.name [];
  kind = r.kind;
  file = r.file;
  line = r.line;
  prompts = map (node_expr g.arena) (items_of s g.attributes.prompts.keys.items g.attributes.prompts.items.items);
  defaults = map (default_view g.arena) (items_of s g.attributes.defaults.keys.items g.attributes.defaults.items.items);
  ranges = map (range_view g.arena) (items_of s g.attributes.ranges.keys.items g.attributes.ranges.items.items);
  selectors = map (reverse_dependency_view g.arena) (items_of s g.attributes.selectors.keys.items g.attributes.selectors.items.items);
  impliers = map (reverse_dependency_view g.arena) (items_of s g.attributes.impliers.keys.items g.attributes.impliers.items.items);
  direct = own_dependencies r.choice (map (node_expr g.arena) (items_of s g.attributes.direct.keys.items g.attributes.direct.items.items));
  choice = r.choice;
}

-- the choice that a number and a row represent, with the members and defaults collected under the number
abbrev pub choice_gathered : TreeLists → ℕ → ChoiceRow → tree.Choice
choice_gathered g c r = record {
  file = r.file;
  line = r.line;
  members = items_of c g.members.keys.items g.members.items.items;
  prompt = option_map (node_expr g.arena) r.prompt;
  defaults = map (member_default_view g.arena) (items_of c g.member_defaults.keys.items g.member_defaults.items.items);
  optional = r.optional;
}

-- the tree that collected lists represent: its symbols, choices, entries, units and language
abbrev pub gathered_tree : TreeLists → Tree
gathered_tree g = record {
  symbols = from_rows (symbol_gathered g) 0 g.symbols.items;
  choices = from_rows (choice_gathered g) 0 g.choices.items;
  entries = map (entry_from_row g.arena g.titles.items) g.entries.items;
  units = g.units.items;
  language = g.language;
}
