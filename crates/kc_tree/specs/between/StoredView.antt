-- The tree that stored lists represent.
use Rattle.std.specs.Prelude.{ℕ, suc, List, [], ◌∷◌, map, option_map, slice_index_or}
use Rattle.kc_expr.specs.between.Arena.{Exprs, node_expr}
use Rattle.kc_tree_model.specs.Contents.{own_dependencies}
use Rattle.kc_tree_model.specs.Trees as tree
use Rattle.kc_tree_model.specs.Trees.{Tree}
use Rattle.kc_tree.specs.between.Views.{default_view, range_view, reverse_dependency_view, member_default_view}
use Rattle.kc_tree.specs.between.GroupedItems.{items_at}
use Rattle.kc_tree.specs.declared.rows.SymbolRow.{SymbolRow}
use Rattle.kc_tree.specs.declared.rows.ChoiceRow.{ChoiceRow}
use Rattle.kc_tree.specs.declared.rows.EntryRow.{EntryRow}
use Rattle.kc_tree.specs.declared.rows.EntryRow.TheVariants.{Definition, ChoiceBegins, MenuBegins, MenuEnds, Comment}
use Rattle.kc_tree.specs.declared.tree.Tree.TheInside.{Inside}

-- the symbol that a number and a row represent, with the attributes stored for the number
abbrev pub symbol_from_row : Inside → ℕ → SymbolRow → tree.Symbol
symbol_from_row t s r = record {
  name = slice_index_or t.arena.names r.name [];
  kind = r.kind;
  file = r.file;
  line = r.line;
  prompts = map (node_expr t.arena) (items_at t.attributes.prompts.starts.items t.attributes.prompts.items.items s);
  defaults = map (default_view t.arena) (items_at t.attributes.defaults.starts.items t.attributes.defaults.items.items s);
  ranges = map (range_view t.arena) (items_at t.attributes.ranges.starts.items t.attributes.ranges.items.items s);
  selectors = map (reverse_dependency_view t.arena) (items_at t.attributes.selectors.starts.items t.attributes.selectors.items.items s);
  impliers = map (reverse_dependency_view t.arena) (items_at t.attributes.impliers.starts.items t.attributes.impliers.items.items s);
  direct = own_dependencies r.choice (map (node_expr t.arena) (items_at t.attributes.direct.starts.items t.attributes.direct.items.items s));
  choice = r.choice;
}

-- the choice that a number and a row represent, with the members and defaults stored for the number
abbrev pub choice_from_row : Inside → ℕ → ChoiceRow → tree.Choice
choice_from_row t c r = record {
  file = r.file;
  line = r.line;
  members = items_at t.members.starts.items t.members.items.items c;
  prompt = option_map (node_expr t.arena) r.prompt;
  defaults = map (member_default_view t.arena) (items_at t.member_defaults.starts.items t.member_defaults.items.items c);
  optional = r.optional;
}

-- the entry that a row represents: its title and expressions in place of their numbers
abbrev pub entry_from_row : Exprs → List (List ℕ) → EntryRow → tree.Entry
entry_from_row exprs titles (Definition s) = tree.definition s
entry_from_row exprs titles (ChoiceBegins c) = tree.choice_begins c
entry_from_row exprs titles (MenuBegins title dependency visible) = tree.menu_begins (slice_index_or titles title []) (node_expr exprs dependency) (node_expr exprs visible)
entry_from_row exprs titles (MenuEnds title dependency visible) = tree.menu_ends (slice_index_or titles title []) (node_expr exprs dependency) (node_expr exprs visible)
entry_from_row exprs titles (Comment title dependency) = tree.comment (slice_index_or titles title []) (node_expr exprs dependency)

-- the result of a function of each row and its number, where the first row has the given number
abbrev pub from_rows : {A B : Type 0} → (ℕ → A → B) → ℕ → List A → List B
from_rows f n [] = []
from_rows f n (r ∷ rs) = f n r ∷ from_rows f (suc n) rs

-- the tree that stored lists represent: its symbols, choices, entries, units and language
abbrev pub tree_from_rows : Inside → Tree
tree_from_rows t = record {
  symbols = from_rows (symbol_from_row t) 0 t.symbols.items;
  choices = from_rows (choice_from_row t) 0 t.choices.items;
  entries = map (entry_from_row t.arena t.titles.items) t.entries.items;
  units = t.units.items;
  language = t.language;
}
