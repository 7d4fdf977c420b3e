-- The stored rows of the entries that groups make.
use Rattle.std.specs.Prelude.{ℕ, Option, Some, None, option_map}
use Rattle.kc_tree_model.specs.declared.keyword.Block.TheVariants as blocks
use Rattle.kc_parser.specs.declared.listing.GroupHead.{GroupHead}
use Rattle.kc_parser.specs.declared.listing.GroupHead.TheVariants as codes
use Rattle.kc_tree.specs.declared.rows.EntryRow.{EntryRow}
use Rattle.kc_tree.specs.declared.rows.EntryRow.TheVariants.{Definition, ChoiceBegins, MenuBegins, MenuEnds, Comment}
use Rattle.kc_conditions.specs.declared.group_walk.GroupConditions.{GroupConditions}

-- the row of a menu's end, from the conditions of the group that ends it; `None` if the group ends no menu
abbrev pub menu_end_row : GroupConditions → Option EntryRow
menu_end_row c = option_map (λ t. MenuEnds t c.dependency c.visible) c.ended

-- the row of the entry that a statement makes, or `None`; the number counts the choices before the statement
abbrev pub entry_row : GroupHead → GroupConditions → ℕ → Option EntryRow
entry_row (codes.Config s) c n = Some (Definition s)
entry_row codes.Choice c n = Some (ChoiceBegins n)
entry_row (codes.Menu t) c n = Some (MenuBegins t c.dependency c.visible)
entry_row (codes.Comment t) c n = Some (Comment t c.dependency)
entry_row (codes.Ends blocks.Menu) c n = menu_end_row c
entry_row w c n = None
