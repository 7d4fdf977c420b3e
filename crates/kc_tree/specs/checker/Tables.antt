-- The tables of a tree, from its collected lists.
use Rattle.std.specs.Prelude.{ℕ, Option, length}
use Rattle.std.specs.Global.{Vec}
use Rattle.kc_expr.specs.Lookup.{AreDistinct}
use Rattle.kc_tree.specs.between.GatheredAttributes.{AreGrouped}
use Rattle.kc_tree.specs.between.GatheredView.{gathered_tree}
use Rattle.kc_tree.specs.between.GroupedItems.{IsGrouped}
use Rattle.kc_tree.specs.checker.NameTable.{IsTable}
use Rattle.kc_tree.specs.checker.Units.{HasUnits}
use Rattle.kc_tree.specs.declared.attributes.GroupedAttributes.{GroupedAttributes}
use Rattle.kc_tree.specs.declared.items_by_number.ItemsByNumber.{ItemsByNumber}
use Rattle.kc_tree.specs.declared.symbol.MemberDefault.{MemberDefault}
use Rattle.kc_tree.specs.declared.tree_lists.TreeLists.{TreeLists}
use Rattle.kc_tree.specs.declared.unit_numbers.UnitNumbers.{UnitNumbers}

-- the tables have the attributes of each symbol, the members and defaults of each choice, the unit of each, and the symbol of each
-- name, and no name is twice in the arena
pub record AreTables (g : TreeLists) (a : GroupedAttributes) (m : ItemsByNumber ℕ) (d : ItemsByNumber MemberDefault) (n : UnitNumbers)
    (table : Vec (Option ℕ)) : Type 0 where
  pub attributes : AreGrouped (length g.symbols.items) g.attributes a
  pub members : IsGrouped (length g.choices.items) g.members.keys.items g.members.items.items m.starts.items m.items.items
  pub member_defaults : IsGrouped (length g.choices.items) g.member_defaults.keys.items g.member_defaults.items.items d.starts.items d.items.items
  pub units : HasUnits (gathered_tree g) n.symbols.items n.choices.items
  pub names : IsTable (length g.arena.names) g.symbols.items (length g.symbols.items) table.items
  pub distinct : AreDistinct g.arena.names
