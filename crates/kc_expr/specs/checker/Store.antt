-- The names and expressions that a store represents.
use Rattle.std.specs.Prelude.{◌≡◌, ℕ, ◌≤◌, ◌^◌, List, length, take, map, string_bytes}
use Rattle.kc_expr.specs.declared.node_store.NodeStore.{NodeStore}
use Rattle.kc_expr.specs.declared.node_store.Mark.{Mark}
use Rattle.kc_expr.specs.between.Arena.{Exprs, node_expr}
use Rattle.kc_expr.specs.Lookup.{AreDistinct}
use Rattle.kc_expr.specs.ExpressionNames.{names_in}
use Rattle.kc_expr.specs.between.Names.{with_names}
use Rattle.kc_expr.specs.checker.Nodes.{exprs_of, AreNodes}

-- the names in a store as bytes, in the order of their numbers
abbrev pub stored_names : NodeStore → List (List ℕ)
stored_names s = map string_bytes s.names.keys

-- what contracts see of a store: its names, and the expression of each node
abbrev pub exprs_in : NodeStore → Exprs
exprs_in s = record { names = stored_names s; nodes = exprs_of (stored_names s) s.texts.items s.nodes.items }

-- a store is sound: each node's children have smaller numbers, its names and texts exist, no name is held twice, and names and
-- nodes have numbers of 32 bits
pub record IsSound (s : NodeStore) : Type 0 where
  pub nodes : AreNodes (length (stored_names s)) (length s.texts.items) s.nodes.items
  pub distinct : AreDistinct (stored_names s)
  pub few_names : length s.names.keys ≤ 2 ^ 32
  pub few_nodes : length s.nodes.items ≤ 2 ^ 32

-- a store has kept its names, texts and nodes, and others may have been appended
pub record Extends (old new : NodeStore) : Type 0 where
  pub names : take (length old.names.keys) new.names.keys ≡ old.names.keys
  pub texts : take (length old.texts.items) new.texts.items ≡ old.texts.items
  pub nodes : take (length old.nodes.items) new.nodes.items ≡ old.nodes.items

-- the names of a store are those of an old one, with the new names of a node's expression appended
abbrev pub HasNamesOf : NodeStore → NodeStore → ℕ → Type 0
HasNamesOf old new id = stored_names new ≡ with_names (names_in (node_expr (exprs_in new) id)) (stored_names old)

-- a mark holds the lengths of a store's lists
pub record IsMark (s : NodeStore) (m : Mark) : Type 0 where
  pub names : m.names ≡ length s.names.keys
  pub texts : m.texts ≡ length s.texts.items
  pub nodes : m.nodes ≡ length s.nodes.items
