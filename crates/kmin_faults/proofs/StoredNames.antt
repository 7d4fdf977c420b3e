-- Names of a tree, by their numbers in its arena.
use Rattle.kmin_faults.proofs.Common.{◌≡◌, ℕ, Bool, false, ◌==◌, List, Option, Some, None, ap, Tree, is_of_unit}
use Rattle.kc_tree_model.specs.TreeLookup.{symbol_named, unit_of}

pub some_of_unit : (tree : Tree) (unit : ℕ) (name : List ℕ) (s : ℕ) → symbol_named tree name ≡ Some s → is_of_unit tree unit name ≡ (unit_of tree s == unit)
some_of_unit tree unit name s e = ap (λ (o : Option ℕ). elim o as (λ _. Bool) [ None ↦ false | Some s ↦ unit_of tree s == unit ]) e

pub none_of_unit : (tree : Tree) (unit : ℕ) (name : List ℕ) → symbol_named tree name ≡ None → is_of_unit tree unit name ≡ false
none_of_unit tree unit name e = ap (λ (o : Option ℕ). elim o as (λ _. Bool) [ None ↦ false | Some s ↦ unit_of tree s == unit ]) e
