-- The symbols of names.
use Rattle.std.proofs.Common.{ltb, IfSome}
use Rattle.std.specs.Prelude.{option_and_then}
use Rattle.kc_tree.proofs.Common.{◌≡◌, ℕ, ◌<◌, ◌≤◌, Bool, true, false, cond, List, [], length, map, get_or, Option, Some, None, refl, sym, ap, subst, ◌∙◌, arith, slice_get, bytes_eq, position_or_len, ltb-true, length-map, get_or-map, slice_get-get_or, index_of_name, Tree, symbol_named}
use Rattle.std.proofs.lemmas.Option.{slice_get_past}
use Rattle.kc_expr.proofs.Places.{place_there}
use Rattle.kc_tree_model.specs.Trees.{Symbol}
use Rattle.kc_tree.specs.between.Views.{symbol_of_name_id}

found_there : (p n : ℕ) (b : Bool) → ltb p n ≡ b → IfSome (cond b (Some p) None) (λ s. s < n)
found_there p n true e = ltb-true p n e
found_there p n false e = tt

pub named_there : (tree : Tree) (x : List ℕ) → IfSome (symbol_named tree x) (λ s. s < length tree.symbols)
named_there tree x = found_there (position_or_len (λ (s : Symbol). bytes_eq x s.name) tree.symbols) (length tree.symbols) _ refl

pub reported_at : (tree : Tree) (names : List (List ℕ)) (table : List (Option ℕ)) (i : ℕ) (o : Option ℕ) → table ≡ map (symbol_named tree) names
    → i < length table → o ≡ get_or table i o → o ≡ symbol_of_name_id tree names i
reported_at tree names table i o e h f =
    let l : length table ≡ length names = ap length e ∙ length-map names (symbol_named tree) in
    let g : get_or table i o ≡ symbol_named tree (get_or names i []) = ap (λ t. get_or t i o) e ∙ get_or-map (symbol_named tree) names i [] o (omega arith) in
    f ∙ g ∙ sym (ap (option_and_then (symbol_named tree)) (slice_get-get_or names i [] (omega arith)))

pub reported_past : (tree : Tree) (names : List (List ℕ)) (table : List (Option ℕ)) (i : ℕ) → table ≡ map (symbol_named tree) names → length table ≤ i
    → None ≡ symbol_of_name_id tree names i
reported_past tree names table i e h =
    let l : length table ≡ length names = ap length e ∙ length-map names (symbol_named tree) in
    sym (ap (option_and_then (symbol_named tree)) (slice_get_past names i (omega arith)))

reported_of : (tree : Tree) (o : Option (List ℕ)) → IfSome (option_and_then (symbol_named tree) o) (λ s. s < length tree.symbols)
reported_of tree None = tt
reported_of tree (Some x) = named_there tree x

pub reported_there : (tree : Tree) (names : List (List ℕ)) (i : ℕ) (o : Option ℕ) → o ≡ symbol_of_name_id tree names i → IfSome o (λ s. s < length tree.symbols)
reported_there tree names i o e = subst (λ p. IfSome p (λ s. s < length tree.symbols)) (sym e) (reported_of tree (slice_get names i))

-- the symbol found by a name's index in a list of names is the symbol of that name
pub reported_by_place : (tree : Tree) (x : List ℕ) (names : List (List ℕ)) (i : ℕ) → index_of_name x names ≡ Some i
    → symbol_of_name_id tree names i ≡ symbol_named tree x
reported_by_place tree x names i e =
    let t = place_there x names i e in
    ap (option_and_then (symbol_named tree)) (slice_get-get_or names i [] t.0) ∙ ap (symbol_named tree) t.1
