-- The symbol of a name that an arena holds.
use Rattle.kc_dependencies.proofs.Common.{◌≡◌, ℕ, ◌∙◌, ap, List, [], Option, Some, slice_get-get_or, Tree, symbol_named, symbol_of_name_id}
use Rattle.std.specs.Prelude.{option_and_then}
use Rattle.kc_expr.specs.Lookup.{index_of_name}
use Rattle.kc_expr.proofs.Places.{place_there}

pub found_as_named : (tree : Tree) (names : List (List ℕ)) (name : ℕ) (x : List ℕ) (r : Option ℕ) → index_of_name x names ≡ Some name
    → r ≡ symbol_of_name_id tree names name → r ≡ symbol_named tree x
found_as_named tree names name x r p e =
    let (h, g) = place_there x names name p in
    e ∙ ap (option_and_then (symbol_named tree)) (slice_get-get_or names name [] h) ∙ ap (symbol_named tree) g
