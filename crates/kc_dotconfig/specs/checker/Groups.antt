-- Items grouped by a number.
use Rattle.std.specs.Prelude.{ℕ, List, [], ◌∷◌, ◌++◌, Option, Some, unwrap_or}
use Rattle.std.specs.Global.{Vec}
use Rattle.std.specs.Option.{option_map}
use Rattle.std.specs.Map.{lookup}
use Rattle.std.specs.BTreeMap.{is_at}
use Rattle.std.specs.Ordering.{nat_cmp}

-- the items of a key, or none
abbrev pub items_at : (X : Type 0) → List (ℕ × Vec X) → ℕ → Option (List X)
items_at X groups k = option_map (λ (v : Vec X). v.items) (lookup (is_at (nat_cmp k)) groups)

-- the items with one more
abbrev pub items_more : (X : Type 0) → Option (List X) → X → Option (List X)
items_more X items x = Some (unwrap_or items [] ++ x ∷ [])
