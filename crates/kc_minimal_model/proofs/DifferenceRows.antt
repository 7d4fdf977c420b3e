-- The differences of two small valuations.
use Rattle.kc_minimal_model.proofs.Common.{◌≡◌, [], ◌∷◌, Some, refl, codes, N, Y, n, tree_pick, differences}
use Rattle.kc_value.specs.declared.value.Kind.TheVariants.{Bool as Boolean}
use Rattle.kc_rules_model.specs.declared.values.UnitValue.TheVariants.{Member as MemberValue}

of_members : differences tree_pick (MemberValue (Some 1) ∷ n ∷ []) (MemberValue (Some 0) ∷ n ∷ [])
    ≡ record { symbol = 0; left = record { kind = Boolean; tri = N; text = codes "n" }; right = record { kind = Boolean; tri = Y; text = codes "y" } }
    ∷ record { symbol = 1; left = record { kind = Boolean; tri = Y; text = codes "y" }; right = record { kind = Boolean; tri = N; text = codes "n" } } ∷ []
of_members = refl
