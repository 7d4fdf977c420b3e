-- Bools and tristates: a default above its visibility, and a select.
use Rattle.kc_rules_model.proofs.Common.{◌≡◌, [], ◌∷◌, None, refl, M, Y, Present, Classic}
use Rattle.kc_rules_model.specs.Rule.{rule}
use Rattle.kc_rules_model.specs.Reports.{unmet}
use Rattle.kc_rules_model.proofs.RowTrees.{by_rules, m, y, sets, tree_lifted, tree_select}

-- A is `y` by default though its visibility is `m`; its own value as user value makes it `m`
default_above_visibility : (by_rules Present tree_lifted (None ∷ None ∷ None ∷ []) (y ∷ m ∷ y ∷ []) ≡ y ∷ m ∷ y ∷ [])
    × (by_rules Present tree_lifted (sets Y ∷ sets M ∷ sets Y ∷ []) (y ∷ m ∷ m ∷ []) ≡ y ∷ m ∷ m ∷ [])
unfolding rule
default_above_visibility = (refl, refl)

selected_over_dependency : (by_rules Present tree_select (sets Y ∷ None ∷ []) (y ∷ y ∷ []) ≡ y ∷ y ∷ [])
    × (by_rules Classic tree_select (sets Y ∷ None ∷ []) (y ∷ y ∷ []) ≡ y ∷ y ∷ [])
    × (unmet tree_select (y ∷ y ∷ []) ≡ 1 ∷ [])
unfolding rule
selected_over_dependency = (refl, refl, refl)
