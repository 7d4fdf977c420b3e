-- The rule of a choice that is shown, with the user value as a member.
use Rattle.std.specs.Prelude.{ℕ, Bool, not, ◌&&◌, ◌==◌, List, Option, Some, None, if◌then◌else◌}
use Rattle.std.specs.List.{list_any}
use Rattle.std.specs.Option.{option_and_then, option_or}
use Rattle.kc_tree_model.specs.Trees.{Tree, Choice}
use Rattle.kc_rules_model.specs.declared.values.UnitValue.{UnitValue}
use Rattle.kc_rules_model.specs.Rule.{is_shown, is_visible_member, default_member}

-- the selected member of a choice, if the choice is shown: the user's member if there is one and it is visible, otherwise the
-- default member
abbrev pub shown_choice_rule_of : Tree → Choice → Option ℕ → List UnitValue → Option ℕ
shown_choice_rule_of tree choice user values =
    let by_user = option_and_then (λ s. if is_visible_member tree values s then Some s else None) user in
    if is_shown tree values choice then option_or by_user (default_member tree choice values) else None

-- whether a member is visible, and its number isn't among these
abbrev pub is_free : Tree → List UnitValue → List ℕ → ℕ → Bool
is_free tree values numbers s = is_visible_member tree values s && not (list_any (λ m. m == s) numbers)
