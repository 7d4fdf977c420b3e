-- Laws of what assignments of members select under the rules of Linux 6.12.
use Rattle.std.specs.Prelude.{◌≡◌, ℕ, Bool, true, false, not, List, [], ◌∷◌, ◌++◌, Option, Some, None, filter}
use Rattle.std.specs.List.{All, list_all}
use Rattle.kc_tree_model.specs.Trees.{Tree, Choice}
use Rattle.kc_rules_model.specs.declared.values.MemberLine.{MemberLine}
use Rattle.kc_rules_model.specs.declared.values.UnitValue.{UnitValue}
use Rattle.kc_rules_model.specs.declared.values.UserValue.TheVariants.{Member as MemberUser}
use Rattle.kc_rules_model.specs.MemberLines.{is_listed, first_listed, selected_by_lines}
use Rattle.kc_rules_model.specs.Rule.{is_shown, is_visible_member, default_member, shown_choice_rule}

-- law: the order of members with `y` to those with `n` counts for nothing: a list selects what its members with `y`, in their
-- order, and after them those with `n`, in theirs, select
abbrev pub ListsAreTwoLists : Type 0
ListsAreTwoLists = (seen : ℕ → Bool) (members : List ℕ) (default : Option ℕ) (lines : List MemberLine)
    → selected_by_lines seen members default lines
    ≡ selected_by_lines seen members default
    (filter (λ (l : MemberLine). l.is_y) lines ++ filter (λ (l : MemberLine). not l.is_y) lines)

-- law: where a choice is shown and no member has `n`, the rules before Linux 6.10 select the same: without an assignment, and
-- where the member that comes last is visible
pub record AgreeWithoutN (tree : Tree) (choice : Choice) (values : List UnitValue) : Type 0 where
  pub none : selected_by_lines (is_visible_member tree values) choice.members (default_member tree choice values) []
      ≡ shown_choice_rule tree choice None values
  pub last : (lines : List MemberLine) (s : ℕ) → list_all (λ (l : MemberLine). l.is_y) lines ≡ true
      → is_visible_member tree values s ≡ true
      → selected_by_lines (is_visible_member tree values) choice.members (default_member tree choice values)
      (lines ++ record { member = s; is_y = true } ∷ [])
      ≡ shown_choice_rule tree choice (Some (MemberUser s)) values

-- law: both rules agree without `n` (`AgreeWithoutN`)
abbrev pub RulesAgreeWithoutN : Type 0
RulesAgreeWithoutN = (tree : Tree) (choice : Choice) (values : List UnitValue) → is_shown tree values choice ≡ true
    → AgreeWithoutN tree choice values

-- law: where each visible member has `n`, among them the default member, the one whose line comes first is selected
abbrev pub FirstUnsetIsSelected : Type 0
FirstUnsetIsSelected = (seen : ℕ → Bool) (members : List ℕ) (d : ℕ) (lines : List MemberLine)
    → All (λ (l : MemberLine). seen l.member ≡ true → l.is_y ≡ false) lines
    → All (λ s. seen s ≡ true → is_listed lines s ≡ true) members → is_listed lines d ≡ true
    → selected_by_lines seen members (Some d) lines ≡ first_listed seen lines
