-- The user values of an assignment, overridden by those of a list.
use Rattle.std.proofs.Common.{◌+◌}
use Rattle.std.specs.Prelude.{slice_index}
use Rattle.kc_config.proofs.Common.{◌≡◌, inl, inr, ℕ, zero, suc, ◌<◌, true, cond, IsTrue, List, [], ◌∷◌, ◌++◌, length, Option, Some, None, refl, sym, ◌∙◌, ap, subst, arith, slice_get, option_or, nat_cmp, cases_eq, Tree, changed_users, user_of, FitsUsers, UserValue, user_fits, merged_user, merged_users}
use Rattle.kc_config.proofs.Common.{empty_assignment, FitsTree, changes_of, users_of, units_of, merged_assigns, length_changed, none_length}
use Rattle.std.specs.BTreeMap.{is_at}
use Rattle.std.specs.List.Sorted.{IsStrictlyIncreasing}
use Rattle.kc_dotconfig_model.proofs.FittingFiles.{over_user_fits, held_fits}
use Rattle.kc_dotconfig.specs.checker.UserValueOrder.{AreAbove, IsAscending}
use Rattle.kc_dotconfig.specs.checker.GatheredLines.{value_in}
use Rattle.kc_dotconfig.proofs.GatheredLines.{at_same, at_other, or_none, assigned_at, same_users}
use Rattle.kc_dotconfig.proofs.Insertions.{above_less, none_of_unit}

-- the units stay the same
pub merged_units : (users : List (Option UserValue)) (es : List (ℕ × UserValue)) → units_of (merged_assigns users es) ≡ units_of es
merged_units users [] = refl
merged_units users (e ∷ es) = ap (λ l. e.0 ∷ l) (merged_units users es)

-- one more user value over the held one
pub merged_push : (users : List (Option UserValue)) (es : List (ℕ × UserValue)) (a : ℕ × UserValue)
    → changes_of (merged_assigns users (es ++ a ∷ [])) ≡ changes_of (merged_assigns users es) ++ (a.0, Some (merged_user a.1 (user_of users a.0))) ∷ []
merged_push users [] a = refl
merged_push users (e ∷ es) a = ap (λ l. (e.0, Some (merged_user e.1 (user_of users e.0))) ∷ l) (merged_push users es a)

merged_at : (users : List (Option UserValue)) (es : List (ℕ × UserValue)) (k u : ℕ) (x : UserValue) → slice_get (merged_assigns users es) k ≡ Some (u, x)
    → (y : UserValue) × (slice_get es k ≡ Some (u, y)) × (merged_user y (user_of users u) ≡ x)
merged_at users [] k u x e = cc
merged_at users (a ∷ es) zero u x e =
    let both = same_pair (a.0, merged_user a.1 (user_of users a.0)) (u, x) e in
    let first : a.0 ≡ u = ap (λ (p : ℕ × UserValue). p.0) both in
    let second : merged_user a.1 (user_of users a.0) ≡ x = ap (λ (p : ℕ × UserValue). p.1) both in
    (a.1, ap (λ (v : ℕ). Some (v, a.1)) first, ap (λ v. merged_user a.1 (user_of users v)) (sym first) ∙ second) where
      same_pair : (p q : ℕ × UserValue) → Some p ≡ Some q → p ≡ q
      same_pair p q e = cc
merged_at users (a ∷ es) (suc k) u x e = merged_at users es k u x e

-- they fit a tree where both do
pub merged_fits : (tree : Tree) (users : List (Option UserValue)) (es : List (ℕ × UserValue))
    → FitsUsers (length tree.units) (λ u x. IsTrue (user_fits tree u x)) users
    → FitsTree tree es → FitsTree tree (merged_assigns users es)
merged_fits tree users es held fits = record {
  ascending = subst IsStrictlyIncreasing (sym (merged_units users es)) fits.ascending;
  each = λ k u x at.
      let is = merged_at users es k u x at in
      let each = fits.each k u is.0 is.1 in
      (each.0, subst (λ y. IsTrue (user_fits tree u y)) is.2 (over_user_fits tree u is.0 (user_of users u) each.1 (held_fits tree users u held)));
}

-- units that ascend strictly are in ascending order
pub ascending_of : (es : List (ℕ × UserValue)) → IsStrictlyIncreasing (units_of es) → IsAscending es
ascending_of [] rises = tt
ascending_of (e ∷ es) rises = (above e es rises, ascending_of es (rest e es rises)) where
  rest : (e : ℕ × UserValue) (es : List (ℕ × UserValue)) → IsStrictlyIncreasing (units_of (e ∷ es)) → IsStrictlyIncreasing (units_of es)
  rest e es rises k h =
      let n : suc k + 1 ≡ suc (k + 1) = omega arith in
      subst (λ m. slice_index (units_of es) k < slice_index (units_of (e ∷ es)) m) n (rises (suc k) (omega arith))

  above : (e : ℕ × UserValue) (es : List (ℕ × UserValue)) → IsStrictlyIncreasing (units_of (e ∷ es)) → AreAbove e.0 es
  above e [] rises = tt
  above e (f ∷ es) rises =
      let less : e.0 < f.0 = rises 0 (omega arith) in
      (less, above_less e.0 f.0 es less (above f es (rest e (f ∷ es) rises)))

-- a user value over a held one, or the held one if there is none
pub value_over : Option UserValue → Option UserValue → Option UserValue
value_over None held = held
value_over (Some x) held = Some (merged_user x held)

merged_values_at : (users : List (Option UserValue)) (es : List (ℕ × UserValue)) (u : ℕ)
    → option_or (value_in (merged_assigns users es) u) (user_of users u) ≡ value_over (value_in es u) (user_of users u)
unfolding value_over
merged_values_at users [] u = refl
merged_values_at users (e ∷ es) u = elim (cases_eq u e.0) [
  | inl same ↦
      let at : is_at (nat_cmp u) e.0 ≡ true = ap (is_at (nat_cmp u)) (sym same) ∙ at_same u in
      ap (λ b. option_or (cond b (Some (merged_user e.1 (user_of users e.0))) (value_in (merged_assigns users es) u)) (user_of users u)) at
      ∙ ap (λ k. Some (merged_user e.1 (user_of users k))) (sym same)
      ∙ sym (ap (λ b. value_over (cond b (Some e.1) (value_in es u)) (user_of users u)) at)
  | inr other ↦
      ap (λ b. option_or (cond b (Some (merged_user e.1 (user_of users e.0))) (value_in (merged_assigns users es) u)) (user_of users u)) (at_other u e.0 other)
      ∙ merged_values_at users es u
      ∙ sym (ap (λ b. value_over (cond b (Some e.1) (value_in es u)) (user_of users u)) (at_other u e.0 other))
]

merged_users_at : (later users : List (Option UserValue)) (u : ℕ) → length later ≡ length users
    → user_of (merged_users later users) u ≡ value_over (user_of later u) (user_of users u)
unfolding value_over
merged_users_at [] [] u e = refl
merged_users_at [] (y ∷ users) u e = absurd (omega arith)
merged_users_at (o ∷ later) [] u e = absurd (omega arith)
merged_users_at (None ∷ later) (y ∷ users) zero e = refl
merged_users_at (None ∷ later) (y ∷ users) (suc u) e = merged_users_at later users u (omega arith)
merged_users_at (Some x ∷ later) (y ∷ users) zero e = refl
merged_users_at (Some x ∷ later) (y ∷ users) (suc u) e = merged_users_at later users u (omega arith)

merged_users_length : (later users : List (Option UserValue)) → length later ≡ length users → length (merged_users later users) ≡ length users
merged_users_length [] users e = refl
merged_users_length (o ∷ later) [] e = absurd (omega arith)
merged_users_length (None ∷ later) (y ∷ users) e = let rest = merged_users_length later users (omega arith) in omega arith
merged_users_length (Some x ∷ later) (y ∷ users) e = let rest = merged_users_length later users (omega arith) in omega arith

-- changes to user values of a list that override the held ones give the held assignment, overridden by that of the list
pub changes_merged : (tree : Tree) (es : List (ℕ × UserValue)) (users : List (Option UserValue)) → FitsTree tree es → length users ≡ length tree.units
    → changed_users (changes_of (merged_assigns users es)) users ≡ merged_users (users_of tree es) users
changes_merged tree es users fits same =
    let merged = merged_assigns users es in
    let rises : IsAscending es = ascending_of es fits.ascending in
    let merged_rises : IsAscending merged = ascending_of merged (subst IsStrictlyIncreasing (sym (merged_units users es)) fits.ascending) in
    let changed = length_changed merged users in
    let blank = none_length (length tree.units) in
    let file = length_changed es (empty_assignment tree) in
    let long : length (users_of tree es) ≡ length users = omega arith in
    same_users (changed_users (changes_of merged) users) (merged_users (users_of tree es) users) (changed ∙ sym (merged_users_length (users_of tree es) users long))
    (λ u inside. assigned_at merged users u merged_rises (omega arith)
    ∙ merged_values_at users es u
    ∙ ap (λ o. value_over o (user_of users u))
    (sym (assigned_at es (empty_assignment tree) u rises (omega arith) ∙ ap (option_or (value_in es u)) (none_of_unit (length tree.units) u)
    ∙ or_none (value_in es u)))
    ∙ sym (merged_users_at (users_of tree es) users u long))
