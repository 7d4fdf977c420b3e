-- Units whose value their rule doesn't give without a user value.
use Rattle.kc_minimal_model.proofs.Common.{◌≡◌, ◌≢◌, inl, inr, ℕ, ◌<◌, true, false, not, IsTrue, List, Option, Some, None, length, refl, sym, ◌∙◌, ap, slice_get, cases_Bool, false≢true, Tree, user_of, Solves, FitsUsers, IsKept, Profile, UnitValue, UserValue, as_user, same_value, values_decided}
use Rattle.kc_minimal_model.proofs.Common.{rules_restore, is_kept}
use Rattle.kc_rules_model.specs.Rule.{rule}
use Rattle.kc_rules_model.specs.Shapes.{user_fits}
use Rattle.kc_rules_model.specs.Equality.{value_is}

-- the unit has a value, which a user value represents that fits the unit
pub record KeptUnit (tree : Tree) (values : List UnitValue) (u : ℕ) : Type 0 where
  pub held : UnitValue
  pub again : UserValue
  pub has : slice_get values u ≡ Some held
  pub assigned : as_user tree.language held ≡ Some again
  pub fits : user_fits tree u again ≡ true

module _ (profile : Profile) (tree : Tree) (users : List (Option UserValue)) (values : List UnitValue)
    (fitting : FitsUsers (length tree.units) (λ u x. IsTrue (user_fits tree u x)) users)
    (solved : Solves (length tree.units) (rule profile tree) users values) where
  pub kept_unit : (u : ℕ) → u < length tree.units → is_kept profile tree values u ≡ true → KeptUnit tree values u
  kept_unit u inside kept =
      let without = rule profile tree u None values in
      let held = rule profile tree u (user_of users u) values in
      let has : slice_get values u ≡ Some held = solved.holds u inside in
      let differs : held ≢ without = λ same. false≢true (ap not (sym ((values_decided held without).1 same)) ∙ sym (ap (λ o. not (value_is o without)) has)
      ∙ kept) in
      let again = (rules_restore profile tree).restored u (user_of users u) values inside solved.one_each (fitting.1 u inside) differs in
      record { held = held; again = again.0; has = has; assigned = again.1; fits = again.2 }

  -- a unit whose value isn't what its rule gives without a user value passes the test `is_kept`
  pub kept_passes : (u : ℕ) → u < length tree.units → IsKept (rule profile tree) values u → is_kept profile tree values u ≡ true
  kept_passes u inside kept =
      let without = rule profile tree u None values in
      let held = rule profile tree u (user_of users u) values in
      let has : slice_get values u ≡ Some held = solved.holds u inside in
      elim (cases_Bool (same_value held without)) [
        | inl same ↦ absurd (kept (has ∙ ap Some ((values_decided held without).0 same)))
        | inr other ↦ ap (λ o. not (value_is o without)) has ∙ ap not other
      ]

  pub others_fail : (u : ℕ) → slice_get values u ≡ Some (rule profile tree u None values) → is_kept profile tree values u ≡ false
  others_fail u same =
      let without = rule profile tree u None values in
      ap (λ o. not (value_is o without)) same ∙ ap not ((values_decided without without).1 refl)
