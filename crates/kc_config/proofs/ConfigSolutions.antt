-- The state of a configuration after a change.
use Rattle.kc_config.proofs.Common.{◌≡◌, inl, inr, ℕ, ◌<◌, IsTrue, List, [], ◌++◌, length, Option, Some, None, refl, sym, ◌∙◌, ap, subst, arith, Contains, filter, is_none, changed_users, user_of, FitsUsers, UserValue, user_fits, tree_of_settled, empty_assignment, merged_users, Configured, tree_in}
use Rattle.kc_config.proofs.Common.{FitsTree, changes_of, users_of, units_of, clears_of, merged_assigns}
use Rattle.std.specs.Prelude.{replicate}
use Rattle.kc_solver.specs.Solutions.{UniquelySolves, FitsValues}
use Rattle.kc_rules_model.specs.Rule.{rule}
use Rattle.kc_rules_model.specs.Shapes.{value_fits}
use Rattle.kc_rules_model.specs.SettledTrees.{IsSettledTree}
use Rattle.kc_rules_model.proofs.SolutionsFit.{all_solutions_fit}
use Rattle.kc_rules.specs.declared.rules.Settled.{Settled}
use Rattle.kc_rules.specs.between.SettledViews.{profile_of}
use Rattle.kc_config.specs.ConfigStates.{IsSolved}
use Rattle.kc_config.specs.checker.Configs.{IsSoundConfig}
use Rattle.kc_config.proofs.MergedValues.{merged_units, changes_merged}
use Rattle.kc_config.proofs.UserValueUnits.{changed_both, cleared, given_or_had, none_held, units_within, in_front, in_back, in_either, in_filter, of_filter}

pub solved_by : (old new : Configured) → IsSolved old → new.system ≡ old.system
    → FitsUsers (length (tree_in new).units) (λ u x. IsTrue (user_fits (tree_in new) u x)) new.users
    → UniquelySolves (length (tree_in new).units) (rule (profile_of new.system) (tree_in new)) new.users new.values → IsSolved new
solved_by old new before same fits gives =
    let settled : IsSettledTree (tree_in new) = subst (λ s. IsSettledTree (tree_of_settled s)) (sym same) before.settled in
    record {
      settled = settled;
      fits = fits;
      fits_values = all_solutions_fit (profile_of new.system) (tree_in new) new.users new.values settled fits gives.solves;
      gives = gives;
    }

-- a configuration of a settled tree is solved if its assignment and values fit the tree and the values are the one solution
pub solved_as : (settled : Settled) (new : Configured) → new.system ≡ settled → IsSettledTree (tree_of_settled settled)
    → FitsUsers (length (tree_in new).units) (λ u x. IsTrue (user_fits (tree_in new) u x)) new.users
    → FitsValues (length (tree_in new).units) (λ u v. IsTrue (value_fits (tree_in new) u v)) new.values
    → UniquelySolves (length (tree_in new).units) (rule (profile_of new.system) (tree_in new)) new.users new.values → IsSolved new
solved_as settled new same tree fits fits_values gives = record {
  settled = subst (λ s. IsSettledTree (tree_of_settled s)) (sym same) tree;
  fits = fits;
  fits_values = fits_values;
  gives = gives;
}

-- a configuration without user values, and with no unit in its list of units with user values, is sound
pub none_kept : (settled : Settled) (new : Configured) (valued : List ℕ) → IsSolved new → new.system ≡ settled
    → new.users ≡ empty_assignment (tree_of_settled settled) → valued ≡ [] → IsSoundConfig settled new valued
none_kept settled new valued solved same users none = record {
  same = same;
  solved = solved;
  covers = λ u x e. absurd (none_held (length (tree_of_settled settled).units) u x (ap (λ l. user_of l u) (sym users) ∙ e));
  within = λ u c. absurd (none_in u (subst (λ l. Contains l u) none c));
} where
  none_in : (u : ℕ) → Contains {X = ℕ} [] u → ⊥
  none_in u (k, h, is) = omega (arith, h)

-- a configuration stays sound if user values are added and their units, where they had none, are added to the listed ones
pub merged_kept : (settled : Settled) (old new : Configured) (valued more : List ℕ) (es : List (ℕ × UserValue)) → IsSoundConfig settled old valued
    → FitsTree (tree_in old) es → IsSolved new → new.system ≡ old.system
    → new.users ≡ changed_users (changes_of (merged_assigns old.users es)) old.users → more ≡ valued ++ filter (λ u. is_none (user_of old.users u)) (units_of es)
    → IsSoundConfig settled new more
merged_kept settled old new valued more es kept fits solved same users is = record {
  same = same ∙ kept.same;
  solved = solved;
  covers = λ u x e. subst (λ l. Contains l u) (sym is) (covers u x (ap (λ l. user_of l u) (sym users) ∙ e));
  within = λ u c. subst (λ s. u < length (tree_of_settled s).units) (sym same) (below u (subst (λ l. Contains l u) is c));
} where
  covers : (u : ℕ) (x : UserValue) → user_of (changed_users (changes_of (merged_assigns old.users es)) old.users) u ≡ Some x
      → Contains (valued ++ filter (λ u. is_none (user_of old.users u)) (units_of es)) u
  covers u x e = elim (given_or_had (merged_assigns old.users es) old.users u x e) [
    | inl given ↦ by (user_of old.users u) refl (subst (λ l. Contains l u) (merged_units old.users es) given)
    | inr had ↦ in_front valued (filter (λ u. is_none (user_of old.users u)) (units_of es)) u (kept.covers u had.0 had.1)
  ] where
    by : (o : Option UserValue) → user_of old.users u ≡ o → Contains (units_of es) u
        → Contains (valued ++ filter (λ u. is_none (user_of old.users u)) (units_of es)) u
    by None f given =
        in_back valued (filter (λ u. is_none (user_of old.users u)) (units_of es)) u
        (in_filter (λ u. is_none (user_of old.users u)) (units_of es) u (ap is_none f) given)
    by (Some y) f given = in_front valued (filter (λ u. is_none (user_of old.users u)) (units_of es)) u (kept.covers u y f)

  below : (u : ℕ) → Contains (valued ++ filter (λ u. is_none (user_of old.users u)) (units_of es)) u → u < length (tree_in old).units
  below u c = elim (in_either valued (filter (λ u. is_none (user_of old.users u)) (units_of es)) u c) [
    | inl before ↦ kept.within u before
    | inr fresh ↦ units_within (tree_in old) es fits u (of_filter (λ u. is_none (user_of old.users u)) (units_of es) u fresh)
  ]

-- a configuration with the user values of a list and no others, and with their units as the listed ones, is sound
pub fragment_kept : (settled : Settled) (new : Configured) (more : List ℕ) (es : List (ℕ × UserValue)) → FitsTree (tree_of_settled settled) es → IsSolved new
    → new.system ≡ settled
    → new.users ≡ users_of (tree_of_settled settled) es → more ≡ units_of es → IsSoundConfig settled new more
fragment_kept settled new more es fits solved same users is = record {
  same = same;
  solved = solved;
  covers = λ u x e. subst (λ l. Contains l u) (sym is) (covers u x (ap (λ l. user_of l u) (sym users) ∙ e));
  within = λ u c. subst (λ s. u < length (tree_of_settled s).units) (sym same)
      (units_within (tree_of_settled settled) es fits u (subst (λ l. Contains l u) is c));
} where
  covers : (u : ℕ) (x : UserValue) → user_of (users_of (tree_of_settled settled) es) u ≡ Some x → Contains (units_of es) u
  covers u x e = elim (given_or_had es (replicate (length (tree_of_settled settled).units) None) u x e) [
    | inl given ↦ given
    | inr had ↦ absurd (none_held (length (tree_of_settled settled).units) u had.0 had.1)
  ]

-- a configuration stays sound if the user values of a list, with their units as the listed ones, replace all earlier ones
pub replaced_kept : (settled : Settled) (old new : Configured) (valued more : List ℕ) (es : List (ℕ × UserValue)) → IsSoundConfig settled old valued
    → FitsTree (tree_in old) es → IsSolved new → new.system ≡ old.system
    → new.users ≡ users_of (tree_in old) es → more ≡ units_of es → IsSoundConfig settled new more
replaced_kept settled old new valued more es kept fits solved same users is =
    fragment_kept settled new more es (subst (λ s. FitsTree (tree_of_settled s) es) kept.same fits) solved (same ∙ kept.same)
    (users ∙ ap (λ s. users_of (tree_of_settled s) es) kept.same) is

pub replaced_users : (settled : Settled) (old : Configured) (valued : List ℕ) (es : List (ℕ × UserValue)) (users : List (Option UserValue))
    → IsSoundConfig settled old valued
    → users ≡ changed_users (clears_of valued ++ changes_of es) old.users → users ≡ users_of (tree_in old) es
replaced_users settled old valued es users kept is =
    is ∙ changed_both (clears_of valued) (changes_of es) old.users
    ∙ ap (changed_users (changes_of es)) (cleared valued old.users kept.covers ∙ ap (λ n. replicate n None) kept.solved.fits.0)

pub users_merged : (settled : Settled) (old : Configured) (valued : List ℕ) (es : List (ℕ × UserValue)) (users : List (Option UserValue))
    → IsSoundConfig settled old valued → FitsTree (tree_in old) es
    → users ≡ changed_users (changes_of (merged_assigns old.users es)) old.users → users ≡ merged_users (users_of (tree_in old) es) old.users
users_merged settled old valued es users kept fits is = is ∙ changes_merged (tree_in old) es old.users fits kept.solved.fits.0
