-- Of an assignment just the units that have a line in the minimal file are needed.
use Rattle.kc_minimal_model.proofs.Common.{◌≡◌, ◌↔◌, inl, inr, ℕ, ◌<◌, Bool, true, false, ◌==◌, cond, IsTrue, List, [], ◌∷◌, Option, Some, length, filter, refl, sym, ◌∙◌, ap, slice_get, list_any, false≢true, and_parts, or_cases, eqb-true, Tree, unit_of, user_of, Solves, FitsUsers, IsKept, IsCutTo}
use Rattle.kc_minimal_model.proofs.Common.{Profile, UnitValue, UserValue, value_of_symbol, as_user, symbol_numbers, rules_frame, Escaped, FileFormat, is_name_prefix, is_kept, has_line, may_have_line, IsOrderedTree, HasUnitsOfLines, HasValuesOfLines}
use Rattle.kc_solver.specs.Solutions.{UniquelySolves}
use Rattle.kc_solver.proofs.Least.{cut_gives}
use Rattle.kc_rules_model.specs.Rule.{rule}
use Rattle.kc_rules_model.specs.Dependencies.{dependencies}
use Rattle.kc_rules_model.specs.Shapes.{user_fits}
use Rattle.kc_rules_model.specs.RuleLaws.{is_tri_value}
use Rattle.kc_rules_model.proofs.AssignedTexts.{texts_assigned}
use Rattle.kc_minimal_model.proofs.KeptUnits.{kept_unit, kept_passes, others_fail}
use Rattle.kc_minimal_model.proofs.KeptLines.{unit_inside}
use Rattle.kc_minimal_model.proofs.LeastFile.{speaks_at, unit_there}
use Rattle.kc_minimal_model.proofs.Canonical.{decides}

pub any_found : (p q : ℕ → Bool) (xs : List ℕ) → list_any p (filter q xs) ≡ true → (s : ℕ) × (q s ≡ true) × (p s ≡ true)
any_found p q [] any = absurd (false≢true any)
any_found p q (x ∷ xs) any = go (q x) refl any (any_found p q xs) where
  go : (t : Bool) → q x ≡ t → list_any p (cond t (x ∷ filter q xs) (filter q xs)) ≡ true
      → (list_any p (filter q xs) ≡ true → (s : ℕ) × (q s ≡ true) × (p s ≡ true)) → (s : ℕ) × (q s ≡ true) × (p s ≡ true)
  go true e any next = elim (or_cases (p x) (list_any p (filter q xs)) any) [ inl here ↦ (x, e, here) | inr later ↦ next later ]
  go false e any next = next any

-- no line is of interest here, so any format serves
plain : FileFormat
plain = record { prefix = 67 ∷ []; strings = Escaped }

valid : is_name_prefix plain.prefix ≡ true
unfolding plain
valid = refl

module _ (profile : Profile) (tree : Tree) (users : List (Option UserValue)) (values : List UnitValue) (settled : IsOrderedTree tree)
    (fitting : FitsUsers (length tree.units) (λ u x. IsTrue (user_fits tree u x)) users)
    (solved : Solves (length tree.units) (rule profile tree) users values) where
  -- a symbol with a line has a kept unit
  line_kept : (s : ℕ) → has_line profile tree values s ≡ true → (unit_of tree s < length tree.units) × IsKept (rule profile tree) values (unit_of tree s)
  line_kept s has =
      let parts = and_parts (is_kept profile tree values (unit_of tree s)) (may_have_line (slice_get tree.symbols s) (value_of_symbol tree values s)) has in (
        unit_inside plain valid profile tree settled.consistent users values fitting solved s (slice_get tree.symbols s) refl parts.1,
        λ same. false≢true (sym (others_fail profile tree users values fitting solved (unit_of tree s) same) ∙ parts.0),
      )

  -- and each kept unit has a symbol with a line
  kept_line : (u : ℕ) → u < length tree.units → IsKept (rule profile tree) values u → (s : ℕ) × (has_line profile tree values s ≡ true) × (unit_of tree s ≡ u)
  kept_line u inside kept =
      let test = kept_passes profile tree users values fitting solved u inside kept in
      let unit = unit_there plain valid profile tree settled.consistent users values fitting solved u inside in
      let k = kept_unit profile tree users values fitting solved u inside test in
      let found = any_found (λ s. unit_of tree s == u) (has_line profile tree values) (symbol_numbers tree)
      (speaks_at plain valid profile tree settled.consistent users values fitting solved u test k unit.0 unit.1) in
      (found.0, found.1, eqb-true (unit_of tree found.0) u found.2)

  -- the assignment cut down to some units still gives the values exactly if the unit of each line of the minimal file
  -- is among them
  pub needs_units : (fewer : List (Option UserValue)) (keeps : ℕ → Bool) → IsCutTo (length tree.units) keeps users fewer
      → UniquelySolves (length tree.units) (rule profile tree) fewer values ↔ HasUnitsOfLines profile tree values keeps
  needs_units fewer keeps is_cut =
      let by_units = cut_gives (length tree.units) (dependencies tree) (rule profile tree) (λ u x. IsTrue (user_fits tree u x)) settled.order settled.ordered
      (rules_frame profile tree) decides users fewer values keeps fitting solved is_cut in (
        (λ gives s has. let kept = line_kept s has in by_units.0 gives (unit_of tree s) kept.0 kept.1),
        λ lines. by_units.1 (λ u inside kept. let line = kept_line u inside kept in ap keeps (sym line.2) ∙ lines line.0 line.1),
      )

  -- an assignment that gives the values has the members, strings and numbers that the lines of their minimal file assign
  pub needs_values : HasValuesOfLines profile tree values users
  needs_values s value has holds text =
      let kept = line_kept s has in
      let u = unit_of tree s in
      let result = rule profile tree u (user_of users u) values in
      let value_is : value ≡ result = let e = solved.holds u kept.0 in cc (e, holds) in (
        λ stays. texts_assigned profile tree u (user_of users u) values (λ e. kept.1 (solved.holds u kept.0 ∙ ap Some e)) (ap is_tri_value (sym value_is) ∙ text) stays
            ∙ ap (as_user tree.language) (sym value_is),
        λ none. kept.1 (solved.holds u kept.0 ∙ ap (λ x. Some (rule profile tree u x values)) none),
      )
