-- The values of a fitting assignment fit their units.
use Rattle.std.proofs.Common.{zero, suc, ◌+◌, set, subst}
use Rattle.std.proofs.lemmas.Option.{slice_get-map}
use Rattle.std.proofs.lemmas.List.{length-map}
use Rattle.kc_rules_model.proofs.Common.{◌≡◌, ℕ, ◌<◌, ◌≤◌, true, IsTrue, IfSome, List, [], Option, Some, None, length, map, refl, ◌∙◌, ap, arith, slice_get, IsUtf8-nil, is_utf8-from_IsUtf8, option_map, N, Kind, Tristate, Text, Int, Hex, Tree, Symbol, user_of, FitsValues, Profile, UnitValue}
use Rattle.kc_rules_model.proofs.Common.{UserValue, unit_value_fits, symbol_value_fits, text_fits}
use Rattle.kc_value.specs.declared.value.Kind.TheVariants.{Bool as Boolean}
use Rattle.kc_tree_model.specs.declared.ids.Unit.{Unit as TreeUnit}
use Rattle.kc_tree_model.specs.declared.ids.Unit.TheVariants.{Symbol as of_symbol, Choice as of_choice}
use Rattle.kc_solver.specs.Solutions.{Solves, FitsUsers}
use Rattle.kc_solver.proofs.Lists.{get-some, each_set}
use Rattle.kc_solver.proofs.OneSolution as solving
use Rattle.kc_rules_model.specs.declared.values.UnitValue.TheVariants.{Tri as TriValue, Text as TextValue, Member as MemberValue}
use Rattle.kc_rules_model.specs.Rule.{rule}
use Rattle.kc_rules_model.specs.Dependencies.{dependencies}
use Rattle.kc_rules_model.specs.Shapes.{user_fits, value_fits, tri_fits}
use Rattle.kc_rules_model.specs.checker.FrameLaw.{rules_frame}
use Rattle.kc_rules_model.proofs.FittingValues.{rules_fit}
use Rattle.kc_rules_model.proofs.OrderedTrees.{IsOrderedTree, ordered_tree}
use Rattle.kc_rules_model.specs.RuleLaws.{SolutionsFit as Law}

-- some value that fits, for each kind of unit
abbrev blank_of_kind : Kind → UnitValue
blank_of_kind Boolean = TriValue N
blank_of_kind Tristate = TriValue N
blank_of_kind Text = TextValue []
blank_of_kind Int = TextValue []
blank_of_kind Hex = TextValue []

abbrev blank_of_symbol : Option Symbol → UnitValue
blank_of_symbol None = TriValue N
blank_of_symbol (Some symbol) = blank_of_kind symbol.kind

abbrev blank_of : Tree → TreeUnit → UnitValue
blank_of tree (of_symbol s) = blank_of_symbol (slice_get tree.symbols s)
blank_of tree (of_choice c) = MemberValue None

kind_blank : (symbol : Symbol) (kind : Kind) → symbol.kind ≡ kind → symbol_value_fits (Some symbol) (blank_of_kind kind) ≡ true
kind_blank symbol Boolean e = ap (λ k. tri_fits k N) e
kind_blank symbol Tristate e = ap (λ k. tri_fits k N) e
kind_blank symbol Text e = ap (λ k. text_fits k []) e ∙ is_utf8-from_IsUtf8 [] IsUtf8-nil
kind_blank symbol Int e = ap (λ k. text_fits k []) e
kind_blank symbol Hex e = ap (λ k. text_fits k []) e

module _ (profile : Profile) (tree : Tree) (settled : IsOrderedTree tree) (users : List (Option UserValue))
    (fitting : FitsUsers (length tree.units) (λ u x. IsTrue (user_fits tree u x)) users) where
  abbrev Fits : ℕ → UnitValue → Type 0
  Fits u v = IsTrue (value_fits tree u v)

  blank_fits : (u : ℕ) (unit : TreeUnit) → slice_get tree.units u ≡ Some unit → unit_value_fits tree (Some unit) (blank_of tree unit) ≡ true
  blank_fits u (of_symbol s) e =
      let known = settled.consistent.symbol_units u s e in
      ap (λ o. symbol_value_fits o (blank_of_symbol o)) known.1 ∙ kind_blank known.0 known.0.kind refl
  blank_fits u (of_choice c) e = refl

  abbrev blanks : List UnitValue
  blanks = map (blank_of tree) tree.units

  blanks_fit : (u : ℕ) → u < length tree.units → IfSome (slice_get blanks u) (Fits u)
  unfolding value_fits
  blanks_fit u h =
      let unit = get-some tree.units u h in
      let at : slice_get blanks u ≡ Some (blank_of tree unit.0) = slice_get-map (blank_of tree) tree.units u ∙ ap (option_map (blank_of tree)) unit.1 in
      let fits : value_fits tree u (blank_of tree unit.0) ≡ true = ap (λ o. unit_value_fits tree o (blank_of tree unit.0)) unit.1
      ∙ blank_fits u unit.0 unit.1 in
      rw at fits

  abbrev Fitted : List UnitValue → Type 0
  Fitted values = (length values ≡ length tree.units) × ((u : ℕ) → u < length tree.units → IfSome (slice_get values u) (Fits u))

  step : (values : List UnitValue) (i u : ℕ) → slice_get settled.order i ≡ Some u → Fitted values
      → Fitted (set values u (rule profile tree u (user_of users u) values))
  step values i u at fits =
      let inside = settled.ordered.units i u at in
      each_set Fits values u (length tree.units) (rule profile tree u (user_of users u) values) fits.0 inside
      (rules_fit profile tree u (user_of users u) values settled.consistent inside (fitting.1 u inside) fits) fits.1

  fitted_below : (i : ℕ) → i ≤ length settled.order
      → (values : List UnitValue) × Fitted values × solving.SolvedBelow (rule profile tree) users settled.order values i
  fitted_below zero h = (blanks, (length-map tree.units (blank_of tree), blanks_fit), record { holds = λ k u below e. absurd (omega arith) })
  fitted_below (suc i) h =
      let before = fitted_below i (omega arith) in
      let place = get-some settled.order i (omega arith) in
      let more = solving.solved_more (length tree.units) (dependencies tree) (rule profile tree) (λ u x. IsTrue (user_fits tree u x)) settled.order
      settled.ordered (rules_frame profile tree) users fitting.1 before.0 i place.0 before.1.0 place.1 before.2 in (
        set before.0 place.0 (rule profile tree place.0 (user_of users place.0) before.0),
        step before.0 i place.0 place.1 before.1,
        (let e : i + 1 ≡ suc i = omega arith in rw e at more),
      )

  -- values that solve a fitting assignment fit their units
  pub solutions_fit : (values : List UnitValue) → Solves (length tree.units) (rule profile tree) users values
      → FitsValues (length tree.units) (λ u v. IsTrue (value_fits tree u v)) values
  solutions_fit values solved =
      let all = fitted_below (length settled.order) (omega arith) in
      let other = solving.solved_all (length tree.units) (dependencies tree) (rule profile tree) (λ u x. IsTrue (user_fits tree u x)) settled.order
      settled.ordered (rules_frame profile tree) users fitting.1 all.0 all.1.0 all.2 in
      let same : all.0 ≡ values = solving.unique (length tree.units) (dependencies tree) (rule profile tree) (λ u x. IsTrue (user_fits tree u x)) settled.order
      settled.ordered (rules_frame profile tree) users fitting.1 all.0 values other solved in
      subst (λ v. FitsValues (length tree.units) (λ u w. IsTrue (value_fits tree u w)) v) same all.1

-- in every consistent tree without a cycle, values that solve a fitting assignment fit their units
pub all_solutions_fit : Law
all_solutions_fit profile tree users values settled fitting solved = solutions_fit profile tree (ordered_tree tree settled) users fitting values solved
