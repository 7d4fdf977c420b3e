-- The claim of a case: what it means that a unit has its value by this case.
use Rattle.std.specs.Prelude.{ℕ, Bool, true, false, not, ◌&&◌, ◌||◌, List, Option, Some, None, is_some, is_none, int_lt, slice_get, unwrap_or}
use Rattle.std.specs.Option.{option_map}
use Rattle.kc_value.specs.declared.tri.Tri.{Tri}
use Rattle.kc_value.specs.declared.tri.Tri.TheVariants.{N}
use Rattle.kc_value.specs.Number.{number_of_text}
use Rattle.kc_value.specs.Kinds.{is_text_kind}
use Rattle.kc_tokens.specs.Languages.{is_linux_6_12}
use Rattle.kc_value.specs.Tri.{tri_or, is_n, is_m}
use Rattle.kc_tree_model.specs.Trees.{Tree, Symbol, Choice, Range}
use Rattle.kc_tree_model.specs.declared.ids.Unit.{Unit as TreeUnit}
use Rattle.kc_tree_model.specs.declared.ids.Unit.TheVariants.{Symbol as of_symbol, Choice as of_choice}
use Rattle.kc_rules_model.specs.declared.profile.Profile.{Profile}
use Rattle.kc_rules_model.specs.declared.values.UnitValue.{UnitValue}
use Rattle.kc_rules_model.specs.declared.values.UserValue.{UserValue}
use Rattle.kc_rules_model.specs.Rule.{visibility, is_visible, implied, direct_dependency, selected, active_default, default_text, assigned_tri, leaves_no_m, active_range, is_within, bound, default_member}
use Rattle.kc_reasons_model.specs.declared.cases.Case.{Case}
use Rattle.kc_reasons_model.specs.declared.cases.Case.TheVariants.{Tri as TriGiven, Text as TextGiven, Choice as ChoiceGiven}
use Rattle.kc_reasons_model.specs.declared.cases.TriCase.{TriCase}
use Rattle.kc_reasons_model.specs.declared.cases.TriCase.TheVariants.{User as UserTri, Visibility as VisibilityTri, Default as DefaultTri, Environment as EnvironmentTri, Imply as ImplyTri, Dependency as DependencyTri, Select as SelectTri, Nothing as NoTri}
use Rattle.kc_reasons_model.specs.declared.cases.Lift.{Lift}
use Rattle.kc_reasons_model.specs.declared.cases.Lift.TheVariants.{AsGiven, WithoutM, ImpliedY}
use Rattle.kc_reasons_model.specs.declared.cases.TextCase.{TextCase}
use Rattle.kc_reasons_model.specs.declared.cases.TextCase.TheVariants.{User as UserText, UserLowBound, UserHighBound, Default as DefaultText, Environment as EnvironmentText, NoNumber, LowBound, HighBound, Zero, Nothing as NoText}
use Rattle.kc_reasons_model.specs.declared.cases.ChoiceCase.{ChoiceCase}
use Rattle.kc_reasons_model.specs.declared.cases.ChoiceCase.TheVariants.{User as UserMember, Default as DefaultMember, First, FirstUnlisted, FirstListed, Optional, NoMember, NotShown}
use Rattle.kc_reasons_model.specs.Conjuncts.{below}
use Rattle.kc_reasons_model.specs.Cases.{default_value, given_by, given_tri, is_without_m, is_environment, default_number, user_text_number, text_that_counts, counts, counted_lines, counted_member, is_listed_default, member_by_default, first_member, first_unlisted}

-- the claim for a bool or tristate, where `counted` is whether it is visible and has a user value, and `env` whether the default is
-- an `option env`
abbrev pub tri_claim : TriCase → (counted has_default env : Bool) → (asked visibility default implied direct selected : Tri) → Bool
tri_claim UserTri counted has_default env a v d i r s = counted && not (below v a)
tri_claim VisibilityTri counted has_default env a v d i r s = counted && below v a
tri_claim DefaultTri counted has_default env a v d i r s = not counted && (has_default && not env)
tri_claim EnvironmentTri counted has_default env a v d i r s = not counted && (has_default && env)
tri_claim ImplyTri counted has_default env a v d i r s = not counted && below d i
tri_claim DependencyTri counted has_default env a v d i r s = not counted && (not (is_n i) && below r (tri_or d i))
tri_claim SelectTri counted has_default env a v d i r s = not (is_n s)
tri_claim NoTri counted has_default env a v d i r s = not counted && (not has_default && is_n i)

-- whether a user value is there that counts
abbrev pub is_counted : Tree → Symbol → Option UserValue → List UnitValue → Bool
is_counted tree symbol user values = is_some (assigned_tri user) && is_visible tree values symbol

-- the claim of a case for a bool or tristate; also, no more is selected than the case gives
abbrev pub claims_of_tri : TriCase → Tree → Symbol → Option UserValue → List UnitValue → Bool
claims_of_tri c tree symbol user values =
    let a = unwrap_or (assigned_tri user) N in
    let v = visibility tree values symbol in
    let d = default_value tree values symbol in
    let i = implied tree values symbol in
    let r = direct_dependency tree values symbol in
    let s = selected tree values symbol in
    tri_claim c (is_counted tree symbol user values) (is_some (active_default tree values symbol)) (is_environment (active_default tree values symbol)) a v d i r s
    && not (below (given_by c a v d i r s) s)

-- why an `m` became `y`
abbrev pub claims_of_lift : Lift → Profile → Tree → Symbol → Tri → List UnitValue → Bool
claims_of_lift AsGiven profile tree symbol t values = true
claims_of_lift WithoutM profile tree symbol t values = is_m t && is_without_m tree values symbol.kind
claims_of_lift ImpliedY profile tree symbol t values = is_m t && leaves_no_m profile tree values symbol

-- whether something holds of the active range
abbrev pub of_range : Tree → Symbol → List UnitValue → (Range → Bool) → Bool
of_range tree symbol values test = unwrap_or (option_map test (active_range tree values symbol)) false

-- of a string, int or hex
abbrev pub claims_of_text : TextCase → Tree → Symbol → Option UserValue → List UnitValue → Bool
claims_of_text UserText tree symbol user values = is_some (text_that_counts tree symbol user values)
    && (is_text_kind symbol.kind || is_within tree values symbol.kind (active_range tree values symbol) (user_text_number symbol user))
claims_of_text UserLowBound tree symbol user values = is_some (text_that_counts tree symbol user values) && (is_linux_6_12 tree.language
    && of_range tree symbol values (λ r. int_lt (user_text_number symbol user) (bound tree values symbol.kind r.low)))
claims_of_text UserHighBound tree symbol user values = is_some (text_that_counts tree symbol user values) && (is_linux_6_12 tree.language
    && of_range tree symbol values (λ r. int_lt (bound tree values symbol.kind r.high) (user_text_number symbol user)))
claims_of_text DefaultText tree symbol user values = is_none (text_that_counts tree symbol user values)
    && (is_some (active_default tree values symbol) && not (is_environment (active_default tree values symbol)))
claims_of_text EnvironmentText tree symbol user values = is_none (text_that_counts tree symbol user values)
    && is_environment (active_default tree values symbol)
claims_of_text Zero tree symbol user values = is_none (text_that_counts tree symbol user values)
    && (is_linux_6_12 tree.language && is_none (active_default tree values symbol))
claims_of_text NoNumber tree symbol user values = is_none (text_that_counts tree symbol user values)
    && (is_some (active_default tree values symbol) && is_none (number_of_text symbol.kind (default_text tree values symbol)))
claims_of_text LowBound tree symbol user values = is_none (text_that_counts tree symbol user values)
    && of_range tree symbol values (λ r. int_lt (default_number tree symbol values) (bound tree values symbol.kind r.low))
claims_of_text HighBound tree symbol user values = is_none (text_that_counts tree symbol user values)
    && of_range tree symbol values (λ r. int_lt (bound tree values symbol.kind r.high) (default_number tree symbol values))
claims_of_text NoText tree symbol user values = is_none (text_that_counts tree symbol user values)
    && is_none (active_default tree values symbol)

-- no member is selected because of what the user assigns, but for what has an `n`
abbrev pub is_left : Tree → Choice → Option UserValue → List UnitValue → Bool
is_left tree choice user values = counts tree choice values && is_none (counted_member tree user values)

-- of a choice
abbrev pub claims_of_choice : ChoiceCase → Tree → Choice → Option UserValue → List UnitValue → Bool
claims_of_choice UserMember tree choice user values = counts tree choice values && is_some (counted_member tree user values)
claims_of_choice Optional tree choice user values = is_left tree choice user values && choice.optional
claims_of_choice DefaultMember tree choice user values = is_left tree choice user values
    && (not choice.optional && is_some (member_by_default tree choice values))
claims_of_choice First tree choice user values = is_left tree choice user values
    && (not choice.optional && (is_none (member_by_default tree choice values) && is_some (first_member tree choice values)))
claims_of_choice FirstUnlisted tree choice user values = is_left tree choice user values
    && (is_listed_default (counted_lines tree user) (default_member tree choice values) && is_some (first_unlisted tree choice (counted_lines tree user) values))
claims_of_choice FirstListed tree choice user values = is_left tree choice user values
    && (is_listed_default (counted_lines tree user) (default_member tree choice values) && is_none (first_unlisted tree choice (counted_lines tree user) values))
claims_of_choice NoMember tree choice user values = counts tree choice values && is_none (first_member tree choice values)
claims_of_choice NotShown tree choice user values = not (counts tree choice values)

-- of a symbol or choice that is there; another unit is given nothing
abbrev pub claims_of_symbol : Case → Profile → Tree → Option Symbol → Option UserValue → List UnitValue → Bool
claims_of_symbol c profile tree None user values = true
claims_of_symbol (TriGiven c lift) profile tree (Some symbol) user values = claims_of_tri c tree symbol user values
    && claims_of_lift lift profile tree symbol (given_tri c tree symbol user values) values
claims_of_symbol (TextGiven c) profile tree (Some symbol) user values = claims_of_text c tree symbol user values
claims_of_symbol (ChoiceGiven c) profile tree (Some symbol) user values = false

abbrev pub claims_of_choice_at : Case → Tree → Option Choice → Option UserValue → List UnitValue → Bool
claims_of_choice_at c tree None user values = true
claims_of_choice_at (ChoiceGiven c) tree (Some choice) user values = claims_of_choice c tree choice user values
claims_of_choice_at (TriGiven c lift) tree (Some choice) user values = false
claims_of_choice_at (TextGiven c) tree (Some choice) user values = false

abbrev pub claims_of_unit : Case → Profile → Tree → Option TreeUnit → Option UserValue → List UnitValue → Bool
claims_of_unit c profile tree (Some (of_symbol s)) user values = claims_of_symbol c profile tree (slice_get tree.symbols s) user values
claims_of_unit c profile tree (Some (of_choice k)) user values = claims_of_choice_at c tree (slice_get tree.choices k) user values
claims_of_unit c profile tree None user values = true

-- the claim of a case for unit u
unfoldable pub claims_hold : Case → Profile → Tree → ℕ → Option UserValue → List UnitValue → Bool
claims_hold c profile tree u user values = claims_of_unit c profile tree (slice_get tree.units u) user values
