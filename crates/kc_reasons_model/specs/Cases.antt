-- What gives a unit its value.
use Rattle.std.specs.Prelude.{ℕ, Bool, false, not, ◌&&◌, ◌||◌, List, [], Option, Some, None, is_some, ℤ, pos, int_lt, slice_get, unwrap_or, find, if◌then◌else◌}
use Rattle.std.specs.Option.{option_map, option_and_then}
use Rattle.kc_value.specs.declared.tri.Tri.{Tri}
use Rattle.kc_value.specs.declared.tri.Tri.TheVariants.{N}
use Rattle.kc_value.specs.declared.value.Kind.{Kind}
use Rattle.kc_value.specs.declared.value.Kind.TheVariants.{Bool as Boolean, Tristate, Text as String, Int, Hex}
use Rattle.kc_value.specs.Number.{number_of_text, number_spelling}
use Rattle.kc_value.specs.Tri.{tri_or, y_for_m, is_n, is_m}
use Rattle.kc_expr.specs.Expr.{Operand}
use Rattle.kc_tree_model.specs.Trees.{Tree, Symbol, Choice, Default, Range, MemberDefault}
use Rattle.kc_tokens.specs.Languages.{is_linux_6_12}
use Rattle.kc_tree_model.specs.declared.ids.Unit.{Unit as TreeUnit}
use Rattle.kc_tree_model.specs.declared.ids.Unit.TheVariants.{Symbol as of_symbol, Choice as of_choice}
use Rattle.kc_rules_model.specs.declared.profile.Profile.{Profile}
use Rattle.kc_rules_model.specs.declared.profile.Profile.TheVariants.{Present, Classic}
use Rattle.kc_rules_model.specs.declared.values.UnitValue.{UnitValue}
use Rattle.kc_rules_model.specs.declared.values.UnitValue.TheVariants.{Tri as TriValue, Text as TextValue, Member as MemberValue}
use Rattle.kc_rules_model.specs.declared.values.UserValue.{UserValue}
use Rattle.kc_rules_model.specs.declared.values.MemberLine.{MemberLine}
use Rattle.kc_rules_model.specs.MemberLines.{is_listed, last_y, first_listed}
use Rattle.kc_value.specs.Kinds.{is_bool, is_tristate, is_text_kind}
use Rattle.kc_rules_model.specs.SymbolValues.{condition}
use Rattle.kc_rules_model.specs.Rule.{modules_value, visibility, is_visible, direct_dependency, selected, implied, active_default, default_tri, default_text, assigned_tri, assigned_text, assigned_member, assigned_lines, base, leaves_no_m, visible_text, active_range, user_number, bound, bound_text, is_visible_member, is_shown, default_member}
use Rattle.kc_reasons_model.specs.declared.cases.Case.{Case}
use Rattle.kc_reasons_model.specs.declared.cases.Case.TheVariants.{Tri as TriGiven, Text as TextGiven, Choice as ChoiceGiven}
use Rattle.kc_reasons_model.specs.declared.cases.TriCase.{TriCase}
use Rattle.kc_reasons_model.specs.declared.cases.TriCase.TheVariants.{User as UserTri, Visibility as VisibilityTri, Default as DefaultTri, Environment as EnvironmentTri, Imply as ImplyTri, Dependency as DependencyTri, Select as SelectTri, Nothing as NoTri}
use Rattle.kc_reasons_model.specs.declared.cases.Lift.{Lift}
use Rattle.kc_reasons_model.specs.declared.cases.Lift.TheVariants.{AsGiven, WithoutM, ImpliedY}
use Rattle.kc_reasons_model.specs.declared.cases.TextCase.{TextCase}
use Rattle.kc_reasons_model.specs.declared.cases.TextCase.TheVariants.{User as UserText, UserLowBound, UserHighBound, Default as DefaultText, Environment as EnvironmentText, NoNumber, LowBound, HighBound, Zero, Nothing as NoText}
use Rattle.kc_reasons_model.specs.declared.cases.ChoiceCase.{ChoiceCase}
use Rattle.kc_reasons_model.specs.declared.cases.ChoiceCase.TheVariants.{User as UserMember, Default as DefaultMember, First, FirstUnlisted, FirstListed, Optional, NoMember, NotShown}
use Rattle.kc_reasons_model.specs.Conjuncts.{below}

-- the value of the active default of a bool or tristate, `n` without one
abbrev pub default_value : Tree → List UnitValue → Symbol → Tri
default_value tree values symbol = default_tri tree values (active_default tree values symbol)

-- whether the direct dependency, and not what is implied, is the value: in the present profile where it is below the
-- larger of that and the default, in the classic one where it is `n` and there is no other value
abbrev pub limits_imply : Profile → (default implied direct : Tri) → Bool
limits_imply Present d i direct = not (is_n i) && below direct (tri_or d i)
limits_imply Classic d i direct = not (is_n i) && is_n direct && is_n d

-- by the active default, if there is one, which may be an `option env`
abbrev pub by_default : (has_default from_environment : Bool) → TriCase
by_default has env = if has then (if env then EnvironmentTri else DefaultTri) else NoTri

-- without a user value that counts: the direct dependency where it limits, what is implied above the default, else the
-- default; in the classic profile a direct dependency `n` takes away what is implied
abbrev pub unasked_tri : Profile → (has_default from_environment : Bool) → (default implied direct : Tri) → TriCase
unasked_tri Present has env d i direct = if limits_imply Present d i direct then DependencyTri
    else (if below d i then ImplyTri else by_default has env)
unasked_tri Classic has env d i direct = if limits_imply Classic d i direct then DependencyTri
    else (if below d i && not (is_n direct) then ImplyTri else by_default has env)

-- whether there is a default, and it is an `option env`
abbrev pub is_environment : Option Default → Bool
is_environment None = false
is_environment (Some d) = d.from_environment

abbrev pub unasked_case : Profile → Tree → Symbol → List UnitValue → TriCase
unasked_case profile tree symbol values =
    unasked_tri profile (is_some (active_default tree values symbol)) (is_environment (active_default tree values symbol)) (default_value tree values symbol)
    (implied tree values symbol) (direct_dependency tree values symbol)

-- a user value gives the value up to the visibility
abbrev pub asked_tri : (visibility asked : Tri) → TriCase
asked_tri v a = if below v a then VisibilityTri else UserTri

-- before what is selected
abbrev pub base_case : Profile → Tree → Symbol → Option Tri → List UnitValue → TriCase
base_case profile tree symbol None values = unasked_case profile tree symbol values
base_case profile tree symbol (Some a) values = if is_visible tree values symbol
    then asked_tri (visibility tree values symbol) a
    else unasked_case profile tree symbol values

-- what is selected gives the value where it is above all else
abbrev pub tri_case : Profile → Tree → Symbol → Option UserValue → List UnitValue → TriCase
tri_case profile tree symbol user values =
    if below (base profile tree values symbol (assigned_tri user)) (selected tree values symbol)
    then SelectTri
    else base_case profile tree symbol (assigned_tri user) values

-- what each case gives
abbrev pub given_by : TriCase → (asked visibility default implied direct selected : Tri) → Tri
given_by UserTri a v d i r s = a
given_by VisibilityTri a v d i r s = v
given_by DefaultTri a v d i r s = d
given_by EnvironmentTri a v d i r s = d
given_by ImplyTri a v d i r s = i
given_by DependencyTri a v d i r s = r
given_by SelectTri a v d i r s = s
given_by NoTri a v d i r s = N

-- the value that a case gives a symbol
abbrev pub given_tri : TriCase → Tree → Symbol → Option UserValue → List UnitValue → Tri
given_tri c tree symbol user values =
    given_by c (unwrap_or (assigned_tri user) N) (visibility tree values symbol) (default_value tree values symbol)
    (implied tree values symbol) (direct_dependency tree values symbol) (selected tree values symbol)

-- a bool has no `m`, nor has a tristate while `MODULES` is `n`
abbrev pub is_without_m : Tree → List UnitValue → Kind → Bool
is_without_m tree values kind = is_bool kind || (is_tristate kind && is_n (modules_value tree values))

-- why a given value is lifted, if it is
abbrev pub lift_of : Profile → Tree → Symbol → List UnitValue → Tri → Lift
lift_of profile tree symbol values t = if is_m t && is_without_m tree values symbol.kind then WithoutM
    else (if is_m t && leaves_no_m profile tree values symbol then ImpliedY else AsGiven)

-- what is made of a given value
abbrev pub lifted : Lift → Tri → Tri
lifted AsGiven t = t
lifted WithoutM t = y_for_m t
lifted ImpliedY t = y_for_m t

-- the case of a text that isn't the user's, before a range, by the active default
abbrev pub default_case : Option Default → TextCase
default_case None = NoText
default_case (Some d) = if d.from_environment then EnvironmentText else DefaultText

-- a string: the user's text where it is visible, else the default's
abbrev pub string_case : Tree → Symbol → Option UserValue → List UnitValue → TextCase
string_case tree symbol user values =
    if is_some (visible_text tree symbol user values) then UserText else default_case (active_default tree values symbol)

-- the number that the default represents
abbrev pub default_number : Tree → Symbol → List UnitValue → ℤ
default_number tree symbol values =
    unwrap_or (number_of_text symbol.kind (default_text tree values symbol)) (pos 0)

-- a number outside the range gives way to a bound: the case of the lower one, of the upper one, or of the number itself
abbrev pub bound_case : Tree → List UnitValue → Kind → Option Range → ℤ → (low high other : TextCase) → TextCase
bound_case tree values kind None n low high other = other
bound_case tree values kind (Some r) n low high other = if int_lt n (bound tree values kind r.low) then low
    else (if int_lt (bound tree values kind r.high) n then high else other)

-- without a default an int or hex has none, under the rules of Linux 6.12 the number 0; a default that isn't a number of the type
-- counts as empty
abbrev pub number_default_case : (linux_6_12 is_number : Bool) → Option Default → TextCase
number_default_case linux_6_12 is_number None = if linux_6_12 then Zero else NoText
number_default_case linux_6_12 is_number (Some d) = if is_number then default_case (Some d) else NoNumber

-- the number that the user's text represents
abbrev pub user_text_number : Symbol → Option UserValue → ℤ
user_text_number symbol user = unwrap_or (number_of_text symbol.kind (unwrap_or (assigned_text user) [])) (pos 0)

-- the text that the user's number gives, if it is visible and counts: within the active range its own; under the rules of Linux
-- 6.12 also that of the nearer bound, unless the lower bound is above the upper one
abbrev pub counted_text : Tree → Symbol → Option UserValue → List UnitValue → Option (List ℕ)
counted_text tree symbol user values =
    let number : List ℕ → ℤ = λ text. unwrap_or (number_of_text symbol.kind text) (pos 0) in
    let gives : List ℕ → Option (List ℕ) = λ text. user_number tree values symbol.kind (active_range tree values symbol) (number text) text in
    option_and_then gives (visible_text tree symbol user values)

-- what the user's text gives if it counts: of a string where it is visible, of an int or hex where its number counts too
abbrev pub text_that_counts : Tree → Symbol → Option UserValue → List UnitValue → Option (List ℕ)
text_that_counts tree symbol user values = if is_text_kind symbol.kind
    then visible_text tree symbol user values
    else counted_text tree symbol user values

-- an int or hex: the user's number where it counts, else the default's, each up to the range
abbrev pub number_case : Tree → Symbol → Option UserValue → List UnitValue → TextCase
number_case tree symbol user values = if is_some (counted_text tree symbol user values)
    then bound_case tree values symbol.kind (active_range tree values symbol) (user_text_number symbol user) UserLowBound UserHighBound UserText
    else bound_case tree values symbol.kind (active_range tree values symbol) (default_number tree symbol values) LowBound HighBound
    (number_default_case (is_linux_6_12 tree.language) (is_some (number_of_text symbol.kind (default_text tree values symbol))) (active_default tree values symbol))

-- the text of a bound of the active range, as a number gets it
abbrev pub text_of_bound : Tree → Symbol → List UnitValue → (Range → Operand) → List ℕ
text_of_bound tree symbol values side =
    unwrap_or (option_map (λ (r : Range). bound_text tree values symbol.kind (side r)) (active_range tree values symbol)) []

-- the text that each case gives
abbrev pub given_text : TextCase → Tree → Symbol → Option UserValue → List UnitValue → List ℕ
given_text UserText tree symbol user values = unwrap_or (assigned_text user) []
given_text UserLowBound tree symbol user values = text_of_bound tree symbol values (λ (r : Range). r.low)
given_text UserHighBound tree symbol user values = text_of_bound tree symbol values (λ (r : Range). r.high)
given_text DefaultText tree symbol user values = default_text tree values symbol
given_text EnvironmentText tree symbol user values = default_text tree values symbol
given_text NoNumber tree symbol user values = []
given_text LowBound tree symbol user values = text_of_bound tree symbol values (λ (r : Range). r.low)
given_text HighBound tree symbol user values = text_of_bound tree symbol values (λ (r : Range). r.high)
given_text Zero tree symbol user values = number_spelling symbol.kind (pos 0)
given_text NoText tree symbol user values = []

-- what is assigned to members one by one; nothing but under the rules of Linux 6.12
abbrev pub counted_lines : Tree → Option UserValue → List MemberLine
counted_lines tree user = if is_linux_6_12 tree.language then assigned_lines user else []

-- the user's member where it is visible; under the rules of Linux 6.12 the last visible one that has `y`
abbrev pub counted_member : Tree → Option UserValue → List UnitValue → Option ℕ
counted_member tree user values = if is_linux_6_12 tree.language
    then last_y (is_visible_member tree values) (assigned_lines user)
    else option_and_then (λ s. if is_visible_member tree values s then Some s else None) (assigned_member user)

-- the member of the first default that counts, if it is visible
abbrev pub member_by_default : Tree → Choice → List UnitValue → Option ℕ
member_by_default tree choice values =
    let counts : MemberDefault → Bool = λ d. not (is_n (condition tree values d.condition)) && is_visible_member tree values d.member in
    option_map (λ (d : MemberDefault). d.member) (find counts choice.defaults)

-- the first visible member
abbrev pub first_member : Tree → Choice → List UnitValue → Option ℕ
first_member tree choice values = find (is_visible_member tree values) choice.members

-- the first visible member to which nothing is assigned
abbrev pub first_unlisted : Tree → Choice → List MemberLine → List UnitValue → Option ℕ
first_unlisted tree choice lines values = find (λ s. is_visible_member tree values s && not (is_listed lines s)) choice.members

-- whether a member is selected only if the choice is shown: not under the rules of Linux 6.12
abbrev pub counts : Tree → Choice → List UnitValue → Bool
counts tree choice values = is_linux_6_12 tree.language || is_shown tree values choice

-- whether there is a default member and something is assigned to it
abbrev pub is_listed_default : List MemberLine → Option ℕ → Bool
is_listed_default lines None = false
is_listed_default lines (Some d) = is_listed lines d

-- without the user: none of an optional choice; else the first default's member, or else the first, each if it is visible
abbrev pub default_choice_case : (optional has_default has_first : Bool) → ChoiceCase
default_choice_case optional has_default has_first = if optional then Optional
    else (if has_default then DefaultMember else (if has_first then First else NoMember))

-- a choice that counts: the user's member; or else what it has without the user, but where that member has an `n`, the first to
-- which nothing is assigned, and without such a one the first that has `n`
abbrev pub choice_case : Tree → Choice → Option UserValue → List UnitValue → ChoiceCase
choice_case tree choice user values = if not (counts tree choice values) then NotShown
    else (if is_some (counted_member tree user values) then UserMember
    else (if is_listed_default (counted_lines tree user) (default_member tree choice values)
    then (if is_some (first_unlisted tree choice (counted_lines tree user) values) then FirstUnlisted else FirstListed)
    else default_choice_case choice.optional (is_some (member_by_default tree choice values)) (is_some (first_member tree choice values))))

-- the member that each case gives
abbrev pub given_member : ChoiceCase → Tree → Choice → Option UserValue → List UnitValue → Option ℕ
given_member UserMember tree choice user values = counted_member tree user values
given_member DefaultMember tree choice user values = member_by_default tree choice values
given_member First tree choice user values = first_member tree choice values
given_member FirstUnlisted tree choice user values = first_unlisted tree choice (counted_lines tree user) values
given_member FirstListed tree choice user values = first_listed (is_visible_member tree values) (counted_lines tree user)
given_member Optional tree choice user values = None
given_member NoMember tree choice user values = None
given_member NotShown tree choice user values = None

-- the case of a symbol outside choices, by its type
abbrev pub symbol_case : Kind → Profile → Tree → Symbol → Option UserValue → List UnitValue → Case
symbol_case Boolean profile tree symbol user values =
    let c = tri_case profile tree symbol user values in
    TriGiven c (lift_of profile tree symbol values (given_tri c tree symbol user values))
symbol_case Tristate profile tree symbol user values =
    let c = tri_case profile tree symbol user values in
    TriGiven c (lift_of profile tree symbol values (given_tri c tree symbol user values))
symbol_case String profile tree symbol user values = TextGiven (string_case tree symbol user values)
symbol_case Int profile tree symbol user values = TextGiven (number_case tree symbol user values)
symbol_case Hex profile tree symbol user values = TextGiven (number_case tree symbol user values)

-- a unit that isn't there is given nothing
abbrev pub case_of_symbol : Profile → Tree → Option Symbol → Option UserValue → List UnitValue → Case
case_of_symbol profile tree None user values = TriGiven NoTri AsGiven
case_of_symbol profile tree (Some symbol) user values = symbol_case symbol.kind profile tree symbol user values

abbrev pub case_of_choice : Tree → Option Choice → Option UserValue → List UnitValue → Case
case_of_choice tree None user values = TriGiven NoTri AsGiven
case_of_choice tree (Some choice) user values = ChoiceGiven (choice_case tree choice user values)

abbrev pub case_of_unit : Profile → Tree → Option TreeUnit → Option UserValue → List UnitValue → Case
case_of_unit profile tree (Some (of_symbol s)) user values =
    case_of_symbol profile tree (slice_get tree.symbols s) user values
case_of_unit profile tree (Some (of_choice c)) user values =
    case_of_choice tree (slice_get tree.choices c) user values
case_of_unit profile tree None user values = TriGiven NoTri AsGiven

-- the case of unit u with this user value, or with none
unfoldable pub case_of : Profile → Tree → ℕ → Option UserValue → List UnitValue → Case
case_of profile tree u user values = case_of_unit profile tree (slice_get tree.units u) user values

-- the value that a case gives a symbol, a choice and a unit
abbrev pub given_to_symbol : Case → Tree → Option Symbol → Option UserValue → List UnitValue → UnitValue
given_to_symbol (TriGiven c lift) tree (Some symbol) user values = TriValue (lifted lift (given_tri c tree symbol user values))
given_to_symbol (TextGiven c) tree (Some symbol) user values = TextValue (given_text c tree symbol user values)
given_to_symbol _ tree _ user values = TriValue N

abbrev pub given_to_choice : Case → Tree → Option Choice → Option UserValue → List UnitValue → UnitValue
given_to_choice (ChoiceGiven c) tree (Some choice) user values = MemberValue (given_member c tree choice user values)
given_to_choice _ tree _ user values = TriValue N

abbrev pub given_to_unit : Case → Tree → Option TreeUnit → Option UserValue → List UnitValue → UnitValue
given_to_unit case tree (Some (of_symbol s)) user values = given_to_symbol case tree (slice_get tree.symbols s) user values
given_to_unit case tree (Some (of_choice c)) user values = given_to_choice case tree (slice_get tree.choices c) user values
given_to_unit case tree None user values = TriValue N

unfoldable pub given : Case → Tree → ℕ → Option UserValue → List UnitValue → UnitValue
given case tree u user values = given_to_unit case tree (slice_get tree.units u) user values
