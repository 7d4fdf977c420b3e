-- The value of a unit, from its user value or none and the values of all units. What is quoted in comments is a topic of
-- kconfig-language.rst, "Menu attributes" and "Menu entries".
use Rattle.std.specs.Prelude.{ℕ, Bool, true, false, not, ◌&&◌, ◌||◌, List, [], ◌∷◌, Option, Some, None, is_some, is_none, ℤ, pos, int_lt, map, slice_get, unwrap_or, find, if◌then◌else◌}
use Rattle.std.specs.Option.{option_map, option_and_then, option_or}
use Rattle.std.specs.List.{list_any}
use Rattle.kc_value.specs.declared.tri.Tri.{Tri}
use Rattle.kc_value.specs.declared.tri.Tri.TheVariants.{N}
use Rattle.kc_value.specs.declared.value.Kind.{Kind}
use Rattle.kc_value.specs.declared.value.Kind.TheVariants.{Bool as Boolean, Tristate, Text}
use Rattle.kc_value.specs.Tri.{tri_and, tri_or, is_n, y_for_m, largest, is_y}
use Rattle.kc_tokens.specs.declared.language.Language.{Language}
use Rattle.kc_tokens.specs.Languages.{is_linux_6_12}
use Rattle.kc_expr.specs.Expr.{Expr, alone, Operand, operand_text, symbol_tri, modules}
use Rattle.kc_tree_model.specs.Trees.{Tree, Symbol, Choice, Default, Range, ReverseDependency, MemberDefault}
use Rattle.kc_tree_model.specs.declared.ids.Unit.{Unit as TreeUnit}
use Rattle.kc_tree_model.specs.declared.ids.Unit.TheVariants.{Symbol as of_symbol, Choice as of_choice}
use Rattle.kc_rules_model.specs.declared.profile.Profile.{Profile}
use Rattle.kc_rules_model.specs.declared.profile.Profile.TheVariants.{Present, Classic}
use Rattle.kc_rules_model.specs.declared.values.UnitValue.{UnitValue}
use Rattle.kc_rules_model.specs.declared.values.UnitValue.TheVariants.{Tri as TriValue, Text as TextValue, Member as MemberValue}
use Rattle.kc_rules_model.specs.declared.values.UserValue.{UserValue}
use Rattle.kc_rules_model.specs.declared.values.UserValue.TheVariants.{Tri as TriUser, Text as TextUser, Member as MemberUser, Lines as LinesUser}
use Rattle.kc_rules_model.specs.declared.values.MemberLine.{MemberLine}
use Rattle.kc_value.specs.Kinds.{is_bool, is_tristate}
use Rattle.kc_value.specs.Number.{number_of_text, number_spelling}
use Rattle.kc_rules_model.specs.MemberLines.{selected_by_lines}
use Rattle.kc_rules_model.specs.SymbolValues.{environment, value_of_symbol, condition}

-- the value of the symbol `MODULES`; `n` if it is undefined ("modules")
abbrev pub modules_value : Tree → List UnitValue → Tri
modules_value tree values = symbol_tri (environment tree values modules)

-- a tristate value as a symbol of this type can have it: `m` becomes `y` for a bool, and for a tristate while `MODULES` is `n`
abbrev pub promoted : Tree → List UnitValue → Kind → Tri → Tri
promoted tree values kind t = if is_bool kind || (is_tristate kind && is_n (modules_value tree values))
    then y_for_m t
    else t

-- the value of each of some expressions, in their order
abbrev pub conditions : Tree → List UnitValue → List Expr → List Tri
conditions tree values [] = []
conditions tree values (e ∷ es) = condition tree values e ∷ conditions tree values es

-- whether a symbol has an `option env`
abbrev pub is_from_environment : Symbol → Bool
is_from_environment symbol = list_any (λ (d : Default). d.from_environment) symbol.defaults

-- the prompts of a symbol that count: none of a symbol with an `option env`, which is never visible
abbrev pub counted_prompts : Symbol → List Expr
counted_prompts symbol = if is_from_environment symbol then [] else symbol.prompts

-- the visibility of a symbol: the largest of the conditions of its prompts, where `m` becomes `y` if the symbol can't be `m`
-- ("input prompt")
abbrev pub visibility : Tree → List UnitValue → Symbol → Tri
visibility tree values symbol = promoted tree values symbol.kind (largest (conditions tree values (counted_prompts symbol)))

-- whether a symbol is visible: its visibility isn't `n`
abbrev pub is_visible : Tree → List UnitValue → Symbol → Bool
is_visible tree values symbol = not (is_n (visibility tree values symbol))

-- the direct dependency of a symbol: the largest of the dependencies of its definitions, `depends on` joined with enclosing
-- conditions ("dependencies")
abbrev pub direct_dependency : Tree → List UnitValue → Symbol → Tri
direct_dependency tree values symbol = largest (conditions tree values symbol.direct)

-- the lower limit from one select or imply: the value of the symbol that has it, at most the value of its condition
abbrev pub reverse_dependency_value : Tree → List UnitValue → ReverseDependency → Tri
reverse_dependency_value tree values f = tri_and (symbol_tri (value_of_symbol tree values f.by)) (condition tree values f.condition)

-- the lower limit from each of some selects or implies, in their order
abbrev pub reverse_dependency_limit : Tree → List UnitValue → List ReverseDependency → List Tri
reverse_dependency_limit tree values = map (reverse_dependency_value tree values)

-- the lower limit for a symbol's value from the `select`s that name it, without regard to dependencies ("reverse dependencies")
abbrev pub selected : Tree → List UnitValue → Symbol → Tri
selected tree values symbol = largest (reverse_dependency_limit tree values symbol.selectors)

-- the lower limit for a symbol's value from the `imply`s that name it ("weak reverse dependencies")
abbrev pub implied : Tree → List UnitValue → Symbol → Tri
implied tree values symbol = largest (reverse_dependency_limit tree values symbol.impliers)

-- the default of a symbol that counts: the first whose condition isn't `n`, if there is one ("default value")
abbrev pub active_default : Tree → List UnitValue → Symbol → Option Default
active_default tree values symbol =
    find (λ (d : Default). not (is_n (condition tree values d.condition))) symbol.defaults

-- the value of a default of a bool or tristate, at most the value of its condition; `n` without a default
abbrev pub default_tri : Tree → List UnitValue → Option Default → Tri
default_tri tree values None = N
default_tri tree values (Some d) = tri_and (condition tree values d.value) (condition tree values d.condition)

-- the text of a default of a string, int or hex: that of its one operand; empty if it isn't one operand
abbrev pub expression_text : Tree → List UnitValue → Expr → List ℕ
expression_text tree values (alone a) = operand_text (environment tree values) a
expression_text tree values _ = []

-- the text of the first default of a symbol whose condition isn't `n`; empty without one
abbrev pub default_text : Tree → List UnitValue → Symbol → List ℕ
default_text tree values symbol =
    unwrap_or (option_map (λ (d : Default). expression_text tree values d.value) (active_default tree values symbol)) []

-- the tristate of a user value, if there is a user value and it is a tristate
abbrev pub assigned_tri : Option UserValue → Option Tri
assigned_tri (Some (TriUser t)) = Some t
assigned_tri _ = None

-- the text of a user value, if there is a user value and it is a text
abbrev pub assigned_text : Option UserValue → Option (List ℕ)
assigned_text (Some (TextUser text)) = Some text
assigned_text _ = None

-- the number of the member of a user value, if there is a user value and it is a choice's member
abbrev pub assigned_member : Option UserValue → Option ℕ
assigned_member (Some (MemberUser member)) = Some member
assigned_member _ = None

-- what a user value assigns to members of a choice; nothing if there is no user value, or another one
abbrev pub assigned_lines : Option UserValue → List MemberLine
assigned_lines (Some (LinesUser lines)) = lines
assigned_lines _ = []

-- the lower limit for a symbol's value from the `imply`s that name it; `n` while its direct dependency is `n`
abbrev pub implied_effect : Tree → List UnitValue → Symbol → Tri
implied_effect tree values symbol = if is_n (direct_dependency tree values symbol)
    then N
    else implied tree values symbol

-- the value of a bool or tristate without regard to user values and selects: from its default and the implies that name it,
-- joined as the profile says
abbrev pub unassigned_value : Profile → Tree → List UnitValue → Symbol → Tri
unassigned_value Present tree values symbol =
    let d = default_tri tree values (active_default tree values symbol) in
    let i = implied tree values symbol in
    if is_n i then d else tri_and (tri_or d i) (direct_dependency tree values symbol)
unassigned_value Classic tree values symbol =
    tri_or (default_tri tree values (active_default tree values symbol)) (implied_effect tree values symbol)

-- the value of a bool or tristate without regard to selects: its user value, at most its visibility, if it has one and is
-- visible; otherwise from its default and the implies that name it
abbrev pub base : Profile → Tree → List UnitValue → Symbol → Option Tri → Tri
base profile tree values symbol None = unassigned_value profile tree values symbol
base profile tree values symbol (Some a) = if is_visible tree values symbol
    then tri_and a (visibility tree values symbol)
    else unassigned_value profile tree values symbol

-- whether `m` becomes `y` in the value of a symbol because `y` is implied; only in the profile `Classic`
abbrev pub leaves_no_m : Profile → Tree → List UnitValue → Symbol → Bool
leaves_no_m Present tree values symbol = false
leaves_no_m Classic tree values symbol = is_y (implied_effect tree values symbol)

-- the value of a bool or tristate outside choices, from its user value or none and the values of all units
abbrev pub tri_rule : Profile → Tree → Symbol → Option UserValue → List UnitValue → Tri
tri_rule profile tree symbol user values =
    let b = base profile tree values symbol (assigned_tri user) in
    let t = promoted tree values symbol.kind (tri_or b (selected tree values symbol)) in
    if leaves_no_m profile tree values symbol then y_for_m t else t

-- the text that a user assigns to a symbol, if there is one and the symbol is visible
abbrev pub visible_text : Tree → Symbol → Option UserValue → List UnitValue → Option (List ℕ)
visible_text tree symbol user values = if is_visible tree values symbol then assigned_text user else None

-- the value of a string: the user's text if the symbol is visible, otherwise the text of its default
abbrev pub string_rule : Tree → Symbol → Option UserValue → List UnitValue → List ℕ
string_rule tree symbol user values =
    unwrap_or (visible_text tree symbol user values) (default_text tree values symbol)

-- the range of a symbol that counts: the first whose condition isn't `n`, if there is one ("numerical ranges")
abbrev pub active_range : Tree → List UnitValue → Symbol → Option Range
active_range tree values symbol = find (λ (r : Range). not (is_n (condition tree values r.condition))) symbol.ranges

-- the number of a range's bound; 0 if its text isn't a number of the type
abbrev pub bound : Tree → List UnitValue → Kind → Operand → ℤ
bound tree values kind a = unwrap_or (number_of_text kind (operand_text (environment tree values) a)) (pos 0)

-- whether a number is within a range, whose bounds belong to it; every number is if there is no range
abbrev pub is_within : Tree → List UnitValue → Kind → Option Range → ℤ → Bool
is_within tree values kind None n = true
is_within tree values kind (Some r) n = not (int_lt n (bound tree values kind r.low))
    && not (int_lt (bound tree values kind r.high) n)

-- the text of a range's bound, as a number gets it: the spelling of the bound's number; under the rules of Linux 6.12 the
-- bound's own text, if that is a number of the type
abbrev pub bound_text : Tree → List UnitValue → Kind → Operand → List ℕ
bound_text tree values kind a =
    let text = operand_text (environment tree values) a in
    if is_linux_6_12 tree.language && is_some (number_of_text kind text) then text else number_spelling kind (bound tree values kind a)

-- the given text, whose number is given too, if the number is within the range; otherwise the text of the bound that it passes
abbrev pub clamped : Tree → List UnitValue → Kind → Option Range → ℤ → List ℕ → List ℕ
clamped tree values kind None n text = text
clamped tree values kind (Some r) n text =
    let low = bound tree values kind r.low in
    let high = bound tree values kind r.high in
    if int_lt n low then bound_text tree values kind r.low else (if int_lt high n then bound_text tree values kind r.high else text)

-- the text of an int or hex whose default isn't a number of the type, or that has no default: empty; under the rules of Linux
-- 6.12 the spelling of 0 if there is no default whose condition isn't `n`
abbrev pub text_without_number : Tree → List UnitValue → Symbol → List ℕ
text_without_number tree values symbol = if is_linux_6_12 tree.language && is_none (active_default tree values symbol)
    then number_spelling symbol.kind (pos 0)
    else []

-- the default of an int or hex, moved into its range; what isn't a number of the type counts as 0 for the range
abbrev pub number_default : Tree → List UnitValue → Symbol → List ℕ
number_default tree values symbol =
    let text = default_text tree values symbol in
    let range = active_range tree values symbol in
    if is_some (number_of_text symbol.kind text)
    then clamped tree values symbol.kind range (unwrap_or (number_of_text symbol.kind text) (pos 0)) text
    else clamped tree values symbol.kind range (pos 0) (text_without_number tree values symbol)

-- whether the lower bound of a range is above its upper one; not if there is no range
abbrev pub is_upside_down : Tree → List UnitValue → Kind → Option Range → Bool
is_upside_down tree values kind None = false
is_upside_down tree values kind (Some r) = int_lt (bound tree values kind r.high) (bound tree values kind r.low)

-- the text that a user's number, given with its text, gives: that text if the number is within the range, else none; under the
-- rules of Linux 6.12 the text of the bound that it passes, unless the lower bound is above the upper one
abbrev pub user_number : Tree → List UnitValue → Kind → Option Range → ℤ → List ℕ → Option (List ℕ)
user_number tree values kind range n text = if is_linux_6_12 tree.language
    then (if is_upside_down tree values kind range then None else Some (clamped tree values kind range n text))
    else (if is_within tree values kind range n then Some text else None)

-- the value of an int or hex: what the user's number gives if the symbol is visible, otherwise the default, moved into the range
abbrev pub number_rule : Tree → Symbol → Option UserValue → List UnitValue → List ℕ
number_rule tree symbol user values =
    let range = active_range tree values symbol in
    let number : List ℕ → ℤ = λ text. unwrap_or (number_of_text symbol.kind text) (pos 0) in
    let given : List ℕ → Option (List ℕ) = λ text. user_number tree values symbol.kind range (number text) text in
    let by_user = option_and_then given (visible_text tree symbol user values) in
    unwrap_or by_user (number_default tree values symbol)

-- the value of a symbol outside choices by its type, from its user value or none and the values of all units
abbrev pub symbol_rule : Kind → Profile → Tree → Symbol → Option UserValue → List UnitValue → UnitValue
symbol_rule Boolean profile tree symbol user values = TriValue (tri_rule profile tree symbol user values)
symbol_rule Tristate profile tree symbol user values = TriValue (tri_rule profile tree symbol user values)
symbol_rule Text profile tree symbol user values = TextValue (string_rule tree symbol user values)
symbol_rule _ profile tree symbol user values = TextValue (number_rule tree symbol user values)

-- whether the tree has a symbol of this number and it is visible
abbrev pub is_visible_member : Tree → List UnitValue → ℕ → Bool
is_visible_member tree values s = unwrap_or (option_map (is_visible tree values) (slice_get tree.symbols s)) false

-- whether a choice is shown: it has a prompt, whose condition isn't `n` ("choices")
abbrev pub is_shown : Tree → List UnitValue → Choice → Bool
is_shown tree values choice = unwrap_or (option_map (λ e. not (is_n (condition tree values e))) choice.prompt) false

-- the default member of a choice: that of the first default that counts, or else the first member, each only if it is visible;
-- none of an optional choice
abbrev pub default_member : Tree → Choice → List UnitValue → Option ℕ
default_member tree choice values =
    let seen : ℕ → Bool = is_visible_member tree values in
    let counts : MemberDefault → Bool = λ d. not (is_n (condition tree values d.condition)) && seen d.member in
    let by_default = option_map (λ (d : MemberDefault). d.member) (find counts choice.defaults) in
    if choice.optional then None else option_or by_default (find seen choice.members)

-- the selected member of a choice, if the choice is shown: the user's member if it is visible, otherwise the default member
abbrev pub shown_choice_rule : Tree → Choice → Option UserValue → List UnitValue → Option ℕ
shown_choice_rule tree choice user values =
    let by_user = option_and_then (λ s. if is_visible_member tree values s then Some s else None) (assigned_member user) in
    if is_shown tree values choice then option_or by_user (default_member tree choice values) else None

-- the selected member of a choice; under the rules of Linux 6.12 that which the user's assignments of members select, whether the
-- choice is shown or not
abbrev pub choice_rule : Tree → Choice → Option UserValue → List UnitValue → Option ℕ
choice_rule tree choice user values = if is_linux_6_12 tree.language
    then selected_by_lines (is_visible_member tree values) choice.members (default_member tree choice values) (assigned_lines user)
    else shown_choice_rule tree choice user values

-- the value of a symbol outside choices, from its user value or none and the values of all units; `n` without a symbol
abbrev pub rule_of_symbol : Profile → Tree → Option Symbol → Option UserValue → List UnitValue → UnitValue
rule_of_symbol profile tree None user values = TriValue N
rule_of_symbol profile tree (Some symbol) user values = symbol_rule symbol.kind profile tree symbol user values

-- the value of a choice, from its user value or none and the values of all units; `n` without a choice
abbrev pub rule_of_choice : Tree → Option Choice → Option UserValue → List UnitValue → UnitValue
rule_of_choice tree None user values = TriValue N
rule_of_choice tree (Some choice) user values = MemberValue (choice_rule tree choice user values)

-- the value of a unit, from its user value or none and the values of all units; `n` without a unit
abbrev pub rule_of_unit : Profile → Tree → Option TreeUnit → Option UserValue → List UnitValue → UnitValue
rule_of_unit profile tree (Some (of_symbol s)) user values =
    rule_of_symbol profile tree (slice_get tree.symbols s) user values
rule_of_unit profile tree (Some (of_choice c)) user values =
    rule_of_choice tree (slice_get tree.choices c) user values
rule_of_unit profile tree None user values = TriValue N

-- the rule of unit u: the value that it has with this user value, or with none, where the units have these values
unfoldable pub rule : Profile → Tree → ℕ → Option UserValue → List UnitValue → UnitValue
rule profile tree u user values = rule_of_unit profile tree (slice_get tree.units u) user values

-- the user value that assigns `y` to a member of a choice and nothing to others
abbrev pub member_user : Language → ℕ → UserValue
member_user language s = if is_linux_6_12 language
    then LinesUser (record { member = s; is_y = true } ∷ [])
    else MemberUser s

-- the user value that equals a value, in a language; a choice without a selected member has none
abbrev pub as_user : Language → UnitValue → Option UserValue
as_user language (TriValue t) = Some (TriUser t)
as_user language (TextValue text) = Some (TextUser text)
as_user language (MemberValue None) = None
as_user language (MemberValue (Some s)) = Some (member_user language s)
