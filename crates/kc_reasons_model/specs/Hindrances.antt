-- What hinders a user value that isn't the value.
use Rattle.std.specs.Prelude.{true, ℕ, Bool, false, not, ◌&&◌, ◌||◌, List, [], ◌∷◌, Option, Some, None, pos, find, ◌==◌, slice_get, unwrap_or, if◌then◌else◌}
use Rattle.std.specs.List.{list_any}
use Rattle.kc_value.specs.declared.tri.Tri.{Tri}
use Rattle.kc_value.specs.declared.tri.Tri.TheVariants.{M}
use Rattle.kc_value.specs.Number.{number_of_text}
use Rattle.kc_value.specs.Tri.{tri_or, is_n, is_m}
use Rattle.kc_tree_model.specs.Trees.{Tree, Symbol, Choice}
use Rattle.kc_tree_model.specs.declared.ids.Unit.{Unit as TreeUnit}
use Rattle.kc_tree_model.specs.declared.ids.Unit.TheVariants.{Symbol as of_symbol, Choice as of_choice}
use Rattle.kc_rules_model.specs.declared.profile.Profile.{Profile}
use Rattle.kc_rules_model.specs.declared.values.UnitValue.{UnitValue}
use Rattle.kc_rules_model.specs.declared.values.UnitValue.TheVariants.{Tri as TriValue, Text as TextValue, Member as MemberValue}
use Rattle.kc_rules_model.specs.declared.values.UserValue.{UserValue}
use Rattle.kc_rules_model.specs.declared.values.UserValue.TheVariants.{Tri as TriUser, Text as TextUser, Member as MemberUser, Lines as LinesUser}
use Rattle.kc_rules_model.specs.declared.values.MemberLine.{MemberLine}
use Rattle.kc_rules_model.specs.MemberLines.{last_y, first_listed}
use Rattle.kc_dotconfig_model.specs.MissedAssignments.{is_given_n, is_last_y}
use Rattle.kc_rules_model.specs.Equality.{same_value}
use Rattle.kc_rules_model.specs.Rule.{rule, selected, visibility, is_visible, leaves_no_m, is_shown, is_visible_member, active_range, is_within, is_upside_down, is_from_environment}
use Rattle.kc_reasons_model.specs.declared.cases.Hindrance.{Hindrance}
use Rattle.kc_reasons_model.specs.declared.cases.Hindrance.TheVariants.{BelowSelected, FromEnvironment, Hidden, AboveVisibility, Promoted, ImpliedY, UpsideDown, OutOfRange, ChoiceNotShown, MemberHidden, LaterY, FirstOfAll}
use Rattle.kc_reasons_model.specs.declared.cases.ChoiceCase.{ChoiceCase}
use Rattle.kc_reasons_model.specs.declared.cases.ChoiceCase.TheVariants.{FirstListed}
use Rattle.kc_reasons_model.specs.Conjuncts.{below}
use Rattle.kc_reasons_model.specs.Cases.{is_without_m, choice_case}

-- whether a hindrance holds of an assigned tristate, where `env` is whether the symbol has an `option env`
abbrev pub holds_of_tri : Hindrance → (asked visibility selected : Tri) → (env without_m no_m_left : Bool) → Bool
holds_of_tri BelowSelected a v s env without_m no_m_left = below a s
holds_of_tri FromEnvironment a v s env without_m no_m_left = env
holds_of_tri Hidden a v s env without_m no_m_left = is_n v
holds_of_tri AboveVisibility a v s env without_m no_m_left = not (is_n v) && below v a
holds_of_tri Promoted a v s env without_m no_m_left = is_m a && without_m
holds_of_tri ImpliedY a v s env without_m no_m_left = is_m a && no_m_left
holds_of_tri UpsideDown a v s env without_m no_m_left = false
holds_of_tri OutOfRange a v s env without_m no_m_left = false
holds_of_tri ChoiceNotShown a v s env without_m no_m_left = false
holds_of_tri MemberHidden a v s env without_m no_m_left = false
holds_of_tri LaterY a v s env without_m no_m_left = false
holds_of_tri FirstOfAll a v s env without_m no_m_left = false

abbrev pub hinders_tri : Hindrance → Profile → Tree → Symbol → Tri → List UnitValue → Bool
hinders_tri h profile tree symbol a values =
    holds_of_tri h a (visibility tree values symbol) (selected tree values symbol) (is_from_environment symbol) (is_without_m tree values symbol.kind)
    (leaves_no_m profile tree values symbol)

-- of an assigned text
abbrev pub holds_of_text : Hindrance → (env visible upside_down within : Bool) → Bool
holds_of_text FromEnvironment env visible upside_down within = env
holds_of_text Hidden env visible upside_down within = not visible
holds_of_text UpsideDown env visible upside_down within = visible && upside_down
holds_of_text OutOfRange env visible upside_down within = visible && not within
holds_of_text _ env visible upside_down within = false

abbrev pub hinders_text : Hindrance → Tree → Symbol → List ℕ → List UnitValue → Bool
hinders_text h tree symbol text values =
    holds_of_text h (is_from_environment symbol) (is_visible tree values symbol) (is_upside_down tree values symbol.kind (active_range tree values symbol))
    (is_within tree values symbol.kind (active_range tree values symbol) (unwrap_or (number_of_text symbol.kind text) (pos 0)))

-- of a choice's member
abbrev pub holds_of_member : Hindrance → (shown visible : Bool) → Bool
holds_of_member ChoiceNotShown shown visible = not shown
holds_of_member MemberHidden shown visible = shown && not visible
holds_of_member _ shown visible = false

abbrev pub hinders_member : Hindrance → Tree → Choice → ℕ → List UnitValue → Bool
hinders_member h tree choice s values =
    holds_of_member h (is_shown tree values choice) (is_visible_member tree values s)

-- whether assignments of members give a member `y`
abbrev pub is_given_y : List MemberLine → ℕ → Bool
is_given_y lines s = list_any (λ (l : MemberLine). (l.member == s) && l.is_y) lines

-- whether they ask that it be `n`
abbrev pub is_asked_n : List MemberLine → ℕ → Bool
is_asked_n lines s = is_given_n lines s && not (is_given_y lines s)

-- whether a member is there and is this one, or is another one
abbrev pub is_this : ℕ → Option ℕ → Bool
is_this s None = false
is_this s (Some m) = m == s

abbrev pub is_another : ℕ → Option ℕ → Bool
is_another s None = false
is_another s (Some m) = not (m == s)

-- whether a choice has its member as the first that has `n`
abbrev pub is_first_listed : ChoiceCase → Bool
is_first_listed FirstListed = true
is_first_listed _ = false

-- of what is assigned to member s by assignments of members: a `y` counts for nothing while the member isn't visible or another
-- visible one has a `y` that comes later, an `n` where it is the first and the choice has to have a member
abbrev pub hinders_listed : Hindrance → Tree → Choice → ℕ → List MemberLine → List UnitValue → Bool
hinders_listed MemberHidden tree choice s lines values = is_given_y lines s && not (is_visible_member tree values s)
hinders_listed LaterY tree choice s lines values = is_given_y lines s && is_another s (last_y (is_visible_member tree values) lines)
hinders_listed FirstOfAll tree choice s lines values = is_asked_n lines s
    && (is_first_listed (choice_case tree choice (Some (LinesUser lines)) values) && is_this s (first_listed (is_visible_member tree values) lines))
hinders_listed _ tree choice s lines values = false

abbrev pub hinders_symbol : Hindrance → Profile → Tree → Option Symbol → UserValue → List UnitValue → Bool
hinders_symbol h profile tree (Some symbol) (TriUser a) values = hinders_tri h profile tree symbol a values
hinders_symbol h profile tree (Some symbol) (TextUser text) values = hinders_text h tree symbol text values
hinders_symbol h profile tree _ _ values = false

abbrev pub hinders_choice : Hindrance → Tree → Option Choice → ℕ → UserValue → List UnitValue → Bool
hinders_choice h tree (Some choice) s (MemberUser m) values = hinders_member h tree choice m values
hinders_choice h tree (Some choice) s (LinesUser lines) values = hinders_listed h tree choice s lines values
hinders_choice h tree _ s _ values = false

abbrev pub hinders_unit : Hindrance → Profile → Tree → Option TreeUnit → ℕ → UserValue → List UnitValue → Bool
hinders_unit h profile tree (Some (of_symbol k)) s x values = hinders_symbol h profile tree (slice_get tree.symbols k) x values
hinders_unit h profile tree (Some (of_choice c)) s x values = hinders_choice h tree (slice_get tree.choices c) s x values
hinders_unit h profile tree None s x values = false

-- whether a hindrance holds of unit u and what its user value asks of symbol s
unfoldable pub hinders : Hindrance → Profile → Tree → (u s : ℕ) → UserValue → List UnitValue → Bool
hinders h profile tree u s x values = hinders_unit h profile tree (slice_get tree.units u) s x values

-- the hindrances in the order of the search: no visibility helps what is below a select, a symbol with an `option env` is never
-- visible, while a choice isn't shown no member is visible, and in a range that is upside down no number is
abbrev pub hindrances : List Hindrance
hindrances = BelowSelected ∷ FromEnvironment ∷ Hidden ∷ AboveVisibility ∷ Promoted ∷ ImpliedY ∷ UpsideDown ∷ OutOfRange ∷ ChoiceNotShown ∷ MemberHidden
    ∷ LaterY ∷ FirstOfAll ∷ []

-- whether a unit has what a user value asks of symbol s: of assignments of members, whether the member with `y` is selected, and
-- the one with `n` isn't; of any other, whether that is its value
abbrev pub is_as_asked : ℕ → UserValue → UnitValue → Bool
is_as_asked s (TriUser t) value = same_value value (TriValue t)
is_as_asked s (TextUser text) value = same_value value (TextValue text)
is_as_asked s (MemberUser m) value = same_value value (MemberValue (Some m))
is_as_asked s (LinesUser lines) value = if same_value value (MemberValue (Some s))
    then not (is_asked_n lines s)
    else not (is_given_y lines s)

-- what hinders that unit u has what its user value asks of symbol s, where it hasn't: the first that holds
abbrev pub hindrance_to : Profile → Tree → (u s : ℕ) → Option UserValue → List UnitValue → Option Hindrance
hindrance_to profile tree u s None values = None
hindrance_to profile tree u s (Some x) values = if is_as_asked s x (rule profile tree u (Some x) values)
    then None
    else find (λ h. hinders h profile tree u s x values) hindrances

-- whether a hindrance suffices: while it holds the unit hasn't what is asked, whatever the visibility and the defaults are
abbrev pub suffices : Hindrance → Bool
suffices BelowSelected = true
suffices Promoted = true
suffices ImpliedY = true
suffices ChoiceNotShown = true
suffices MemberHidden = true
suffices LaterY = true
suffices FirstOfAll = true
suffices _ = false

-- whether a unit's user value is about a symbol: of a choice's members it is about the user's alone; of assignments of members
-- about those with `n`, and that which comes last of those with `y`
abbrev pub is_about : Option ℕ → ℕ → Option UserValue → Bool
is_about None s user = true
is_about (Some c) s (Some (MemberUser member)) = member == s
is_about (Some c) s (Some (LinesUser lines)) = is_given_n lines s || is_last_y lines s
is_about (Some c) s _ = false

-- whether a user value gives symbol s both `y` and `n`; none does that is read from files, by the law `MembersHaveOneLine`
abbrev pub is_given_both : ℕ → Option UserValue → Bool
is_given_both s (Some (LinesUser lines)) = is_given_y lines s && is_given_n lines s
is_given_both s _ = false

-- the least that is wanted of a prompt's condition so that an assigned tristate counts in full: any value but `n`
-- where `m` counts as `y`
abbrev pub wanted_for : Tree → Symbol → Tri → List UnitValue → Tri
wanted_for tree symbol a values = if is_without_m tree values symbol.kind then M else tri_or M a
