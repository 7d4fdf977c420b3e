-- The kinds of faults of definitions and attributes.
use Rattle.std.specs.Prelude.{ℕ, slice_get, option_and_then, Bool, true, false, List, not, ◌&&◌, ◌||◌, Option, Some, None, is_none, is_some, if◌then◌else◌}
use Rattle.std.specs.List.{list_all}
use Rattle.kc_tokens.specs.declared.language.Language.{Language}
use Rattle.kc_tokens.specs.declared.language.Language.TheVariants.{Strict, Linux}
use Rattle.kc_statements.specs.between.StatementViews.{ReadAttribute}
use Rattle.kc_tree_model.specs.declared.statement.Attribute.TheVariants as attributes
use Rattle.kc_parser.specs.declared.listing.Group.{Group as CodeGroup}
use Rattle.kc_parser.specs.declared.listing.Line.{Line as CodeLine}
use Rattle.kc_value.specs.declared.value.Kind.{Kind}
use Rattle.kc_value.specs.declared.value.Kind.TheVariants.{Bool as Boolean}
use Rattle.kc_tree_model.specs.declared.fault.TreeKind.{TreeKind}
use Rattle.kc_tree_model.specs.declared.fault.TreeKind.TheVariants.{NoType, TypeConflict, SecondPrompt, DefaultShape, RangeType, SelectType, ChoiceMember, ChoiceDefault, ModulesType}
use Rattle.kc_tree_model.specs.Statements.{Attribute, type_of, prompt_of, default_of, range_of, is_modules}
use Rattle.kc_tree_model.specs.TreeFaults.{is_other_kind, kind_or_bool, is_shapeless}
use Rattle.kc_value.specs.Kinds.{is_number}
use Rattle.kc_checks.specs.declared.summary.SymbolSummary.{SymbolSummary}

-- whether a later definition of a choice member may have an attribute: a type without a prompt, `depends on`, `select`, `imply` or
-- help text
abbrev pub is_added_code : ReadAttribute → Bool
is_added_code (attributes.Typed k) = true
is_added_code (attributes.Depends id) = true
is_added_code (attributes.Select s) = true
is_added_code (attributes.Imply s) = true
is_added_code attributes.Help = true
is_added_code a = false

-- whether a later definition of a choice member may have the attribute of a line
abbrev pub is_added_line : CodeLine → Bool
is_added_line l = is_added_code l.attribute

-- whether a definition with these attribute lines may come after its symbol's definition as a choice member; `is_again` is set if
-- it is in the choice of its symbol's first definition
abbrev pub only_extends_member_code : Language → (is_member is_again : Bool) → List CodeLine → Bool
only_extends_member_code Strict is_member is_again ls = false
only_extends_member_code (Linux version) is_member is_again ls = (not is_member && list_all is_added_line ls) || is_again

-- the number of the choice that encloses the group of a number, if there is such a group and it is in a choice
abbrev pub choice_around : List CodeGroup → Option ℕ → Option ℕ
choice_around groups None = None
choice_around groups (Some i) = option_and_then (λ (g : CodeGroup). g.choice) (slice_get groups i)

-- the kind of the first fault of a symbol's definition, from the symbol's summary, where `is_misfit` is set if the definition is in
-- a choice and the symbol's type isn't one of a member; `None` without a fault
abbrev pub definition_kind : SymbolSummary → (is_misfit is_first is_modules may_follow : Bool) → Option TreeKind
definition_kind symbol_summary is_misfit is_first is_modules may_follow =
    if is_first && is_none (kind_or_bool symbol_summary.given (is_some symbol_summary.choice)) then Some NoType
    else if is_misfit || (not is_first && is_some symbol_summary.choice && not may_follow) then Some ChoiceMember
    else if is_first && is_modules && is_other_kind Boolean symbol_summary.given then Some ModulesType
    else None

-- the kind of the first fault of an attribute of a symbol with this type; `None` without a fault
abbrev pub typed_kind : Kind → (prompted is_modules_symbol is_wrong : Bool) → Attribute → Option TreeKind
typed_kind k prompted is_modules_symbol is_wrong a =
    if is_other_kind k (type_of a) then Some TypeConflict
    else if prompted && is_some (prompt_of a) then Some SecondPrompt
    else if is_shapeless k (default_of a) then Some DefaultShape
    else if is_some (range_of a) && not (is_number k) then Some RangeType
    else if is_wrong then Some SelectType
    else if is_modules a && not is_modules_symbol then Some ModulesType
    else None

-- the kind of the fault of a choice's attribute: a second prompt, or a default that is no member; `None` without a fault
abbrev pub choice_kind : (prompted is_no_member : Bool) → Attribute → Option TreeKind
choice_kind prompted is_no_member a =
    if prompted && is_some (prompt_of a) then Some SecondPrompt
    else if is_no_member then Some ChoiceDefault
    else None
