-- Tests of whether a value or a user value fits a unit: it has the sort and the form that the unit's type asks for.
use Rattle.std.specs.Prelude.{ℕ, Bool, true, false, not, ◌&&◌, ◌||◌, List, Option, Some, None, is_some, length, ◌==◌, slice_get}
use Rattle.std.specs.List.{list_any, list_all}
use Rattle.std.specs.Str.{is_utf8}
use Rattle.kc_value.specs.declared.tri.Tri.{Tri}
use Rattle.kc_value.specs.declared.value.Kind.{Kind}
use Rattle.kc_value.specs.declared.value.Kind.TheVariants.{Bool as Boolean, Tristate, Text}
use Rattle.kc_tokens.specs.declared.language.Language.{Language}
use Rattle.kc_tokens.specs.Languages.{is_linux_6_12}
use Rattle.kc_tree_model.specs.Trees.{Tree, Symbol, Choice}
use Rattle.kc_tree_model.specs.declared.ids.Unit.{Unit as TreeUnit}
use Rattle.kc_tree_model.specs.declared.ids.Unit.TheVariants.{Symbol as of_symbol, Choice as of_choice}
use Rattle.kc_value.specs.Lines.{has_newline}
use Rattle.kc_value.specs.Tri.{is_m}
use Rattle.kc_rules_model.specs.declared.values.UnitValue.{UnitValue}
use Rattle.kc_rules_model.specs.declared.values.UnitValue.TheVariants.{Tri as TriValue, Text as TextValue, Member as MemberValue}
use Rattle.kc_rules_model.specs.declared.values.UserValue.{UserValue}
use Rattle.kc_rules_model.specs.declared.values.UserValue.TheVariants.{Tri as TriUser, Text as TextUser, Member as MemberUser, Lines as LinesUser}
use Rattle.kc_rules_model.specs.declared.values.MemberLine.{MemberLine}
use Rattle.kc_value.specs.Number.{number_of_text}

-- whether the value `n`, `m` or `y` fits a symbol of this type: each fits a tristate, all but `m` a bool, none another type
abbrev pub tri_fits : Kind → Tri → Bool
tri_fits Boolean t = not (is_m t)
tri_fits Tristate t = true
tri_fits _ t = false

-- whether a text is one line of UTF-8, that is, has no newline and is valid UTF-8
abbrev pub is_line : List ℕ → Bool
is_line text = not (has_newline text) && is_utf8 text

-- whether a text fits a symbol of this type as a user value: for a string one line of UTF-8, for an int or hex a number
abbrev pub user_text_fits : Kind → List ℕ → Bool
user_text_fits Text text = is_line text
user_text_fits kind text = is_some (number_of_text kind text)

-- whether a user value fits a symbol: a tristate for a bool or tristate, a text for the other types; nothing fits without a
-- symbol
abbrev pub symbol_user_fits : Option Symbol → UserValue → Bool
symbol_user_fits (Some symbol) (TriUser t) = tri_fits symbol.kind t
symbol_user_fits (Some symbol) (TextUser text) = user_text_fits symbol.kind text
symbol_user_fits _ _ = false

-- whether the symbol of this number is a member of the choice; not without a choice
abbrev pub is_member : Option Choice → ℕ → Bool
is_member None s = false
is_member (Some choice) s = list_any (λ m. m == s) choice.members

-- whether a user value fits a choice: it is a member of the choice, or under the rules of Linux 6.12 a list of assignments of its
-- members; nothing fits without a choice
abbrev pub choice_user_fits : Language → Option Choice → UserValue → Bool
choice_user_fits language choice (MemberUser s) = not (is_linux_6_12 language) && is_member choice s
choice_user_fits language choice (LinesUser lines) = is_linux_6_12 language && list_all (λ (l : MemberLine). is_member choice l.member) lines
choice_user_fits language choice _ = false

-- whether a user value fits a unit, which is a symbol or a choice; nothing fits without a unit
abbrev pub unit_user_fits : Tree → Option TreeUnit → UserValue → Bool
unit_user_fits tree None x = false
unit_user_fits tree (Some (of_symbol s)) x = symbol_user_fits (slice_get tree.symbols s) x
unit_user_fits tree (Some (of_choice c)) x = choice_user_fits tree.language (slice_get tree.choices c) x

-- whether a user value fits unit u: it has the sort and the form that the unit's type asks for
unfoldable pub user_fits : Tree → ℕ → UserValue → Bool
user_fits tree u x = unit_user_fits tree (slice_get tree.units u) x

-- whether a text fits a symbol of this type as a value: for a string one line of UTF-8, for an int or hex a number or nothing
abbrev pub text_fits : Kind → List ℕ → Bool
text_fits Boolean text = false
text_fits Tristate text = false
text_fits Text text = is_line text
text_fits kind text = (length text == 0) || is_some (number_of_text kind text)

-- whether a value fits a symbol: a tristate for a bool or tristate, a text for the other types; nothing fits without a symbol
abbrev pub symbol_value_fits : Option Symbol → UnitValue → Bool
symbol_value_fits (Some symbol) (TriValue t) = tri_fits symbol.kind t
symbol_value_fits (Some symbol) (TextValue text) = text_fits symbol.kind text
symbol_value_fits _ _ = false

-- whether a value fits a choice: it is a member of the choice, or no member is selected
abbrev pub choice_value_fits : Option Choice → UnitValue → Bool
choice_value_fits choice (MemberValue None) = true
choice_value_fits choice (MemberValue (Some s)) = is_member choice s
choice_value_fits choice _ = false

-- whether a value fits a unit, which is a symbol or a choice; nothing fits without a unit
abbrev pub unit_value_fits : Tree → Option TreeUnit → UnitValue → Bool
unit_value_fits tree None x = false
unit_value_fits tree (Some (of_symbol s)) x = symbol_value_fits (slice_get tree.symbols s) x
unit_value_fits tree (Some (of_choice c)) x = choice_value_fits (slice_get tree.choices c) x

-- whether a value fits unit u: it has the sort and the form that the unit's type asks for
unfoldable pub value_fits : Tree → ℕ → UnitValue → Bool
value_fits tree u x = unit_value_fits tree (slice_get tree.units u) x
