-- The text that explains a symbol's value.
use Rattle.std.specs.Prelude.{ℕ, Bool, true, false, ◌&&◌, List, [], ◌∷◌, ◌++◌, flat_map, Option, Some, None, codes}
use Rattle.kc_value.specs.declared.tri.Tri.{Tri}
use Rattle.kc_value.specs.declared.tri.Tri.TheVariants.{M, Y}
use Rattle.kc_expr.specs.Expr.{Expr, Environment, value}
use Rattle.kc_expr.specs.Grammar.{ors}
use Rattle.kc_tree_model.specs.Trees.{Tree, Symbol, ReverseDependency}
use Rattle.kc_rules_model.specs.declared.values.UnitValue.{UnitValue}
use Rattle.kc_rules_model.specs.SymbolValues.{environment, value_of_symbol}
use Rattle.kc_dotconfig_model.specs.declared.format.Strings.{Strings}
use Rattle.kc_reasons_model.specs.declared.cases.Case.{Case}
use Rattle.kc_reasons_model.specs.declared.cases.Case.TheVariants.{Tri as TriGiven, Text as TextGiven, Choice as ChoiceGiven}
use Rattle.kc_reasons_model.specs.declared.cases.TriCase.{TriCase}
use Rattle.kc_reasons_model.specs.declared.cases.TriCase.TheVariants.{User as UserTri, Visibility as VisibilityTri, Default as DefaultTri, Environment as EnvironmentTri, Imply as ImplyTri, Dependency as DependencyTri, Select as SelectTri, Nothing as NoTri}
use Rattle.kc_reasons_model.specs.declared.cases.Lift.{Lift}
use Rattle.kc_reasons_model.specs.declared.cases.Lift.TheVariants.{AsGiven, WithoutM, ImpliedY}
use Rattle.kc_reasons_model.specs.declared.cases.TextCase.{TextCase}
use Rattle.kc_reasons_model.specs.declared.cases.TextCase.TheVariants.{User as UserText, UserLowBound, UserHighBound, Default as DefaultText, Environment as EnvironmentText, NoNumber, LowBound, HighBound, Zero, Nothing as NoText}
use Rattle.kc_reasons_model.specs.declared.cases.ChoiceCase.{ChoiceCase}
use Rattle.kc_reasons_model.specs.declared.cases.ChoiceCase.TheVariants.{User as UserMember, Default as DefaultMember, First, FirstUnlisted, FirstListed, Optional, NoMember, NotShown}
use Rattle.kc_reasons_model.specs.declared.cases.Hindrance.{Hindrance}
use Rattle.kc_reasons_model.specs.declared.cases.Hindrance.TheVariants.{BelowSelected, FromEnvironment, Hidden, AboveVisibility, Promoted, ImpliedY as NoMBesideY, UpsideDown, OutOfRange, ChoiceNotShown, MemberHidden, LaterY, FirstOfAll}
use Rattle.kc_reasons_model.specs.Conjuncts.{Part}
use Rattle.kc_reasons_model.specs.Reasons.{ValuedToken, valued_token, value_text, name_of_symbol, is_empty}
use Rattle.kc_reasons_model.specs.Spelling.{spelling}

abbrev pub in_parentheses : List ℕ → List ℕ
in_parentheses text = codes " (" ++ (text ++ codes ")")

-- a value, if there is one, in parentheses
abbrev pub value_in_parentheses : Option (List ℕ) → List ℕ
value_in_parentheses None = []
value_in_parentheses (Some v) = in_parentheses v

abbrev pub token_with_value : ValuedToken → List ℕ
token_with_value t = t.text ++ value_in_parentheses t.value

-- an expression, each name with its value: `A (n) = B (m)`
abbrev pub spelled_with_values : Strings → Environment → Expr → List ℕ
spelled_with_values strings names e = flat_map (λ t. token_with_value (valued_token strings names t)) (spelling ors e)

-- that `y` is wanted, where the part is `m`
abbrev pub wanted_text : (value wanted : Tri) → List ℕ
wanted_text M Y = codes " as y"
wanted_text v w = []

abbrev pub low_part_text : Strings → Environment → Part → List ℕ
low_part_text strings names p = spelled_with_values strings names p.expr ++ wanted_text (value names p.expr) p.wanted

-- a line below the first
abbrev pub inner_line : List ℕ → List ℕ
inner_line text = codes "  " ++ (text ++ 10 ∷ [])

abbrev pub tri_case_text : TriCase → List ℕ
tri_case_text UserTri = codes "by user"
tri_case_text VisibilityTri = codes "by user, up to the visibility"
tri_case_text DefaultTri = codes "default"
tri_case_text EnvironmentTri = codes "from the environment"
tri_case_text ImplyTri = codes "implied"
tri_case_text DependencyTri = codes "implied, up to the direct dependency"
tri_case_text SelectTri = codes "selected"
tri_case_text NoTri = codes "no default, not selected, not implied"

abbrev pub lift_text : Lift → List ℕ
lift_text AsGiven = []
lift_text WithoutM = codes ", m is y here"
lift_text ImpliedY = codes ", an implied y leaves no m"

abbrev pub text_case_text : TextCase → List ℕ
text_case_text UserText = codes "by user"
text_case_text UserLowBound = codes "by user, raised to the range"
text_case_text UserHighBound = codes "by user, lowered to the range"
text_case_text DefaultText = codes "default"
text_case_text EnvironmentText = codes "from the environment"
text_case_text NoNumber = codes "the default is no number"
text_case_text LowBound = codes "default, raised to the range"
text_case_text HighBound = codes "default, lowered to the range"
text_case_text Zero = codes "no default, so it is 0"
text_case_text NoText = codes "no default"

abbrev pub choice_case_text : ChoiceCase → List ℕ
choice_case_text UserMember = codes "chosen by user"
choice_case_text DefaultMember = codes "the choice's default"
choice_case_text First = codes "the choice's first visible member"
choice_case_text FirstUnlisted = codes "the choice's first visible member without n"
choice_case_text FirstListed = codes "each visible member has n, this one first"
choice_case_text Optional = codes "the choice is optional"
choice_case_text NoMember = codes "no member of the choice is visible"
choice_case_text NotShown = codes "the choice isn't shown"

abbrev pub case_text : Case → List ℕ
case_text (TriGiven c lift) = tri_case_text c ++ lift_text lift
case_text (TextGiven c) = text_case_text c
case_text (ChoiceGiven c) = choice_case_text c

abbrev pub hindrance_text : Hindrance → List ℕ
hindrance_text BelowSelected = codes "more is selected"
hindrance_text FromEnvironment = codes "it comes from the environment"
hindrance_text Hidden = codes "it isn't visible"
hindrance_text AboveVisibility = codes "its visibility is lower"
hindrance_text Promoted = codes "MODULES is n"
hindrance_text NoMBesideY = codes "an implied y leaves no m"
hindrance_text UpsideDown = codes "no number is within its range"
hindrance_text OutOfRange = codes "it isn't within the range"
hindrance_text ChoiceNotShown = codes "the choice isn't shown"
hindrance_text MemberHidden = codes "it isn't visible"
hindrance_text LaterY = codes "a later y is of another member"
hindrance_text FirstOfAll = codes "each visible member has n, this one first"

-- `MEMBER is y, `, if another member of the choice is selected
abbrev pub chosen_text : Tree → Option ℕ → List ℕ
chosen_text tree None = []
chosen_text tree (Some m) = name_of_symbol tree m ++ codes " is y, "

-- `NAME (VALUE)`
abbrev pub forcing_text : Strings → Tree → List UnitValue → ReverseDependency → List ℕ
forcing_text strings tree values f =
    name_of_symbol tree f.by ++ in_parentheses (value_text strings (value_of_symbol tree values f.by))

-- whether a hindrance is a missing visibility
abbrev pub is_hidden : Option Hindrance → Bool
is_hidden (Some Hidden) = true
is_hidden (Some MemberHidden) = true
is_hidden _ = false

-- whether a hindrance is a missing visibility, for want of a prompt; a choice's may be that of another member than this symbol
abbrev pub is_without_prompt : Option Hindrance → Symbol → Bool
is_without_prompt hindrance symbol = is_hidden hindrance && is_empty symbol.prompts
