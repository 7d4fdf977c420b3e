-- The text of what the lines of configuration files ask of a symbol.
use Rattle.std.specs.Prelude.{ℕ, Bool, true, false, ◌==◌, List, [], ◌∷◌, ◌++◌, Option, Some, None, codes, decimal, if◌then◌else◌}
use Rattle.kc_value.specs.declared.value.Kind.{Kind}
use Rattle.kc_value.specs.Tri.{letter}
use Rattle.kc_tree_model.specs.Trees.{Tree}
use Rattle.kc_rules_model.specs.declared.values.UserValue.{UserValue}
use Rattle.kc_rules_model.specs.declared.values.UserValue.TheVariants.{Tri as TriUser, Text as TextUser, Member as MemberUser, Lines as LinesUser}
use Rattle.kc_dotconfig_model.specs.declared.format.Strings.{Strings}
use Rattle.kc_reasons_model.specs.declared.cases.Case.{Case}
use Rattle.kc_reasons_model.specs.declared.cases.Case.TheVariants.{Tri as TriGiven, Text as TextGiven, Choice as ChoiceGiven}
use Rattle.kc_reasons_model.specs.declared.cases.TriCase.TheVariants.{User as UserTri}
use Rattle.kc_reasons_model.specs.declared.cases.TextCase.TheVariants.{User as UserText}
use Rattle.kc_reasons_model.specs.declared.cases.ChoiceCase.TheVariants.{User as UserMember, FirstUnlisted, FirstListed}
use Rattle.kc_reasons_model.specs.declared.cases.Hindrance.{Hindrance}
use Rattle.kc_reasons_model.specs.Hindrances.{is_given_y}
use Rattle.kc_reasons_model.specs.Reasons.{text_of_kind, name_of_symbol}
use Rattle.kc_explanation.specs.Explained.{hindrance_text}

-- whether a case is what the user asks; of a choice also that lines with `n` decide
abbrev pub is_by_user : Case → Bool
is_by_user (TriGiven UserTri lift) = true
is_by_user (TextGiven UserText) = true
is_by_user (ChoiceGiven UserMember) = true
is_by_user (ChoiceGiven FirstUnlisted) = true
is_by_user (ChoiceGiven FirstListed) = true
is_by_user case = false

-- what became of an assigned value: it was taken, it is the value but not by the user, or it isn't the value, and why
abbrev pub outcome_text : Case → Option Hindrance → List ℕ
outcome_text case None = if is_by_user case then codes "taken" else codes "the value is that without it"
outcome_text case (Some h) = codes "not taken, " ++ hindrance_text h

-- why an assigned value isn't taken, if something hinders it
abbrev pub why_text : Option Hindrance → List ℕ
why_text None = []
why_text (Some h) = hindrance_text h

-- `PATH:LINE`, of a line of a configuration file
abbrev pub line_place : (path : List ℕ) → (number : ℕ) → List ℕ
line_place path number = path ++ (58 ∷ decimal number)

-- what a user value asks of symbol s of this type: a letter or a text, and of a choice `y`, or `MEMBER=y` if it is another member
abbrev pub asked_value : Strings → Tree → ℕ → Kind → UserValue → List ℕ
asked_value strings tree s kind (TriUser t) = letter t
asked_value strings tree s kind (TextUser text) = text_of_kind strings kind text
asked_value strings tree s kind (MemberUser m) = if m == s then codes "y" else name_of_symbol tree m ++ codes "=y"
asked_value strings tree s kind (LinesUser lines) = if is_given_y lines s then codes "y" else codes "n"

-- `PATH:LINE asks VALUE: `, of a line with this number that assigns this to symbol s of this type
abbrev pub asks_text : Strings → Tree → ℕ → Kind → (path : List ℕ) → (number : ℕ) → UserValue → List ℕ
asks_text strings tree s kind path number user = line_place path number ++ (codes " asks " ++ (asked_value strings tree s kind user ++ codes ": "))
