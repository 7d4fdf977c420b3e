-- The words for what gives a value and what hinders one, in lines of JSON.
use Rattle.std.specs.Prelude.{ℕ, List, Option, Some, None, codes}
use Rattle.kc_reasons_model.specs.declared.cases.Case.{Case}
use Rattle.kc_reasons_model.specs.declared.cases.Case.TheVariants.{Tri as TriGiven, Text as TextGiven, Choice as ChoiceGiven}
use Rattle.kc_reasons_model.specs.declared.cases.TriCase.{TriCase}
use Rattle.kc_reasons_model.specs.declared.cases.TriCase.TheVariants.{User as UserTri, Visibility as VisibilityTri, Default as DefaultTri, Environment as EnvironmentTri, Imply as ImplyTri, Dependency as DependencyTri, Select as SelectTri, Nothing as NoTri}
use Rattle.kc_reasons_model.specs.declared.cases.Lift.{Lift}
use Rattle.kc_reasons_model.specs.declared.cases.Lift.TheVariants.{AsGiven, WithoutM, ImpliedY}
use Rattle.kc_reasons_model.specs.declared.cases.TextCase.{TextCase}
use Rattle.kc_reasons_model.specs.declared.cases.TextCase.TheVariants.{User as UserText, UserLowBound, UserHighBound, Default as DefaultText, Environment as EnvironmentText, NoNumber, LowBound, HighBound, Zero, Nothing as NoText}
use Rattle.kc_reasons_model.specs.declared.cases.ChoiceCase.{ChoiceCase}
use Rattle.kc_reasons_model.specs.declared.cases.ChoiceCase.TheVariants.{User as UserMember, Default as DefaultMember, First, FirstUnlisted, FirstListed, Optional, NoMember, NotShown}
use Rattle.kc_reasons_model.specs.declared.cases.Hindrance.{Hindrance}
use Rattle.kc_reasons_model.specs.declared.cases.Hindrance.TheVariants.{BelowSelected, FromEnvironment, Hidden, AboveVisibility, Promoted, ImpliedY as NoMBesideY, UpsideDown, OutOfRange, ChoiceNotShown, MemberHidden, LaterY, FirstOfAll}

-- what gives a bool or tristate its value
abbrev pub tri_case_word : TriCase → List ℕ
tri_case_word UserTri = codes "user"
tri_case_word VisibilityTri = codes "visibility"
tri_case_word DefaultTri = codes "default"
tri_case_word EnvironmentTri = codes "environment"
tri_case_word ImplyTri = codes "imply"
tri_case_word DependencyTri = codes "dependency"
tri_case_word SelectTri = codes "select"
tri_case_word NoTri = codes "nothing"

-- why an `m` became `y`
abbrev pub lift_word : Lift → Option (List ℕ)
lift_word AsGiven = None
lift_word WithoutM = Some (codes "no_m")
lift_word ImpliedY = Some (codes "implied_y")

-- what gives a string or number its value
abbrev pub text_case_word : TextCase → List ℕ
text_case_word UserText = codes "user"
text_case_word UserLowBound = codes "user_low_bound"
text_case_word UserHighBound = codes "user_high_bound"
text_case_word DefaultText = codes "default"
text_case_word EnvironmentText = codes "environment"
text_case_word NoNumber = codes "no_number"
text_case_word LowBound = codes "low_bound"
text_case_word HighBound = codes "high_bound"
text_case_word Zero = codes "zero"
text_case_word NoText = codes "nothing"

-- what selects a choice's member
abbrev pub choice_case_word : ChoiceCase → List ℕ
choice_case_word UserMember = codes "choice_user"
choice_case_word DefaultMember = codes "choice_default"
choice_case_word First = codes "choice_first"
choice_case_word FirstUnlisted = codes "choice_first_unlisted"
choice_case_word FirstListed = codes "choice_first_listed"
choice_case_word Optional = codes "choice_optional"
choice_case_word NoMember = codes "choice_no_member"
choice_case_word NotShown = codes "choice_not_shown"

-- what gives a unit its value
abbrev pub case_word : Case → List ℕ
case_word (TriGiven given lift) = tri_case_word given
case_word (TextGiven given) = text_case_word given
case_word (ChoiceGiven given) = choice_case_word given

-- why it is `y` in place of `m`, if it is
abbrev pub lift_of_case : Case → Option (List ℕ)
lift_of_case (TriGiven given lift) = lift_word lift
lift_of_case case = None

-- what hinders a user value
abbrev pub hindrance_word : Hindrance → List ℕ
hindrance_word BelowSelected = codes "below_selected"
hindrance_word FromEnvironment = codes "environment"
hindrance_word Hidden = codes "hidden"
hindrance_word AboveVisibility = codes "above_visibility"
hindrance_word Promoted = codes "no_modules"
hindrance_word NoMBesideY = codes "implied_y"
hindrance_word UpsideDown = codes "upside_down"
hindrance_word OutOfRange = codes "out_of_range"
hindrance_word ChoiceNotShown = codes "choice_not_shown"
hindrance_word MemberHidden = codes "member_hidden"
hindrance_word LaterY = codes "later_y"
hindrance_word FirstOfAll = codes "first_of_all"
