-- What gives a value, on small trees.
use Rattle.kc_reasons_model.proofs.Common.{◌≡◌, true, false, [], ◌∷◌, List, ℕ, Option, Some, None, refl, codes, N, M, Y, Int, Linux, named, Tree, Default, Profile, Present, Classic, UnitValue, UserValue, MemberLine, n, m, y, text, sets, writes, tree_a, tree_int, tree_from_environment, tree_pick}
use Rattle.kc_reasons_model.proofs.Common.{tree_shown_if, tree_select, tree_imply, AsGiven, WithoutM, ImpliedY}
use Rattle.std.specs.Fmt.{digits}
use Rattle.kc_value.specs.Number.{int_text}
use Rattle.kc_tokens.specs.declared.language.LinuxVersion.TheVariants.{V6_12}
use Rattle.kc_tree_model.specs.Trees.{in_language}
use Rattle.kc_rules_model.specs.declared.values.UnitValue.TheVariants.{Member as MemberValue}
use Rattle.kc_rules_model.specs.declared.values.UserValue.TheVariants.{Member as MemberUser, Lines as LinesUser}
use Rattle.kc_rules_model.proofs.RowTrees.{always, name, otherwise, plain, one_symbol, tree_optional_pick, tree_lifted}
use Rattle.kc_reasons_model.specs.declared.cases.Case.{Case}
use Rattle.kc_reasons_model.specs.declared.cases.Case.TheVariants.{Tri as TriGiven, Text as TextGiven, Choice as ChoiceGiven}
use Rattle.kc_reasons_model.specs.declared.cases.TriCase.TheVariants as tri
use Rattle.kc_reasons_model.specs.declared.cases.TextCase.TheVariants as text_case
use Rattle.kc_reasons_model.specs.declared.cases.ChoiceCase.TheVariants as choice_case
use Rattle.kc_reasons_model.specs.Cases.{case_of}

-- what gives BAZ its value, with FOO `y` and BAR `m`
abbrev baz : Profile → Option UserValue → Case
baz profile user = case_of profile tree_imply 3 user (y ∷ y ∷ m ∷ n ∷ [])

record BazLine (profile : Profile) (unassigned with_n with_m with_y : Case) : Type 0 where
  none : baz profile None ≡ unassigned
  set_n : baz profile (sets N) ≡ with_n
  set_m : baz profile (sets M) ≡ with_m
  set_y : baz profile (sets Y) ≡ with_y

present_implied : BazLine Present (TriGiven tri.Dependency AsGiven) (TriGiven tri.User AsGiven) (TriGiven tri.User AsGiven) (TriGiven tri.Visibility AsGiven)
unfolding case_of
present_implied = record { none = refl; set_n = refl; set_m = refl; set_y = refl }

classic_implied : BazLine Classic (TriGiven tri.Imply AsGiven) (TriGiven tri.User AsGiven) (TriGiven tri.User ImpliedY) (TriGiven tri.Visibility ImpliedY)
unfolding case_of
classic_implied = record { none = refl; set_n = refl; set_m = refl; set_y = refl }

-- nothing; a default, above its visibility; a select; without `MODULES` an `m` of FOO is `y`
tristates : (case_of Present tree_a 0 None (n ∷ []) ≡ TriGiven tri.Nothing AsGiven)
    × (case_of Present tree_lifted 2 None (y ∷ m ∷ y ∷ []) ≡ TriGiven tri.Default AsGiven)
    × (case_of Classic tree_select 1 (sets M) (y ∷ y ∷ []) ≡ TriGiven tri.Select AsGiven)
    × (case_of Present tree_imply 1 (sets M) (n ∷ n ∷ n ∷ n ∷ []) ≡ TriGiven tri.User WithoutM)
unfolding case_of
tristates = (refl, refl, refl, refl)

abbrev pub newer : Tree → Tree
newer tree = in_language (Linux V6_12) tree

-- the tree of: config N / int "n", with these defaults and a range from one number to another
abbrev pub int_within : List Default → (low high : List ℕ) → Tree
int_within defaults low high =
    one_symbol (record (plain (codes "N") Int (always ∷ []) defaults) { ranges = record { low = named low; high = named high; condition = always } ∷ [] })

-- the tree of: config N / int "n", with these defaults
abbrev int_by : List Default → Tree
int_by defaults = one_symbol (plain (codes "N") Int (always ∷ []) defaults)

abbrev number_case : Tree → Option UserValue → Case
number_case tree user = case_of Present tree 0 user (text (codes "10") ∷ [])

-- the range is from 10 to 20, the default 5
numbers : (number_case tree_int None ≡ TextGiven text_case.LowBound) × (number_case tree_int (writes (codes "15")) ≡ TextGiven text_case.User)
    × (number_case tree_int (writes (codes "25")) ≡ TextGiven text_case.LowBound)
    × (number_case (newer tree_int) (writes (codes "25")) ≡ TextGiven text_case.UserHighBound)
    × (number_case (newer tree_int) (writes (codes "5")) ≡ TextGiven text_case.UserLowBound)
    × (number_case (newer tree_int) (writes (codes "10")) ≡ TextGiven text_case.User)
unfolding case_of int_text digits
numbers = (refl, refl, refl, refl, refl, refl)

-- a default above its range, one within it, and one that is no number
defaults : (number_case (int_within (otherwise (name (codes "30")) ∷ []) (codes "10") (codes "20")) None ≡ TextGiven text_case.HighBound)
    × (number_case (int_within (otherwise (name (codes "12")) ∷ []) (codes "10") (codes "20")) None ≡ TextGiven text_case.Default)
    × (number_case (int_by (otherwise (name (codes "x")) ∷ [])) None ≡ TextGiven text_case.NoNumber)
unfolding case_of int_text digits
defaults = (refl, refl, refl)

-- no default, with and without a range; and a range from 20 to 10, in which no number of the user's counts
without_defaults : (number_case (int_by []) None ≡ TextGiven text_case.Nothing) × (number_case (newer (int_by [])) None ≡ TextGiven text_case.Zero)
    × (number_case (newer (int_within [] (codes "10") (codes "20"))) None ≡ TextGiven text_case.LowBound)
    × (number_case (newer (int_within [] (codes "20") (codes "10"))) (writes (codes "15")) ≡ TextGiven text_case.LowBound)
unfolding case_of int_text digits
without_defaults = (refl, refl, refl, refl)

from_environment : case_of Present tree_from_environment 0 (writes (codes "u")) (text (codes "e") ∷ []) ≡ TextGiven text_case.Environment
unfolding case_of
from_environment = refl

-- of the choice of A, B and C, whose default is B and where C is visible while X is `y`
abbrev picked : Tree → Option UserValue → UnitValue → Case
picked tree user x = case_of Present tree 0 user (MemberValue None ∷ x ∷ [])

choices : (picked tree_pick None n ≡ ChoiceGiven choice_case.Default) × (picked tree_pick (Some (MemberUser 2)) n ≡ ChoiceGiven choice_case.Default)
    × (picked tree_pick (Some (MemberUser 2)) y ≡ ChoiceGiven choice_case.User)
    × (picked tree_optional_pick (Some (MemberUser 2)) n ≡ ChoiceGiven choice_case.Optional)
    × (case_of Present tree_shown_if 0 (Some (MemberUser 0)) (MemberValue None ∷ n ∷ n ∷ []) ≡ ChoiceGiven choice_case.NotShown)
    × (case_of Present tree_shown_if 0 None (MemberValue (Some 0) ∷ y ∷ y ∷ []) ≡ ChoiceGiven choice_case.First)
    × (case_of Present (newer tree_shown_if) 0 None (MemberValue None ∷ n ∷ n ∷ []) ≡ ChoiceGiven choice_case.NoMember)
unfolding case_of
choices = (refl, refl, refl, refl, refl, refl, refl)

abbrev pub with_y : ℕ → MemberLine
with_y s = record { member = s; is_y = true }

abbrev pub with_n : ℕ → MemberLine
with_n s = record { member = s; is_y = false }

abbrev pub lists : List MemberLine → Option UserValue
lists lines = Some (LinesUser lines)

-- under the rules of Linux 6.12
listed : (picked (newer tree_pick) None n ≡ ChoiceGiven choice_case.Default)
    × (picked (newer tree_pick) (lists (with_y 0 ∷ with_y 2 ∷ [])) n ≡ ChoiceGiven choice_case.User)
    × (picked (newer tree_pick) (lists (with_y 2 ∷ [])) n ≡ ChoiceGiven choice_case.Default)
    × (picked (newer tree_pick) (lists (with_n 1 ∷ [])) n ≡ ChoiceGiven choice_case.FirstUnlisted)
    × (picked (newer tree_pick) (lists (with_n 1 ∷ with_n 0 ∷ [])) n ≡ ChoiceGiven choice_case.FirstListed)
    × (picked (newer tree_pick) (lists (with_n 1 ∷ with_n 0 ∷ [])) y ≡ ChoiceGiven choice_case.FirstUnlisted)
    × (picked (newer tree_optional_pick) (lists (with_n 1 ∷ with_n 0 ∷ [])) n ≡ ChoiceGiven choice_case.Optional)
unfolding case_of
listed = (refl, refl, refl, refl, refl, refl, refl)
