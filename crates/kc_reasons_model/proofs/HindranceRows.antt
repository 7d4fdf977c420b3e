-- What hinders a user value, on small trees.
use Rattle.kc_reasons_model.proofs.Common.{◌≡◌, [], ◌∷◌, ℕ, Option, Some, None, refl, codes, N, M, Y, Tree, Profile, Present, Classic, UnitValue, UserValue, n, m, y, text, sets, writes, tree_a, tree_int, tree_from_environment, tree_pick, tree_shown_if, tree_select, tree_imply, Hindrance}
use Rattle.kc_reasons_model.proofs.Common.{BelowSelected, FromEnvironment, Hidden, AboveVisibility, Promoted, UpsideDown, OutOfRange, ChoiceNotShown, MemberHidden, LaterY, FirstOfAll, hindrance_to}
use Rattle.std.specs.Fmt.{digits}
use Rattle.kc_value.specs.Number.{int_text}
use Rattle.kc_rules_model.specs.declared.values.UnitValue.TheVariants.{Member as MemberValue}
use Rattle.kc_rules_model.specs.declared.values.UserValue.TheVariants.{Member as MemberUser}
use Rattle.kc_rules_model.specs.Rule.{rule}
use Rattle.kc_rules_model.proofs.RowTrees.{tree_hidden}
use Rattle.kc_reasons_model.specs.declared.cases.Hindrance.TheVariants.{ImpliedY}
use Rattle.kc_reasons_model.specs.Hindrances.{hinders}
use Rattle.kc_reasons_model.proofs.CaseRows.{newer, int_within, with_y, with_n, lists}

-- of BAZ, with FOO `y` and BAR `m`
abbrev baz : Profile → Option UserValue → Option Hindrance
baz profile user = hindrance_to profile tree_imply 3 3 user (y ∷ y ∷ m ∷ n ∷ [])

implied : (baz Present (sets Y) ≡ Some AboveVisibility) × (baz Present (sets M) ≡ None) × (baz Present (sets N) ≡ None)
    × (baz Classic (sets M) ≡ Some ImpliedY) × (baz Classic (sets Y) ≡ None) × (baz Classic None ≡ None)
unfolding rule hinders
implied = (refl, refl, refl, refl, refl, refl)

-- more is selected; hidden, once so that the value is another and once so that it is the same; without `MODULES` an `m` is `y`
tristates : (hindrance_to Present tree_select 1 1 (sets M) (y ∷ y ∷ []) ≡ Some BelowSelected)
    × (hindrance_to Present tree_hidden 0 0 (sets N) (y ∷ []) ≡ Some Hidden) × (hindrance_to Present tree_hidden 0 0 (sets Y) (y ∷ []) ≡ None)
    × (hindrance_to Present tree_imply 1 1 (sets M) (n ∷ n ∷ n ∷ n ∷ []) ≡ Some Promoted) × (hindrance_to Present tree_a 0 0 (sets Y) (n ∷ []) ≡ None)
unfolding rule hinders
tristates = (refl, refl, refl, refl, refl)

abbrev number : Tree → Option UserValue → Option Hindrance
number tree user = hindrance_to Present tree 0 0 user (text (codes "10") ∷ [])

-- of a number, whose range is from 10 to 20; from 20 to 10 none is within
numbers : (number tree_int (writes (codes "25")) ≡ Some OutOfRange) × (number tree_int (writes (codes "20")) ≡ None)
    × (number (newer tree_int) (writes (codes "25")) ≡ Some OutOfRange) × (number (newer tree_int) (writes (codes "10")) ≡ None)
    × (number (int_within [] (codes "20") (codes "10")) (writes (codes "15")) ≡ Some UpsideDown)
    × (number (newer (int_within [] (codes "20") (codes "10"))) (writes (codes "15")) ≡ Some UpsideDown)
    × (number (newer (int_within [] (codes "20") (codes "10"))) (writes (codes "20")) ≡ None)
unfolding rule hinders int_text digits
numbers = (refl, refl, refl, refl, refl, refl, refl)

from_environment : (hindrance_to Present tree_from_environment 0 0 (writes (codes "u")) (text (codes "e") ∷ []) ≡ Some FromEnvironment)
    × (hindrance_to Present tree_from_environment 0 0 (writes (codes "e")) (text (codes "e") ∷ []) ≡ None)
unfolding rule hinders
from_environment = (refl, refl)

-- of member s of the choice of A, B and C, whose default is B and where C is visible while X is `y`
abbrev member : Tree → ℕ → Option UserValue → UnitValue → Option Hindrance
member tree s user x = hindrance_to Present tree 0 s user (MemberValue None ∷ x ∷ [])

members : (member tree_pick 2 (Some (MemberUser 2)) n ≡ Some MemberHidden) × (member tree_pick 2 (Some (MemberUser 2)) y ≡ None)
    × (hindrance_to Present tree_shown_if 0 0 (Some (MemberUser 0)) (MemberValue None ∷ n ∷ n ∷ []) ≡ Some ChoiceNotShown)
unfolding rule hinders
members = (refl, refl, refl)

-- under the rules of Linux 6.12: hidden, before another's `y`, not before a hidden one's; an `n` that counts, and one of all
listed : (member (newer tree_pick) 2 (lists (with_y 2 ∷ [])) n ≡ Some MemberHidden) × (member (newer tree_pick) 0 (lists (with_y 0 ∷ with_y 1 ∷ [])) n ≡ Some LaterY)
    × (member (newer tree_pick) 1 (lists (with_y 0 ∷ with_y 1 ∷ [])) n ≡ None) × (member (newer tree_pick) 0 (lists (with_y 0 ∷ with_y 2 ∷ [])) n ≡ None)
    × (member (newer tree_pick) 1 (lists (with_n 1 ∷ [])) n ≡ None) × (member (newer tree_pick) 1 (lists (with_n 1 ∷ with_n 0 ∷ [])) n ≡ Some FirstOfAll)
    × (member (newer tree_pick) 0 (lists (with_n 1 ∷ with_n 0 ∷ [])) n ≡ None) × (member (newer tree_pick) 2 (lists (with_n 1 ∷ with_n 0 ∷ [])) n ≡ None)
    × (member (newer tree_shown_if) 0 (lists (with_y 0 ∷ [])) n ≡ Some MemberHidden)
unfolding rule hinders
listed = (refl, refl, refl, refl, refl, refl, refl, refl, refl)
