-- The user values of choices that represent their values.
use Rattle.kc_minimal_model.proofs.Common.{◌≡◌, ◌≢◌, ℕ, Bool, true, false, not, ◌&&◌, ◌||◌, cond, [], ◌∷◌, ◌++◌, Option, Some, None, refl, sym, ◌∙◌, ap, option_and_then, list_any, false≢true, and_parts, eq-eqb, Language, is_linux_6_12, Choice, UnitValue, UserValue, MemberLine, as_user, member_user}
use Rattle.kc_minimal_model.proofs.Common.{choice_user_fits, is_member, merged_user}
use Rattle.kc_rules_model.specs.declared.values.UnitValue.TheVariants.{Tri as TriValue, Text as TextValue, Member as MemberValue}
use Rattle.kc_rules_model.specs.declared.values.UserValue.TheVariants.{Tri as TriUser, Text as TextUser, Member as MemberUser, Lines as LinesUser}

-- a choice's user value that selects a member alone fits only if that is a member of the choice
member_fits_choice : (language : Language) (choice : Option Choice) (m : ℕ) → choice_user_fits language choice (member_user language m) ≡ true → is_member choice m ≡ true
member_fits_choice language choice m fits = go (is_linux_6_12 language) fits where
  go : (b : Bool) → choice_user_fits language choice (cond b (LinesUser (record { member = m; is_y = true } ∷ [])) (MemberUser m)) ≡ true → is_member choice m ≡ true
  go true fits = (and_parts (is_member choice m) true (and_parts (is_linux_6_12 language) (is_member choice m && true) fits).1).0
  go false fits = (and_parts (not (is_linux_6_12 language)) (is_member choice m) fits).1

-- a value that a choice's fitting user value represents is a member of the choice
pub chosen_member : (language : Language) (choice : Option Choice) (held : UnitValue) (again : UserValue) → as_user language held ≡ Some again
    → choice_user_fits language choice again ≡ true
    → (m : ℕ) × (held ≡ MemberValue (Some m)) × (again ≡ member_user language m) × (is_member choice m ≡ true)
chosen_member language choice (TriValue t) again e fits =
    let same : TriUser t ≡ again = cc in absurd (false≢true (ap (choice_user_fits language choice) same ∙ fits))
chosen_member language choice (TextValue t) again e fits =
    let same : TextUser t ≡ again = cc in absurd (false≢true (ap (choice_user_fits language choice) same ∙ fits))
chosen_member language choice (MemberValue None) again e fits = cc
chosen_member language choice (MemberValue (Some m)) again e fits =
    let same : member_user language m ≡ again = cc in
    (m, refl, sym same, member_fits_choice language choice m (ap (choice_user_fits language choice) same ∙ fits))

-- whether a line with this user value gives its unit the value that the user value represents: of assignments of members if one is `y`
abbrev pub gives : UserValue → Bool
gives (LinesUser lines) = list_any (λ (l : MemberLine). l.is_y) lines
gives _ = true

-- a user value that represents a value gives it, and merged with itself it stays
pub meant_gives : (language : Language) (o : Option UnitValue) (x : UserValue) → option_and_then (as_user language) o ≡ Some x
    → (gives x ≡ true) × (merged_user x (Some x) ≡ x)
meant_gives language None x e = cc
meant_gives language (Some (MemberValue None)) x e = cc
meant_gives language (Some (TriValue t)) x e = let same : TriUser t ≡ x = cc in (ap gives (sym same), ap (λ y. merged_user y (Some y)) (sym same) ∙ same)
meant_gives language (Some (TextValue t)) x e = let same : TextUser t ≡ x = cc in (ap gives (sym same), ap (λ y. merged_user y (Some y)) (sym same) ∙ same)
meant_gives language (Some (MemberValue (Some m))) x e =
    let same : member_user language m ≡ x = cc in
    let own = go (is_linux_6_12 language) in
    (ap gives (sym same) ∙ own.0, ap (λ y. merged_user y (Some y)) (sym same) ∙ own.1 ∙ same) where
      go : (b : Bool) → (gives (cond b (LinesUser (record { member = m; is_y = true } ∷ [])) (MemberUser m)) ≡ true)
          × (merged_user (cond b (LinesUser (record { member = m; is_y = true } ∷ [])) (MemberUser m)) (Some (cond b (LinesUser (record { member = m; is_y = true } ∷ [])) (MemberUser m)))
          ≡ cond b (LinesUser (record { member = m; is_y = true } ∷ [])) (MemberUser m))
      go true = (
        refl,
        ap (λ b. LinesUser (cond (not (b || false)) (record { member = m; is_y = true } ∷ []) [] ++ record { member = m; is_y = true } ∷ [])) (eq-eqb m m refl),
      )
      go false = (refl, refl)
