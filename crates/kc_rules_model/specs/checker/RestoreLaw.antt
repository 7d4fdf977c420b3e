-- The restore law: a value that a unit wouldn't have without its user value comes out again if it is the user value itself.
use Rattle.std.proofs.Common.{◌≡◌, ◌≢◌, inl, inr, ℕ, ℤ, Bool, true, false, not, ◌&&◌, ◌||◌, ◌==◌, cond, IsTrue, List, [], ◌∷◌, Option, Some, None, IfSome, slice_get, length, is_some, find, int_lt, refl, sym, ◌∙◌, ap, subst, unwrap_or, pos}
use Rattle.std.specs.Option.{option_map, option_and_then, option_or}
use Rattle.std.specs.List.{list_any, list_all}
use Rattle.std.proofs.lemmas.Bool.{true≢false, false≢true, cases_Bool, and_parts, and_from, or_cases, or_left, or_right, eqb-true, eq-eqb}
use Rattle.kc_value.specs.declared.tri.Tri.{Tri}
use Rattle.kc_value.specs.declared.tri.Tri.TheVariants.{N, M, Y}
use Rattle.kc_value.specs.declared.value.Kind.{Kind}
use Rattle.kc_value.specs.declared.value.Kind.TheVariants.{Bool as Boolean, Tristate, Text, Int, Hex}
use Rattle.kc_value.specs.Tri.{tri_and, tri_or, is_n, y_for_m, is_m}
use Rattle.kc_tree_model.specs.Trees.{Tree, Symbol, Choice, Range, MemberDefault}
use Rattle.kc_tree_model.specs.declared.ids.Unit.{Unit as TreeUnit}
use Rattle.kc_tree_model.specs.declared.ids.Unit.TheVariants.{Symbol as of_symbol, Choice as of_choice}
use Rattle.kc_solver.specs.Solutions.{Restores}
use Rattle.kc_rules_model.specs.declared.profile.Profile.{Profile}
use Rattle.kc_rules_model.specs.declared.values.UnitValue.{UnitValue}
use Rattle.kc_rules_model.specs.declared.values.UnitValue.TheVariants.{Tri as TriValue, Text as TextValue, Member as MemberValue}
use Rattle.kc_rules_model.specs.declared.values.UserValue.{UserValue}
use Rattle.kc_rules_model.specs.declared.values.UserValue.TheVariants.{Tri as TriUser, Text as TextUser, Member as MemberUser, Lines as LinesUser}
use Rattle.kc_rules_model.specs.declared.values.MemberLine.{MemberLine}
use Rattle.kc_rules_model.specs.MemberLines.{is_listed, last_y, first_listed, selected_without_y, selected_by_lines}
use Rattle.kc_tokens.specs.declared.language.Language.{Language}
use Rattle.kc_tokens.specs.Languages.{is_linux_6_12}
use Rattle.kc_rules_model.specs.checker.PrintableBounds.{bound_read_back, not_below_itself}
use Rattle.kc_value.specs.Kinds.{is_bool, is_tristate, is_tri_kind, is_number}
use Rattle.kc_value.specs.Number.{number_of_text}
use Rattle.kc_rules_model.specs.SymbolValues.{condition}
use Rattle.kc_rules_model.specs.Rule.{rule, rule_of_unit, rule_of_symbol, rule_of_choice, symbol_rule, tri_rule, string_rule, number_rule, choice_rule, as_user, is_visible, visibility, modules_value, unassigned_value, selected, leaves_no_m, default_text, number_default, is_within, user_number, clamped, bound, bound_text, is_upside_down, active_range, is_shown, is_visible_member, shown_choice_rule, default_member, member_user, assigned_lines}
use Rattle.kc_rules_model.specs.Shapes.{user_fits, unit_user_fits, symbol_user_fits, choice_user_fits, user_text_fits, is_member, tri_fits}

-- a tristate value, with `y` in place of `m` if the first argument is true
abbrev pub promoted_if : Bool → Tri → Tri
promoted_if p t = cond p (y_for_m t) t

promoted_twice : (p l : Bool) (t : Tri) → promoted_if l (promoted_if p t) ≡ promoted_if (p || l) t
promoted_twice true true N = refl
promoted_twice true true M = refl
promoted_twice true true Y = refl
promoted_twice true false t = refl
promoted_twice false l t = refl

-- a bool's or tristate's value with the user value a: r is whether `m` becomes `y`, top is the visibility, un the value without a user value, s what is selected
abbrev tri_with : Bool → Tri → Tri → Tri → Tri → Tri
tri_with r top un s a = promoted_if r (tri_or (cond (not (is_n top)) (tri_and a top) un) s)

tri_again : (r : Bool) (top un s a : Tri) → is_n top ≡ false → tri_with r top un s (tri_with r top un s a) ≡ tri_with r top un s a
tri_again r N un s a h = absurd (true≢false h)
tri_again true M un N N h = refl
tri_again true M un N M h = refl
tri_again true M un N Y h = refl
tri_again true M un M N h = refl
tri_again true M un M M h = refl
tri_again true M un M Y h = refl
tri_again true M un Y N h = refl
tri_again true M un Y M h = refl
tri_again true M un Y Y h = refl
tri_again true Y un N N h = refl
tri_again true Y un N M h = refl
tri_again true Y un N Y h = refl
tri_again true Y un M N h = refl
tri_again true Y un M M h = refl
tri_again true Y un M Y h = refl
tri_again true Y un Y N h = refl
tri_again true Y un Y M h = refl
tri_again true Y un Y Y h = refl
tri_again false M un N N h = refl
tri_again false M un N M h = refl
tri_again false M un N Y h = refl
tri_again false M un M N h = refl
tri_again false M un M M h = refl
tri_again false M un M Y h = refl
tri_again false M un Y N h = refl
tri_again false M un Y M h = refl
tri_again false M un Y Y h = refl
tri_again false Y un N N h = refl
tri_again false Y un N M h = refl
tri_again false Y un N Y h = refl
tri_again false Y un M N h = refl
tri_again false Y un M M h = refl
tri_again false Y un M Y h = refl
tri_again false Y un Y N h = refl
tri_again false Y un Y M h = refl
tri_again false Y un Y Y h = refl

-- invisible, the user value doesn't count
tri_unseen : (r : Bool) (top un s a : Tri) → is_n top ≡ true → tri_with r top un s a ≡ promoted_if r (tri_or un s)
tri_unseen r N un s a h = refl
tri_unseen r M un s a h = absurd (false≢true h)
tri_unseen r Y un s a h = absurd (false≢true h)

never_m : (t : Tri) → not (is_m (y_for_m t)) ≡ true
never_m N = refl
never_m M = refl
never_m Y = refl

-- the user's text where the symbol is seen, otherwise a default: if the result isn't the default, it is the user's text
pub text_kept : (seen : Bool) (t d : List ℕ) → unwrap_or (cond seen (Some t) None) d ≢ d → unwrap_or (cond seen (Some t) None) d ≡ t
text_kept true t d h = refl
text_kept false t d h = absurd (h refl)

-- what a user's text gives where seen, otherwise a default: if the result isn't the default, the text is seen and gives it
pub number_kept : (seen : Bool) (given : List ℕ → Option (List ℕ)) (t d : List ℕ) → unwrap_or (option_and_then given (cond seen (Some t) None)) d ≢ d
    → (seen ≡ true) × (given t ≡ Some (unwrap_or (option_and_then given (cond seen (Some t) None)) d))
number_kept true given t d h = go (given t) h where
  go : (o : Option (List ℕ)) → unwrap_or o d ≢ d → (true ≡ true) × (o ≡ Some (unwrap_or o d))
  go (Some r) h = (refl, refl)
  go None h = absurd (h refl)
number_kept false given t d h = absurd (h refl)

-- a text that is seen, and gives itself
pub number_again : (seen : Bool) (given : List ℕ → Option (List ℕ)) (t d : List ℕ) → seen ≡ true → given t ≡ Some t → unwrap_or (option_and_then given (cond seen (Some t) None)) d ≡ t
number_again seen given t d e is =
    subst (λ b. unwrap_or (option_and_then given (cond b (Some t) None)) d ≡ t) (sym e) (ap (λ o. unwrap_or o d) is)

-- where a user's member changes what is selected in a choice, that member is selected
pub member_kept : (shown seen : Bool) (s : ℕ) (other : Option ℕ) → cond shown (option_or (cond seen (Some s) None) other) None ≢ cond shown (option_or None other) None
    → cond shown (option_or (cond seen (Some s) None) other) None ≡ Some s
member_kept true true s other h = refl
member_kept true false s other h = absurd (h refl)
member_kept false seen s other h = absurd (h refl)

-- without a user's text, the text is the default, whether the symbol is seen or not
pub no_text : (seen : Bool) (d : List ℕ) → unwrap_or (cond {A = Option (List ℕ)} seen None None) d ≡ d
no_text true d = refl
no_text false d = refl

-- without a user's text, the text of a number is the default, whether the symbol is seen or not and whatever its range
pub no_number : (seen : Bool) (given : List ℕ → Option (List ℕ)) (d : List ℕ) → unwrap_or (option_and_then given (cond {A = Option (List ℕ)} seen None None)) d ≡ d
no_number true given d = refl
no_number false given d = refl

is_some_of : {X : Type 0} (o : Option X) (x : X) → o ≡ Some x → is_some o ≡ true
is_some_of o x e = ap is_some e

some_is : (o : Option ℤ) → is_some o ≡ true → o ≡ Some (unwrap_or o (pos 0))
some_is (Some z) e = refl
some_is None e = absurd (false≢true e)

module _ (tree : Tree) (values : List UnitValue) (kind : Kind) (large : is_number kind ≡ true) where
  -- what a range makes of a number n, which is given with its text, if the bounds aren't upside down: it is that text or a number,
  -- and the range makes the same of it
  pub clamped_again : (o : Option Range) (n : ℤ) (t : List ℕ) → unwrap_or (number_of_text kind t) (pos 0) ≡ n → is_upside_down tree values kind o ≡ false
      → (is_some (number_of_text kind t) ≡ true → is_some (number_of_text kind (clamped tree values kind o n t)) ≡ true)
      × (clamped tree values kind o (unwrap_or (number_of_text kind (clamped tree values kind o n t)) (pos 0)) (clamped tree values kind o n t) ≡ clamped tree values kind o n t)
  clamped_again None n t is level = (λ fits. fits, refl)
  clamped_again (Some r) n t is level = go (int_lt n (bound tree values kind r.low)) (int_lt (bound tree values kind r.high) n) refl refl where
    go : (below above : Bool) → int_lt n (bound tree values kind r.low) ≡ below → int_lt (bound tree values kind r.high) n ≡ above
        → (is_some (number_of_text kind t) ≡ true → is_some (number_of_text kind (cond below (bound_text tree values kind r.low) (cond above (bound_text tree values kind r.high) t))) ≡ true)
        × (clamped tree values kind (Some r) (unwrap_or (number_of_text kind (cond below (bound_text tree values kind r.low) (cond above (bound_text tree values kind r.high) t))) (pos 0))
        (cond below (bound_text tree values kind r.low) (cond above (bound_text tree values kind r.high) t)) ≡ cond below (bound_text tree values kind r.low) (cond above (bound_text tree values kind r.high) t))
    go true above eb ea =
        let back = bound_read_back tree values kind r.low large in (
          λ fits. ap is_some back,
          ap (λ o. clamped tree values kind (Some r) (unwrap_or o (pos 0)) (bound_text tree values kind r.low)) back
              ∙ ap (λ b. cond b (bound_text tree values kind r.low) (cond (int_lt (bound tree values kind r.high) (bound tree values kind r.low)) (bound_text tree values kind r.high) (bound_text tree values kind r.low))) (not_below_itself (bound tree values kind r.low))
              ∙ ap (λ b. cond b (bound_text tree values kind r.high) (bound_text tree values kind r.low)) level,
        )
    go false true eb ea =
        let back = bound_read_back tree values kind r.high large in (
          λ fits. ap is_some back,
          ap (λ o. clamped tree values kind (Some r) (unwrap_or o (pos 0)) (bound_text tree values kind r.high)) back
              ∙ ap (λ b. cond b (bound_text tree values kind r.low) (cond (int_lt (bound tree values kind r.high) (bound tree values kind r.high)) (bound_text tree values kind r.high) (bound_text tree values kind r.high))) level
              ∙ ap (λ b. cond b (bound_text tree values kind r.high) (bound_text tree values kind r.high)) (not_below_itself (bound tree values kind r.high)),
        )
    go false false eb ea = (
      λ fits. fits,
      ap (λ k. clamped tree values kind (Some r) k t) is
          ∙ ap (λ b. cond b (bound_text tree values kind r.low) (cond (int_lt (bound tree values kind r.high) n) (bound_text tree values kind r.high) t)) eb
          ∙ ap (λ b. cond b (bound_text tree values kind r.high) t) ea,
    )

  -- what a user's number gives is a number, and gives itself
  pub given_again : (o : Option Range) (t r : List ℕ) → is_some (number_of_text kind t) ≡ true
      → user_number tree values kind o (unwrap_or (number_of_text kind t) (pos 0)) t ≡ Some r
      → (is_some (number_of_text kind r) ≡ true) × (user_number tree values kind o (unwrap_or (number_of_text kind r) (pos 0)) r ≡ Some r)
  given_again o t r fits is = go (is_linux_6_12 tree.language) refl is where
    go : (six : Bool) → is_linux_6_12 tree.language ≡ six
        → cond six (cond (is_upside_down tree values kind o) None (Some (clamped tree values kind o (unwrap_or (number_of_text kind t) (pos 0)) t))) (cond (is_within tree values kind o (unwrap_or (number_of_text kind t) (pos 0))) (Some t) None) ≡ Some r
        → (is_some (number_of_text kind r) ≡ true)
        × (cond six (cond (is_upside_down tree values kind o) None (Some (clamped tree values kind o (unwrap_or (number_of_text kind r) (pos 0)) r))) (cond (is_within tree values kind o (unwrap_or (number_of_text kind r) (pos 0))) (Some r) None) ≡ Some r)
    go true language e = down (is_upside_down tree values kind o) refl e where
      down : (b : Bool) → is_upside_down tree values kind o ≡ b → cond b None (Some (clamped tree values kind o (unwrap_or (number_of_text kind t) (pos 0)) t)) ≡ Some r
          → (is_some (number_of_text kind r) ≡ true) × (cond b None (Some (clamped tree values kind o (unwrap_or (number_of_text kind r) (pos 0)) r)) ≡ Some r)
      down true level e = cc
      down false level e =
          let same : clamped tree values kind o (unwrap_or (number_of_text kind t) (pos 0)) t ≡ r = cc in
          subst (λ x. (is_some (number_of_text kind x) ≡ true) × (Some (clamped tree values kind o (unwrap_or (number_of_text kind x) (pos 0)) x) ≡ Some x)) same
          (let again = clamped_again o (unwrap_or (number_of_text kind t) (pos 0)) t refl level in (again.0 fits, ap Some again.1))
    go false language e = within (is_within tree values kind o (unwrap_or (number_of_text kind t) (pos 0))) refl e where
      within : (b : Bool) → is_within tree values kind o (unwrap_or (number_of_text kind t) (pos 0)) ≡ b → cond b (Some t) None ≡ Some r
          → (is_some (number_of_text kind r) ≡ true) × (cond (is_within tree values kind o (unwrap_or (number_of_text kind r) (pos 0))) (Some r) None ≡ Some r)
      within true inside e =
          let same : t ≡ r = cc in
          subst (λ x. (is_some (number_of_text kind x) ≡ true) × (cond (is_within tree values kind o (unwrap_or (number_of_text kind x) (pos 0))) (Some x) None ≡ Some x)) same
          (fits, ap (λ b. cond b (Some t) None) inside)
      within false inside e = cc

-- what assignments of members select
module _ (seen : ℕ → Bool) where
  found_first : {X : Type 0} (p : X → Bool) (xs : List X) (x : X) → find p xs ≡ Some x → (p x ≡ true)
  found_first p [] x e = cc
  found_first p (y ∷ xs) x e = go (p y) refl e (found_first p xs x) where
    go : (b : Bool) → p y ≡ b → cond b (Some y) (find p xs) ≡ Some x → (find p xs ≡ Some x → p x ≡ true) → p x ≡ true
    go true passes e next = let same : y ≡ x = cc in ap p (sym same) ∙ passes
    go false passes e next = next e

  found_in : (p : ℕ → Bool) (xs : List ℕ) (x : ℕ) → find p xs ≡ Some x → list_any (λ m. m == x) xs ≡ true
  found_in p [] x e = cc
  found_in p (y ∷ xs) x e = go (p y) e (found_in p xs x) where
    go : (b : Bool) → cond b (Some y) (find p xs) ≡ Some x → (find p xs ≡ Some x → list_any (λ m. m == x) xs ≡ true) → (y == x || list_any (λ m. m == x) xs) ≡ true
    go true e next = let same : y ≡ x = cc in or_left (y == x) (list_any (λ m. m == x) xs) (eq-eqb y x same)
    go false e next = or_right (y == x) (list_any (λ m. m == x) xs) (next e)

  -- the last visible member with `y` is visible, and passes each test that all listed members pass; so does the first visible
  -- member that is listed
  pub last_passes : (q : ℕ → Bool) (lines : List MemberLine) (r : ℕ) → list_all (λ (l : MemberLine). q l.member) lines ≡ true → last_y seen lines ≡ Some r → (seen r ≡ true) × (q r ≡ true)
  last_passes q [] r all e = cc
  last_passes q (l ∷ lines) r all e =
      let parts = and_parts (q l.member) (list_all (λ (k : MemberLine). q k.member) lines) all in
      go parts.0 (last_passes q lines r parts.1) (last_y seen lines) refl (l.is_y && seen l.member) refl e where
        go : q l.member ≡ true → (last_y seen lines ≡ Some r → (seen r ≡ true) × (q r ≡ true)) → (o : Option ℕ) → last_y seen lines ≡ o → (b : Bool)
            → (l.is_y && seen l.member) ≡ b → option_or o (cond b (Some l.member) None) ≡ Some r → (seen r ≡ true) × (q r ≡ true)
        go here next (Some s) later b passes e = let same : s ≡ r = cc in next (later ∙ ap Some same)
        go here next None later true passes e =
            let same : l.member ≡ r = cc in
            subst (λ s. (seen s ≡ true) × (q s ≡ true)) same ((and_parts l.is_y (seen l.member) passes).1, here)
        go here next None later false passes e = cc

  pub first_passes : (q : ℕ → Bool) (lines : List MemberLine) (r : ℕ) → list_all (λ (l : MemberLine). q l.member) lines ≡ true → first_listed seen lines ≡ Some r → (seen r ≡ true) × (q r ≡ true)
  first_passes q [] r all e = cc
  first_passes q (l ∷ lines) r all e =
      let parts = and_parts (q l.member) (list_all (λ (k : MemberLine). q k.member) lines) all in
      go parts.0 (first_passes q lines r parts.1) (seen l.member) refl e where
        go : q l.member ≡ true → (first_listed seen lines ≡ Some r → (seen r ≡ true) × (q r ≡ true)) → (b : Bool) → seen l.member ≡ b
            → option_map (λ (k : MemberLine). k.member) (cond b (Some l) (find (λ (k : MemberLine). seen k.member) lines)) ≡ Some r → (seen r ≡ true) × (q r ≡ true)
        go here next true passes e = let same : l.member ≡ r = cc in subst (λ s. (seen s ≡ true) × (q s ≡ true)) same (passes, here)
        go here next false passes e = next e

  -- a listed member that is visible is a first one, or another one is
  some_first : (lines : List MemberLine) (d : ℕ) → seen d ≡ true → is_listed lines d ≡ true → first_listed seen lines ≡ None → ⊥
  some_first [] d visible listed e = false≢true listed
  some_first (l ∷ lines) d visible listed e = go (some_first lines d visible) (seen l.member) refl e where
    go : (is_listed lines d ≡ true → first_listed seen lines ≡ None → ⊥) → (b : Bool) → seen l.member ≡ b
        → option_map (λ (k : MemberLine). k.member) (cond b (Some l) (find (λ (k : MemberLine). seen k.member) lines)) ≡ None → ⊥
    go next true passes e = cc
    go next false passes e = elim (or_cases (l.member == d) (is_listed lines d) listed) [
      | inl here ↦ false≢true (sym passes ∙ ap seen (eqb-true l.member d here) ∙ visible)
      | inr later ↦ next later e
    ]

  -- without an assignment the default member is selected
  pub none_listed : (members : List ℕ) (default : Option ℕ) → selected_by_lines seen members default [] ≡ default
  none_listed members None = refl
  none_listed members (Some d) = refl

  -- a member alone with `y` is selected, if it is visible
  pub one_listed : (members : List ℕ) (default : Option ℕ) (s : ℕ) → seen s ≡ true → selected_by_lines seen members default (record { member = s; is_y = true } ∷ []) ≡ Some s
  one_listed members default s visible =
      ap (λ b. option_or (cond b (Some s) None) (selected_without_y seen members default (record { member = s; is_y = true } ∷ []))) visible

  -- what is selected, if it isn't the default member, is a visible member
  pub selected_is_seen : (members : List ℕ) (default : Option ℕ) (lines : List MemberLine) → ((d : ℕ) → default ≡ Some d → seen d ≡ true)
      → list_all (λ (l : MemberLine). list_any (λ m. m == l.member) members) lines ≡ true → selected_by_lines seen members default lines ≢ default
      → (r : ℕ) × (selected_by_lines seen members default lines ≡ Some r) × (seen r ≡ true) × (list_any (λ m. m == r) members ≡ true)
  selected_is_seen members default lines visible all differs = go (last_y seen lines) refl differs where
    in_members : ℕ → Bool
    in_members s = list_any (λ m. m == s) members

    go : (o : Option ℕ) → last_y seen lines ≡ o → option_or o (selected_without_y seen members default lines) ≢ default
        → (r : ℕ) × (option_or o (selected_without_y seen members default lines) ≡ Some r) × (seen r ≡ true) × (list_any (λ m. m == r) members ≡ true)
    go (Some r) e differs = let passes = last_passes (λ s. list_any (λ m. m == s) members) lines r all e in (r, refl, passes.0, passes.1)
    go None e differs = without default refl differs where
      without : (o : Option ℕ) → default ≡ o → selected_without_y seen members o lines ≢ default
          → (r : ℕ) × (selected_without_y seen members o lines ≡ Some r) × (seen r ≡ true) × (list_any (λ m. m == r) members ≡ true)
      without None is differs = absurd (differs (sym is))
      without (Some d) is differs = listed (is_listed lines d) refl differs where
        listed : (b : Bool) → is_listed lines d ≡ b
            → cond b (option_or (find (λ s. seen s && not (is_listed lines s)) members) (first_listed seen lines)) (Some d) ≢ default
            → (r : ℕ) × (cond b (option_or (find (λ s. seen s && not (is_listed lines s)) members) (first_listed seen lines)) (Some d) ≡ Some r) × (seen r ≡ true) × (list_any (λ m. m == r) members ≡ true)
        listed false e differs = absurd (differs (sym is))
        listed true e differs = unlisted (find (λ s. seen s && not (is_listed lines s)) members) refl where
          unlisted : (o : Option ℕ) → find (λ s. seen s && not (is_listed lines s)) members ≡ o
              → (r : ℕ) × (option_or o (first_listed seen lines) ≡ Some r) × (seen r ≡ true) × (list_any (λ m. m == r) members ≡ true)
          unlisted (Some r) found =
              let passes = found_first (λ s. seen s && not (is_listed lines s)) members r found in
              (r, refl, (and_parts (seen r) (not (is_listed lines r)) passes).0, found_in (λ s. seen s && not (is_listed lines s)) members r found)
          unlisted None found = first (first_listed seen lines) refl where
            first : (o : Option ℕ) → first_listed seen lines ≡ o → (r : ℕ) × (o ≡ Some r) × (seen r ≡ true) × (list_any (λ m. m == r) members ≡ true)
            first (Some r) is_first = let passes = first_passes (λ s. list_any (λ m. m == s) members) lines r all is_first in (r, refl, passes.0, passes.1)
            first None is_first = absurd (some_first lines d (visible d is) e is_first)

  -- a default member is visible
  pub default_is_seen : (optional : Bool) (defaults : List MemberDefault) (counts : MemberDefault → Bool) (members : List ℕ) (d : ℕ)
      → cond optional None (option_or (option_map (λ (e : MemberDefault). e.member) (find (λ (e : MemberDefault). counts e && seen e.member) defaults)) (find seen members)) ≡ Some d
      → seen d ≡ true
  default_is_seen true defaults counts members d e = cc
  default_is_seen false defaults counts members d e = go (find (λ (k : MemberDefault). counts k && seen k.member) defaults) refl e where
    go : (o : Option MemberDefault) → find (λ (k : MemberDefault). counts k && seen k.member) defaults ≡ o
        → option_or (option_map (λ (k : MemberDefault). k.member) o) (find seen members) ≡ Some d → seen d ≡ true
    go (Some k) found e =
        let same : k.member ≡ d = cc in
        ap seen (sym same) ∙ (and_parts (counts k) (seen k.member) (found_first (λ (k : MemberDefault). counts k && seen k.member) defaults k found)).1
    go None found e = found_first seen members d e

-- what the restore law asks at one unit, of a rule and what fits
abbrev IsRestored : Language → (Option UserValue → UnitValue) → (UserValue → Bool) → Option UserValue → Type 0
IsRestored language f fits x = IfSome x (λ y. IsTrue (fits y)) → f x ≢ f None → (again : UserValue) × (as_user language (f x) ≡ Some again) × IsTrue (fits again) ×
    (f (Some again) ≡ f x)

-- where the value is a user value's own
itself : (language : Language) (f : Option UserValue → UnitValue) (fits : UserValue → Bool) (x : UserValue) → IsTrue (fits x) → as_user language (f (Some x)) ≡ Some x
    → (again : UserValue) × (as_user language (f (Some x)) ≡ Some again) × IsTrue (fits again) × (f (Some again) ≡ f (Some x))
itself language f fits x fitting e = (x, e, fitting, refl)

module _ (tree : Tree) (values : List UnitValue) where
  restored_tri : (profile : Profile) (symbol : Symbol) (x : Option UserValue) → ((l : Bool) (t : Tri) → IsTrue (tri_fits symbol.kind (promoted_if l (promoted_if (is_bool symbol.kind || (is_tristate symbol.kind && is_n (modules_value tree values))) t))))
      → IsRestored tree.language (λ y. TriValue (tri_rule profile tree symbol y values)) (symbol_user_fits (Some symbol)) x
  restored_tri profile symbol None small fits differs = absurd (differs refl)
  restored_tri profile symbol (Some (TextUser t)) small fits differs = absurd (differs refl)
  restored_tri profile symbol (Some (MemberUser s)) small fits differs = absurd (differs refl)
  restored_tri profile symbol (Some (LinesUser l)) small fits differs = absurd (differs refl)
  restored_tri profile symbol (Some (TriUser a)) small fits differs =
      let p = is_bool symbol.kind || (is_tristate symbol.kind && is_n (modules_value tree values)) in
      let l = leaves_no_m profile tree values symbol in
      let top = visibility tree values symbol in
      let un = unassigned_value profile tree values symbol in
      let s = selected tree values symbol in
      let as_table : (b : Tri) → tri_rule profile tree symbol (Some (TriUser b)) values ≡ tri_with (p || l) top un s b =
      λ b. promoted_twice p l (tri_or (cond (not (is_n top)) (tri_and b top) un) s) in
      elim (cases_Bool (is_n top)) [
        | inl unseen ↦ absurd (differs (ap (λ t. TriValue t) (as_table a ∙ tri_unseen (p || l) top un s a unseen ∙ sym (promoted_twice p l (tri_or un s)))))
        | inr seen ↦
            let again = tri_rule profile tree symbol (Some (TriUser a)) values in (
              TriUser again,
              refl,
              small l _,
              ap (λ t. TriValue t) (as_table again ∙ ap (tri_with (p || l) top un s) (as_table a) ∙ tri_again (p || l) top un s a seen ∙ sym (as_table a)),
            )
      ]

  restored_text : (symbol : Symbol) (x : Option UserValue) → IsRestored tree.language (λ y. TextValue (string_rule tree symbol y values)) (symbol_user_fits (Some symbol)) x
  restored_text symbol None fits differs = absurd (differs refl)
  restored_text symbol (Some (TriUser t)) fits differs = absurd (differs refl)
  restored_text symbol (Some (MemberUser s)) fits differs = absurd (differs refl)
  restored_text symbol (Some (LinesUser l)) fits differs = absurd (differs refl)
  restored_text symbol (Some (TextUser t)) fits differs =
      let d = default_text tree values symbol in
      let seen = is_visible tree values symbol in
      itself tree.language (λ y. TextValue (string_rule tree symbol y values)) (symbol_user_fits (Some symbol)) (TextUser t) fits
      (ap (λ r. Some (TextUser r)) (text_kept seen t d (λ e. differs (ap (λ r. TextValue r) (e ∙ sym (no_text seen d))))))

  -- a user's number that fits a symbol of this type is a number of the type
  number_fits : (kind : Kind) (t : List ℕ) → is_number kind ≡ true → user_text_fits kind t ≡ is_some (number_of_text kind t)
  number_fits Boolean t e = refl
  number_fits Tristate t e = refl
  number_fits Text t e = absurd (false≢true e)
  number_fits Int t e = refl
  number_fits Hex t e = refl

  restored_number : (symbol : Symbol) → is_number symbol.kind ≡ true → (x : Option UserValue) → IsRestored tree.language (λ y. TextValue (number_rule tree symbol y values))
      (symbol_user_fits (Some symbol)) x
  restored_number symbol large None fits differs = absurd (differs refl)
  restored_number symbol large (Some (TriUser t)) fits differs = absurd (differs refl)
  restored_number symbol large (Some (MemberUser s)) fits differs = absurd (differs refl)
  restored_number symbol large (Some (LinesUser l)) fits differs = absurd (differs refl)
  restored_number symbol large (Some (TextUser t)) fits differs =
      let d = number_default tree values symbol in
      let seen = is_visible tree values symbol in
      let range = active_range tree values symbol in
      let given : List ℕ → Option (List ℕ) = λ text. user_number tree values symbol.kind range (unwrap_or (number_of_text symbol.kind text) (pos 0)) text in
      let r = number_rule tree symbol (Some (TextUser t)) values in
      let kept = number_kept seen given t d (λ e. differs (ap (λ r. TextValue r) (e ∙ sym (no_number seen given d)))) in
      let again = given_again tree values symbol.kind large range t r (sym (number_fits symbol.kind t large) ∙ fits) kept.1 in
      (TextUser r, refl, number_fits symbol.kind r large ∙ again.0, ap (λ x. TextValue x) (number_again seen given r d kept.0 again.1))

  -- the member that a choice's rule selects, before Linux 6.10 and since
  pub older : (choice : Choice) (x : Option UserValue) → is_linux_6_12 tree.language ≡ false → choice_rule tree choice x values ≡ shown_choice_rule tree choice x values
  older choice x e = ap (λ b. cond b (selected_by_lines (is_visible_member tree values) choice.members (default_member tree choice values) (assigned_lines x)) (shown_choice_rule tree choice x values)) e

  pub newer : (choice : Choice) (x : Option UserValue) → is_linux_6_12 tree.language ≡ true
      → choice_rule tree choice x values ≡ selected_by_lines (is_visible_member tree values) choice.members (default_member tree choice values) (assigned_lines x)
  newer choice x e = ap (λ b. cond b (selected_by_lines (is_visible_member tree values) choice.members (default_member tree choice values) (assigned_lines x)) (shown_choice_rule tree choice x values)) e

  restored_older : (choice : Choice) (x : Option UserValue) → is_linux_6_12 tree.language ≡ false
      → IsRestored tree.language (λ y. MemberValue (choice_rule tree choice y values)) (choice_user_fits tree.language (Some choice)) x
  restored_older choice None e fitting differs = absurd (differs refl)
  restored_older choice (Some (TriUser t)) e fitting differs = absurd (differs refl)
  restored_older choice (Some (TextUser t)) e fitting differs = absurd (differs refl)
  restored_older choice (Some (LinesUser l)) e fitting differs = absurd (differs (ap (λ m. MemberValue m) (older choice (Some (LinesUser l)) e ∙ sym (older choice None e))))
  restored_older choice (Some (MemberUser s)) e fitting differs =
      let kept = member_kept (is_shown tree values choice) (is_visible_member tree values s) s (default_member tree choice values)
      (λ same. differs (ap (λ m. MemberValue m) (older choice (Some (MemberUser s)) e ∙ same ∙ sym (older choice None e)))) in
      itself tree.language (λ y. MemberValue (choice_rule tree choice y values)) (choice_user_fits tree.language (Some choice)) (MemberUser s) fitting
      (ap (λ m. as_user tree.language (MemberValue m)) (older choice (Some (MemberUser s)) e ∙ kept) ∙ ap (λ b. Some (cond b (LinesUser (record { member = s; is_y = true } ∷ [])) (MemberUser s))) e)

  restored_newer : (choice : Choice) (x : Option UserValue) → is_linux_6_12 tree.language ≡ true
      → IsRestored tree.language (λ y. MemberValue (choice_rule tree choice y values)) (choice_user_fits tree.language (Some choice)) x
  restored_newer choice None e fitting differs = absurd (differs refl)
  restored_newer choice (Some (TriUser t)) e fitting differs = absurd (differs refl)
  restored_newer choice (Some (TextUser t)) e fitting differs = absurd (differs refl)
  restored_newer choice (Some (MemberUser s)) e fitting differs = absurd (differs (ap (λ m. MemberValue m) (newer choice (Some (MemberUser s)) e ∙ sym (newer choice None e))))
  restored_newer choice (Some (LinesUser lines)) e fitting differs =
      let seen = is_visible_member tree values in
      let default = default_member tree choice values in
      let parts = and_parts (is_linux_6_12 tree.language) (list_all (λ (l : MemberLine). is_member (Some choice) l.member) lines) fitting in
      let none : choice_rule tree choice None values ≡ default = newer choice None e ∙ none_listed seen choice.members default in
      let is = selected_is_seen seen choice.members default lines
      (λ d same. default_is_seen seen choice.optional choice.defaults (λ (k : MemberDefault). not (is_n (condition tree values k.condition))) choice.members d same) parts.1
      (λ same. differs (ap (λ m. MemberValue m) (newer choice (Some (LinesUser lines)) e ∙ same ∙ sym none))) in
      let one = LinesUser (record { member = is.0; is_y = true } ∷ []) in (
        one,
        ap (λ m. as_user tree.language (MemberValue m)) (newer choice (Some (LinesUser lines)) e ∙ is.1) ∙ ap (λ b. Some (cond b one (MemberUser is.0))) e,
        and_from (is_linux_6_12 tree.language) (is_member (Some choice) is.0 && true) e (and_from (is_member (Some choice) is.0) true is.3 refl),
        ap (λ m. MemberValue m) (newer choice (Some one) e ∙ one_listed seen choice.members default is.0 is.2 ∙ sym (newer choice (Some (LinesUser lines)) e ∙ is.1)),
      )

  restored_choice : (choice : Choice) (x : Option UserValue)
      → IsRestored tree.language (λ y. MemberValue (choice_rule tree choice y values)) (choice_user_fits tree.language (Some choice)) x
  restored_choice choice x fitting differs = elim (cases_Bool (is_linux_6_12 tree.language)) [
    | inl since ↦ restored_newer choice x since fitting differs
    | inr before ↦ restored_older choice x before fitting differs
  ]

  -- a promoted value fits a bool or tristate: that of a bool isn't `m`
  pub fits_promoted : (kind : Kind) (b l : Bool) (t : Tri) → is_tri_kind kind ≡ true → IsTrue (tri_fits kind (promoted_if l (promoted_if (is_bool kind || b) t)))
  fits_promoted Boolean b true t e = never_m (y_for_m t)
  fits_promoted Boolean b false t e = never_m t
  fits_promoted Tristate b l t e = refl
  fits_promoted Text b l t e = absurd (false≢true e)
  fits_promoted Int b l t e = absurd (false≢true e)
  fits_promoted Hex b l t e = absurd (false≢true e)

  restored_symbol : (profile : Profile) (symbol : Symbol) (kind : Kind) → symbol.kind ≡ kind → (x : Option UserValue)
      → IsRestored tree.language (λ y. symbol_rule kind profile tree symbol y values) (symbol_user_fits (Some symbol)) x
  restored_symbol profile symbol Boolean e x = restored_tri profile symbol x (λ l t. fits_promoted symbol.kind (is_tristate symbol.kind && is_n (modules_value tree values)) l t (ap is_tri_kind e))
  restored_symbol profile symbol Tristate e x = restored_tri profile symbol x (λ l t. fits_promoted symbol.kind (is_tristate symbol.kind && is_n (modules_value tree values)) l t (ap is_tri_kind e))
  restored_symbol profile symbol Text e x = restored_text symbol x
  restored_symbol profile symbol Int e x = restored_number symbol (ap is_number e) x
  restored_symbol profile symbol Hex e x = restored_number symbol (ap is_number e) x

  restored_symbol_at : (profile : Profile) (o : Option Symbol) (x : Option UserValue)
      → IsRestored tree.language (λ y. rule_of_symbol profile tree o y values) (symbol_user_fits o) x
  restored_symbol_at profile None x fits differs = absurd (differs refl)
  restored_symbol_at profile (Some symbol) x fits differs = restored_symbol profile symbol symbol.kind refl x fits differs

  restored_choice_at : (o : Option Choice) (x : Option UserValue) → IsRestored tree.language (λ y. rule_of_choice tree o y values) (choice_user_fits tree.language o) x
  restored_choice_at None x fitting differs = absurd (differs refl)
  restored_choice_at (Some choice) x fitting differs = restored_choice choice x fitting differs

  restored_unit : (profile : Profile) (o : Option TreeUnit) (x : Option UserValue)
      → IsRestored tree.language (λ y. rule_of_unit profile tree o y values) (unit_user_fits tree o) x
  restored_unit profile None x fits differs = absurd (differs refl)
  restored_unit profile (Some (of_symbol s)) x fits differs = restored_symbol_at profile (slice_get tree.symbols s) x fits differs
  restored_unit profile (Some (of_choice c)) x fits differs = restored_choice_at (slice_get tree.choices c) x fits differs

-- in every tree and both profiles, a value that a unit gets only with a user value is given again when the value itself is the
-- user value (the restore law)
pub rules_restore : (profile : Profile) (tree : Tree) → Restores (length tree.units) (rule profile tree) (as_user tree.language) (λ u x. IsTrue (user_fits tree u x))
unfolding rule user_fits
rules_restore profile tree = record { restored = λ u x v inside len fits differs. restored_unit tree v profile (slice_get tree.units u) x fits differs }
