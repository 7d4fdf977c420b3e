-- Where no tristate is lifted (`IsLifted`), reading the full file gives the values back.
use Rattle.std.proofs.Common.{find}
use Rattle.kc_minimal_model.proofs.Common.{◌≡◌, ◌≢◌, ◌⊎◌, IfSome, ◌++◌, filter, inl, inr, ℕ, zero, suc, ◌<◌, Bool, true, false, not, ◌&&◌, ◌||◌, ◌==◌, cond, IsTrue, List, [], ◌∷◌, Option, Some, None, length, refl, sym, ap, ◌∙◌, subst, arith, unwrap_or, slice_get, slice_set, nat_eq, is_none}
use Rattle.kc_minimal_model.proofs.Common.{option_map, option_and_then, option_or, AllByRecursion, list_any, list_all, cases_Bool, cases_eq, false≢true, or_parts, or_cases, and_parts, and_from, or_left, or_right, eq-eqb, eqb-true, eqb-false, get_or-set_same, get_or-set_other, N, Y, Tree, Symbol}
use Rattle.kc_minimal_model.proofs.Common.{Choice, MemberDefault, Entry, definition, Language, is_linux_6_12, has_newline, unit_of, index_of_unit, title_of_entry, or_right, or-false, or_assoc, and-false, user_of, Solves, FitsUsers, get-some, Profile, UnitValue, UserValue, MemberLine}
use Rattle.kc_minimal_model.proofs.Common.{moves_user_values, older, newer, none_listed, default_is_seen, is_n, condition, value_of_symbol, value_in_unit, member_of, tri_if_selected, rule_of_unit, rule_of_choice, choice_rule, default_member, as_user, member_user, is_visible, is_visible_member}
use Rattle.kc_minimal_model.proofs.Common.{is_shown, unit_user_fits, symbol_user_fits, choice_user_fits, is_member, is_line, is_written, is_written_symbol, symbol_numbers, rules_frame, inside, place_is, unit_is, LineMeaning, assigns, assigns_escaped, unchosen, silent, merged_user, assigned_over}
use Rattle.kc_minimal_model.proofs.Common.{file_assignment, empty_assignment, over_none, file_fits, is_kept, has_line, may_have_line, is_line_of_its_unit, defines, full_file, IsOrderedTree, ordered_tree, solutions_fit, none_held, none_length}
use Rattle.std.proofs.lemmas.List.{length-set}
use Rattle.kc_tree_model.specs.declared.ids.Unit.{Unit as TreeUnit}
use Rattle.kc_tree_model.specs.declared.ids.Unit.TheVariants.{Symbol as of_symbol, Choice as of_choice}
use Rattle.std.specs.Str.{is_utf8}
use Rattle.std.proofs.lemmas.Bool.{false_from_ne_true}
use Rattle.kc_solver.proofs.OneSolution as solving
use Rattle.kc_rules_model.specs.declared.values.UnitValue.TheVariants.{Tri as TriValue, Text as TextValue, Member as MemberValue}
use Rattle.kc_rules_model.specs.declared.values.UserValue.TheVariants.{Tri as TriUser, Text as TextUser, Member as MemberUser, Lines as LinesUser}
use Rattle.kc_rules_model.specs.MemberLines.{is_listed, merged_lines, last_y, first_listed, selected_without_y, selected_by_lines}
use Rattle.kc_rules_model.specs.checker.RestoreLaw.{selected_is_seen}
use Rattle.kc_rules_model.specs.Rule.{rule, assigned_lines}
use Rattle.kc_rules_model.specs.Dependencies.{dependencies}
use Rattle.kc_rules_model.specs.Shapes.{user_fits}
use Rattle.kc_rules_model.specs.Reports.{is_unselected, is_optional_choice}
use Rattle.kc_dotconfig_model.specs.ConfigLines.{notice}
use Rattle.kc_minimal_model.specs.FullFileLaws.{FullFilesLeadBack}
use Rattle.kc_minimal_model.proofs.Canonical.{decides}
use Rattle.kc_minimal_model.proofs.FullLines.{is_for, HasOwnLines, own_lines}
use Rattle.kc_minimal_model.proofs.EntryTexts.{full_file_by_entry}
use Rattle.kc_minimal_model.proofs.KeptLines.{user_meant}
use Rattle.kc_minimal_model.proofs.KeptUnits.{kept_unit, kept_passes, others_fail}
use Rattle.kc_minimal_model.proofs.LeastFile.{unit_there, speaks_at}
use Rattle.kc_minimal_model.proofs.NeededUnits.{any_found, needs_values}
use Rattle.kc_minimal_model.proofs.OwnLines.{IsOwn, IsUnchosen}
use Rattle.kc_minimal_model.proofs.MemberUsers.{gives, meant_gives}
use Rattle.kc_minimal_model.proofs.OwnValues.{own_values, hidden_values}

some_one : {a b : UnitValue} → Some a ≡ Some b → a ≡ b
some_one e = cc

member_one : {a b : Option ℕ} → MemberValue a ≡ MemberValue b → a ≡ b
member_one e = cc

-- a value that assignments of members represent is that of a choice with a selected member, and they are its `y` alone
lines_meant : (language : Language) (o : Option UnitValue) (lines : List MemberLine) → option_and_then (as_user language) o ≡ Some (LinesUser lines)
    → (m : ℕ) × (lines ≡ record { member = m; is_y = true } ∷ []) × (o ≡ Some (MemberValue (Some m)))
lines_meant language None lines e = cc
lines_meant language (Some (TriValue t)) lines e = cc
lines_meant language (Some (TextValue t)) lines e = cc
lines_meant language (Some (MemberValue None)) lines e = cc
lines_meant language (Some (MemberValue (Some m))) lines e = (m, go (is_linux_6_12 language) e, refl) where
  go : (b : Bool) → Some (cond b (LinesUser (record { member = m; is_y = true } ∷ [])) (MemberUser m)) ≡ Some (LinesUser lines) → lines ≡ record { member = m; is_y = true } ∷ []
  go true e = cc
  go false e = cc

-- an assignment of a member agrees with the value of the member's unit: the member that has `y` is selected, one that has `n` isn't
abbrev IsTrueLine : List UnitValue → ℕ → MemberLine → Type 0
IsTrueLine values u l = (l.is_y ≡ true → slice_get values u ≡ Some (MemberValue (Some l.member))) × (l.is_y ≡ false → slice_get values u ≢ Some (MemberValue (Some l.member)))

-- assignments of members that agree with the value of their unit, among them a `y` where a line gave the unit its value
record AreTrueLines (language : Language) (values : List UnitValue) (u : ℕ) (before : Bool) (o : Option UserValue) : Type 0 where
  lines : List MemberLine
  is : o ≡ Some (LinesUser lines)
  true_lines : AllByRecursion (IsTrueLine values u) lines
  chosen : before ≡ true → user_meant language values u ≢ None → list_any (λ (l : MemberLine). l.is_y) lines ≡ true

-- the user value of a unit after lines that assign each unit its own value, `n` to members that aren't selected, or nothing: its
-- own value if one of the lines gave it, or true assignments of members
abbrev IsGiven : Language → List UnitValue → ℕ → Bool → Option UserValue → Type 0
IsGiven language values u before o = (o ≡ cond before (user_meant language values u) None) ⊎ AreTrueLines language values u before o

-- what holds for all elements of a list holds for those that a filter leaves, and for those of two joined lists
kept_true : (P : MemberLine → Type 0) (p : MemberLine → Bool) (xs ys : List MemberLine) → AllByRecursion P xs → AllByRecursion P ys → AllByRecursion P (filter p xs ++ ys)
kept_true P p [] ys a b = b
kept_true P p (x ∷ xs) ys a b = go (p x) (kept_true P p xs ys a.1 b) where
  go : (t : Bool) → AllByRecursion P (filter p xs ++ ys) → AllByRecursion P (cond t (x ∷ filter p xs) (filter p xs) ++ ys)
  go true rest = (a.0, rest)
  go false rest = rest

any_behind : (q : MemberLine → Bool) (xs ys : List MemberLine) → list_any q ys ≡ true → list_any q (xs ++ ys) ≡ true
any_behind q [] ys any = any
any_behind q (x ∷ xs) ys any = or_right (q x) (list_any q (xs ++ ys)) (any_behind q xs ys any)

-- a `y` isn't lost when `n` of a member that isn't selected comes
y_stays : (values : List UnitValue) (u s : ℕ) (lines ys : List MemberLine) → AllByRecursion (IsTrueLine values u) lines → slice_get values u ≢ Some (MemberValue (Some s))
    → list_any (λ (l : MemberLine). l.is_y) lines ≡ true
    → list_any (λ (l : MemberLine). l.is_y) (filter (λ (l : MemberLine). not ((s == l.member) || false)) lines ++ ys) ≡ true
y_stays values u s [] ys all other any = absurd (false≢true any)
y_stays values u s (l ∷ lines) ys all other any = go (s == l.member) refl (y_stays values u s lines ys all.1 other) where
  go : (t : Bool) → (s == l.member) ≡ t
      → (list_any (λ (k : MemberLine). k.is_y) lines ≡ true → list_any (λ (k : MemberLine). k.is_y) (filter (λ (k : MemberLine). not ((s == k.member) || false)) lines ++ ys) ≡ true)
      → list_any (λ (k : MemberLine). k.is_y) (cond (not (t || false)) (l ∷ filter (λ (k : MemberLine). not ((s == k.member) || false)) lines) (filter (λ (k : MemberLine). not ((s == k.member) || false)) lines) ++ ys) ≡ true
  go true same next = elim (or_cases l.is_y (list_any (λ (k : MemberLine). k.is_y) lines) any) [
    | inl here ↦ absurd (other (all.0.0 here ∙ ap (λ m. Some (MemberValue (Some m))) (sym (eqb-true s l.member same))))
    | inr later ↦ next later
  ]
  go false differs next = elim (or_cases l.is_y (list_any (λ (k : MemberLine). k.is_y) lines) any) [
    | inl here ↦ or_left l.is_y _ here
    | inr later ↦ or_right l.is_y _ (next later)
  ]

module _ (language : Language) (values : List UnitValue) (u : ℕ) where
  -- after the unit's own value: it stays its own, or comes after true assignments
  after_meant : (x : UserValue) → user_meant language values u ≡ Some x → (before after : Bool) → after ≡ true → (o : Option UserValue)
      → IsGiven language values u before o → IsGiven language values u after (Some (merged_user x o))
  after_meant x is before after e o (inl held) =
      inl (ap Some (ap (merged_user x) held ∙ by_before before) ∙ sym (ap (λ b. cond b (user_meant language values u) None) e ∙ is)) where
        by_before : (b : Bool) → merged_user x (cond b (user_meant language values u) None) ≡ x
        by_before true = ap (merged_user x) is ∙ (meant_gives language (slice_get values u) x is).1
        by_before false = over_none x
  after_meant x is before after e o (inr t) = by_shape x is refl where
    by_shape : (y : UserValue) → user_meant language values u ≡ Some y → y ≡ x → IsGiven language values u after (Some (merged_user x o))
    by_shape (TriUser a) is_y same = inl (ap (λ z. Some (merged_user z o)) (sym same) ∙ sym (ap (λ b. cond b (user_meant language values u) None) e ∙ is_y))
    by_shape (TextUser a) is_y same = inl (ap (λ z. Some (merged_user z o)) (sym same) ∙ sym (ap (λ b. cond b (user_meant language values u) None) e ∙ is_y))
    by_shape (MemberUser a) is_y same = inl (ap (λ z. Some (merged_user z o)) (sym same) ∙ sym (ap (λ b. cond b (user_meant language values u) None) e ∙ is_y))
    by_shape (LinesUser later) is_y same =
        let own = lines_meant language (slice_get values u) later is_y in
        inr (record {
          lines = merged_lines later t.lines;
          is = ap (λ z. Some (merged_user z o)) (sym same) ∙ ap (λ z. Some (merged_user (LinesUser later) z)) t.is;
          true_lines = kept_true (IsTrueLine values u) (λ (l : MemberLine). not (is_listed later l.member)) t.lines later t.true_lines
              (subst (AllByRecursion (IsTrueLine values u)) (sym own.1) ((λ y. own.2, λ n. absurd (false≢true (sym n))), tt));
          chosen = λ b some. any_behind (λ (l : MemberLine). l.is_y) (filter (λ (l : MemberLine). not (is_listed later l.member)) t.lines) later
              (ap (list_any (λ (l : MemberLine). l.is_y)) own.1);
        })

  -- after `n` of a member that isn't selected
  after_unchosen : (s : ℕ) → slice_get values u ≢ Some (MemberValue (Some s)) → (before : Bool) (o : Option UserValue) → IsGiven language values u before o
      → IsGiven language values u before (Some (merged_user (LinesUser (record { member = s; is_y = false } ∷ [])) o))
  after_unchosen s differs before o (inr t) =
      inr (record {
        lines = merged_lines (record { member = s; is_y = false } ∷ []) t.lines;
        is = ap (λ z. Some (merged_user (LinesUser (record { member = s; is_y = false } ∷ [])) z)) t.is;
        true_lines = kept_true (IsTrueLine values u) (λ (l : MemberLine). not (is_listed (record { member = s; is_y = false } ∷ []) l.member)) t.lines (record { member = s; is_y = false } ∷ [])
            t.true_lines ((λ y. absurd (false≢true y), λ n. differs), tt);
        chosen = λ b some. y_stays values u s t.lines (record { member = s; is_y = false } ∷ []) t.true_lines differs (t.chosen b some);
      })
  after_unchosen s differs before o (inl held) = by_held (cond before (user_meant language values u) None) refl where
    by_held : (h : Option UserValue) → cond before (user_meant language values u) None ≡ h
        → IsGiven language values u before (Some (merged_user (LinesUser (record { member = s; is_y = false } ∷ [])) o))
    by_held None e =
        inr (record {
          lines = record { member = s; is_y = false } ∷ [];
          is = ap (λ z. Some (merged_user (LinesUser (record { member = s; is_y = false } ∷ [])) z)) (held ∙ e);
          true_lines = ((λ y. absurd (false≢true y), λ n. differs), tt);
          chosen = λ b some. absurd (some (sym (ap (λ t. cond t (user_meant language values u) None) b) ∙ e));
        })
    by_held (Some (TriUser t)) e = inl (ap (λ z. Some (merged_user (LinesUser (record { member = s; is_y = false } ∷ [])) z)) (held ∙ e) ∙ sym e)
    by_held (Some (TextUser t)) e = inl (ap (λ z. Some (merged_user (LinesUser (record { member = s; is_y = false } ∷ [])) z)) (held ∙ e) ∙ sym e)
    by_held (Some (MemberUser t)) e = inl (ap (λ z. Some (merged_user (LinesUser (record { member = s; is_y = false } ∷ [])) z)) (held ∙ e) ∙ sym e)
    by_held (Some (LinesUser lines)) e =
        let meant : user_meant language values u ≡ Some (LinesUser lines) = given_meant before e in
        let own = lines_meant language (slice_get values u) lines meant in
        let all : AllByRecursion (IsTrueLine values u) lines = subst (AllByRecursion (IsTrueLine values u)) (sym own.1) ((λ y. own.2, λ n. absurd (false≢true (sym n))), tt) in
        inr (record {
          lines = merged_lines (record { member = s; is_y = false } ∷ []) lines;
          is = ap (λ z. Some (merged_user (LinesUser (record { member = s; is_y = false } ∷ [])) z)) (held ∙ e);
          true_lines = kept_true (IsTrueLine values u) (λ (l : MemberLine). not (is_listed (record { member = s; is_y = false } ∷ []) l.member)) lines (record { member = s; is_y = false } ∷ [])
              all ((λ y. absurd (false≢true y), λ n. differs), tt);
          chosen = λ b some. y_stays values u s lines (record { member = s; is_y = false } ∷ []) all differs (ap (list_any (λ (l : MemberLine). l.is_y)) own.1);
        }) where
          given_meant : (b : Bool) → cond b (user_meant language values u) None ≡ Some (LinesUser lines) → user_meant language values u ≡ Some (LinesUser lines)
          given_meant true e = e
          given_meant false e = cc

-- after lines that assign each unit its own value, `n` to members that aren't selected, or nothing, a unit has what they give it
after_own : (language : Language) (values : List UnitValue) (u : ℕ) (meanings : List LineMeaning) (held : List (Option UserValue)) (before : Bool) → u < length held
    → AllByRecursion (IsOwn language values) meanings → IsGiven language values u before (user_of held u)
    → IsGiven language values u (before || list_any (is_for u) meanings) (user_of (assigned_over meanings held) u)
after_own language values u [] held before h own e = subst (λ b. IsGiven language values u b (user_of held u)) (sym (or-false before)) e
after_own language values u (assigns_escaped w text ∷ meanings) held before h own e = absurd own.0
after_own language values u (unchosen w s ∷ meanings) held before h own e = after_own language values u meanings held before h own.1 e
after_own language values u (notice kind ∷ meanings) held before h own e = absurd own.0
after_own language values u (silent ∷ meanings) held before h own e = after_own language values u meanings held before h own.1 e
after_own language values u (assigns w x ∷ meanings) held before h own e =
    let z = merged_user x (user_of held w) in
    let len = length-set held w (Some z) in
    let is_u = nat_eq w u && gives x in
    subst (λ b. IsGiven language values u b (user_of (assigned_over meanings (slice_set held w (Some z))) u)) (or_assoc before is_u (list_any (is_for u) meanings))
    (after_own language values u meanings (slice_set held w (Some z)) (before || is_u) (omega arith) own.1 (elim (cases_Bool (nat_eq w u)) [
      | inl same ↦
          let is : w ≡ u = eqb-true w u same in
          let here : user_of (slice_set held w (Some z)) u ≡ Some (merged_user x (user_of held u)) =
          ap (λ k. user_of (slice_set held k (Some (merged_user x (user_of held k)))) u) is ∙ get_or-set_same held u (Some (merged_user x (user_of held u))) None h in
          subst (IsGiven language values u (before || is_u)) (sym here) (by_own is same own.0)
      | inr other ↦
          let unlike : (before || is_u) ≡ before = ap (λ b. before || (b && gives x)) other ∙ or-false before in
          subst (λ o. IsGiven language values u (before || is_u) o) (sym (get_or-set_other held w u (Some z) None (λ equal. eqb-false w u other (sym equal))))
          (subst (λ b. IsGiven language values u b (user_of held u)) (sym unlike) e)
    ])) where
      by_own : w ≡ u → nat_eq w u ≡ true → (user_meant language values w ≡ Some x) ⊎ IsUnchosen values w x
          → IsGiven language values u (before || (nat_eq w u && gives x)) (Some (merged_user x (user_of held u)))
      by_own is same (inl own) =
          let meant : user_meant language values u ≡ Some x = ap (user_meant language values) (sym is) ∙ own in
          let counts : (before || (nat_eq w u && gives x)) ≡ true =
          ap (λ b. before || b) (and_from (nat_eq w u) (gives x) same (meant_gives language (slice_get values u) x meant).0) ∙ or_right before true refl in
          after_meant language values u x meant before (before || (nat_eq w u && gives x)) counts (user_of held u) e
      by_own is same (inr n) =
          let counts_not : (before || (nat_eq w u && gives x)) ≡ before =
          ap (λ y. before || (nat_eq w u && gives y)) n.1 ∙ ap (λ b. before || b) (and-false (nat_eq w u)) ∙ or-false before in
          let differs : slice_get values u ≢ Some (MemberValue (Some n.0)) = λ e. n.2 (ap (slice_get values) is ∙ e) in
          subst (λ y. IsGiven language values u (before || (nat_eq w u && gives x)) (Some (merged_user y (user_of held u)))) (sym n.1)
          (subst (λ b. IsGiven language values u b (Some (merged_user (LinesUser (record { member = n.0; is_y = false } ∷ [])) (user_of held u)))) (sym counts_not)
          (after_unchosen language values u n.0 differs before (user_of held u) e))

-- a definition is among the entries
defined : (entries : List Entry) (k s : ℕ) → slice_get entries k ≡ Some (definition s) → list_any (defines s) entries ≡ true
defined [] k s at = cc
defined (entry ∷ entries) zero s at =
    let same : entry ≡ definition s = cc in
    or_left (defines s entry) (list_any (defines s) entries) (ap (defines s) same ∙ eq-eqb s s refl)
defined (entry ∷ entries) (suc k) s at = or_right (defines s entry) (list_any (defines s) entries) (defined entries k s at)

-- the member of a choice that isn't `n` is the choice's value
chosen_is : (s : ℕ) (o : Option UnitValue) → not (is_n (tri_if_selected s (member_of o))) ≡ true → o ≡ Some (MemberValue (Some s))
chosen_is s (Some (MemberValue (Some m))) e = elim (cases_Bool (m == s)) [
  | inl same ↦ ap (λ k. Some (MemberValue (Some k))) (eqb-true m s same)
  | inr other ↦ absurd (false≢true (ap (λ b. not (is_n (cond b Y N))) (sym other) ∙ e))
]
chosen_is s _ e = absurd (false≢true e)

-- a member that isn't visible counts for nothing
hidden_choice : (shown seen : Bool) (s : ℕ) (other : Option ℕ) → seen ≡ false
    → cond shown (option_or (cond seen (Some s) None) other) None ≡ cond shown (option_or None other) None
hidden_choice shown seen s other e = ap (λ b. cond shown (option_or (cond b (Some s) None) other) None) e

hidden_member : (tree : Tree) (values : List UnitValue) (o : Option Choice) (s : ℕ) → is_linux_6_12 tree.language ≡ false → is_visible_member tree values s ≡ false
    → rule_of_choice tree o (Some (MemberUser s)) values ≡ rule_of_choice tree o None values
hidden_member tree values None s before e = refl
hidden_member tree values (Some choice) s before e =
    ap MemberValue (older tree values choice (Some (MemberUser s)) before ∙ hidden_choice (is_shown tree values choice) (is_visible_member tree values s) s _ e
    ∙ sym (older tree values choice None before))

-- all members that a fitting user value of a choice lists are its members
assigned_fit : (tree : Tree) (choice : Choice) (x : Option UserValue) → IfSome x (λ y. IsTrue (choice_user_fits tree.language (Some choice) y))
    → list_all (λ (l : MemberLine). list_any (λ m. m == l.member) choice.members) (assigned_lines x) ≡ true
assigned_fit tree choice (Some (LinesUser lines)) fits = (and_parts (is_linux_6_12 tree.language) (list_all (λ (l : MemberLine). list_any (λ m. m == l.member) choice.members) lines) fits).1
assigned_fit tree choice _ fits = refl

-- what is selected is visible
selected_seen : (tree : Tree) (values : List UnitValue) (choice : Choice) (x : Option UserValue) (s : ℕ) → is_linux_6_12 tree.language ≡ true
    → IfSome x (λ y. IsTrue (choice_user_fits tree.language (Some choice) y)) → choice_rule tree choice x values ≡ Some s
    → is_visible_member tree values s ≡ true
selected_seen tree values choice x s since fits is =
    let seen = is_visible_member tree values in
    let default = default_member tree choice values in
    let default_seen : (d : ℕ) → default ≡ Some d → seen d ≡ true =
    λ d same. default_is_seen seen choice.optional choice.defaults (λ (k : MemberDefault). not (is_n (condition tree values k.condition))) choice.members d same in
    let by_lines : selected_by_lines seen choice.members default (assigned_lines x) ≡ Some s = sym (newer tree values choice x since) ∙ is in
    elim (member_decides (selected_by_lines seen choice.members default (assigned_lines x)) default) [
      | inl same ↦ default_seen s (sym same ∙ by_lines)
      | inr differs ↦
          let r = selected_is_seen seen choice.members default (assigned_lines x) default_seen (assigned_fit tree choice x fits) differs in
          let one : r.0 ≡ s = let e = r.1 in cc (e, by_lines) in
          ap seen (sym one) ∙ r.2
    ] where
      member_decides : (a b : Option ℕ) → (a ≡ b) ⊎ (a ≢ b)
      member_decides None None = inl refl
      member_decides None (Some b) = inr (λ e. cc)
      member_decides (Some a) None = inr (λ e. cc)
      member_decides (Some a) (Some b) = elim (cases_eq a b) [
        | inl same ↦ inl (ap Some same)
        | inr other ↦ inr (λ e. other (let one : a ≡ b = cc in one))
      ]

module _ (profile : Profile) (tree : Tree) (settled : IsOrderedTree tree) (users : List (Option UserValue)) (values : List UnitValue)
    (fitting : FitsUsers (length tree.units) (λ u x. IsTrue (user_fits tree u x)) users)
    (solved : Solves (length tree.units) (rule profile tree) users values) where
  seen_is_written : (s : ℕ) (symbol : Symbol) → slice_get tree.symbols s ≡ Some symbol → is_visible tree values symbol ≡ true
      → is_unselected tree values symbol.choice ≡ false → is_written tree values s ≡ true
  seen_is_written s symbol at seen selected = ap (λ o. unwrap_or (option_map (is_written_symbol tree values) o) false) at
      ∙ or_left (is_visible tree values symbol && not (is_unselected tree values symbol.choice)) _
      (ap (λ b. b && not (is_unselected tree values symbol.choice)) seen ∙ ap not selected)

  -- a unit whose value is what it is without a user value isn't kept
  not_kept : (u : ℕ) → u < length tree.units → rule profile tree u (user_of users u) values ≡ rule profile tree u None values
      → is_kept profile tree values u ≡ true → ⊥
  not_kept u below same kept = false≢true (sym (others_fail profile tree users values fitting solved u (solved.holds u below ∙ ap Some same)) ∙ kept)

  outside_written : (s : ℕ) (symbol : Symbol) → slice_get tree.symbols s ≡ Some symbol → symbol.choice ≡ None
      → is_kept profile tree values (unit_of tree s) ≡ true → is_written tree values s ≡ true
  outside_written s symbol at out kept =
      let own = settled.consistent.own_units s symbol at out in
      let here : slice_get tree.units (unit_of tree s) ≡ Some (of_symbol s) = ap (slice_get tree.units)
      (unit_is tree settled.consistent s own.0 symbol None at out own.1) ∙ own.1 in
      elim (cases_Bool (is_visible tree values symbol)) [
        | inl seen ↦ seen_is_written s symbol at seen (ap (is_unselected tree values) out)
        | inr hidden ↦ absurd (not_kept (unit_of tree s) (inside tree.units (unit_of tree s) (of_symbol s) here)
            (hidden_values profile tree values (unit_of tree s) s symbol (user_of users (unit_of tree s)) here at hidden) kept)
      ]

  member_written : (s c : ℕ) (symbol : Symbol) → slice_get tree.symbols s ≡ Some symbol → symbol.choice ≡ Some c → has_line profile tree values s ≡ true
      → is_kept profile tree values (unit_of tree s) ≡ true
      → not (is_n (tri_if_selected s (member_of (slice_get values (index_of_unit tree (of_choice c)))))) ≡ true → is_written tree values s ≡ true
  unfolding rule user_fits
  member_written s c symbol at within has kept chosen =
      let own = settled.consistent.units_of_members s c symbol at within in
      let u = unit_of tree s in
      let here : slice_get tree.units (unit_of tree s) ≡ Some (of_choice c) = ap (slice_get tree.units)
      (unit_is tree settled.consistent s own.0 symbol (Some c) at within own.1) ∙ own.1 in
      let holds : slice_get values (unit_of tree s) ≡ Some (MemberValue (Some s)) = ap (slice_get values)
      (sym (place_is tree settled.consistent (unit_of tree s) (of_choice c) here))
      ∙ chosen_is s (slice_get values (index_of_unit tree (of_choice c))) chosen in
      elim (cases_Bool (is_visible_member tree values s)) [
        | inl seen ↦ seen_is_written s symbol at (sym (ap (λ o. unwrap_or (option_map (is_visible tree values) o) false) at) ∙ seen)
            (ap (is_unselected tree values) within ∙ ap (λ o. is_optional_choice tree c && is_none (member_of o))
            (chosen_is s (slice_get values (index_of_unit tree (of_choice c))) chosen) ∙ and-false (is_optional_choice tree c))
        | inr hidden ↦ absurd (elim (cases_Bool (is_linux_6_12 tree.language)) [
          | inl since ↦
              let choice = settled.consistent.choice_units u c here in
              let fits : IfSome (user_of users u) (λ y. IsTrue (choice_user_fits tree.language (Some choice.0) y)) =
              subst (λ o. IfSome (user_of users u) (λ y. IsTrue (choice_user_fits tree.language o y))) choice.1
              (subst (λ o. IfSome (user_of users u) (λ y. IsTrue (unit_user_fits tree o y))) here (fitting.1 u (inside tree.units u (of_choice c) here))) in
              let is : MemberValue (choice_rule tree choice.0 (user_of users u) values) ≡ MemberValue (Some s) =
              let e = solved.holds u (inside tree.units u (of_choice c) here) in
              let f : Some (rule_of_unit profile tree (slice_get tree.units u) (user_of users u) values) ≡ Some (MemberValue (Some s)) = sym e ∙ holds in
              sym (ap (λ o. rule_of_unit profile tree o (user_of users u) values) here ∙ ap (λ o. rule_of_choice tree o (user_of users u) values) choice.1) ∙ some_one f in
              false≢true (sym hidden ∙ selected_seen tree values choice.0 (user_of users u) s since fits (member_one is))
          | inr before ↦
              let assigned : user_of users u ≡ Some (MemberUser s) =
              (needs_values profile tree users values settled fitting solved s (MemberValue (Some s)) has holds refl).0 (ap (moves_user_values tree) here ∙ before)
              ∙ ap (λ b. Some (cond b (LinesUser (record { member = s; is_y = true } ∷ [])) (MemberUser s))) before in
              let same : rule profile tree u (user_of users u) values ≡ rule profile tree u None values =
              ap (λ x. rule_of_unit profile tree (slice_get tree.units u) x values) assigned
              ∙ ap (λ o. rule_of_unit profile tree o (Some (MemberUser s)) values) here ∙ hidden_member tree values (slice_get tree.choices c) s before hidden
              ∙ sym (ap (λ o. rule_of_unit profile tree o None values) here) in
              not_kept u (inside tree.units u (of_choice c) here) same kept
        ])
      ]

  at_choice : (s : ℕ) (symbol : Symbol) → slice_get tree.symbols s ≡ Some symbol → (c : Option ℕ) → symbol.choice ≡ c → has_line profile tree values s ≡ true
      → is_kept profile tree values (unit_of tree s) ≡ true
      → is_line_of_its_unit c (value_in_unit tree values s symbol c) ≡ true → is_written tree values s ≡ true
  at_choice s symbol at None out has kept may = outside_written s symbol at out kept
  at_choice s symbol at (Some c) within has kept may = member_written s c symbol at within has kept may

  at_symbol : (s : ℕ) (o : Option Symbol) → slice_get tree.symbols s ≡ o → has_line profile tree values s ≡ true
      → is_kept profile tree values (unit_of tree s) ≡ true
      → may_have_line o (option_map (λ (symbol : Symbol). value_in_unit tree values s symbol symbol.choice) o) ≡ true
      → (symbol : Symbol) × (slice_get tree.symbols s ≡ Some symbol) × (is_written tree values s ≡ true)
  at_symbol s None at has kept may = absurd (false≢true may)
  at_symbol s (Some symbol) at has kept may = (symbol, at, at_choice s symbol at symbol.choice refl has kept may)

  -- a symbol with a line in the minimal file is written in the full file
  pub line_written : (s : ℕ) → has_line profile tree values s ≡ true
      → (symbol : Symbol) × (slice_get tree.symbols s ≡ Some symbol) × (is_written tree values s ≡ true)
  line_written s has =
      let parts = and_parts (is_kept profile tree values (unit_of tree s)) (may_have_line (slice_get tree.symbols s) (value_of_symbol tree values s)) has in
      at_symbol s (slice_get tree.symbols s) refl has parts.0 parts.1

module _ (profile : Profile) (tree : Tree) (settled : IsOrderedTree tree) (users : List (Option UserValue)) (values : List UnitValue)
    (fitting : FitsUsers (length tree.units) (λ u x. IsTrue (user_fits tree u x)) users)
    (solved : Solves (length tree.units) (rule profile tree) users values) where
  meant_some : (u m : ℕ) → slice_get values u ≡ Some (MemberValue (Some m)) → user_meant tree.language values u ≢ None
  meant_some u m has e =
      let some : user_meant tree.language values u ≡ Some (member_user tree.language m) = ap (option_and_then (as_user tree.language)) has in
      cc (some, e)

  seen_default : (choice : Choice) (d : ℕ) → default_member tree choice values ≡ Some d → is_visible_member tree values d ≡ true
  seen_default choice d same =
      default_is_seen (is_visible_member tree values) choice.optional choice.defaults (λ (k : MemberDefault). not (is_n (condition tree values k.condition))) choice.members d same

  no_last : (seen : ℕ → Bool) (lines : List MemberLine) → list_any (λ (l : MemberLine). l.is_y) lines ≡ false → last_y seen lines ≡ None
  no_last seen [] none = refl
  no_last seen (l ∷ lines) none =
      let parts = or_parts l.is_y (list_any (λ (k : MemberLine). k.is_y) lines) none in
      ap (λ o. option_or o (cond (l.is_y && seen l.member) (Some l.member) None)) (no_last seen lines parts.1)
      ∙ ap (λ b. cond (b && seen l.member) (Some l.member) None) parts.0

  no_y : (u : ℕ) (lines : List MemberLine) → AllByRecursion (IsTrueLine values u) lines → slice_get values u ≡ Some (MemberValue None)
      → list_any (λ (l : MemberLine). l.is_y) lines ≡ false
  no_y u [] all has = refl
  no_y u (l ∷ lines) all has = go l.is_y refl (no_y u lines all.1 has) where
    go : (b : Bool) → l.is_y ≡ b → list_any (λ (k : MemberLine). k.is_y) lines ≡ false → (b || list_any (λ (k : MemberLine). k.is_y) lines) ≡ false
    go true e next = let y = all.0.0 e in cc (y, has)
    go false e next = next

  -- where nothing is selected there is no default member
  none_by_default : (choice : Choice) (x : Option UserValue) → IfSome x (λ y. IsTrue (choice_user_fits tree.language (Some choice) y))
      → selected_by_lines (is_visible_member tree values) choice.members (default_member tree choice values) (assigned_lines x) ≡ None
      → default_member tree choice values ≡ None
  none_by_default choice x fits is = go (default_member tree choice values) refl where
    go : (o : Option ℕ) → default_member tree choice values ≡ o → default_member tree choice values ≡ None
    go None e = e
    go (Some d) e =
        let differs : selected_by_lines (is_visible_member tree values) choice.members (default_member tree choice values) (assigned_lines x) ≢ default_member tree choice values = λ same. cc (same, is, e) in
        let r = selected_is_seen (is_visible_member tree values) choice.members (default_member tree choice values) (assigned_lines x) (seen_default choice) (assigned_fit tree choice x fits) differs in
        let some = r.1 in cc (some, is)

  -- of true assignments the last visible `y` is that of the selected member, if there is one and it is visible
  last_true : (seen : ℕ → Bool) (u m : ℕ) (lines : List MemberLine) → AllByRecursion (IsTrueLine values u) lines → slice_get values u ≡ Some (MemberValue (Some m))
      → seen m ≡ true → list_any (λ (l : MemberLine). l.is_y) lines ≡ true → last_y seen lines ≡ Some m
  last_true seen u m [] all has visible any = absurd (false≢true any)
  last_true seen u m (l ∷ lines) all has visible any = elim (cases_Bool (list_any (λ (k : MemberLine). k.is_y) lines)) [
    | inl later ↦ ap (λ o. option_or o (cond (l.is_y && seen l.member) (Some l.member) None)) (last_true seen u m lines all.1 has visible later)
    | inr none ↦
        let is_y : l.is_y ≡ true = first_true l.is_y (list_any (λ (k : MemberLine). k.is_y) lines) none any in
        let own : l.member ≡ m = let e = all.0.0 is_y in cc (e, has) in
        ap (λ o. option_or o (cond (l.is_y && seen l.member) (Some l.member) None)) (no_last seen lines none)
        ∙ ap (λ b. cond b (Some l.member) None) (and_from l.is_y (seen l.member) is_y (ap seen own ∙ visible)) ∙ ap Some own
  ] where
    first_true : (a b : Bool) → b ≡ false → (a || b) ≡ true → a ≡ true
    first_true true b none any = refl
    first_true false b none any = absurd (false≢true (sym none ∙ any))

  -- without a `y` no true assignment lists the selected member
  not_listed : (u m : ℕ) (lines : List MemberLine) → AllByRecursion (IsTrueLine values u) lines → slice_get values u ≡ Some (MemberValue (Some m))
      → list_any (λ (l : MemberLine). l.is_y) lines ≡ false → is_listed lines m ≡ false
  not_listed u m [] all has none = refl
  not_listed u m (l ∷ lines) all has none = go l.is_y refl (l.member == m) refl none (not_listed u m lines all.1 has) where
    go : (a : Bool) → l.is_y ≡ a → (b : Bool) → (l.member == m) ≡ b → (a || list_any (λ (k : MemberLine). k.is_y) lines) ≡ false
        → (list_any (λ (k : MemberLine). k.is_y) lines ≡ false → is_listed lines m ≡ false) → (b || is_listed lines m) ≡ false
    go true e b same none next = absurd (false≢true (sym none))
    go false e true same none next = absurd (all.0.1 e (has ∙ ap (λ k. Some (MemberValue (Some k))) (sym (eqb-true l.member m same))))
    go false e false same none next = next none

  -- true assignments of members give the value that the members' choice has
  true_lines_give : (for_u : Bool) (u : ℕ) (held : UnitValue) (lines : List MemberLine) → u < length tree.units → slice_get values u ≡ Some held
      → user_fits tree u (LinesUser lines) ≡ true → AllByRecursion (IsTrueLine values u) lines
      → (for_u ≡ true → user_meant tree.language values u ≢ None → list_any (λ (l : MemberLine). l.is_y) lines ≡ true)
      → (for_u ≡ false → rule profile tree u None values ≡ held)
      → rule profile tree u (Some (LinesUser lines)) values ≡ held
  unfolding rule user_fits
  true_lines_give for_u u held lines below has fits all chosen default_held = at_unit (slice_get tree.units u) refl where
    at_symbol : (o : Option Symbol) → symbol_user_fits o (LinesUser lines) ≡ true → ⊥
    at_symbol None e = false≢true e
    at_symbol (Some symbol) e = false≢true e

    at_unit : (o : Option TreeUnit) → slice_get tree.units u ≡ o → rule_of_unit profile tree (slice_get tree.units u) (Some (LinesUser lines)) values ≡ held
    at_unit None at = absurd (false≢true (ap (λ o. unit_user_fits tree o (LinesUser lines)) (sym at) ∙ fits))
    at_unit (Some (of_symbol s)) at = absurd (at_symbol (slice_get tree.symbols s) (ap (λ o. unit_user_fits tree o (LinesUser lines)) (sym at) ∙ fits))
    at_unit (Some (of_choice c)) at = at_choice (settled.consistent.choice_units u c at) where
      at_choice : (choice : Choice) × (slice_get tree.choices c ≡ Some choice) → rule_of_unit profile tree (slice_get tree.units u) (Some (LinesUser lines)) values ≡ held
      at_choice found =
          let choice = found.0 in
          let seen = is_visible_member tree values in
          let default = default_member tree choice values in
          let since : is_linux_6_12 tree.language ≡ true =
          (and_parts (is_linux_6_12 tree.language) (list_all (λ (l : MemberLine). is_member (slice_get tree.choices c) l.member) lines)
          (ap (λ o. unit_user_fits tree o (LinesUser lines)) (sym at) ∙ fits)).0 in
          let rule_is : (x : Option UserValue) → rule_of_unit profile tree (slice_get tree.units u) x values ≡ MemberValue (selected_by_lines seen choice.members default (assigned_lines x)) =
          λ x. ap (λ o. rule_of_unit profile tree o x values) at ∙ ap (λ o. rule_of_choice tree o x values) found.1 ∙ ap MemberValue (newer tree values choice x since) in
          let user = user_of users u in
          let held_is : held ≡ MemberValue (selected_by_lines seen choice.members default (assigned_lines user)) =
          some_one (sym has ∙ solved.holds u below) ∙ rule_is user in
          let fits_user : IfSome user (λ y. IsTrue (choice_user_fits tree.language (Some choice) y)) =
          subst (λ o. IfSome user (λ y. IsTrue (choice_user_fits tree.language o y))) found.1
          (subst (λ o. IfSome user (λ y. IsTrue (unit_user_fits tree o y))) at (fitting.1 u below)) in
          rule_is (Some (LinesUser lines)) ∙ by_value choice (sym found.1) since (selected_by_lines seen choice.members default (assigned_lines user)) refl held_is fits_user
          (λ not_for. sym (ap MemberValue (none_listed seen choice.members default)) ∙ sym (rule_is None) ∙ default_held not_for) where
            by_value : (choice : Choice) → Some choice ≡ slice_get tree.choices c → is_linux_6_12 tree.language ≡ true → (o : Option ℕ)
                → selected_by_lines (is_visible_member tree values) choice.members (default_member tree choice values) (assigned_lines (user_of users u)) ≡ o
                → held ≡ MemberValue o → IfSome (user_of users u) (λ y. IsTrue (choice_user_fits tree.language (Some choice) y))
                → (for_u ≡ false → MemberValue (default_member tree choice values) ≡ held)
                → MemberValue (selected_by_lines (is_visible_member tree values) choice.members (default_member tree choice values) lines) ≡ held
            by_value choice there since None is held_is fits_user default_is =
                let none : list_any (λ (l : MemberLine). l.is_y) lines ≡ false = no_y u lines all (has ∙ ap Some held_is) in
                let no_default : default_member tree choice values ≡ None = none_by_default choice (user_of users u) fits_user is in
                ap MemberValue (ap (λ o. option_or o (selected_without_y (is_visible_member tree values) choice.members (default_member tree choice values) lines)) (no_last (is_visible_member tree values) lines none)
                ∙ ap (λ d. selected_without_y (is_visible_member tree values) choice.members d lines) no_default) ∙ sym held_is
            by_value choice there since (Some m) is held_is fits_user default_is =
                let held_m : slice_get values u ≡ Some (MemberValue (Some m)) = has ∙ ap Some held_is in
                let visible : is_visible_member tree values m ≡ true =
                selected_seen tree values choice (user_of users u) m since fits_user (newer tree values choice (user_of users u) since ∙ is) in
                elim (cases_Bool (list_any (λ (l : MemberLine). l.is_y) lines)) [
                  | inl any ↦
                      ap (λ o. MemberValue (option_or o (selected_without_y (is_visible_member tree values) choice.members (default_member tree choice values) lines)))
                      (last_true (is_visible_member tree values) u m lines all held_m visible any) ∙ sym held_is
                  | inr none ↦
                      let not_for : for_u ≡ false = false_from_ne_true for_u (λ e. false≢true (sym none ∙ chosen e (meant_some u m held_m))) in
                      let default : default_member tree choice values ≡ Some m = member_one (default_is not_for ∙ held_is) in
                      ap MemberValue (ap (λ o. option_or o (selected_without_y (is_visible_member tree values) choice.members (default_member tree choice values) lines)) (no_last (is_visible_member tree values) lines none)
                      ∙ ap (λ d. selected_without_y (is_visible_member tree values) choice.members d lines) default
                      ∙ ap (λ b. cond b (option_or (find (λ s. is_visible_member tree values s && not (is_listed lines s)) choice.members) (first_listed (is_visible_member tree values) lines)) (Some m))
                      (not_listed u m lines all held_m none)) ∙ sym held_is
                ]

-- where no visible tristate would get another value if its value were its user value, reading the full file
-- of a fitting assignment's values gives these values back
pub full_files_back : FullFilesLeadBack
full_files_back format profile tree users values valid whole fitting gives unlifted =
    record {
      utf8 = full.utf8;
      meanings = full.meanings;
      has_meaning = full.has_meaning;
      gives = record {
        solves = solves;
        only = λ others solved_too. solving.unique (length tree.units) (dependencies tree) (rule profile tree)
            (λ u x. IsTrue (user_fits tree u x)) (ordered_tree tree whole).order (ordered_tree tree whole).ordered
            (rules_frame profile tree) again fits_again.1 others values solved_too solves;
      };
    } where
      settled : IsOrderedTree tree
      settled = ordered_tree tree whole

      solved : Solves (length tree.units) (rule profile tree) users values
      solved = gives.solves

      plain : (k : ℕ) (entry : Entry) (title : List ℕ) → slice_get tree.entries k ≡ Some entry → title_of_entry entry ≡ Some title → is_line title ≡ true
      plain k entry title at is =
          and_from (not (has_newline title)) (is_utf8 title) (ap not (whole.consistent.titles_one_line k entry title at is))
          (whole.consistent.titles_utf8 k entry title at is)

      full : HasOwnLines format tree values (λ s. (list_any (defines s) tree.entries ≡ true) × (list_any (nat_eq s) [] ≡ false)
          × (is_written tree values s ≡ true) × (has_line profile tree values s ≡ true)) (full_file format tree values)
      full =
          subst (HasOwnLines format tree values (λ s. (list_any (defines s) tree.entries ≡ true) × (list_any (nat_eq s) [] ≡ false)
          × (is_written tree values s ≡ true) × (has_line profile tree values s ≡ true))) (sym (full_file_by_entry format tree values))
          (own_lines format valid profile tree settled users values fitting solved (solutions_fit profile tree settled users fitting values solved) tree.entries
          [] false plain)

      again : List (Option UserValue)
      again = file_assignment tree full.meanings

      fits_again : FitsUsers (length tree.units) (λ u x. IsTrue (user_fits tree u x)) (file_assignment tree full.meanings)
      fits_again = file_fits format tree (full_file format tree values) full.meanings settled.consistent full.utf8 full.has_meaning

      given_again : (u : ℕ) → u < length tree.units → IsGiven tree.language values u (list_any (is_for u) full.meanings) (user_of (file_assignment tree full.meanings) u)
      given_again u below =
          after_own tree.language values u full.meanings (empty_assignment tree) false (let len = none_length (length tree.units) in omega (arith, len, below)) full.own
          (inl (none_held (length tree.units) u))

      -- a kept unit has a line in the full file
      listed : (u : ℕ) → u < length tree.units → is_kept profile tree values u ≡ true → list_any (is_for u) full.meanings ≡ true
      listed u below kept =
          let unit = unit_there format valid profile tree settled.consistent users values fitting solved u below in
          let k = kept_unit profile tree users values fitting solved u below kept in
          let some = speaks_at format valid profile tree settled.consistent users values fitting solved u kept k unit.0 unit.1 in
          let s = any_found (λ t. unit_of tree t == u) (has_line profile tree values) (symbol_numbers tree) some in
          let written = line_written profile tree settled users values fitting solved s.0 s.1 in
          let place = whole.consistent.defined s.0 written.0 written.1 in
          subst (λ w. list_any (is_for w) full.meanings ≡ true) (eqb-true (unit_of tree s.0) u s.2)
          (full.covers s.0 (defined tree.entries place.0 s.0 place.1, refl, written.2, s.1))

      -- a unit that no line of the full file gives a value has the one that it has without a user value
      unlisted : (u : ℕ) → u < length tree.units → (held : UnitValue) → slice_get values u ≡ Some held → list_any (is_for u) full.meanings ≡ false
          → rule profile tree u None values ≡ held
      unlisted u below held has not_for = elim (decides (rule profile tree u None values) held) [
        | inl same ↦ same
        | inr differs ↦
            let kept = kept_passes profile tree users values fitting solved u below (λ e. differs (some_one (sym e ∙ has))) in
            absurd (false≢true (sym not_for ∙ listed u below kept))
      ]

      same_value : (u : ℕ) → u < length tree.units → (held : UnitValue) → slice_get values u ≡ Some held
          → rule profile tree u (user_of (file_assignment tree full.meanings) u) values ≡ held
      same_value u below held has = by_given (given_again u below) where
        by_given : IsGiven tree.language values u (list_any (is_for u) full.meanings) (user_of (file_assignment tree full.meanings) u)
            → rule profile tree u (user_of (file_assignment tree full.meanings) u) values ≡ held
        by_given (inl again) = elim (cases_Bool (list_any (is_for u) full.meanings)) [
          | inl for_u ↦
              let user : user_of (file_assignment tree full.meanings) u ≡ as_user tree.language held = again ∙ ap (λ b. cond b (user_meant tree.language values u) None) for_u
              ∙ ap (option_and_then (as_user tree.language)) has in
              ap (λ x. rule profile tree u x values) user ∙ own_values profile tree users values fitting solved u held below has (unlifted u)
          | inr not_for ↦
              let user : user_of (file_assignment tree full.meanings) u ≡ None = again ∙ ap (λ b. cond b (user_meant tree.language values u) None) not_for in
              ap (λ x. rule profile tree u x values) user ∙ unlisted u below held has not_for
        ]
        by_given (inr t) =
            ap (λ x. rule profile tree u x values) t.is
            ∙ true_lines_give profile tree settled users values fitting solved (list_any (is_for u) full.meanings) u held t.lines below has
            (subst (λ o. IfSome o (λ y. IsTrue (user_fits tree u y))) t.is (fits_again.1 u below)) t.true_lines t.chosen (unlisted u below held has)

      solves : Solves (length tree.units) (rule profile tree) (file_assignment tree full.meanings) values
      solves = record {
        one_each = solved.one_each;
        holds = λ u below.
            let len = solved.one_each in
            let held = get-some values u (omega (arith, below, len)) in
            held.1 ∙ ap Some (sym (same_value u below held.0 held.1));
      }
