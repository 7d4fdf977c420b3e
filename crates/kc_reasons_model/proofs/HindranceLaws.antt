-- What hinders a user value.
use Rattle.std.proofs.Common.{find}
use Rattle.std.specs.Prelude.{is_some as is_there, ◌&&◌}
use Rattle.kc_reasons_model.proofs.Common.{IsTrue, IfSome, [], ◌∷◌, ◌≡◌, ◌≢◌, ◌↔◌, ℕ, Bool, true, false, not, ◌||◌, cond, List, Option, Some, None, ℤ, pos, slice_get, refl, sym, ◌∙◌, ap, unwrap_or, inl, inr, ◌⊎◌, bytes_eq, option_map, ◌==◌, option_and_then, option_or, AllByRecursion, false≢true}
use Rattle.kc_reasons_model.proofs.Common.{true≢false, not-false, not-true, and_parts, and_from, or_left, or_right, or_cases, cases_eq, ne_eqb, eqb-true, eq-eqb, bytes_eq-Decides, number_of_text, Tri, Kind, Tristate, tri_and, tri_or, y_for_m, is_linux_6_12, Tree, Symbol, Choice, Range, unit_of}
use Rattle.kc_reasons_model.proofs.Common.{user_of, Profile, UnitValue, UserValue, MemberLine, is_listed, last_y, first_listed, selected_without_y, selected_by_lines, same_tri, same_value, is_n, unit_user_fits, symbol_user_fits, choice_user_fits, rule_of_unit, rule_of_symbol, rule_of_choice}
use Rattle.kc_reasons_model.proofs.Common.{symbol_rule, tri_rule, choice_rule, visibility, is_visible, is_from_environment, selected, unassigned_value, leaves_no_m, active_range, is_within, is_upside_down, clamped, is_shown, is_visible_member, default_member, number_default, default_text}
use Rattle.kc_reasons_model.proofs.Common.{assigned_member, is_given_n, Hindrance, BelowSelected, FromEnvironment, Hidden, AboveVisibility, Promoted, UpsideDown, OutOfRange, ChoiceNotShown, MemberHidden, LaterY, FirstOfAll, ChoiceCase, FirstUnlisted, FirstListed, NotShown, below, is_without_m}
use Rattle.kc_reasons_model.proofs.Common.{is_listed_default, member_by_default, first_member, first_unlisted, default_choice_case, choice_case, given_member, hindrance_to, hindrances, is_given_y, is_given_both, after}
use Rattle.std.proofs.lemmas.List.Folds.{find_at}
use Rattle.kc_value.specs.declared.value.Kind.TheVariants.{Bool as Boolean, Text as String}
use Rattle.kc_tree_model.specs.TreeLookup.{unit_in, unit_of_symbol, index_of_unit, is_same_unit}
use Rattle.kc_tree_model.specs.declared.ids.Unit.{Unit as TreeUnit}
use Rattle.kc_tree_model.specs.declared.ids.Unit.TheVariants.{Symbol as of_symbol, Choice as of_choice}
use Rattle.kc_rules_model.specs.declared.values.UnitValue.TheVariants.{Tri as TriValue, Text as TextValue, Member as MemberValue}
use Rattle.kc_rules_model.specs.declared.values.UserValue.TheVariants.{Tri as TriUser, Text as TextUser, Member as MemberUser, Lines as LinesUser}
use Rattle.kc_rules_model.specs.checker.EqualityLaws.{values_decided}
use Rattle.kc_rules_model.specs.checker.RestoreLaw.{older, newer}
use Rattle.kc_rules_model.specs.Shapes.{user_fits, tri_fits, user_text_fits}
use Rattle.kc_rules_model.specs.Rule.{rule}
use Rattle.kc_dotconfig_model.specs.MissedAssignments.{is_missed_as, is_last_y}
use Rattle.kc_reasons_model.specs.declared.cases.Hindrance.TheVariants.{ImpliedY}
use Rattle.kc_reasons_model.specs.declared.cases.ChoiceCase.TheVariants.{User as UserMember}
use Rattle.kc_reasons_model.specs.Hindrances.{suffices, hinders, is_about, is_asked_n, is_this, is_another, is_first_listed, is_as_asked, hinders_unit, hinders_symbol, hinders_choice, hinders_listed, hinders_member, hinders_tri, holds_of_text, holds_of_member, holds_of_tri}
use Rattle.kc_reasons_model.specs.Laws.{HasAsked, HindrancesAreMissed, HindrancesHold, HindrancesSuffice, MissedAreHindered}
use Rattle.kc_dotconfig_model.proofs.Tables.{at4}
use Rattle.kc_reasons_model.proofs.CaseLaws.{within_stays, choice_gives}
use Rattle.kc_reasons_model.proofs.MemberLaws.{passes, selected_seen, default_seen}

-- which hindrance is found
abbrev hindrance_by : (asked visibility selected : Tri) → (without_m : Bool) → Hindrance
hindrance_by a v s without_m = cond (below a s) BelowSelected (cond (is_n v) Hidden (cond (below v a) AboveVisibility (cond without_m Promoted ImpliedY)))

abbrev tri_hindrance : Tree → Symbol → Tri → List UnitValue → Hindrance
tri_hindrance tree symbol a values = hindrance_by a (visibility tree values symbol) (selected tree values symbol) (is_without_m tree values symbol.kind)

abbrev text_hindrance : Tree → Symbol → List UnitValue → Hindrance
text_hindrance tree symbol values = cond (is_visible tree values symbol)
    (cond (is_upside_down tree values symbol.kind (active_range tree values symbol)) UpsideDown OutOfRange) Hidden

abbrev member_hindrance : Tree → Choice → List UnitValue → Hindrance
member_hindrance tree choice values = cond (is_shown tree values choice) MemberHidden ChoiceNotShown

abbrev listed_hindrance : Tree → ℕ → List MemberLine → List UnitValue → Hindrance
listed_hindrance tree s lines values = cond (is_given_y lines s) (cond (is_visible_member tree values s) LaterY MemberHidden) FirstOfAll

abbrev hindrance_at_symbol : Tree → Option Symbol → UserValue → List UnitValue → Hindrance
hindrance_at_symbol tree (Some symbol) (TriUser a) values = tri_hindrance tree symbol a values
hindrance_at_symbol tree (Some symbol) _ values = text_hindrance tree symbol values
hindrance_at_symbol tree None x values = Hidden

abbrev hindrance_at_choice : Tree → Option Choice → ℕ → UserValue → List UnitValue → Hindrance
hindrance_at_choice tree (Some choice) s (LinesUser lines) values = listed_hindrance tree s lines values
hindrance_at_choice tree (Some choice) s _ values = member_hindrance tree choice values
hindrance_at_choice tree None s x values = ChoiceNotShown

abbrev hindrance_at : Tree → Option TreeUnit → ℕ → UserValue → List UnitValue → Hindrance
hindrance_at tree (Some (of_symbol k)) s x values = hindrance_at_symbol tree (slice_get tree.symbols k) x values
hindrance_at tree (Some (of_choice c)) s x values = hindrance_at_choice tree (slice_get tree.choices c) s x values
hindrance_at tree None s x values = Hidden

-- none of some is found where none passes
none_passes : {X : Type 0} (p : X → Bool) (xs : List X) → find p xs ≡ None → AllByRecursion (λ x. p x ≡ false) xs
none_passes p [] e = tt
none_passes p (x ∷ xs) e = go (p x) e (none_passes p xs) where
  go : (b : Bool) → cond b (Some x) (find p xs) ≡ None → (find p xs ≡ None → AllByRecursion (λ y. p y ≡ false) xs) → (b ≡ false) × AllByRecursion (λ y. p y ≡ false) xs
  go true e rest = absurd (cc)
  go false e rest = (refl, rest e)

-- each of them is looked for
looked_for : (p : Hindrance → Bool) (h : Hindrance) → AllByRecursion (λ x. p x ≡ false) hindrances → p h ≡ false
looked_for p BelowSelected all = all.0
looked_for p FromEnvironment all = all.1.0
looked_for p Hidden all = all.1.1.0
looked_for p AboveVisibility all = all.1.1.1.0
looked_for p Promoted all = all.1.1.1.1.0
looked_for p ImpliedY all = all.1.1.1.1.1.0
looked_for p UpsideDown all = all.1.1.1.1.1.1.0
looked_for p OutOfRange all = all.1.1.1.1.1.1.1.0
looked_for p ChoiceNotShown all = all.1.1.1.1.1.1.1.1.0
looked_for p MemberHidden all = all.1.1.1.1.1.1.1.1.1.0
looked_for p LaterY all = all.1.1.1.1.1.1.1.1.1.1.0
looked_for p FirstOfAll all = all.1.1.1.1.1.1.1.1.1.1.1.0

-- a tristate's value with the user value a, where r and l say whether `m` becomes `y`
abbrev with_user : (r l : Bool) → (a v s un : Tri) → Tri
with_user r l a v s un =
    let t = tri_or (cond (not (is_n v)) (tri_and a v) un) s in
    let p = cond r (y_for_m t) t in
    cond l (y_for_m p) p

abbrev truth : (e r l : Bool) → (a v s un : Tri) → Bool
truth e r l a v s un = same_tri (with_user r l a v s un) a || holds_of_tri (hindrance_by a v s r) a v s e r l

tri_truth : (e r l : Bool) (a v s un : Tri) → truth e r l a v s un ≡ true
tri_truth e true true = at4 (truth e true true) refl
tri_truth e true false = at4 (truth e true false) refl
tri_truth e false true = at4 (truth e false true) refl
tri_truth e false false = at4 (truth e false false) refl

bytes_same : (a : List ℕ) → bytes_eq a a ≡ true
bytes_same a = (bytes_eq-Decides a a).1 refl

member_same : (s : ℕ) → same_value (MemberValue (Some s)) (MemberValue (Some s)) ≡ true
member_same s = (values_decided (MemberValue (Some s)) (MemberValue (Some s))).1 refl

-- a number of the user's that doesn't give its own text
module _ (tree : Tree) (values : List UnitValue) (kind : Kind) (range : Option Range) where
  outside_range : (n : ℤ) (text : List ℕ) → bytes_eq (clamped tree values kind range n text) text ≡ false → not (is_within tree values kind range n) ≡ true
  outside_range n text differs = go (is_within tree values kind range n) refl where
    go : (b : Bool) → is_within tree values kind range n ≡ b → not b ≡ true
    go true e = absurd (true≢false (sym (bytes_same text) ∙ ap (λ t. bytes_eq t text) (sym (within_stays tree values kind range n text e)) ∙ differs))
    go false e = refl

  number_truth : (env linux seen : Bool) (number : List ℕ → ℤ) (text d : List ℕ)
      → bytes_eq (unwrap_or (option_and_then (λ (x : List ℕ). cond linux (cond (is_upside_down tree values kind range) None (Some (clamped tree values kind range (number x) x))) (cond (is_within tree values kind range (number x)) (Some x) None)) (cond seen (Some text) None)) d) text ≡ false
      → holds_of_text (cond seen (cond (is_upside_down tree values kind range) UpsideDown OutOfRange) Hidden) env seen (is_upside_down tree values kind range) (is_within tree values kind range (number text)) ≡ true
  number_truth env linux false number text d differs = refl
  number_truth env true true number text d differs = go (is_upside_down tree values kind range) differs where
    go : (b : Bool) → bytes_eq (unwrap_or (cond b None (Some (clamped tree values kind range (number text) text))) d) text ≡ false
        → holds_of_text (cond b UpsideDown OutOfRange) env true b (is_within tree values kind range (number text)) ≡ true
    go true differs = refl
    go false differs = outside_range (number text) text differs
  number_truth env false true number text d differs = go (is_upside_down tree values kind range) (is_within tree values kind range (number text)) differs where
    go : (b w : Bool) → bytes_eq (unwrap_or (cond w (Some text) None) d) text ≡ false → holds_of_text (cond b UpsideDown OutOfRange) env true b w ≡ true
    go true w differs = refl
    go false true differs = absurd (true≢false (sym (bytes_same text) ∙ differs))
    go false false differs = refl

string_truth : (env seen upside within : Bool) (text d : List ℕ) → bytes_eq (unwrap_or (cond seen (Some text) None) d) text ≡ false → holds_of_text (cond seen (cond upside UpsideDown OutOfRange) Hidden) env seen upside within ≡ true
string_truth env false upside within text d differs = refl
string_truth env true upside within text d differs = absurd (true≢false (sym (bytes_same text) ∙ differs))

member_truth : (shown seen : Bool) (s : ℕ) (rest : Option ℕ) → same_value (MemberValue (cond shown (option_or (cond seen (Some s) None) rest) None)) (MemberValue (Some s)) ≡ false
    → holds_of_member (cond shown MemberHidden ChoiceNotShown) shown seen ≡ true
member_truth true true s rest differs = absurd (true≢false (sym (member_same s) ∙ differs))
member_truth true false s rest differs = refl
member_truth false seen s rest differs = refl

-- ---- assignments of members

value_of : (o : Option ℕ) (s : ℕ) → same_value (MemberValue o) (MemberValue (Some s)) ≡ is_this s o
value_of None s = refl
value_of (Some m) s = refl

-- a visible member with `y` is the last one, or another one is
last_or_other : (seen : ℕ → Bool) (lines : List MemberLine) (s : ℕ) → is_given_y lines s ≡ true → seen s ≡ true → is_there (last_y seen lines) ≡ true
last_or_other seen [] s given visible = absurd (false≢true given)
last_or_other seen (l ∷ lines) s given visible =
    go (last_y seen lines) (or_cases ((l.member == s) && l.is_y) (is_given_y lines s) given) (λ later. last_or_other seen lines s later visible) where
      go : (o : Option ℕ) → (((l.member == s) && l.is_y) ≡ true) ⊎ (is_given_y lines s ≡ true) → (is_given_y lines s ≡ true → is_there o ≡ true) → is_there (option_or o (cond (l.is_y && seen l.member) (Some l.member) None)) ≡ true
      go (Some m) either rest = refl
      go None (inl here) rest =
          let both = and_parts (l.member == s) l.is_y here in
          ap (λ b. is_there (cond b (Some l.member) None)) (and_from l.is_y (seen l.member) both.1 (ap seen (eqb-true l.member s both.0) ∙ visible))
      go None (inr later) rest = absurd (false≢true (rest later))

-- the last member with `y` has `y`
last_given : (seen : ℕ → Bool) (lines : List MemberLine) (s : ℕ) → last_y seen lines ≡ Some s → is_given_y lines s ≡ true
last_given seen [] s e = absurd (cc)
last_given seen (l ∷ lines) s e = go (last_y seen lines) (l.is_y && seen l.member) refl e (last_given seen lines s) where
  go : (o : Option ℕ) (b : Bool) → (l.is_y && seen l.member) ≡ b → option_or o (cond b (Some l.member) None) ≡ Some s → (o ≡ Some s → is_given_y lines s ≡ true) → (((l.member == s) && l.is_y) || is_given_y lines s) ≡ true
  go (Some m) b g e rest = or_right ((l.member == s) && l.is_y) (is_given_y lines s) (rest e)
  go None true g e rest = let same : l.member ≡ s = cc in or_left ((l.member == s) && l.is_y) (is_given_y lines s) (and_from (l.member == s) l.is_y (eq-eqb l.member s same) (and_parts l.is_y (seen l.member) g).0)
  go None false g e rest = absurd (cc)

n_is_listed : (lines : List MemberLine) (s : ℕ) → is_given_n lines s ≡ true → is_listed lines s ≡ true
n_is_listed [] s e = absurd (false≢true e)
n_is_listed (l ∷ lines) s e = go (l.member == s) e (n_is_listed lines s) where
  go : (c : Bool) → ((c && not l.is_y) || is_given_n lines s) ≡ true → (is_given_n lines s ≡ true → is_listed lines s ≡ true) → (c || is_listed lines s) ≡ true
  go true e rest = refl
  go false e rest = rest e

-- what a unit's hindrance says, where its rule gives another value
module _ (tree : Tree) (values : List UnitValue) where
  tri_hindered : (profile : Profile) (symbol : Symbol) (a : Tri) → same_tri (tri_rule profile tree symbol (Some (TriUser a)) values) a ≡ false → hinders_tri (tri_hindrance tree symbol a values) profile tree symbol a values ≡ true
  tri_hindered profile symbol a differs =
      after _ _ (tri_truth (is_from_environment symbol) (is_without_m tree values symbol.kind) (leaves_no_m profile tree values symbol) a (visibility tree values symbol) (selected tree values symbol) (unassigned_value profile tree values symbol)) differs

  symbol_hindered : (profile : Profile) (symbol : Symbol) (kind : Kind) → symbol.kind ≡ kind → (s : ℕ) (x : UserValue) → symbol_user_fits (Some symbol) x ≡ true → is_as_asked s x (symbol_rule kind profile tree symbol (Some x) values) ≡ false
      → hinders_symbol (hindrance_at_symbol tree (Some symbol) x values) profile tree (Some symbol) x values ≡ true
  symbol_hindered profile symbol Boolean e s (TriUser a) fits differs = tri_hindered profile symbol a differs
  symbol_hindered profile symbol Tristate e s (TriUser a) fits differs = tri_hindered profile symbol a differs
  symbol_hindered profile symbol String e s (TextUser text) fits differs = string_truth (is_from_environment symbol) (is_visible tree values symbol) _ _ text (default_text tree values symbol) differs
  symbol_hindered profile symbol _ e s (TriUser a) fits differs = absurd (false≢true (ap (λ k. tri_fits k a) (sym e) ∙ fits))
  symbol_hindered profile symbol Boolean e s (TextUser text) fits differs = absurd (false≢true (ap (λ k. user_text_fits k text) (sym e) ∙ fits))
  symbol_hindered profile symbol Tristate e s (TextUser text) fits differs = absurd (false≢true (ap (λ k. user_text_fits k text) (sym e) ∙ fits))
  symbol_hindered profile symbol _ e s (TextUser text) fits differs = number_truth tree values symbol.kind (active_range tree values symbol) (is_from_environment symbol) (is_linux_6_12 tree.language) (is_visible tree values symbol) (λ (x : List ℕ). unwrap_or (number_of_text symbol.kind x) (pos 0)) text (number_default tree values symbol) differs
  symbol_hindered profile symbol kind e s (MemberUser m) fits differs = absurd (false≢true fits)
  symbol_hindered profile symbol kind e s (LinesUser lines) fits differs = absurd (false≢true fits)

  symbol_at_hindered : (profile : Profile) (o : Option Symbol) (s : ℕ) (x : UserValue) → symbol_user_fits o x ≡ true → is_as_asked s x (rule_of_symbol profile tree o (Some x) values) ≡ false
      → hinders_symbol (hindrance_at_symbol tree o x values) profile tree o x values ≡ true
  symbol_at_hindered profile None s x fits differs = absurd (false≢true fits)
  symbol_at_hindered profile (Some symbol) s x fits differs = symbol_hindered profile symbol symbol.kind refl s x fits differs

  member_hindered : (choice : Choice) (m : ℕ) → is_linux_6_12 tree.language ≡ false → same_value (MemberValue (choice_rule tree choice (Some (MemberUser m)) values)) (MemberValue (Some m)) ≡ false
      → hinders_member (member_hindrance tree choice values) tree choice m values ≡ true
  member_hindered choice m e differs = member_truth (is_shown tree values choice) (is_visible_member tree values m) m (default_member tree choice values)
      (ap (λ o. same_value (MemberValue o) (MemberValue (Some m))) (sym (older tree values choice (Some (MemberUser m)) e)) ∙ differs)

  module _ (choice : Choice) (s : ℕ) (lines : List MemberLine) (linux : is_linux_6_12 tree.language ≡ true) where
    abbrev seen : ℕ → Bool
    seen = is_visible_member tree values

    abbrev chosen : Option ℕ
    chosen = selected_by_lines seen choice.members (default_member tree choice values) lines

    -- it has `y`, and isn't selected
    y_hindered : is_given_y lines s ≡ true → is_this s chosen ≡ false → hinders_listed (cond (seen s) LaterY MemberHidden) tree choice s lines values ≡ true
    y_hindered given not_chosen = go (seen s) refl where
      at : (o : Option ℕ) → last_y seen lines ≡ o → is_there o ≡ true → is_this s (option_or o (selected_without_y seen choice.members (default_member tree choice values) lines)) ≡ false → is_another s o ≡ true
      at None e some f = absurd (false≢true some)
      at (Some m) e some f = ap not f

      go : (b : Bool) → seen s ≡ b → hinders_listed (cond b LaterY MemberHidden) tree choice s lines values ≡ true
      go true e = and_from (is_given_y lines s) _ given (at (last_y seen lines) refl (last_or_other seen lines s given e) not_chosen)
      go false e = and_from (is_given_y lines s) _ given (ap not e)

    -- it has `n`, and is selected
    n_hindered : is_given_y lines s ≡ false → is_given_n lines s ≡ true → is_this s chosen ≡ true → hinders_listed FirstOfAll tree choice s lines values ≡ true
    n_hindered none given is_chosen = and_from (is_asked_n lines s) _ (and_from (is_given_n lines s) _ given (ap not none)) (by_last (last_y seen lines) refl is_chosen) where
      listed : is_listed lines s ≡ true
      listed = n_is_listed lines s given

      this_is : (o : Option ℕ) → is_this s o ≡ true → o ≡ Some s
      this_is None e = absurd (false≢true e)
      this_is (Some m) e = ap Some (eqb-true m s e)

      case_is : last_y seen lines ≡ None → is_listed_default lines (default_member tree choice values) ≡ true → first_unlisted tree choice lines values ≡ None → is_first_listed (choice_case tree choice (Some (LinesUser lines)) values) ≡ true
      case_is a b c =
          ap (λ l. is_first_listed (cond (not (l || is_shown tree values choice)) NotShown
          (cond (is_there (cond l (last_y seen lines) (option_and_then (λ t. cond (seen t) (Some t) None) (assigned_member (Some (LinesUser lines)))))) UserMember
          (cond (is_listed_default (cond l lines []) (default_member tree choice values))
          (cond (is_there (first_unlisted tree choice (cond l lines []) values)) FirstUnlisted FirstListed)
          (default_choice_case choice.optional (is_there (member_by_default tree choice values)) (is_there (first_member tree choice values))))))) linux
          ∙ ap (λ o. is_first_listed (cond (is_there o) UserMember (cond (is_listed_default lines (default_member tree choice values)) (cond (is_there (first_unlisted tree choice lines values)) FirstUnlisted FirstListed) (default_choice_case choice.optional (is_there (member_by_default tree choice values)) (is_there (first_member tree choice values)))))) a
          ∙ ap (λ d. is_first_listed (cond d (cond (is_there (first_unlisted tree choice lines values)) FirstUnlisted FirstListed) (default_choice_case choice.optional (is_there (member_by_default tree choice values)) (is_there (first_member tree choice values))))) b
          ∙ ap (λ o. is_first_listed (cond (is_there o) FirstUnlisted FirstListed)) c

      by_unlisted : last_y seen lines ≡ None → is_listed_default lines (default_member tree choice values) ≡ true → (o : Option ℕ) → first_unlisted tree choice lines values ≡ o → is_this s (option_or o (first_listed seen lines)) ≡ true
          → (is_first_listed (choice_case tree choice (Some (LinesUser lines)) values) && is_this s (first_listed seen lines)) ≡ true
      by_unlisted a b (Some k) c is =
          let found = passes (λ j. seen j && not (is_listed lines j)) choice.members k c in
          absurd (true≢false (sym listed ∙ ap (is_listed lines) (sym (eqb-true k s is)) ∙ not-true (is_listed lines k) (and_parts (seen k) (not (is_listed lines k)) found).1))
      by_unlisted a b None c is = and_from _ _ (case_is a b c) is

      by_default : last_y seen lines ≡ None → (o : Option ℕ) → default_member tree choice values ≡ o → is_this s (selected_without_y seen choice.members o lines) ≡ true
          → (is_first_listed (choice_case tree choice (Some (LinesUser lines)) values) && is_this s (first_listed seen lines)) ≡ true
      by_default a None b is = absurd (false≢true is)
      by_default a (Some d) b is = go (is_listed lines d) refl is where
        go : (c : Bool) → is_listed lines d ≡ c → is_this s (cond c (option_or (first_unlisted tree choice lines values) (first_listed seen lines)) (Some d)) ≡ true
            → (is_first_listed (choice_case tree choice (Some (LinesUser lines)) values) && is_this s (first_listed seen lines)) ≡ true
        go true c is = by_unlisted a (ap (is_listed_default lines) b ∙ c) (first_unlisted tree choice lines values) refl is
        go false c is = absurd (true≢false (sym listed ∙ ap (is_listed lines) (sym (eqb-true d s is)) ∙ c))

      by_last : (o : Option ℕ) → last_y seen lines ≡ o → is_this s (option_or o (selected_without_y seen choice.members (default_member tree choice values) lines)) ≡ true
          → (is_first_listed (choice_case tree choice (Some (LinesUser lines)) values) && is_this s (first_listed seen lines)) ≡ true
      by_last (Some m) a is = absurd (true≢false (sym (last_given seen lines s (a ∙ this_is (Some m) is)) ∙ none))
      by_last None a is = by_default a (default_member tree choice values) refl is

    listed_hindered : is_as_asked s (LinesUser lines) (MemberValue (choice_rule tree choice (Some (LinesUser lines)) values)) ≡ false → hinders_listed (listed_hindrance tree s lines values) tree choice s lines values ≡ true
    listed_hindered differs = go (is_this s chosen) refl (is_given_y lines s) refl (is_given_n lines s) refl
        (sym (ap (λ b. cond b (not (is_asked_n lines s)) (not (is_given_y lines s))) (ap (λ o. same_value (MemberValue o) (MemberValue (Some s))) (newer tree values choice (Some (LinesUser lines)) linux) ∙ value_of chosen s)) ∙ differs) where
          go : (c : Bool) → is_this s chosen ≡ c → (y : Bool) → is_given_y lines s ≡ y → (n : Bool) → is_given_n lines s ≡ n → cond c (not (n && not y)) (not y) ≡ false
              → hinders_listed (cond y (cond (seen s) LaterY MemberHidden) FirstOfAll) tree choice s lines values ≡ true
          go true a false b true c e = n_hindered b c a
          go true a true b true c e = absurd (true≢false e)
          go true a y b false c e = absurd (true≢false e)
          go false a true b n c e = y_hindered b a
          go false a false b n c e = absurd (true≢false e)

  choice_at_hindered : (o : Option Choice) (s : ℕ) (x : UserValue) → choice_user_fits tree.language o x ≡ true → is_as_asked s x (rule_of_choice tree o (Some x) values) ≡ false
      → hinders_choice (hindrance_at_choice tree o s x values) tree o s x values ≡ true
  choice_at_hindered None s (MemberUser m) fits differs = absurd (false≢true (and_parts (not (is_linux_6_12 tree.language)) false fits).1)
  choice_at_hindered None s (LinesUser []) fits differs = absurd (true≢false differs)
  choice_at_hindered None s (LinesUser (l ∷ lines)) fits differs = absurd (false≢true (and_parts (is_linux_6_12 tree.language) false fits).1)
  choice_at_hindered (Some choice) s (MemberUser m) fits differs = member_hindered choice m (not-true (is_linux_6_12 tree.language) (and_parts (not (is_linux_6_12 tree.language)) _ fits).0) differs
  choice_at_hindered (Some choice) s (LinesUser lines) fits differs = listed_hindered choice s lines (and_parts (is_linux_6_12 tree.language) _ fits).0 differs
  choice_at_hindered o s _ fits differs = absurd (false≢true fits)

  unit_hindered : (profile : Profile) (o : Option TreeUnit) (s : ℕ) (x : UserValue) → unit_user_fits tree o x ≡ true → is_as_asked s x (rule_of_unit profile tree o (Some x) values) ≡ false
      → hinders_unit (hindrance_at tree o s x values) profile tree o s x values ≡ true
  unit_hindered profile None s x fits differs = absurd (false≢true fits)
  unit_hindered profile (Some (of_symbol k)) s x fits differs = symbol_at_hindered profile (slice_get tree.symbols k) s x fits differs
  unit_hindered profile (Some (of_choice c)) s x fits differs = choice_at_hindered (slice_get tree.choices c) s x fits differs

-- ---- what is asked

asked_lines : (y n : Bool) (b : Bool) (value : UnitValue) (s : ℕ) → same_value value (MemberValue (Some s)) ≡ b
    → (cond b (not n) (not y) ≡ true) ↔ ((y ≡ true → value ≡ MemberValue (Some s)) × (n ≡ true → value ≢ MemberValue (Some s)))
asked_lines y n true value s e = (
  λ f. (λ g. (values_decided value (MemberValue (Some s))).0 e, λ g same. true≢false (sym g ∙ not-true n f)),
  λ f. go n f.1,
) where
  go : (c : Bool) → (c ≡ true → value ≢ MemberValue (Some s)) → not c ≡ true
  go true f = absurd (f refl ((values_decided value (MemberValue (Some s))).0 e))
  go false f = refl
asked_lines y n false value s e = (
  λ f. (λ g. absurd (true≢false (sym g ∙ not-true y f)), λ g same. false≢true (sym e ∙ (values_decided value (MemberValue (Some s))).1 same)),
  λ f. go y f.0,
) where
  go : (c : Bool) → (c ≡ true → value ≡ MemberValue (Some s)) → not c ≡ true
  go true f = absurd (false≢true (sym e ∙ (values_decided value (MemberValue (Some s))).1 (f refl)))
  go false f = refl

asked_decided : (s : ℕ) (x : UserValue) (value : UnitValue) → (is_as_asked s x value ≡ true) ↔ HasAsked s x value
asked_decided s (TriUser t) value = values_decided value (TriValue t)
asked_decided s (TextUser text) value = values_decided value (TextValue text)
asked_decided s (MemberUser m) value = values_decided value (MemberValue (Some m))
asked_decided s (LinesUser lines) value = asked_lines (is_given_y lines s) (is_asked_n lines s) (same_value value (MemberValue (Some s))) value s refl

-- something hinders what isn't as it is asked
module _ (profile : Profile) (tree : Tree) (u s : ℕ) (values : List UnitValue) where
  is_hindered : (x : UserValue) → user_fits tree u x ≡ true → is_as_asked s x (rule profile tree u (Some x) values) ≡ false → find (λ h. hinders h profile tree u s x values) hindrances ≡ None → ⊥
  unfolding rule user_fits hinders
  is_hindered x fits differs none =
      let h = hindrance_at tree (slice_get tree.units u) s x values in
      let all = none_passes (λ g. hinders g profile tree u s x values) hindrances none in
      false≢true (sym (looked_for (λ g. hinders g profile tree u s x values) h all) ∙ unit_hindered tree values profile (slice_get tree.units u) s x fits differs)

  hindered_unless : (x : UserValue) → user_fits tree u x ≡ true → (b : Bool) → is_as_asked s x (rule profile tree u (Some x) values) ≡ b
      → not b ≡ is_there (cond b None (find (λ h. hinders h profile tree u s x values) hindrances))
  hindered_unless x fits true e = refl
  hindered_unless x fits false e = go (find (λ h. hinders h profile tree u s x values) hindrances) refl where
    go : (o : Option Hindrance) → find (λ h. hinders h profile tree u s x values) hindrances ≡ o → true ≡ is_there o
    go None none = absurd (is_hindered x fits e none)
    go (Some h) some = refl

  -- of assignments of members, which ask no member for both `y` and `n`
  lines_missed : (lines : List MemberLine) (value : UnitValue) → is_given_both s (Some (LinesUser lines)) ≡ false
      → is_missed_as (Some u) s (Some (LinesUser lines)) (Some value) ≡ ((is_given_n lines s || is_last_y lines s) && not (is_as_asked s (LinesUser lines) value))
  lines_missed lines value one = go (same_value value (MemberValue (Some s))) (is_given_y lines s) (is_given_n lines s) one (is_last_y lines s) last_is_given where
    last_is_given : is_last_y lines s ≡ true → is_given_y lines s ≡ true
    last_is_given e = last_given (λ m. true) lines s (is_some_of (last_y (λ m. true) lines) e) where
      is_some_of : (o : Option ℕ) → unwrap_or (option_map (λ m. m == s) o) false ≡ true → o ≡ Some s
      is_some_of None e = absurd (false≢true e)
      is_some_of (Some m) e = ap Some (eqb-true m s e)

    go : (c y n : Bool) → (y && n) ≡ false → (l : Bool) → (l ≡ true → y ≡ true) → cond c n l ≡ ((n || l) && not (cond c (not (n && not y)) (not y)))
    go true true true one l f = absurd (true≢false one)
    go true false true one l f = refl
    go true y false one true f = ap (λ b. not (not (false && not b))) (sym (f refl))
    go true y false one false f = refl
    go false true true one l f = absurd (true≢false one)
    go false true false one true f = refl
    go false true false one false f = refl
    go false false n one true f = absurd (false≢true (f refl))
    go false false true one false f = refl
    go false false false one false f = refl

  missed_as : (choice : Option ℕ) (user : Option UserValue) → IfSome user (λ x. IsTrue (user_fits tree u x)) → is_given_both s user ≡ false
      → (choice ≡ None → (lines : List MemberLine) → user_fits tree u (LinesUser lines) ≡ true → ⊥)
      → is_missed_as choice s user (Some (rule profile tree u user values)) ≡ (is_about choice s user && is_there (hindrance_to profile tree u s user values))
  missed_as None None fits one alone = refl
  missed_as None (Some (TriUser t)) fits one alone = hindered_unless (TriUser t) fits _ refl
  missed_as None (Some (TextUser text)) fits one alone = hindered_unless (TextUser text) fits _ refl
  missed_as None (Some (MemberUser m)) fits one alone = hindered_unless (MemberUser m) fits _ refl
  missed_as None (Some (LinesUser lines)) fits one alone = absurd (alone refl lines fits)
  missed_as (Some c) (Some (MemberUser m)) fits one alone = ap (λ b. (m == s) && b) (hindered_unless (MemberUser m) fits _ refl)
  missed_as (Some c) (Some (LinesUser lines)) fits one alone =
      lines_missed lines (rule profile tree u (Some (LinesUser lines)) values) one ∙ ap (λ b. (is_given_n lines s || is_last_y lines s) && b) (hindered_unless (LinesUser lines) fits _ refl)
  missed_as (Some c) _ fits one alone = refl

none_there : (o : Option Hindrance) → o ≡ None → is_there o ≡ false
none_there None e = refl
none_there (Some h) e = absurd (cc)

there_none : (o : Option Hindrance) → is_there o ≡ false → o ≡ None
there_none None e = refl
there_none (Some h) e = absurd (true≢false e)

pub missed : HindrancesAreMissed
missed profile tree u s x values fits =
    let test = is_as_asked s x (rule profile tree u (Some x) values) in
    let decided = asked_decided s x (rule profile tree u (Some x) values) in
    let unless = hindered_unless profile tree u s values x fits test refl in (
      λ none. decided.0 (not-false test (unless ∙ none_there _ none)),
      λ same. there_none _ (sym unless ∙ ap not (decided.1 same)),
    )

-- the unit of a symbol outside choices has no assignments of members
no_lines : (tree : Tree) (s : ℕ) (lines : List MemberLine) (o : Option TreeUnit) → find (is_same_unit (of_symbol s)) tree.units ≡ o → unit_user_fits tree o (LinesUser lines) ≡ true → ⊥
no_lines tree s lines None e fits = false≢true fits
no_lines tree s lines (Some (of_symbol k)) e fits = none (slice_get tree.symbols k) fits where
  none : (o : Option Symbol) → symbol_user_fits o (LinesUser lines) ≡ true → ⊥
  none None f = false≢true f
  none (Some symbol) f = false≢true f
no_lines tree s lines (Some (of_choice c)) e fits = false≢true (passes (is_same_unit (of_symbol s)) tree.units (of_choice c) e)

no_lines_alone : (tree : Tree) (s : ℕ) (symbol : Symbol) → slice_get tree.symbols s ≡ Some symbol → symbol.choice ≡ None → (lines : List MemberLine) → user_fits tree (unit_of tree s) (LinesUser lines) ≡ true → ⊥
unfolding user_fits
no_lines_alone tree s symbol is alone lines fits =
    let at : unit_of tree s ≡ index_of_unit tree (of_symbol s) = ap (unit_of_symbol tree s) is ∙ ap (λ c. index_of_unit tree (unit_in s c)) alone in
    no_lines tree s lines (slice_get tree.units (index_of_unit tree (of_symbol s))) (find_at (is_same_unit (of_symbol s)) tree.units)
    (sym (ap (λ k. unit_user_fits tree (slice_get tree.units k) (LinesUser lines)) at) ∙ fits)

pub missed_hindered : MissedAreHindered
missed_hindered profile tree users values s symbol solves is inside fits one =
    let u = unit_of tree s in
    ap (λ o. unwrap_or (option_map (λ (x : Symbol). is_missed_as x.choice s (user_of users u) (slice_get values u)) o) false) is
    ∙ ap (λ v. is_missed_as symbol.choice s (user_of users u) v) (solves.holds u inside)
    ∙ missed_as profile tree u s values symbol.choice (user_of users u) fits one (no_lines_alone tree s symbol is)

-- what is reported is what was found
found_unless : (b : Bool) (o : Option Hindrance) (h : Hindrance) → cond b None o ≡ Some h → o ≡ Some h
found_unless true o h e = absurd (cc)
found_unless false o h e = e

pub hold : HindrancesHold
hold profile tree u s x values h is =
    passes (λ g. hinders g profile tree u s x values) hindrances h (found_unless (is_as_asked s x (rule profile tree u (Some x) values)) _ h is)

-- ---- hindrances that suffice

-- a tristate table: what hinders alone, hinders
abbrev table : Hindrance → (x r l : Bool) → (a v s un : Tri) → Bool
table h x r l a v s un = not (holds_of_tri h a v s x r l) || not (same_tri (with_user r l a v s un) a)

by_table : (h : Hindrance) (x r l : Bool) (a v s un : Tri) → table h x r l a v s un ≡ true → holds_of_tri h a v s x r l ≡ true → same_tri (with_user r l a v s un) a ≡ false
by_table h x r l a v s un e holds = not-true _ (after _ _ e (ap not holds))

tri_suffices : (h : Hindrance) (x r l : Bool) (a v s un : Tri) → suffices h ≡ true → holds_of_tri h a v s x r l ≡ true → same_tri (with_user r l a v s un) a ≡ false
tri_suffices BelowSelected x true true a v s un e holds = by_table BelowSelected x true true a v s un (at4 (table BelowSelected x true true) refl a v s un) holds
tri_suffices BelowSelected x true false a v s un e holds = by_table BelowSelected x true false a v s un (at4 (table BelowSelected x true false) refl a v s un) holds
tri_suffices BelowSelected x false true a v s un e holds = by_table BelowSelected x false true a v s un (at4 (table BelowSelected x false true) refl a v s un) holds
tri_suffices BelowSelected x false false a v s un e holds = by_table BelowSelected x false false a v s un (at4 (table BelowSelected x false false) refl a v s un) holds
tri_suffices Promoted x true true a v s un e holds = by_table Promoted x true true a v s un (at4 (table Promoted x true true) refl a v s un) holds
tri_suffices Promoted x true false a v s un e holds = by_table Promoted x true false a v s un (at4 (table Promoted x true false) refl a v s un) holds
tri_suffices Promoted x false true a v s un e holds = by_table Promoted x false true a v s un (at4 (table Promoted x false true) refl a v s un) holds
tri_suffices Promoted x false false a v s un e holds = by_table Promoted x false false a v s un (at4 (table Promoted x false false) refl a v s un) holds
tri_suffices ImpliedY x true true a v s un e holds = by_table ImpliedY x true true a v s un (at4 (table ImpliedY x true true) refl a v s un) holds
tri_suffices ImpliedY x true false a v s un e holds = by_table ImpliedY x true false a v s un (at4 (table ImpliedY x true false) refl a v s un) holds
tri_suffices ImpliedY x false true a v s un e holds = by_table ImpliedY x false true a v s un (at4 (table ImpliedY x false true) refl a v s un) holds
tri_suffices ImpliedY x false false a v s un e holds = by_table ImpliedY x false false a v s un (at4 (table ImpliedY x false false) refl a v s un) holds
tri_suffices ChoiceNotShown x r l a v s un e holds = absurd (false≢true holds)
tri_suffices MemberHidden x r l a v s un e holds = absurd (false≢true holds)
tri_suffices LaterY x r l a v s un e holds = absurd (false≢true holds)
tri_suffices FirstOfAll x r l a v s un e holds = absurd (false≢true holds)
tri_suffices _ x r l a v s un e holds = absurd (false≢true e)

-- no text is hindered by them
no_text : (h : Hindrance) (env seen upside within : Bool) → suffices h ≡ true → holds_of_text h env seen upside within ≡ true → ⊥
no_text FromEnvironment env seen upside within e holds = false≢true e
no_text Hidden env seen upside within e holds = false≢true e
no_text AboveVisibility env seen upside within e holds = false≢true e
no_text UpsideDown env seen upside within e holds = false≢true e
no_text OutOfRange env seen upside within e holds = false≢true e
no_text _ env seen upside within e holds = false≢true holds

module _ (tree : Tree) (values : List UnitValue) where
  another : (o : Option ℕ) (s : ℕ) → ((m : ℕ) → o ≡ Some m → is_visible_member tree values m ≡ true) → is_visible_member tree values s ≡ false → same_value (MemberValue o) (MemberValue (Some s)) ≡ false
  another None s seen hidden = refl
  another (Some m) s seen hidden = go (cases_eq m s) where
    go : (m ≡ s) ⊎ (m ≡ s → ⊥) → (m == s) ≡ false
    go (inl e) = absurd (true≢false (sym (seen m refl) ∙ ap (is_visible_member tree values) e ∙ hidden))
    go (inr other) = ne_eqb m s other

  member_suffices : (h : Hindrance) (s : ℕ) (shown seen : Bool) → is_visible_member tree values s ≡ seen → (otherwise : Option ℕ) → ((m : ℕ) → otherwise ≡ Some m → is_visible_member tree values m ≡ true)
      → holds_of_member h shown seen ≡ true → same_value (MemberValue (cond shown (option_or (cond seen (Some s) None) otherwise) None)) (MemberValue (Some s)) ≡ false
  member_suffices h s false seen f otherwise all holds = refl
  member_suffices MemberHidden s true false f otherwise all holds = another otherwise s all f
  member_suffices MemberHidden s true true f otherwise all holds = absurd (false≢true holds)
  member_suffices _ s true seen f otherwise all holds = absurd (false≢true holds)

  -- assignments of members
  module _ (choice : Choice) (s : ℕ) (lines : List MemberLine) (linux : is_linux_6_12 tree.language ≡ true) where
    abbrev chosen_by : Option ℕ
    chosen_by = selected_by_lines (is_visible_member tree values) choice.members (default_member tree choice values) lines

    abbrev as_asked : (is_chosen : Bool) → Bool
    as_asked is_chosen = cond is_chosen (not (is_asked_n lines s)) (not (is_given_y lines s))

    y_misses : is_given_y lines s ≡ true → is_this s chosen_by ≡ false → as_asked (is_this s chosen_by) ≡ false
    y_misses given not_chosen = ap as_asked not_chosen ∙ ap not given

    hidden_misses : is_visible_member tree values s ≡ false → is_this s chosen_by ≡ false
    hidden_misses hidden = go chosen_by refl where
      go : (o : Option ℕ) → chosen_by ≡ o → is_this s o ≡ false
      go None e = refl
      go (Some m) e = elim (cases_eq m s) [
        | inl same ↦ absurd (true≢false (sym (selected_seen (is_visible_member tree values) choice.members lines (default_member tree choice values) (default_seen tree choice values) m e) ∙ ap (is_visible_member tree values) same ∙ hidden))
        | inr other ↦ ne_eqb m s other
      ]

    later_misses : (o : Option ℕ) → last_y (is_visible_member tree values) lines ≡ o → is_another s o ≡ true → is_this s chosen_by ≡ false
    later_misses None e is = absurd (false≢true is)
    later_misses (Some m) e is = ap (λ o. is_this s (option_or o (selected_without_y (is_visible_member tree values) choice.members (default_member tree choice values) lines))) e ∙ not-true (m == s) is

    first_misses : (c : ChoiceCase) → choice_case tree choice (Some (LinesUser lines)) values ≡ c → is_first_listed c ≡ true → is_this s (first_listed (is_visible_member tree values) lines) ≡ true → is_this s chosen_by ≡ true
    first_misses FirstListed e is first =
        let gives = choice_gives tree values choice (Some (LinesUser lines)) in
        ap (is_this s) (sym (newer tree values choice (Some (LinesUser lines)) linux) ∙ sym gives ∙ ap (λ c. given_member c tree choice (Some (LinesUser lines)) values) e
        ∙ ap (λ b. first_listed (is_visible_member tree values) (cond b lines [])) linux) ∙ first
    first_misses _ e is first = absurd (false≢true is)

    lines_suffice : (h : Hindrance) → hinders_listed h tree choice s lines values ≡ true → as_asked (is_this s chosen_by) ≡ false
    lines_suffice MemberHidden holds = let both = and_parts (is_given_y lines s) _ holds in y_misses both.0 (hidden_misses (not-true (is_visible_member tree values s) both.1))
    lines_suffice LaterY holds = let both = and_parts (is_given_y lines s) _ holds in y_misses both.0 (later_misses (last_y (is_visible_member tree values) lines) refl both.1)
    lines_suffice FirstOfAll holds =
        let both = and_parts (is_asked_n lines s) _ holds in
        let rest = and_parts (is_first_listed (choice_case tree choice (Some (LinesUser lines)) values)) _ both.1 in
        ap as_asked (first_misses (choice_case tree choice (Some (LinesUser lines)) values) refl rest.0 rest.1) ∙ ap not both.0
    lines_suffice _ holds = absurd (false≢true holds)

    listed_suffice : (h : Hindrance) → hinders_listed h tree choice s lines values ≡ true → is_as_asked s (LinesUser lines) (MemberValue (choice_rule tree choice (Some (LinesUser lines)) values)) ≡ false
    listed_suffice h holds =
        ap as_asked (ap (λ o. same_value (MemberValue o) (MemberValue (Some s))) (newer tree values choice (Some (LinesUser lines)) linux) ∙ value_of chosen_by s) ∙ lines_suffice h holds

  symbol_suffices : (h : Hindrance) (profile : Profile) (symbol : Symbol) (kind : Kind) → symbol.kind ≡ kind → (s : ℕ) (x : UserValue) → symbol_user_fits (Some symbol) x ≡ true → suffices h ≡ true
      → hinders_symbol h profile tree (Some symbol) x values ≡ true → is_as_asked s x (symbol_rule kind profile tree symbol (Some x) values) ≡ false
  symbol_suffices h profile symbol Boolean e s (TriUser a) fits alone holds = tri_suffices h _ _ _ a (visibility tree values symbol) (selected tree values symbol) (unassigned_value profile tree values symbol) alone holds
  symbol_suffices h profile symbol Tristate e s (TriUser a) fits alone holds = tri_suffices h _ _ _ a (visibility tree values symbol) (selected tree values symbol) (unassigned_value profile tree values symbol) alone holds
  symbol_suffices h profile symbol kind e s (TextUser text) fits alone holds = absurd (no_text h _ _ _ _ alone holds)
  symbol_suffices h profile symbol _ e s (TriUser a) fits alone holds = absurd (false≢true (ap (λ k. tri_fits k a) (sym e) ∙ fits))
  symbol_suffices h profile symbol kind e s (MemberUser m) fits alone holds = absurd (false≢true fits)
  symbol_suffices h profile symbol kind e s (LinesUser lines) fits alone holds = absurd (false≢true fits)

  symbol_at_suffices : (h : Hindrance) (profile : Profile) (o : Option Symbol) (s : ℕ) (x : UserValue) → symbol_user_fits o x ≡ true → suffices h ≡ true
      → hinders_symbol h profile tree o x values ≡ true → is_as_asked s x (rule_of_symbol profile tree o (Some x) values) ≡ false
  symbol_at_suffices h profile None s x fits alone holds = absurd (false≢true fits)
  symbol_at_suffices h profile (Some symbol) s x fits alone holds = symbol_suffices h profile symbol symbol.kind refl s x fits alone holds

  choice_at_suffices : (h : Hindrance) (o : Option Choice) (s : ℕ) (x : UserValue) → choice_user_fits tree.language o x ≡ true
      → hinders_choice h tree o s x values ≡ true → is_as_asked s x (rule_of_choice tree o (Some x) values) ≡ false
  choice_at_suffices h (Some choice) s (MemberUser m) fits holds =
      ap (λ o. same_value (MemberValue o) (MemberValue (Some m))) (older tree values choice (Some (MemberUser m)) (not-true (is_linux_6_12 tree.language) (and_parts (not (is_linux_6_12 tree.language)) _ fits).0))
      ∙ member_suffices h m (is_shown tree values choice) (is_visible_member tree values m) refl (default_member tree choice values) (default_seen tree choice values) holds
  choice_at_suffices h (Some choice) s (LinesUser lines) fits holds = listed_suffice choice s lines (and_parts (is_linux_6_12 tree.language) _ fits).0 h holds
  choice_at_suffices h o s (TriUser a) fits holds = absurd (false≢true fits)
  choice_at_suffices h o s (TextUser text) fits holds = absurd (false≢true fits)
  choice_at_suffices h None s _ fits holds = absurd (false≢true holds)

  unit_suffices : (h : Hindrance) (profile : Profile) (o : Option TreeUnit) (s : ℕ) (x : UserValue) → unit_user_fits tree o x ≡ true → suffices h ≡ true
      → hinders_unit h profile tree o s x values ≡ true → is_as_asked s x (rule_of_unit profile tree o (Some x) values) ≡ false
  unit_suffices h profile None s x fits alone holds = absurd (false≢true fits)
  unit_suffices h profile (Some (of_symbol k)) s x fits alone holds = symbol_at_suffices h profile (slice_get tree.symbols k) s x fits alone holds
  unit_suffices h profile (Some (of_choice c)) s x fits alone holds = choice_at_suffices h (slice_get tree.choices c) s x fits holds

pub suffice : HindrancesSuffice
unfolding rule user_fits hinders
suffice profile tree u s x values h fits alone holds = λ asked.
    false≢true (sym (unit_suffices tree values h profile (slice_get tree.units u) s x fits alone holds) ∙ (asked_decided s x (rule profile tree u (Some x) values)).1 asked)
