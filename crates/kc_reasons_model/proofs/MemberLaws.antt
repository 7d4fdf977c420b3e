-- No member is given both `y` and `n`, and a choice can be set to a member that is visible.
use Rattle.kc_reasons_model.proofs.Common.{◌≡◌, ℕ, ◌<◌, Bool, true, false, not, ◌&&◌, ◌||◌, cond, List, [], ◌∷◌, ◌++◌, filter, Option, Some, None, length, refl, sym, ◌∙◌, ap, ◌↔◌, ◌==◌, find, option_or, list_any, list_all, AllByRecursion, eqb-true, false≢true, true≢false, and_parts}
use Rattle.kc_reasons_model.proofs.Common.{recursion_from_All, user_of, N, Language, is_linux_6_12, is_tri_kind, Tree, Choice, Symbol, MemberDefault, unit_of, UnitValue, UserValue, MemberLine, is_listed, merged_lines, last_y, first_listed, selected_without_y, selected_by_lines, is_n, condition}
use Rattle.kc_reasons_model.proofs.Common.{assigned_lines, is_shown, is_visible_member, default_member, shown_choice_rule, LineMeaning, assigns, assigns_escaped, merged_user, assigned, assigned_over, user_by_line, is_given_both, assigned_length}
use Rattle.std.proofs.Math.Bool.{or-false}
use Rattle.kc_rules_model.specs.declared.values.UserValue.TheVariants.{Tri as TriUser, Text as TextUser, Member as MemberUser, Lines as LinesUser}
use Rattle.kc_rules_model.specs.Rule.{member_user}
use Rattle.kc_rules_model.specs.checker.RestoreLaw.{last_passes, first_passes, default_is_seen, one_listed}
use Rattle.kc_dotconfig_model.specs.declared.format.Strings.{Strings}
use Rattle.kc_dotconfig_model.specs.Formats.{FileFormat}
use Rattle.kc_dotconfig_model.specs.ConfigLines.{unchosen, silent, unchosen_meaning, text_meaning, has_escape_notice, unset_meaning, ValueMeans, Means, tri, chosen, not_chosen, quoted, number, no_tri, no_text, value, unset, empty}
use Rattle.kc_reasons_model.proofs.AssigningLaws.{merged_if_given, user_after}
use Rattle.kc_reasons_model.specs.Laws.{MembersHaveOneLine, LinesGiveOne, SelectableAreTaken}

-- whether a member is listed with this value
abbrev given : ℕ → (MemberLine → Bool) → List MemberLine → Bool
given s k lines = list_any (λ (l : MemberLine). (l.member == s) && k l) lines

module _ (s : ℕ) (k : MemberLine → Bool) where
  given_joined : (xs ys : List MemberLine) → given s k (xs ++ ys) ≡ (given s k xs || given s k ys)
  given_joined [] ys = refl
  given_joined (x ∷ xs) ys = go ((x.member == s) && k x) (given_joined xs ys) where
    go : (b : Bool) → given s k (xs ++ ys) ≡ (given s k xs || given s k ys) → (b || given s k (xs ++ ys)) ≡ ((b || given s k xs) || given s k ys)
    go true e = refl
    go false e = e

  given_unlisted : (lines : List MemberLine) → is_listed lines s ≡ false → given s k lines ≡ false
  given_unlisted [] e = refl
  given_unlisted (l ∷ lines) e = go (l.member == s) e (given_unlisted lines) where
    go : (c : Bool) → (c || is_listed lines s) ≡ false → (is_listed lines s ≡ false → given s k lines ≡ false) → ((c && k l) || given s k lines) ≡ false
    go true e rest = absurd (true≢false e)
    go false e rest = rest e

  module _ (later : List MemberLine) where
    abbrev is_kept : MemberLine → Bool
    is_kept l = not (is_listed later l.member)

    given_dropped : is_listed later s ≡ true → (earlier : List MemberLine) → given s k (filter is_kept earlier) ≡ false
    given_dropped e [] = refl
    given_dropped e (l ∷ earlier) = go (is_kept l) refl (given_dropped e earlier) where
      go : (b : Bool) → is_kept l ≡ b → given s k (filter is_kept earlier) ≡ false → given s k (cond b (l ∷ filter is_kept earlier) (filter is_kept earlier)) ≡ false
      go false f rest = rest
      go true f rest = at (l.member == s) refl where
        at : (c : Bool) → (l.member == s) ≡ c → ((c && k l) || given s k (filter is_kept earlier)) ≡ false
        at false g = rest
        at true g = absurd (true≢false (sym f ∙ ap (λ m. not (is_listed later m)) (eqb-true l.member s g) ∙ ap not e))

    given_kept : is_listed later s ≡ false → (earlier : List MemberLine) → given s k (filter is_kept earlier) ≡ given s k earlier
    given_kept e [] = refl
    given_kept e (l ∷ earlier) = go (l.member == s) refl (is_kept l) refl (given_kept e earlier) where
      go : (c : Bool) → (l.member == s) ≡ c → (b : Bool) → is_kept l ≡ b → given s k (filter is_kept earlier) ≡ given s k earlier
          → given s k (cond b (l ∷ filter is_kept earlier) (filter is_kept earlier)) ≡ ((c && k l) || given s k earlier)
      go c g true f rest = ap (λ d. (d && k l) || given s k (filter is_kept earlier)) g ∙ ap (λ d. (c && k l) || d) rest
      go false g false f rest = rest
      go true g false f rest = absurd (true≢false (sym (ap not e) ∙ ap (λ m. not (is_listed later m)) (sym (eqb-true l.member s g)) ∙ f))

    given_over : (earlier : List MemberLine) → given s k (merged_lines later earlier) ≡ cond (is_listed later s) (given s k later) (given s k earlier)
    given_over earlier = given_joined (filter is_kept earlier) later ∙ go (is_listed later s) refl where
      go : (b : Bool) → is_listed later s ≡ b → (given s k (filter is_kept earlier) || given s k later) ≡ cond b (given s k later) (given s k earlier)
      go true e = ap (λ d. d || given s k later) (given_dropped e earlier)
      go false e = ap (λ d. given s k (filter is_kept earlier) || d) (given_unlisted later e) ∙ or-false (given s k (filter is_kept earlier))
          ∙ given_kept e earlier

over_one : (s : ℕ) (x : UserValue) (o : Option UserValue) → is_given_both s (Some x) ≡ false → is_given_both s o ≡ false → is_given_both s (Some (merged_user x o)) ≡ false
over_one s (TriUser t) o e f = refl
over_one s (TextUser text) o e f = refl
over_one s (MemberUser m) o e f = refl
over_one s (LinesUser later) None e f = e
over_one s (LinesUser later) (Some (TriUser t)) e f = refl
over_one s (LinesUser later) (Some (TextUser text)) e f = refl
over_one s (LinesUser later) (Some (MemberUser m)) e f = refl
over_one s (LinesUser later) (Some (LinesUser earlier)) e f =
    ap (λ b. b && given s (λ (l : MemberLine). not l.is_y) (merged_lines later earlier)) (given_over s (λ (l : MemberLine). l.is_y) later earlier)
    ∙ ap (λ b. cond (is_listed later s) (given s (λ (l : MemberLine). l.is_y) later) (given s (λ (l : MemberLine). l.is_y) earlier) && b) (given_over s (λ (l : MemberLine). not l.is_y) later earlier)
    ∙ go (is_listed later s) where
      go : (b : Bool) → (cond b (given s (λ (l : MemberLine). l.is_y) later) (given s (λ (l : MemberLine). l.is_y) earlier)
          && cond b (given s (λ (l : MemberLine). not l.is_y) later) (given s (λ (l : MemberLine). not l.is_y) earlier)) ≡ false
      go true = e
      go false = f

module _ (u s : ℕ) where
  one_after : (meaning : LineMeaning) (users : List (Option UserValue)) → u < length users → is_given_both s (user_by_line u meaning) ≡ false → is_given_both s (user_of users u) ≡ false
      → is_given_both s (user_of (assigned meaning users) u) ≡ false
  one_after meaning users inside e f = ap (is_given_both s) (user_after u meaning users inside) ∙ go (user_by_line u meaning) e where
    go : (o : Option UserValue) → is_given_both s o ≡ false → is_given_both s (merged_if_given o (user_of users u)) ≡ false
    go None e = f
    go (Some x) e = over_one s x (user_of users u) e f

  one_after_all : (meanings : List LineMeaning) (users : List (Option UserValue)) → u < length users → AllByRecursion (λ meaning. is_given_both s (user_by_line u meaning) ≡ false) meanings
      → is_given_both s (user_of users u) ≡ false → is_given_both s (user_of (assigned_over meanings users) u) ≡ false
  one_after_all [] users inside all f = f
  one_after_all (meaning ∷ meanings) users inside all f =
      one_after_all meanings (assigned meaning users) (rw (assigned_length meaning users) inside) all.1 (one_after meaning users inside all.0 f)

pub have_one_line : MembersHaveOneLine
have_one_line u s meanings users inside all held = one_after_all u s meanings users inside (recursion_from_All _ _ all) held

-- ---- lines

module _ (u s : ℕ) where
  one_assigned : (w : ℕ) (x : UserValue) → is_given_both s (Some x) ≡ false → is_given_both s (user_by_line u (assigns w x)) ≡ false
  one_assigned w x e = go (w == u) where
    go : (c : Bool) → is_given_both s (cond c (Some x) None) ≡ false
    go true = e
    go false = refl

  one_listed_y : (m : ℕ) → is_given_both s (Some (LinesUser (record { member = m; is_y = true } ∷ []))) ≡ false
  one_listed_y m = go (m == s) where
    go : (c : Bool) → (((c && true) || false) && ((c && false) || false)) ≡ false
    go true = refl
    go false = refl

  one_listed_n : (m : ℕ) → is_given_both s (Some (LinesUser (record { member = m; is_y = false } ∷ []))) ≡ false
  one_listed_n m = go (m == s) where
    go : (c : Bool) → (((c && false) || false) && ((c && true) || false)) ≡ false
    go true = refl
    go false = refl

  one_member : (language : Language) (m : ℕ) → is_given_both s (Some (member_user language m)) ≡ false
  one_member language m = go (is_linux_6_12 language) where
    go : (c : Bool) → is_given_both s (Some (cond c (LinesUser (record { member = m; is_y = true } ∷ [])) (MemberUser m))) ≡ false
    go true = one_listed_y m
    go false = refl

  one_unchosen : (language : Language) (w m : ℕ) → is_given_both s (user_by_line u (unchosen_meaning language w m)) ≡ false
  one_unchosen language w m = go (is_linux_6_12 language) where
    go : (c : Bool) → is_given_both s (user_by_line u (cond c (assigns w (LinesUser (record { member = m; is_y = false } ∷ []))) (unchosen w m))) ≡ false
    go true = one_assigned w (LinesUser (record { member = m; is_y = false } ∷ [])) (one_listed_n m)
    go false = refl

  one_unset : (tree : Tree) (m : ℕ) (symbol : Symbol) (c : Option ℕ) → is_given_both s (user_by_line u (unset_meaning tree m symbol c)) ≡ false
  one_unset tree m symbol (Some c) = one_unchosen tree.language (unit_of tree m) m
  one_unset tree m symbol None = go (is_tri_kind symbol.kind) where
    go : (c : Bool) → is_given_both s (user_by_line u (cond c (assigns (unit_of tree m) (TriUser N)) silent)) ≡ false
    go true = one_assigned (unit_of tree m) (TriUser N) refl
    go false = refl

  one_text : (language : Language) (strings : Strings) (w : ℕ) (spelling text : List ℕ) → is_given_both s (user_by_line u (text_meaning language strings w spelling text)) ≡ false
  one_text language strings w spelling text = go (has_escape_notice language strings spelling) where
    go : (c : Bool) → is_given_both s (user_by_line u (cond c (assigns_escaped w text) (assigns w (TextUser text)))) ≡ false
    go true = one_assigned w (TextUser text) refl
    go false = one_assigned w (TextUser text) refl

  one_value : (format : FileFormat) (tree : Tree) (m : ℕ) (symbol : Symbol) (text : List ℕ) (meaning : LineMeaning) → ValueMeans format.strings tree m symbol text meaning → is_given_both s (user_by_line u meaning) ≡ false
  one_value format tree m symbol text _ (tri _ t c e) = one_assigned (unit_of tree m) (TriUser t) refl
  one_value format tree m symbol text _ (chosen k _ c e) = one_assigned (unit_of tree m) (member_user tree.language m) (one_member tree.language m)
  one_value format tree m symbol text _ (not_chosen k _ t c e f) = one_unchosen tree.language (unit_of tree m) m
  one_value format tree m symbol text _ (quoted _ means k e) = one_text tree.language format.strings (unit_of tree m) text means
  one_value format tree m symbol text _ (number _ e) = one_assigned (unit_of tree m) (TextUser text) refl
  one_value format tree m symbol text _ (no_tri _ e f) = refl
  one_value format tree m symbol text _ (no_text _ e f) = refl
  one_value format tree m symbol _ _ _ = refl

  one_line : (format : FileFormat) (tree : Tree) (line : List ℕ) (meaning : LineMeaning) → Means format tree line meaning → is_given_both s (user_by_line u meaning) ≡ false
  one_line format tree line meaning (value _ name text m symbol _ e f g h) = one_value format tree m symbol text meaning h
  one_line format tree line _ (unset _ name m symbol e f g) = one_unset tree m symbol symbol.choice
  one_line format tree _ _ empty = refl
  one_line format tree line _ _ = refl

pub give_one : LinesGiveOne
give_one format tree u s line meaning means = one_line u s format tree line meaning means

-- ---- what is selected is visible

all_pass : (lines : List MemberLine) → list_all (λ (l : MemberLine). true) lines ≡ true
all_pass [] = refl
all_pass (l ∷ lines) = all_pass lines

pub passes : {X : Type 0} (p : X → Bool) (xs : List X) (h : X) → find p xs ≡ Some h → p h ≡ true
passes p [] h e = absurd (cc)
passes p (x ∷ xs) h e = go (p x) refl e (passes p xs h) where
  go : (b : Bool) → p x ≡ b → cond b (Some x) (find p xs) ≡ Some h → (find p xs ≡ Some h → p h ≡ true) → p h ≡ true
  go true f e rest = let same : x ≡ h = cc in ap p (sym same) ∙ f
  go false f e rest = rest e

module _ (seen : ℕ → Bool) (members : List ℕ) (lines : List MemberLine) where
  left_seen : (default : Option ℕ) → ((d : ℕ) → default ≡ Some d → seen d ≡ true) → (m : ℕ) → selected_without_y seen members default lines ≡ Some m → seen m ≡ true
  left_seen None all m e = absurd (cc)
  left_seen (Some d) all m e = go (is_listed lines d) e where
    unlisted : ℕ → Bool
    unlisted k = seen k && not (is_listed lines k)

    or_first : (o : Option ℕ) → find unlisted members ≡ o → option_or o (first_listed seen lines) ≡ Some m → seen m ≡ true
    or_first None f e = (first_passes seen (λ k. true) lines m (all_pass lines) e).0
    or_first (Some k) f e = (and_parts (seen m) (not (is_listed lines m)) (passes unlisted members m (f ∙ e))).0

    go : (b : Bool) → cond b (option_or (find unlisted members) (first_listed seen lines)) (Some d) ≡ Some m → seen m ≡ true
    go true e = or_first (find unlisted members) refl e
    go false e = all m e

  pub selected_seen : (default : Option ℕ) → ((d : ℕ) → default ≡ Some d → seen d ≡ true) → (m : ℕ) → selected_by_lines seen members default lines ≡ Some m → seen m ≡ true
  selected_seen default all m e = go (last_y seen lines) refl e where
    go : (o : Option ℕ) → last_y seen lines ≡ o → option_or o (selected_without_y seen members default lines) ≡ Some m → seen m ≡ true
    go None f e = left_seen default all m e
    go (Some k) f e = (last_passes seen (λ k. true) lines m (all_pass lines) (f ∙ e)).0

module _ (tree : Tree) (choice : Choice) (values : List UnitValue) where
  pub default_seen : (d : ℕ) → default_member tree choice values ≡ Some d → is_visible_member tree values d ≡ true
  default_seen d e = default_is_seen (is_visible_member tree values) choice.optional choice.defaults (λ (c : MemberDefault). not (is_n (condition tree values c.condition))) choice.members d e

  module _ (s : ℕ) where
    abbrev seen : Bool
    seen = is_visible_member tree values s

    abbrev one : UserValue
    one = LinesUser (record { member = s; is_y = true } ∷ [])

    abbrev rule_by : Bool → Option ℕ
    rule_by b = cond b (selected_by_lines (is_visible_member tree values) choice.members (default_member tree choice values) (assigned_lines (Some (cond b one (MemberUser s)))))
        (shown_choice_rule tree choice (Some (cond b one (MemberUser s))) values)

    shown_rule : (shown sees : Bool) → seen ≡ sees → (shown && sees) ≡ true → cond shown (option_or (cond sees (Some s) None) (default_member tree choice values)) None ≡ Some s
    shown_rule true true e f = refl
    shown_rule _ _ e f = absurd (false≢true f)

    rule_shown : (shown sees : Bool) → seen ≡ sees → cond shown (option_or (cond sees (Some s) None) (default_member tree choice values)) None ≡ Some s → (shown && sees) ≡ true
    rule_shown true true e f = refl
    rule_shown true false e f = sym e ∙ default_seen s f
    rule_shown false sees e f = absurd (cc)

    selectable : (b : Bool) → (((b || is_shown tree values choice) && seen) ≡ true) ↔ (rule_by b ≡ Some s)
    selectable true = (λ e. one_listed (is_visible_member tree values) choice.members (default_member tree choice values) s e, λ e. selected_seen (is_visible_member tree values) choice.members (record { member = s; is_y = true } ∷ []) (default_member tree choice values) default_seen s e)
    selectable false = (λ e. shown_rule (is_shown tree values choice) seen refl e, λ e. rule_shown (is_shown tree values choice) seen refl e)

pub selectable_taken : SelectableAreTaken
selectable_taken tree choice values s = selectable tree choice values s (is_linux_6_12 tree.language)
