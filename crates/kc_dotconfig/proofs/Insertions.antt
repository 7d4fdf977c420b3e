-- A user value inserted into a sorted list is a change of the assignment.
use Rattle.kc_dotconfig.proofs.Common.{◌≡◌, ◌≢◌, inl, inr, Bool, true, false, cond, ◌==◌, eq-eqb, ℕ, zero, suc, ◌+◌, ◌<◌, List, [], ◌∷◌, ◌++◌, length, length-append, map, Option, Some, None, refl, sym, ◌∙◌, ap, subst, arith, Vec, slice_set, is_some, option_or, nat_cmp_is, nat_cmp, match_ordering}
use Rattle.kc_dotconfig.proofs.Common.{Ordering, Less, Equal, Greater, insert_entry, cases_eq, ne_eqb, get_or-set_same, get_or-set_other, length-set, user_of, changed_users, MemberLine, UserValue, changes_of, users_of, notice_pair, IsGathered, AreAbove, IsAscending, AreBelow, value_in, lines_in}
use Rattle.kc_dotconfig.proofs.Common.{lines_more, lines_user, held_in, with_unit, joined, IsPlain, Tree, NoticeKind, Escape, Accumulator, LineMeaning, assigns, assigns_escaped, unchosen, notice, silent, merged_user, empty_assignment, file_assignment, choice_line_of, append-nil, split}
use Rattle.std.specs.Prelude.{replicate}
use Rattle.std.specs.Option.{option_map}
use Rattle.std.proofs.lemmas.List.{set_comm}
use Rattle.kc_rules_model.specs.declared.values.UserValue.TheVariants.{Tri as TriUser, Text as TextUser, Member as MemberUser, Lines as LinesUser}
use Rattle.kc_dotconfig.proofs.GatheredLines.{lines_over, found_same, found_other, or_none, value_joined, below_of_none, none_above, assigned_at, same_users}
use Rattle.kc_dotconfig_model.specs.declared.notice.Notice.{Notice}
use Rattle.kc_dotconfig_model.specs.ConfigFiles.{assigned, assigned_over, notices_from}
use Rattle.kc_dotconfig_model.specs.OtherChoices.{choice_lines_from}
use Rattle.std.proofs.lemmas.List.{append_assoc}

pub above_less : (u w : ℕ) (es : List (ℕ × UserValue)) → u < w → AreAbove w es → AreAbove u es
above_less u w [] h a = tt
above_less u w (e ∷ es) h a = ((let b = a.0 in omega arith), above_less u w es h a.1)

pub length_changed : (es : List (ℕ × UserValue)) (users : List (Option UserValue)) → length (changed_users (changes_of es) users) ≡ length users
length_changed [] users = refl
length_changed (e ∷ es) users = length_changed es (slice_set users e.0 (Some e.1)) ∙ length-set users e.0 (Some e.1)

-- setting a unit below all units of a list of changes gives the same before and after these changes
pub later_set : (es : List (ℕ × UserValue)) (u : ℕ) (x : Option UserValue) (base : List (Option UserValue)) → AreAbove u es
    → changed_users (changes_of es) (slice_set base u x) ≡ slice_set (changed_users (changes_of es) base) u x
later_set [] u x base a = refl
later_set (e ∷ es) u x base a =
    let ne : u ≢ e.0 = (let b = a.0 in omega arith) in
    ap (changed_users (changes_of es)) (set_comm base u e.0 x (Some e.1) ne) ∙ later_set es u x (slice_set base e.0 (Some e.1)) a.1

above_insert : (k : ℕ) (es : List (ℕ × UserValue)) (u : ℕ) (x : UserValue) → k < u → AreAbove k es → AreAbove k (insert_entry nat_cmp es u x)
above_insert k [] u x h a = (h, tt)
above_insert k (e ∷ es) u x h a = elim (split u e.0) [
  | inl less ↦ subst (λ o. AreAbove k (match_ordering o ((u, x) ∷ e ∷ es) ((e.0, x) ∷ es) (e ∷ insert_entry nat_cmp es u x))) (nat_cmp_is u e.0 Less less)
      (h, a)
  | inr more ↦ elim (split e.0 u) [
    | inl less ↦ subst (λ o. AreAbove k (match_ordering o ((u, x) ∷ e ∷ es) ((e.0, x) ∷ es) (e ∷ insert_entry nat_cmp es u x))) (nat_cmp_is u e.0 Greater less)
        (a.0, above_insert k es u x h a.1)
    | inr same ↦ (let eq : u ≡ e.0 = omega arith in subst (λ o. AreAbove k (match_ordering o ((u, x) ∷ e ∷ es) ((e.0, x) ∷ es)
        (e ∷ insert_entry nat_cmp es u x)))
        (nat_cmp_is u e.0 Equal eq) (a.0, a.1))
  ]
]

rises_insert : (es : List (ℕ × UserValue)) (u : ℕ) (x : UserValue) → IsAscending es → IsAscending (insert_entry nat_cmp es u x)
rises_insert [] u x r = (tt, tt)
rises_insert (e ∷ es) u x r = elim (split u e.0) [
  | inl less ↦ subst (λ o. IsAscending (match_ordering o ((u, x) ∷ e ∷ es) ((e.0, x) ∷ es) (e ∷ insert_entry nat_cmp es u x))) (nat_cmp_is u e.0 Less less)
      ((less, above_less u e.0 es less r.0), r)
  | inr more ↦ elim (split e.0 u) [
    | inl less ↦ subst (λ o. IsAscending (match_ordering o ((u, x) ∷ e ∷ es) ((e.0, x) ∷ es) (e ∷ insert_entry nat_cmp es u x)))
        (nat_cmp_is u e.0 Greater less)
        (above_insert e.0 es u x less r.0, rises_insert es u x r.1)
    | inr same ↦ (let eq : u ≡ e.0 = omega arith in subst (λ o. IsAscending (match_ordering o ((u, x) ∷ e ∷ es) ((e.0, x) ∷ es)
        (e ∷ insert_entry nat_cmp es u x)))
        (nat_cmp_is u e.0 Equal eq) (r.0, r.1))
  ]
]

below_insert : (n : ℕ) (es : List (ℕ × UserValue)) (u : ℕ) (x : UserValue) → u < n → AreBelow n es → AreBelow n (insert_entry nat_cmp es u x)
below_insert n [] u x h b = (h, tt)
below_insert n (e ∷ es) u x h b = by (nat_cmp u e.0) (below_insert n es u x h b.1) where
  by : (o : Ordering) → AreBelow n (insert_entry nat_cmp es u x) → AreBelow n (match_ordering o ((u, x) ∷ e ∷ es) ((e.0, x) ∷ es)
      (e ∷ insert_entry nat_cmp es u x))
  by Less rest = (h, b)
  by Equal rest = (b.0, b.1)
  by Greater rest = (b.0, rest)

over_more : (meanings : List LineMeaning) (s : LineMeaning) (users : List (Option UserValue))
    → assigned_over (meanings ++ s ∷ []) users ≡ assigned s (assigned_over meanings users)
over_more [] s users = refl
over_more (x ∷ meanings) s users = over_more meanings s (assigned x users)

notices_more : (n : ℕ) (a b : List LineMeaning) → notices_from n (a ++ b) ≡ notices_from n a ++ notices_from (n + length a) b
notices_more n [] b = ap (λ m. notices_from m b) (let e : n ≡ n + 0 = omega arith in e)
notices_more n (assigns u x ∷ a) b =
    notices_more (n + 1) a b ∙ ap (λ m. notices_from (n + 1) a ++ notices_from m b) (let e : (n + 1) + length a ≡ n + suc (length a) = omega arith in e)
notices_more n (assigns_escaped u text ∷ a) b =
    ap (λ l. (n, Escape) ∷ l) (notices_more (n + 1) a b ∙ ap (λ m. notices_from (n + 1) a ++ notices_from m b)
    (let e : (n + 1) + length a ≡ n + suc (length a) = omega arith in e))
notices_more n (unchosen u s ∷ a) b =
    notices_more (n + 1) a b ∙ ap (λ m. notices_from (n + 1) a ++ notices_from m b) (let e : (n + 1) + length a ≡ n + suc (length a) = omega arith in e)
notices_more n (notice kind ∷ a) b =
    ap (λ l. (n, kind) ∷ l) (notices_more (n + 1) a b ∙ ap (λ m. notices_from (n + 1) a ++ notices_from m b)
    (let e : (n + 1) + length a ≡ n + suc (length a) = omega arith in e))
notices_more n (silent ∷ a) b =
    notices_more (n + 1) a b ∙ ap (λ m. notices_from (n + 1) a ++ notices_from m b) (let e : (n + 1) + length a ≡ n + suc (length a) = omega arith in e)

-- the lines of members with one more line
chosen_more : (n : ℕ) (a : List LineMeaning) (s : LineMeaning) → choice_lines_from n (a ++ s ∷ []) ≡ choice_lines_from n a ++ choice_line_of (n + length a) s
chosen_more n [] s = append-nil (choice_line_of n s) ∙ ap (λ m. choice_line_of m s) (let e : n ≡ n + 0 = omega arith in e)
chosen_more n (x ∷ a) s =
    ap (λ l. choice_line_of n x ++ l)
    (chosen_more (n + 1) a s ∙ ap (λ m. choice_lines_from (n + 1) a ++ choice_line_of m s) (let e : (n + 1) + length a ≡ n + suc (length a) = omega arith in e))
    ∙ sym (append_assoc (choice_line_of n x) (choice_lines_from (n + 1) a) (choice_line_of (n + length (x ∷ a)) s))

chosen_after : (meanings : List LineMeaning) (g h : Accumulator) (s : LineMeaning) → g.chosen.items ≡ choice_lines_from 1 meanings → g.lines ≡ length meanings
    → h.chosen.items ≡ g.chosen.items ++ choice_line_of (g.lines + 1) s → h.chosen.items ≡ choice_lines_from 1 (meanings ++ s ∷ [])
chosen_after meanings g h s before counted after =
    let number : g.lines + 1 ≡ 1 + length meanings = omega arith in
    after ∙ ap (λ l. l ++ choice_line_of (g.lines + 1) s) before ∙ ap (λ n. choice_lines_from 1 meanings ++ choice_line_of n s) number
    ∙ sym (chosen_more 1 meanings s)

length_over : (meanings : List LineMeaning) (users : List (Option UserValue)) → length (assigned_over meanings users) ≡ length users
length_over [] users = refl
length_over (assigns u x ∷ meanings) users =
    length_over meanings (slice_set users u (Some (merged_user x (user_of users u)))) ∙ length-set users u (Some (merged_user x (user_of users u)))
length_over (assigns_escaped u text ∷ meanings) users =
    length_over meanings (slice_set users u (Some (TextUser text))) ∙ length-set users u (Some (TextUser text))
length_over (unchosen u s ∷ meanings) users = length_over meanings users
length_over (notice kind ∷ meanings) users = length_over meanings users
length_over (silent ∷ meanings) users = length_over meanings users

pub none_length : (n : ℕ) → length {A = Option UserValue} (replicate n None) ≡ n
none_length zero = refl
none_length (suc n) = let rest = none_length n in omega arith

file_length : (tree : Tree) (meanings : List LineMeaning) → length (file_assignment tree meanings) ≡ length tree.units
file_length tree meanings = length_over meanings (empty_assignment tree) ∙ none_length (length tree.units)

pub none_of_unit : (n u : ℕ) → user_of {X = UserValue} (replicate n None) u ≡ None
none_of_unit zero u = refl
none_of_unit (suc n) zero = refl
none_of_unit (suc n) (suc u) = none_of_unit n u

plain_over : (x : UserValue) (o : Option UserValue) → IsPlain x → merged_user x o ≡ x
plain_over (TriUser t) o plain = refl
plain_over (TextUser text) o plain = refl
plain_over (MemberUser s) o plain = refl
plain_over (LinesUser lines) o plain = absurd plain

over_plain : (lines : List MemberLine) (x : UserValue) → IsPlain x → merged_user (LinesUser lines) (Some x) ≡ x
over_plain lines (TriUser t) plain = refl
over_plain lines (TextUser text) plain = refl
over_plain lines (MemberUser s) plain = refl
over_plain lines (LinesUser earlier) plain = absurd plain

-- the user value of a unit after one more line that assigns one
module _ (tree : Tree) (meanings : List LineMeaning) (w : ℕ) (x : UserValue) (u : ℕ) where
  after_same : u ≡ w → u < length tree.units → user_of (file_assignment tree (meanings ++ assigns w x ∷ [])) u ≡ Some (merged_user x (user_of (file_assignment tree meanings) u))
  after_same same inside =
      let file = file_assignment tree meanings in
      let long = file_length tree meanings in
      ap (λ l. user_of l u) (over_more meanings (assigns w x) (empty_assignment tree))
      ∙ ap (λ k. user_of (slice_set file k (Some (merged_user x (user_of file k)))) u) (sym same)
      ∙ get_or-set_same file u (Some (merged_user x (user_of file u))) None (omega arith)

  after_other : u ≢ w → user_of (file_assignment tree (meanings ++ assigns w x ∷ [])) u ≡ user_of (file_assignment tree meanings) u
  after_other other =
      let file = file_assignment tree meanings in
      ap (λ l. user_of l u) (over_more meanings (assigns w x) (empty_assignment tree))
      ∙ get_or-set_other file w u (Some (merged_user x (user_of file w))) None other

same_held : (g h : Accumulator) (u : ℕ) → h.assigns ≡ g.assigns → h.members.entries ≡ g.members.entries
    → held_in g.assigns g.members.entries u ≡ held_in h.assigns h.members.entries u
same_held g h u entries members = sym (ap (λ l. held_in l h.members.entries u) entries ∙ ap (λ m. held_in g.assigns m u) members)

-- a line that assigns a user value other than assignments of members is added to an accumulator by inserting the value and counting
-- the line
pub gathers_user : (tree : Tree) (meanings : List LineMeaning) (g h : Accumulator) (w : ℕ) (x : UserValue) → w < length tree.units → IsPlain x
    → IsGathered tree meanings g → h.assigns ≡ insert_entry nat_cmp g.assigns w x → h.members.entries ≡ g.members.entries
    → h.notices.items ≡ g.notices.items → h.chosen.items ≡ g.chosen.items ++ choice_line_of (g.lines + 1) (assigns w x) → h.lines ≡ g.lines + 1
    → IsGathered tree (meanings ++ assigns w x ∷ []) h
gathers_user tree meanings g h w x within unlisted is entries members notices chosen lines = record {
  chosen = chosen_after meanings g h (assigns w x) is.chosen is.counted chosen;
  users = λ u inside. elim (cases_eq u w) [
    | inl same ↦
        let found : value_in h.assigns u ≡ Some x = ap (λ l. value_in l u) entries ∙ ap (value_in (insert_entry nat_cmp g.assigns w x)) same
        ∙ found_same g.assigns w x in
        after_same tree meanings w x u same inside ∙ ap Some (plain_over x (user_of (file_assignment tree meanings) u) unlisted)
        ∙ sym (ap (λ o. option_or o (option_map lines_user (lines_in h.members.entries u))) found)
    | inr other ↦
        let found : value_in h.assigns u ≡ value_in g.assigns u = ap (λ l. value_in l u) entries ∙ found_other g.assigns u w x other in
        after_other tree meanings w x u other ∙ is.users u inside
        ∙ sym (ap (λ o. option_or o (option_map lines_user (lines_in h.members.entries u))) found ∙ ap (λ m. held_in g.assigns m u) members)
  ];
  noted = ap (map notice_pair) notices ∙ is.noted ∙ sym (notices_more 1 meanings (assigns w x ∷ []) ∙ append-nil (notices_from 1 meanings));
  counted = (let e = is.counted in let n = length-append meanings (assigns w x ∷ []) in omega arith);
  rises = subst IsAscending (sym entries) (rises_insert g.assigns w x is.rises);
  below = subst (AreBelow (length tree.units)) (sym entries) (below_insert (length tree.units) g.assigns w x within is.below);
  plain = λ u y at. elim (cases_eq u w) [
    | inl same ↦
        let found : value_in h.assigns u ≡ Some x = ap (λ l. value_in l u) entries ∙ ap (value_in (insert_entry nat_cmp g.assigns w x)) same
        ∙ found_same g.assigns w x in
        let value : x ≡ y = cc in
        subst IsPlain value unlisted
    | inr other ↦ is.plain u y (sym (ap (λ l. value_in l u) entries ∙ found_other g.assigns u w x other) ∙ at)
  ];
  members_below = λ u past. ap (λ m. lines_in m u) members ∙ is.members_below u past;
}

-- one more assignment of a member over what is held of its unit
one_more : (held : Option UserValue) (lines : Option (List MemberLine)) (l : MemberLine) → ((x : UserValue) → held ≡ Some x → IsPlain x)
    → Some (merged_user (LinesUser (l ∷ [])) (option_or held (option_map lines_user lines))) ≡ option_or held (option_map lines_user (lines_more lines l))
one_more (Some x) lines l plain = ap Some (over_plain (l ∷ []) x (plain x refl))
one_more None None l plain = refl
one_more None (Some lines) l plain = ap Some (sym (lines_over lines l))

-- a line that assigns `y` or `n` to a member of a choice is added to an accumulator by adding it to those of the choice's unit and
-- counting the line
pub gathers_line : (tree : Tree) (meanings : List LineMeaning) (g h : Accumulator) (w : ℕ) (l : MemberLine) → w < length tree.units
    → IsGathered tree meanings g → h.assigns ≡ g.assigns
    → ((u : ℕ) → lines_in h.members.entries u ≡ cond (u == w) (lines_more (lines_in g.members.entries u) l) (lines_in g.members.entries u))
    → h.notices.items ≡ g.notices.items → h.chosen.items ≡ g.chosen.items → h.lines ≡ g.lines + 1
    → IsGathered tree (meanings ++ assigns w (LinesUser (l ∷ [])) ∷ []) h
gathers_line tree meanings g h w l within is entries members notices chosen lines = record {
  chosen = chosen_after meanings g h (assigns w (LinesUser (l ∷ []))) is.chosen is.counted (chosen ∙ sym (append-nil g.chosen.items));
  users = λ u inside. elim (cases_eq u w) [
    | inl same ↦
        let more : lines_in h.members.entries u ≡ lines_more (lines_in g.members.entries u) l = members u
        ∙ ap (λ b. cond b (lines_more (lines_in g.members.entries u) l) (lines_in g.members.entries u)) (eq-eqb u w same) in
        after_same tree meanings w (LinesUser (l ∷ [])) u same inside
        ∙ ap (λ o. Some (merged_user (LinesUser (l ∷ [])) o)) (is.users u inside)
        ∙ one_more (value_in g.assigns u) (lines_in g.members.entries u) l (is.plain u)
        ∙ sym (ap (λ es. held_in es h.members.entries u) entries ∙ ap (λ o. option_or (value_in g.assigns u) (option_map lines_user o)) more)
    | inr other ↦
        after_other tree meanings w (LinesUser (l ∷ [])) u other ∙ is.users u inside
        ∙ sym (ap (λ es. held_in es h.members.entries u) entries ∙ ap (λ o. option_or (value_in g.assigns u) (option_map lines_user o)) (kept u other))
  ];
  noted = ap (map notice_pair) notices ∙ is.noted ∙ sym (notices_more 1 meanings (assigns w (LinesUser (l ∷ [])) ∷ []) ∙ append-nil (notices_from 1 meanings));
  counted = (let e = is.counted in let n = length-append meanings (assigns w (LinesUser (l ∷ [])) ∷ []) in omega arith);
  rises = subst IsAscending (sym entries) is.rises;
  below = subst (AreBelow (length tree.units)) (sym entries) is.below;
  plain = λ u y at. is.plain u y (sym (ap (λ es. value_in es u) entries) ∙ at);
  members_below = λ u past. kept u (λ same. omega (arith, same, within, past)) ∙ is.members_below u past;
} where
  kept : (u : ℕ) → u ≢ w → lines_in h.members.entries u ≡ lines_in g.members.entries u
  kept u other = members u ∙ ap (λ b. cond b (lines_more (lines_in g.members.entries u) l) (lines_in g.members.entries u)) (ne_eqb u w other)

pub gathers_nothing : (tree : Tree) (meanings : List LineMeaning) (g h : Accumulator) → IsGathered tree meanings g → h.assigns ≡ g.assigns
    → h.members.entries ≡ g.members.entries → h.notices.items ≡ g.notices.items → h.chosen.items ≡ g.chosen.items → h.lines ≡ g.lines + 1
    → IsGathered tree (meanings ++ silent ∷ []) h
gathers_nothing tree meanings g h is entries members notices chosen lines = record {
  chosen = chosen_after meanings g h silent is.chosen is.counted (chosen ∙ sym (append-nil g.chosen.items));
  users = λ u inside. ap (λ l. user_of l u) (over_more meanings silent (empty_assignment tree)) ∙ is.users u inside ∙ same_held g h u entries members;
  noted = ap (map notice_pair) notices ∙ is.noted ∙ sym (notices_more 1 meanings (silent ∷ []) ∙ append-nil (notices_from 1 meanings));
  counted = (let e = is.counted in let n = length-append meanings (silent ∷ []) in omega arith);
  rises = subst IsAscending (sym entries) is.rises;
  below = subst (AreBelow (length tree.units)) (sym entries) is.below;
  plain = λ u y at. is.plain u y (sym (ap (λ es. value_in es u) entries) ∙ at);
  members_below = λ u past. ap (λ m. lines_in m u) members ∙ is.members_below u past;
}

-- a line that gives a member of a choice another value than `y` is added by listing and counting it
pub gathers_unchosen : (tree : Tree) (meanings : List LineMeaning) (g h : Accumulator) (w s : ℕ) → IsGathered tree meanings g → h.assigns ≡ g.assigns
    → h.members.entries ≡ g.members.entries → h.notices.items ≡ g.notices.items
    → h.chosen.items ≡ g.chosen.items ++ choice_line_of (g.lines + 1) (unchosen w s) → h.lines ≡ g.lines + 1
    → IsGathered tree (meanings ++ unchosen w s ∷ []) h
gathers_unchosen tree meanings g h w s is entries members notices chosen lines = record {
  chosen = chosen_after meanings g h (unchosen w s) is.chosen is.counted chosen;
  users = λ u inside. ap (λ l. user_of l u) (over_more meanings (unchosen w s) (empty_assignment tree)) ∙ is.users u inside ∙ same_held g h u entries members;
  noted = ap (map notice_pair) notices ∙ is.noted ∙ sym (notices_more 1 meanings (unchosen w s ∷ []) ∙ append-nil (notices_from 1 meanings));
  counted = (let e = is.counted in let n = length-append meanings (unchosen w s ∷ []) in omega arith);
  rises = subst IsAscending (sym entries) is.rises;
  below = subst (AreBelow (length tree.units)) (sym entries) is.below;
  plain = λ u y at. is.plain u y (sym (ap (λ es. value_in es u) entries) ∙ at);
  members_below = λ u past. ap (λ m. lines_in m u) members ∙ is.members_below u past;
}

pairs_more : (a : List Notice) (b : Notice) → map notice_pair (a ++ b ∷ []) ≡ map notice_pair a ++ notice_pair b ∷ []
pairs_more [] b = refl
pairs_more (x ∷ a) b = ap (λ l. notice_pair x ∷ l) (pairs_more a b)

pub gathers_notice : (tree : Tree) (meanings : List LineMeaning) (g h : Accumulator) (kind : NoticeKind) → IsGathered tree meanings g → h.assigns ≡ g.assigns
    → h.members.entries ≡ g.members.entries → h.notices.items ≡ g.notices.items ++ record { line = g.lines + 1; kind = kind } ∷ []
    → h.chosen.items ≡ g.chosen.items → h.lines ≡ g.lines + 1
    → IsGathered tree (meanings ++ notice kind ∷ []) h
gathers_notice tree meanings g h kind is entries members notices chosen lines = record {
  chosen = chosen_after meanings g h (notice kind) is.chosen is.counted (chosen ∙ sym (append-nil g.chosen.items));
  users = λ u inside. ap (λ l. user_of l u) (over_more meanings (notice kind) (empty_assignment tree)) ∙ is.users u inside ∙ same_held g h u entries members;
  noted =
      let number : g.lines + 1 ≡ 1 + length meanings = (let e = is.counted in omega arith) in
      ap (map notice_pair) notices ∙ pairs_more g.notices.items (record { line = g.lines + 1; kind = kind }) ∙ ap (λ l. l ++ (g.lines + 1, kind) ∷ []) is.noted
      ∙ ap (λ n. notices_from 1 meanings ++ (n, kind) ∷ []) number ∙ sym (notices_more 1 meanings (notice kind ∷ []));
  counted = (let e = is.counted in let n = length-append meanings (notice kind ∷ []) in omega arith);
  rises = subst IsAscending (sym entries) is.rises;
  below = subst (AreBelow (length tree.units)) (sym entries) is.below;
  plain = λ u y at. is.plain u y (sym (ap (λ es. value_in es u) entries) ∙ at);
  members_below = λ u past. ap (λ m. lines_in m u) members ∙ is.members_below u past;
}

-- a line that assigns a text and has the notice Escape is added by inserting the text, listing the notice and counting the line
pub gathers_escaped : (tree : Tree) (meanings : List LineMeaning) (g h : Accumulator) (w : ℕ) (text : List ℕ) → w < length tree.units
    → IsGathered tree meanings g → h.assigns ≡ insert_entry nat_cmp g.assigns w (TextUser text) → h.members.entries ≡ g.members.entries
    → h.notices.items ≡ g.notices.items ++ record { line = g.lines + 1; kind = Escape } ∷ []
    → h.chosen.items ≡ g.chosen.items → h.lines ≡ g.lines + 1
    → IsGathered tree (meanings ++ assigns_escaped w text ∷ []) h
gathers_escaped tree meanings g h w text within is entries members notices chosen lines =
    let none : h.chosen.items ≡ g.chosen.items ++ [] = chosen ∙ sym (append-nil g.chosen.items) in
    let plain : Accumulator = record { assigns = h.assigns; members = h.members; chosen = h.chosen; notices = g.notices; lines = h.lines; next = h.next } in
    let unnoticed : IsGathered tree (meanings ++ assigns w (TextUser text) ∷ []) plain =
    gathers_user tree meanings g plain w (TextUser text) within tt is entries members refl none lines in
    record {
      chosen = chosen_after meanings g h (assigns_escaped w text) is.chosen is.counted none;
      users = λ u inside. ap (λ l. user_of l u) (over_more meanings (assigns_escaped w text) (empty_assignment tree)
          ∙ sym (over_more meanings (assigns w (TextUser text)) (empty_assignment tree))) ∙ unnoticed.users u inside;
      noted =
          let number : g.lines + 1 ≡ 1 + length meanings = (let e = is.counted in omega arith) in
          ap (map notice_pair) notices ∙ pairs_more g.notices.items (record { line = g.lines + 1; kind = Escape })
          ∙ ap (λ l. l ++ (g.lines + 1, Escape) ∷ []) is.noted
          ∙ ap (λ n. notices_from 1 meanings ++ (n, Escape) ∷ []) number ∙ sym (notices_more 1 meanings (assigns_escaped w text ∷ []));
      counted = (let e = is.counted in let n = length-append meanings (assigns_escaped w text ∷ []) in omega arith);
      rises = unnoticed.rises;
      below = unnoticed.below;
      plain = unnoticed.plain;
      members_below = unnoticed.members_below;
    }

-- an accumulator without assignments, notices and lines has gathered no lines
pub gathers_none : (tree : Tree) (g : Accumulator) → g.assigns ≡ [] → g.members.entries ≡ [] → g.notices.items ≡ [] → g.chosen.items ≡ [] → g.lines ≡ 0
    → IsGathered tree [] g
gathers_none tree g entries members notices chosen lines = record {
  chosen = chosen;
  users = λ u inside. none_of_unit (length tree.units) u ∙ sym (ap (λ es. held_in es g.members.entries u) entries ∙ ap (λ m. held_in [] m u) members);
  noted = ap (map notice_pair) notices;
  counted = lines;
  rises = subst IsAscending (sym entries) tt;
  below = subst (AreBelow (length tree.units)) (sym entries) tt;
  plain = λ u y at. (let none : value_in g.assigns u ≡ None = ap (λ es. value_in es u) entries in cc);
  members_below = λ u past. ap (λ m. lines_in m u) members;
}

-- gathered assignments of members are joined in ascending order of units
joined_rises : (es : List (ℕ × UserValue)) (gathered : List (ℕ × Vec MemberLine)) → IsAscending es → IsAscending (joined es gathered)
joined_rises es [] r = r
joined_rises es (g ∷ gathered) r = joined_rises (with_unit es g.0 g.1.items) gathered (go (is_some (value_in es g.0))) where
  go : (b : Bool) → IsAscending (cond b es (insert_entry nat_cmp es g.0 (lines_user g.1.items)))
  go true = r
  go false = rises_insert es g.0 (lines_user g.1.items) r

-- the list of an accumulator's user values ascends, has units of the tree, and is the assignment of the gathered lines
module _ (tree : Tree) (meanings : List LineMeaning) (g : Accumulator) (is : IsGathered tree meanings g) where
  pub whole_rises : IsAscending (joined g.assigns g.members.entries)
  whole_rises = joined_rises g.assigns g.members.entries is.rises

  pub whole_below : AreBelow (length tree.units) (joined g.assigns g.members.entries)
  whole_below =
      below_of_none (length tree.units) (joined g.assigns g.members.entries)
      (λ u past. value_joined g.assigns g.members.entries u
      ∙ ap (λ o. option_or o (option_map lines_user (lines_in g.members.entries u))) (none_above (length tree.units) g.assigns u is.below past)
      ∙ ap (option_map lines_user) (is.members_below u past))

  pub whole_users : users_of tree (joined g.assigns g.members.entries) ≡ file_assignment tree meanings
  whole_users =
      let all = joined g.assigns g.members.entries in
      let long = none_length (length tree.units) in
      let changed = length_changed all (empty_assignment tree) in
      same_users (users_of tree all) (file_assignment tree meanings) (changed ∙ long ∙ sym (file_length tree meanings))
      (λ u inside. assigned_at all (empty_assignment tree) u whole_rises (omega arith)
      ∙ ap (option_or (value_in all u)) (none_of_unit (length tree.units) u) ∙ or_none (value_in all u)
      ∙ value_joined g.assigns g.members.entries u ∙ sym (is.users u (omega arith)))
