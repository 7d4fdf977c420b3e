-- What lines of a choice select by the rules from Linux 6.10 on, beside what they select by those before.
use Rattle.std.proofs.Common.{eq-eqb, eqb-true}
use Rattle.kc_dotconfig_model.proofs.Common.{◌≡◌, ◌≢◌, ◌⊎◌, inl, inr, ℕ, Bool, true, false, not, ◌&&◌, ◌||◌, ◌==◌, cond, filter, find, List, [], ◌∷◌, ◌++◌, Option, Some, None, refl, sym, ◌∙◌, ap, is_some, option_or, option_and_then, false≢true, and_parts, or_right, Tree, Choice, MemberLine}
use Rattle.kc_dotconfig_model.proofs.Common.{UnitValue, is_listed, merged_lines, last_y, is_shown, is_visible_member, default_member, ChoiceLine, given_by, other_member, own_member, IsGivenN, IsHiddenLast}
use Rattle.std.specs.Option.{option_map}
use Rattle.std.proofs.lemmas.List.Folds.{list_any-append}
use Rattle.kc_tree_model.specs.Trees.{MemberDefault}
use Rattle.kc_rules_model.specs.declared.values.UserValue.TheVariants.{Member as MemberUser}
use Rattle.kc_value.specs.Tri.{is_n}
use Rattle.kc_rules_model.specs.SymbolValues.{condition}
use Rattle.kc_rules_model.specs.MemberLines.{first_listed, selected_without_y}
use Rattle.kc_rules_model.specs.Rule.{assigned_member}
use Rattle.kc_dotconfig_model.specs.MissedAssignments.{is_given_n}
use Rattle.kc_dotconfig_model.specs.OtherChoices.{kept_last, last_line, last_n_line}
use Rattle.kc_dotconfig_model.specs.OtherChoiceLaws.{OtherChoicesHaveReasons, OtherChoicesHaveLines, FilesAreMerged}

-- the members of the kept lines are those of all lines
kept_listed : (lines : List MemberLine) (s : ℕ) → is_listed (kept_last lines) s ≡ is_listed lines s
kept_listed [] s = refl
kept_listed (l ∷ lines) s = go (is_listed lines l.member) refl (kept_listed lines s) where
  go : (b : Bool) → is_listed lines l.member ≡ b → is_listed (kept_last lines) s ≡ is_listed lines s
      → is_listed (cond b (kept_last lines) (l ∷ kept_last lines)) s ≡ ((l.member == s) || is_listed lines s)
  go false e rest = ap (λ t. (l.member == s) || t) rest
  go true e rest = rest ∙ same (l.member == s) refl where
    same : (b : Bool) → (l.member == s) ≡ b → is_listed lines s ≡ (b || is_listed lines s)
    same false _ = refl
    same true is = ap (is_listed lines) (sym (eqb-true l.member s is)) ∙ e

pub files_merged : FilesAreMerged
files_merged [] later = refl
files_merged (k ∷ earlier) later =
    ap (λ b. cond b (kept_last (earlier ++ later)) (k ∷ kept_last (earlier ++ later))) (list_any-append (λ (l : MemberLine). l.member == k.member) earlier later)
    ∙ ap (λ r. cond (is_listed earlier k.member || is_listed later k.member) r (k ∷ r)) (files_merged earlier later)
    ∙ go (is_listed earlier k.member) (is_listed later k.member) (kept_listed later k.member) where
      others : List MemberLine
      others = filter (λ (l : MemberLine). not (is_listed (kept_last later) l.member)) (kept_last earlier)

      go : (a b : Bool) → is_listed (kept_last later) k.member ≡ b
          → cond (a || b) (others ++ kept_last later) (k ∷ others ++ kept_last later)
          ≡ merged_lines (kept_last later) (cond a (kept_last earlier) (k ∷ kept_last earlier))
      go true b e = refl
      go false true e = sym (ap (λ t. cond (not t) (k ∷ others) others ++ kept_last later) e)
      go false false e = sym (ap (λ t. cond (not t) (k ∷ others) others ++ kept_last later) e)

-- the default member of a choice is visible
found_passes : (p : ℕ → Bool) (xs : List ℕ) (s : ℕ) → find p xs ≡ Some s → p s ≡ true
found_passes p [] s e = cc
found_passes p (x ∷ xs) s e = go (p x) refl (found_passes p xs s) e where
  go : (b : Bool) → p x ≡ b → (find p xs ≡ Some s → p s ≡ true) → cond b (Some x) (find p xs) ≡ Some s → p s ≡ true
  go true is rest f = let same : x ≡ s = cc in ap p (sym same) ∙ is
  go false is rest f = rest f

module _ (tree : Tree) (values : List UnitValue) where
  counts_first : (defaults : List MemberDefault) (m : ℕ)
      → option_map (λ (d : MemberDefault). d.member) (find (λ (d : MemberDefault). not (is_n (condition tree values d.condition)) && is_visible_member tree values d.member) defaults) ≡ Some m
      → is_visible_member tree values m ≡ true
  counts_first [] m e = cc
  counts_first (d ∷ defaults) m e =
      go (not (is_n (condition tree values d.condition)) && is_visible_member tree values d.member) refl (counts_first defaults m) e where
        others : Option MemberDefault
        others = find (λ (d : MemberDefault). not (is_n (condition tree values d.condition)) && is_visible_member tree values d.member) defaults

        go : (b : Bool) → (not (is_n (condition tree values d.condition)) && is_visible_member tree values d.member) ≡ b
            → (option_map (λ (d : MemberDefault). d.member) others ≡ Some m → is_visible_member tree values m ≡ true)
            → option_map (λ (d : MemberDefault). d.member) (cond b (Some d) others) ≡ Some m → is_visible_member tree values m ≡ true
        go true is rest f =
            let same : d.member ≡ m = cc in
            ap (is_visible_member tree values) (sym same) ∙ (and_parts (not (is_n (condition tree values d.condition))) (is_visible_member tree values d.member) is).1
        go false is rest f = rest f

  default_seen : (choice : Choice) (s : ℕ) → default_member tree choice values ≡ Some s → is_visible_member tree values s ≡ true
  default_seen choice s e = by choice.optional e where
    either : (o : Option ℕ) → option_map (λ (d : MemberDefault). d.member) (find (λ (d : MemberDefault). not (is_n (condition tree values d.condition)) && is_visible_member tree values d.member) choice.defaults) ≡ o
        → option_or o (find (is_visible_member tree values) choice.members) ≡ Some s → is_visible_member tree values s ≡ true
    either (Some m) is f = let same : m ≡ s = cc in counts_first choice.defaults s (is ∙ ap Some same)
    either None is f = found_passes (is_visible_member tree values) choice.members s f

    by : (b : Bool) → cond b None (option_or (option_map (λ (d : MemberDefault). d.member) (find (λ (d : MemberDefault). not (is_n (condition tree values d.condition)) && is_visible_member tree values d.member) choice.defaults)) (find (is_visible_member tree values) choice.members)) ≡ Some s → is_visible_member tree values s ≡ true
    by true f = cc
    by false f = either (option_map (λ (d : MemberDefault). d.member) (find (λ (d : MemberDefault). not (is_n (condition tree values d.condition)) && is_visible_member tree values d.member) choice.defaults)) refl f

-- the part of what `option_or` gives
or_parts_none : (a b : Option ℕ) → option_or a b ≡ None → (a ≡ None) × (b ≡ None)
or_parts_none None b e = (refl, e)
or_parts_none (Some s) b e = cc

module _ (seen : ℕ → Bool) where
  -- a listed member that is visible, where no visible one has `y`, has `n`
  listed_n : (lines : List MemberLine) (s : ℕ) → last_y seen lines ≡ None → seen s ≡ true → is_listed lines s ≡ true → is_given_n lines s ≡ true
  listed_n [] s none is listed = absurd (false≢true listed)
  listed_n (l ∷ lines) s none is listed =
      let parts = or_parts_none (last_y seen lines) (cond (l.is_y && seen l.member) (Some l.member) None) none in
      go (l.member == s) refl listed (listed_n lines s parts.0 is) parts.1 where
        go : (b : Bool) → (l.member == s) ≡ b → (b || is_listed lines s) ≡ true → (is_listed lines s ≡ true → is_given_n lines s ≡ true)
            → cond (l.is_y && seen l.member) (Some l.member) None ≡ None → ((b && not l.is_y) || is_given_n lines s) ≡ true
        go false e rest later own = later rest
        go true e rest later own = has_n l.is_y (ap (λ t. cond (l.is_y && t) (Some l.member) None) (sym (ap seen (eqb-true l.member s e) ∙ is)) ∙ own) where
          has_n : (y : Bool) → cond (y && true) (Some l.member) None ≡ None → (not y || is_given_n lines s) ≡ true
          has_n true f = cc
          has_n false f = refl

  -- without a `y` no visible member is kept with one
  none_kept : (lines : List MemberLine) → last_y (λ m. true) lines ≡ None → last_y seen (kept_last lines) ≡ None
  none_kept [] e = refl
  none_kept (l ∷ lines) e =
      let parts = or_parts_none (last_y (λ m. true) lines) (cond (l.is_y && true) (Some l.member) None) e in
      go (is_listed lines l.member) (none_kept lines parts.0) (hidden l.is_y parts.1) where
        hidden : (y : Bool) → cond (y && true) (Some l.member) None ≡ None → y ≡ false
        hidden true f = cc
        hidden false f = refl

        go : (b : Bool) → last_y seen (kept_last lines) ≡ None → l.is_y ≡ false → last_y seen (cond b (kept_last lines) (l ∷ kept_last lines)) ≡ None
        go true rest is = rest
        go false rest is = ap (λ o. option_or o (cond (l.is_y && seen l.member) (Some l.member) None)) rest
            ∙ ap (λ y. cond (y && seen l.member) (Some l.member) None) is

  -- a visible member that is last assigned `y` is given `n` after it, or is the last one with `y` of those kept
  last_kept : (lines : List MemberLine) (m : ℕ) → last_y (λ s. true) lines ≡ Some m → seen m ≡ true
      → (is_given_n (kept_last lines) m ≡ true) ⊎ (last_y seen (kept_last lines) ≡ Some m)
  last_kept [] m e is = cc
  last_kept (l ∷ lines) m e is = by (last_y (λ s. true) lines) refl (λ f. last_kept lines m f is) e where
    more_n : (b : Bool) → is_given_n (kept_last lines) m ≡ true → is_given_n (cond b (kept_last lines) (l ∷ kept_last lines)) m ≡ true
    more_n true n = n
    more_n false n = ap (λ t. ((l.member == m) && not l.is_y) || t) n ∙ or_right ((l.member == m) && not l.is_y) true refl

    more_y : (b : Bool) → last_y seen (kept_last lines) ≡ Some m → last_y seen (cond b (kept_last lines) (l ∷ kept_last lines)) ≡ Some m
    more_y true y = y
    more_y false y = ap (λ o. option_or o (cond (l.is_y && seen l.member) (Some l.member) None)) y

    own : last_y (λ s. true) lines ≡ None → (l.is_y ≡ true) → (l.member ≡ m) → (b : Bool) → is_listed lines l.member ≡ b
        → (is_given_n (cond b (kept_last lines) (l ∷ kept_last lines)) m ≡ true) ⊎ (last_y seen (cond b (kept_last lines) (l ∷ kept_last lines)) ≡ Some m)
    own none y same true listed = inl (listed_n (kept_last lines) m (none_kept lines none) is (kept_listed lines m ∙ ap (is_listed lines) (sym same) ∙ listed))
    own none y same false listed =
        inr (ap (λ o. option_or o (cond (l.is_y && seen l.member) (Some l.member) None)) (none_kept lines none)
        ∙ ap (λ t. cond (t && seen l.member) (Some l.member) None) y ∙ ap (λ t. cond t (Some l.member) None) (ap seen same ∙ is) ∙ ap Some same)

    y_and : (y : Bool) → cond (y && true) (Some l.member) None ≡ Some m → (y ≡ true) × (l.member ≡ m)
    y_and true f = (refl, cc)
    y_and false f = cc

    by : (o : Option ℕ) → last_y (λ s. true) lines ≡ o
        → (last_y (λ s. true) lines ≡ Some m → (is_given_n (kept_last lines) m ≡ true) ⊎ (last_y seen (kept_last lines) ≡ Some m))
        → option_or o (cond (l.is_y && true) (Some l.member) None) ≡ Some m
        → (is_given_n (kept_last (l ∷ lines)) m ≡ true) ⊎ (last_y seen (kept_last (l ∷ lines)) ≡ Some m)
    by (Some k) later rest f = elim (rest (later ∙ f)) [
      | inl n ↦ inl (more_n (is_listed lines l.member) n)
      | inr y ↦ inr (more_y (is_listed lines l.member) y)
    ]
    by None later rest f = let found = y_and l.is_y f in own later found.0 found.1 (is_listed lines l.member) refl

  -- where no visible member has `y`, the default member is selected, unless it has `n`
  by_default : (members : List ℕ) (d : Option ℕ) (lines : List MemberLine) → last_y seen lines ≡ None → ((s : ℕ) → d ≡ Some s → seen s ≡ true)
      → (selected_without_y seen members d lines ≡ d) ⊎ ((s : ℕ) × (d ≡ Some s) × (is_given_n lines s ≡ true))
  by_default members None lines none visible = inl refl
  by_default members (Some s) lines none visible = go (is_listed lines s) refl where
    go : (b : Bool) → is_listed lines s ≡ b
        → (cond b (option_or (find (λ m. seen m && not (is_listed lines m)) members) (first_listed seen lines)) (Some s) ≡ Some s)
        ⊎ ((m : ℕ) × (Some s ≡ Some m) × (is_given_n lines m ≡ true))
    go true listed = inr (s, refl, listed_n lines s none (visible s refl) listed)
    go false listed = inl refl

-- the user value by which the rules before Linux 6.10 select a member
user_member : (o : Option ℕ) → assigned_member (option_map (λ s. MemberUser s) o) ≡ o
user_member None = refl
user_member (Some s) = refl

module _ (tree : Tree) (values : List UnitValue) (choice : Choice) (lines : List (ℕ × ChoiceLine)) (shown : is_shown tree values choice ≡ true) where
  abbrev seen : ℕ → Bool
  seen = is_visible_member tree values

  abbrev default : Option ℕ
  default = default_member tree choice values

  abbrev kept : List MemberLine
  kept = kept_last (given_by lines)

  abbrev by_user : Option ℕ → Option ℕ
  by_user o = option_and_then (λ s. cond (seen s) (Some s) None) o

  -- what the rules before Linux 6.10 select
  own_is : (o : Option ℕ) → last_y (λ m. true) (given_by lines) ≡ o → own_member tree values choice lines ≡ option_or (by_user o) default
  own_is o e =
      ap (λ b. cond b (option_or (by_user (assigned_member (option_map (λ s. MemberUser s) (last_y (λ m. true) (given_by lines))))) default) None) shown
      ∙ ap (λ u. option_or (by_user u) default) (user_member (last_y (λ m. true) (given_by lines)) ∙ e)

  other_is : (o : Option ℕ) → last_y seen kept ≡ o → other_member tree values choice lines ≡ option_or o (selected_without_y seen choice.members default kept)
  other_is o e = ap (λ u. option_or u (selected_without_y seen choice.members default kept)) e

  -- where the default member is what the rules before select, and no visible member has `y`
  of_default : own_member tree values choice lines ≡ default → last_y seen kept ≡ None → own_member tree values choice lines ≢ other_member tree values choice lines
      → IsGivenN (own_member tree values choice lines) (given_by lines)
  of_default own none differs = elim (by_default seen choice.members default kept none (λ s is. default_seen tree values choice s is)) [
    | inl same ↦ absurd (differs (own ∙ sym (other_is None none ∙ same)))
    | inr found ↦ record { member = found.0; selected = own ∙ found.1; given = found.2 }
  ]

  reasons : own_member tree values choice lines ≢ other_member tree values choice lines
      → IsGivenN (own_member tree values choice lines) (given_by lines) ⊎ IsHiddenLast tree values (given_by lines)
  reasons differs = by (last_y (λ m. true) (given_by lines)) refl where
    before : (m : ℕ) (b : Bool) → seen m ≡ b → last_y (λ s. true) (given_by lines) ≡ Some m
        → IsGivenN (own_member tree values choice lines) (given_by lines) ⊎ IsHiddenLast tree values (given_by lines)
    before m true is last =
        let own : own_member tree values choice lines ≡ Some m = own_is (Some m) last ∙ ap (λ b. option_or (cond b (Some m) None) default) is in
        elim (last_kept seen (given_by lines) m last is) [
          | inl n ↦ inl (record { member = m; selected = own; given = n })
          | inr y ↦ absurd (differs (own ∙ sym (other_is (Some m) y)))
        ]
    before m false is last =
        let own : own_member tree values choice lines ≡ default = own_is (Some m) last ∙ ap (λ b. option_or (cond b (Some m) None) default) is in
        kept_y (last_y seen kept) refl own where
          kept_y : (o : Option ℕ) → last_y seen kept ≡ o → own_member tree values choice lines ≡ default
              → IsGivenN (own_member tree values choice lines) (given_by lines) ⊎ IsHiddenLast tree values (given_by lines)
          kept_y (Some r) e own = inr (record { last = m; comes_last = last; hidden = is; visible = r; comes_before = e })
          kept_y None e own = inl (of_default own e differs)

    by : (o : Option ℕ) → last_y (λ m. true) (given_by lines) ≡ o
        → IsGivenN (own_member tree values choice lines) (given_by lines) ⊎ IsHiddenLast tree values (given_by lines)
    by None e = inl (of_default (own_is None e) (none_kept seen (given_by lines) e) differs)
    by (Some m) e = before m (seen m) refl e

pub have_reasons : OtherChoicesHaveReasons
have_reasons tree values choice lines shown differs = reasons tree values choice lines shown differs

-- a member without a line has no last one, and one with a line has one
unlisted_line : (lines : List (ℕ × ChoiceLine)) (s : ℕ) → is_listed (given_by lines) s ≡ false → last_line s lines ≡ None
unlisted_line [] s e = refl
unlisted_line (l ∷ lines) s e = go (l.1.given.member == s) (unlisted_line lines s) e where
  go : (b : Bool) → (is_listed (given_by lines) s ≡ false → last_line s lines ≡ None) → (b || is_listed (given_by lines) s) ≡ false
      → option_or (last_line s lines) (cond b (Some l) None) ≡ None
  go true rest f = absurd (false≢true (sym f))
  go false rest f = ap (λ o. option_or o None) (rest f)

listed_line : (lines : List (ℕ × ChoiceLine)) (s : ℕ) → is_listed (given_by lines) s ≡ true → is_some (last_line s lines) ≡ true
listed_line [] s e = absurd (false≢true e)
listed_line (l ∷ lines) s e = go (last_line s lines) (listed_line lines s) (l.1.given.member == s) e where
  go : (o : Option (ℕ × ChoiceLine)) → (is_listed (given_by lines) s ≡ true → is_some o ≡ true) → (b : Bool) → (b || is_listed (given_by lines) s) ≡ true
      → is_some (option_or o (cond b (Some l) None)) ≡ true
  go (Some k) rest b f = refl
  go None rest true f = refl
  go None rest false f = rest f

-- the last line of a member that is kept with `n` gives it `n`
n_line : (lines : List (ℕ × ChoiceLine)) (s : ℕ) → is_given_n (kept_last (given_by lines)) s ≡ true
    → (l : ℕ × ChoiceLine) × (last_line s lines ≡ Some l) × (l.1.given.is_y ≡ false)
n_line [] s e = absurd (false≢true e)
n_line (l ∷ lines) s e = go (is_listed (given_by lines) l.1.given.member) refl (n_line lines s) e where
  later : (is_given_n (kept_last (given_by lines)) s ≡ true → (k : ℕ × ChoiceLine) × (last_line s lines ≡ Some k) × (k.1.given.is_y ≡ false))
      → is_given_n (kept_last (given_by lines)) s ≡ true → (k : ℕ × ChoiceLine) × (last_line s (l ∷ lines) ≡ Some k) × (k.1.given.is_y ≡ false)
  later rest n = let found = rest n in (found.0, ap (λ o. option_or o (cond (l.1.given.member == s) (Some l) None)) found.1, found.2)

  go : (b : Bool) → is_listed (given_by lines) l.1.given.member ≡ b
      → (is_given_n (kept_last (given_by lines)) s ≡ true → (k : ℕ × ChoiceLine) × (last_line s lines ≡ Some k) × (k.1.given.is_y ≡ false))
      → is_given_n (cond b (kept_last (given_by lines)) (l.1.given ∷ kept_last (given_by lines))) s ≡ true
      → (k : ℕ × ChoiceLine) × (last_line s (l ∷ lines) ≡ Some k) × (k.1.given.is_y ≡ false)
  go true listed rest n = later rest n
  go false listed rest n = own (l.1.given.member == s) refl l.1.given.is_y refl n where
    own : (b : Bool) → (l.1.given.member == s) ≡ b → (y : Bool) → l.1.given.is_y ≡ y → ((b && not y) || is_given_n (kept_last (given_by lines)) s) ≡ true
        → (k : ℕ × ChoiceLine) × (last_line s (l ∷ lines) ≡ Some k) × (k.1.given.is_y ≡ false)
    own false is y what f = later rest f
    own true is true what f = later rest f
    own true is false what f =
        let none : last_line s lines ≡ None = unlisted_line lines s (ap (is_listed (given_by lines)) (sym (eqb-true l.1.given.member s is)) ∙ listed) in
        (l, ap (λ o. option_or o (cond (l.1.given.member == s) (Some l) None)) none ∙ ap (λ b. cond b (Some l) None) is, what)

-- a member that is selected by a `y` is listed
y_listed : (seen : ℕ → Bool) (lines : List MemberLine) (r : ℕ) → last_y seen lines ≡ Some r → is_listed lines r ≡ true
y_listed seen [] r e = cc
y_listed seen (l ∷ lines) r e = go (last_y seen lines) refl (y_listed seen lines r) e where
  own : (b : Bool) → cond b (Some l.member) None ≡ Some r → ((l.member == r) || is_listed lines r) ≡ true
  own true f = let same : l.member ≡ r = cc in ap (λ b. b || is_listed lines r) (eq-eqb l.member r same)
  own false f = cc

  go : (o : Option ℕ) → last_y seen lines ≡ o → (last_y seen lines ≡ Some r → is_listed lines r ≡ true) → option_or o (cond (l.is_y && seen l.member) (Some l.member) None) ≡ Some r
      → ((l.member == r) || is_listed lines r) ≡ true
  go (Some k) is rest f = ap (λ b. (l.member == r) || b) (rest (is ∙ f)) ∙ or_right (l.member == r) true refl
  go None is rest f = own (l.is_y && seen l.member) f

some_or : {A : Type 0} (a b : Option A) → is_some b ≡ true → is_some (option_or a b) ≡ true
some_or None b e = e
some_or (Some x) b e = refl

pub have_lines : OtherChoicesHaveLines
have_lines tree values choice lines shown differs =
    let own = own_member tree values choice lines in
    let other = other_member tree values choice lines in
    elim (have_reasons tree values choice lines shown differs) [
      | inl given ↦
          let found = n_line lines given.member given.given in
          ap (λ o. is_some (option_or (option_and_then (λ s. last_n_line s lines) o) (option_and_then (λ s. last_line s lines) other))) given.selected
          ∙ ap (λ o. is_some (option_or (option_and_then (λ (l : ℕ × ChoiceLine). cond l.1.given.is_y None (Some l)) o) (option_and_then (λ s. last_line s lines) other))) found.1
          ∙ ap (λ b. is_some (option_or (cond b None (Some found.0)) (option_and_then (λ s. last_line s lines) other))) found.2
      | inr hidden ↦
          let selects : other ≡ Some hidden.visible = other_is tree values choice lines shown (Some hidden.visible) hidden.comes_before in
          let listed : is_listed (given_by lines) hidden.visible ≡ true = sym (kept_listed (given_by lines) hidden.visible)
          ∙ y_listed (is_visible_member tree values) (kept_last (given_by lines)) hidden.visible hidden.comes_before in
          some_or (option_and_then (λ s. last_n_line s lines) own) (option_and_then (λ s. last_line s lines) other)
          (ap (λ o. is_some (option_and_then (λ s. last_line s lines) o)) selects ∙ listed_line lines hidden.visible listed)
    ]
