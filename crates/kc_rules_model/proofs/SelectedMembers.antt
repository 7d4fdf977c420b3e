-- What assignments of members select.
use Rattle.std.proofs.Common.{◌++◌, filter}
use Rattle.kc_rules_model.proofs.Common.{◌≡◌, inl, inr, ℕ, Bool, true, false, not, ◌&&◌, ◌||◌, ◌==◌, cond, List, [], ◌∷◌, Option, Some, None, find, refl, sym, ◌∙◌, ap, option_map, option_and_then, option_or, list_any, list_all, false≢true, true≢false, cases_Bool, and_parts, and_from, or_cases, Tree}
use Rattle.kc_rules_model.proofs.Common.{Choice, MemberLine, UnitValue, is_listed, last_y, first_listed, selected_without_y, selected_by_lines, is_shown, is_visible_member, default_member}
use Rattle.std.specs.List.{All}
use Rattle.std.proofs.lemmas.List.Elements.{All-head, All-tail}
use Rattle.kc_rules_model.specs.declared.values.UserValue.TheVariants.{Member as MemberUser}
use Rattle.kc_rules_model.specs.MemberLineLaws.{ListsAreTwoLists, RulesAgreeWithoutN, FirstUnsetIsSelected}
use Rattle.kc_rules_model.specs.checker.RestoreLaw.{none_listed}

or_none : (o : Option ℕ) → option_or o None ≡ o
or_none None = refl
or_none (Some s) = refl

or_assoc : (a b c : Option ℕ) → option_or (option_or a b) c ≡ option_or a (option_or b c)
or_assoc None b c = refl
or_assoc (Some s) b c = refl

module _ (seen : ℕ → Bool) where
  last_behind : (xs zs : List MemberLine) → last_y seen (xs ++ zs) ≡ option_or (last_y seen zs) (last_y seen xs)
  last_behind [] zs = sym (or_none (last_y seen zs))
  last_behind (l ∷ xs) zs =
      let one = cond (l.is_y && seen l.member) (Some l.member) None in
      ap (λ o. option_or o one) (last_behind xs zs) ∙ or_assoc (last_y seen zs) (last_y seen xs) one

  last_of_ys : (lines : List MemberLine) → last_y seen (filter (λ (l : MemberLine). l.is_y) lines) ≡ last_y seen lines
  last_of_ys [] = refl
  last_of_ys (l ∷ lines) = go l.is_y refl (last_of_ys lines) where
    go : (b : Bool) → l.is_y ≡ b → last_y seen (filter (λ (k : MemberLine). k.is_y) lines) ≡ last_y seen lines
        → last_y seen (cond b (l ∷ filter (λ (k : MemberLine). k.is_y) lines) (filter (λ (k : MemberLine). k.is_y) lines))
        ≡ option_or (last_y seen lines) (cond (b && seen l.member) (Some l.member) None)
    go true e rest =
        ap (λ o. option_or o (cond (l.is_y && seen l.member) (Some l.member) None)) rest ∙ ap (λ b. option_or (last_y seen lines) (cond (b && seen l.member) (Some l.member) None)) e
    go false e rest = rest ∙ sym (or_none (last_y seen lines))

  none_of_ns : (lines : List MemberLine) → last_y seen (filter (λ (l : MemberLine). not l.is_y) lines) ≡ None
  none_of_ns [] = refl
  none_of_ns (l ∷ lines) = go l.is_y refl (none_of_ns lines) where
    go : (b : Bool) → l.is_y ≡ b → last_y seen (filter (λ (k : MemberLine). not k.is_y) lines) ≡ None
        → last_y seen (cond (not b) (l ∷ filter (λ (k : MemberLine). not k.is_y) lines) (filter (λ (k : MemberLine). not k.is_y) lines)) ≡ None
    go true e rest = rest
    go false e rest =
        ap (λ o. option_or o (cond (l.is_y && seen l.member) (Some l.member) None)) rest ∙ ap (λ b. cond (b && seen l.member) (Some l.member) None) e

  same_last : (lines : List MemberLine)
      → last_y seen (filter (λ (l : MemberLine). l.is_y) lines ++ filter (λ (l : MemberLine). not l.is_y) lines) ≡ last_y seen lines
  same_last lines =
      last_behind (filter (λ (l : MemberLine). l.is_y) lines) (filter (λ (l : MemberLine). not l.is_y) lines)
      ∙ ap (λ o. option_or o (last_y seen (filter (λ (l : MemberLine). l.is_y) lines))) (none_of_ns lines) ∙ last_of_ys lines

listed_in_both : (xs zs : List MemberLine) (s : ℕ) → is_listed (xs ++ zs) s ≡ (is_listed xs s || is_listed zs s)
listed_in_both [] zs s = refl
listed_in_both (l ∷ xs) zs s = ap (λ b. (l.member == s) || b) (listed_in_both xs zs s) ∙ or_assoc_bool (l.member == s) (is_listed xs s) (is_listed zs s) where
  or_assoc_bool : (a b c : Bool) → (a || (b || c)) ≡ ((a || b) || c)
  or_assoc_bool true b c = refl
  or_assoc_bool false b c = refl

same_listed : (lines : List MemberLine) (s : ℕ)
    → is_listed (filter (λ (l : MemberLine). l.is_y) lines ++ filter (λ (l : MemberLine). not l.is_y) lines) s ≡ is_listed lines s
same_listed lines s =
    listed_in_both (filter (λ (l : MemberLine). l.is_y) lines) (filter (λ (l : MemberLine). not l.is_y) lines) s ∙ both lines where
      swap : (a b c : Bool) → (a || (b || c)) ≡ (b || (a || c))
      swap true true c = refl
      swap true false c = refl
      swap false b c = refl

      assoc : (a b c : Bool) → ((a || b) || c) ≡ (a || (b || c))
      assoc true b c = refl
      assoc false b c = refl

      both : (xs : List MemberLine) → (is_listed (filter (λ (l : MemberLine). l.is_y) xs) s || is_listed (filter (λ (l : MemberLine). not l.is_y) xs) s) ≡ is_listed xs s
      both [] = refl
      both (l ∷ xs) = go l.is_y (both xs) where
        go : (b : Bool) → (is_listed (filter (λ (k : MemberLine). k.is_y) xs) s || is_listed (filter (λ (k : MemberLine). not k.is_y) xs) s) ≡ is_listed xs s
            → (is_listed (cond b (l ∷ filter (λ (k : MemberLine). k.is_y) xs) (filter (λ (k : MemberLine). k.is_y) xs)) s
            || is_listed (cond (not b) (l ∷ filter (λ (k : MemberLine). not k.is_y) xs) (filter (λ (k : MemberLine). not k.is_y) xs)) s) ≡ ((l.member == s) || is_listed xs s)
        go true rest =
            assoc (l.member == s) (is_listed (filter (λ (k : MemberLine). k.is_y) xs) s) (is_listed (filter (λ (k : MemberLine). not k.is_y) xs) s)
            ∙ ap (λ b. (l.member == s) || b) rest
        go false rest =
            swap (is_listed (filter (λ (k : MemberLine). k.is_y) xs) s) (l.member == s) (is_listed (filter (λ (k : MemberLine). not k.is_y) xs) s)
            ∙ ap (λ b. (l.member == s) || b) rest

-- where no visible member has `y`, the first visible one that is listed is the first of those with `n`
first_of_ns : (seen : ℕ → Bool) (lines : List MemberLine) → last_y seen lines ≡ None
    → first_listed seen (filter (λ (l : MemberLine). l.is_y) lines ++ filter (λ (l : MemberLine). not l.is_y) lines) ≡ first_listed seen lines
first_of_ns seen lines none =
    skip (filter (λ (l : MemberLine). l.is_y) lines) (filter (λ (l : MemberLine). not l.is_y) lines) (unseen lines none) ∙ of_ns lines none where
      nothing : (o r : Option ℕ) → option_or o r ≡ None → (o ≡ None) × (r ≡ None)
      nothing None r e = (refl, e)
      nothing (Some s) r e = cc

      no_member : (b : Bool) (s : ℕ) → cond b (Some s) None ≡ None → b ≡ false
      no_member true s e = cc
      no_member false s e = refl

      unseen : (xs : List MemberLine) → last_y seen xs ≡ None → list_all (λ (l : MemberLine). not (seen l.member)) (filter (λ (l : MemberLine). l.is_y) xs) ≡ true
      unseen [] e = refl
      unseen (l ∷ xs) e =
          let parts = nothing (last_y seen xs) (cond (l.is_y && seen l.member) (Some l.member) None) e in
          go l.is_y (no_member (l.is_y && seen l.member) l.member parts.1) refl (unseen xs parts.0) where
            go : (b : Bool) → (l.is_y && seen l.member) ≡ false → l.is_y ≡ b
                → list_all (λ (k : MemberLine). not (seen k.member)) (filter (λ (k : MemberLine). k.is_y) xs) ≡ true
                → list_all (λ (k : MemberLine). not (seen k.member)) (cond b (l ∷ filter (λ (k : MemberLine). k.is_y) xs) (filter (λ (k : MemberLine). k.is_y) xs)) ≡ true
            go true hidden e rest =
                and_from (not (seen l.member)) (list_all (λ (k : MemberLine). not (seen k.member)) (filter (λ (k : MemberLine). k.is_y) xs))
                (ap not (sym (ap (λ b. b && seen l.member) e) ∙ hidden)) rest
            go false hidden e rest = rest

      skip : (xs zs : List MemberLine) → list_all (λ (l : MemberLine). not (seen l.member)) xs ≡ true → first_listed seen (xs ++ zs) ≡ first_listed seen zs
      skip [] zs all = refl
      skip (l ∷ xs) zs all =
          let parts = and_parts (not (seen l.member)) (list_all (λ (k : MemberLine). not (seen k.member)) xs) all in
          ap (λ b. option_map (λ (k : MemberLine). k.member) (cond b (Some l) (find (λ (k : MemberLine). seen k.member) (xs ++ zs)))) (hidden_is (seen l.member) parts.0) ∙ skip xs zs parts.1 where
            hidden_is : (b : Bool) → not b ≡ true → b ≡ false
            hidden_is true e = absurd (false≢true e)
            hidden_is false e = refl

      of_ns : (xs : List MemberLine) → last_y seen xs ≡ None → first_listed seen (filter (λ (l : MemberLine). not l.is_y) xs) ≡ first_listed seen xs
      of_ns [] e = refl
      of_ns (l ∷ xs) e =
          let parts = nothing (last_y seen xs) (cond (l.is_y && seen l.member) (Some l.member) None) e in
          go l.is_y (no_member (l.is_y && seen l.member) l.member parts.1) refl (of_ns xs parts.0) where
            go : (b : Bool) → (l.is_y && seen l.member) ≡ false → l.is_y ≡ b → first_listed seen (filter (λ (k : MemberLine). not k.is_y) xs) ≡ first_listed seen xs
                → first_listed seen (cond (not b) (l ∷ filter (λ (k : MemberLine). not k.is_y) xs) (filter (λ (k : MemberLine). not k.is_y) xs))
                ≡ option_map (λ (k : MemberLine). k.member) (cond (seen l.member) (Some l) (find (λ (k : MemberLine). seen k.member) xs))
            go true hidden e rest =
                rest ∙ ap (λ b. option_map (λ (k : MemberLine). k.member) (cond b (Some l) (find (λ (k : MemberLine). seen k.member) xs))) (sym (sym (ap (λ b. b && seen l.member) e) ∙ hidden))
            go false hidden e rest = by_seen (seen l.member) where
              by_seen : (t : Bool)
                  → option_map (λ (k : MemberLine). k.member) (cond t (Some l) (find (λ (k : MemberLine). seen k.member) (filter (λ (k : MemberLine). not k.is_y) xs)))
                  ≡ option_map (λ (k : MemberLine). k.member) (cond t (Some l) (find (λ (k : MemberLine). seen k.member) xs))
              by_seen true = refl
              by_seen false = rest

same_find : (f h : ℕ → Bool) → ((s : ℕ) → f s ≡ h s) → (xs : List ℕ) → find f xs ≡ find h xs
same_find f h same [] = refl
same_find f h same (x ∷ xs) = ap (λ b. cond b (Some x) (find f xs)) (same x) ∙ ap (λ o. cond (h x) (Some x) o) (same_find f h same xs)

pub two_lists : ListsAreTwoLists
two_lists seen members default lines = go (last_y seen lines) refl where
  without : (o : Option ℕ) → last_y seen lines ≡ None
      → selected_without_y seen members o lines ≡ selected_without_y seen members o (filter (λ (l : MemberLine). l.is_y) lines ++ filter (λ (l : MemberLine). not l.is_y) lines)
  without None none = refl
  without (Some d) none =
      ap (λ b. cond b (option_or (find (λ s. seen s && not (is_listed lines s)) members) (first_listed seen lines)) (Some d)) (sym (same_listed lines d))
      ∙ ap (λ o. cond (is_listed (filter (λ (l : MemberLine). l.is_y) lines ++ filter (λ (l : MemberLine). not l.is_y) lines) d) (option_or o (first_listed seen lines)) (Some d))
      (same_find (λ s. seen s && not (is_listed lines s)) (λ s. seen s && not (is_listed (filter (λ (l : MemberLine). l.is_y) lines ++ filter (λ (l : MemberLine). not l.is_y) lines) s))
      (λ s. ap (λ b. seen s && not b) (sym (same_listed lines s))) members)
      ∙ ap (λ o. cond (is_listed (filter (λ (l : MemberLine). l.is_y) lines ++ filter (λ (l : MemberLine). not l.is_y) lines) d)
      (option_or (find (λ s. seen s && not (is_listed (filter (λ (l : MemberLine). l.is_y) lines ++ filter (λ (l : MemberLine). not l.is_y) lines) s)) members) o) (Some d))
      (sym (first_of_ns seen lines none))

  go : (o : Option ℕ) → last_y seen lines ≡ o
      → option_or (last_y seen lines) (selected_without_y seen members default lines)
      ≡ option_or (last_y seen (filter (λ (l : MemberLine). l.is_y) lines ++ filter (λ (l : MemberLine). not l.is_y) lines))
      (selected_without_y seen members default (filter (λ (l : MemberLine). l.is_y) lines ++ filter (λ (l : MemberLine). not l.is_y) lines))
  go (Some r) e =
      ap (λ o. option_or o (selected_without_y seen members default lines)) e
      ∙ sym (ap (λ o. option_or o (selected_without_y seen members default (filter (λ (l : MemberLine). l.is_y) lines ++ filter (λ (l : MemberLine). not l.is_y) lines))) (same_last seen lines ∙ e))
  go None e =
      ap (λ o. option_or o (selected_without_y seen members default lines)) e ∙ without default e
      ∙ sym (ap (λ o. option_or o (selected_without_y seen members default (filter (λ (l : MemberLine). l.is_y) lines ++ filter (λ (l : MemberLine). not l.is_y) lines))) (same_last seen lines ∙ e))

pub agree_without_n : RulesAgreeWithoutN
agree_without_n tree choice values shown =
    let seen = is_visible_member tree values in
    let default = default_member tree choice values in
    record {
      none = none_listed seen choice.members default ∙ sym (ap (λ b. cond b default None) shown);
      last = λ lines s all visible.
          ap (λ o. option_or o (selected_without_y seen choice.members default (lines ++ record { member = s; is_y = true } ∷ [])))
          (last_behind seen lines (record { member = s; is_y = true } ∷ []) ∙ ap (λ b. option_or (cond b (Some s) None) (last_y seen lines)) visible)
          ∙ sym (ap (λ b. cond b (option_or (cond (seen s) (Some s) None) default) None) shown ∙ ap (λ b. option_or (cond b (Some s) None) default) visible);
    }

pub first_unset : FirstUnsetIsSelected
first_unset seen members d lines unset listed default =
    ap (λ o. option_or o (selected_without_y seen members (Some d) lines)) (none_chosen lines unset)
    ∙ ap (λ b. cond b (option_or (find (λ s. seen s && not (is_listed lines s)) members) (first_listed seen lines)) (Some d)) default
    ∙ ap (λ o. option_or o (first_listed seen lines)) (none_unlisted members listed) where
      none_chosen : (xs : List MemberLine) → All (λ (l : MemberLine). seen l.member ≡ true → l.is_y ≡ false) xs → last_y seen xs ≡ None
      none_chosen [] all = refl
      none_chosen (l ∷ xs) all =
          ap (λ o. option_or o (cond (l.is_y && seen l.member) (Some l.member) None)) (none_chosen xs (All-tail (λ (l : MemberLine). seen l.member ≡ true → l.is_y ≡ false) l xs all))
          ∙ ap (λ b. cond b (Some l.member) None) (never l.is_y (seen l.member) (All-head (λ (l : MemberLine). seen l.member ≡ true → l.is_y ≡ false) l xs all)) where
            never : (a b : Bool) → (b ≡ true → a ≡ false) → (a && b) ≡ false
            never true true h = h refl
            never true false h = refl
            never false b h = refl

      none_unlisted : (xs : List ℕ) → All (λ s. seen s ≡ true → is_listed lines s ≡ true) xs → find (λ s. seen s && not (is_listed lines s)) xs ≡ None
      none_unlisted [] all = refl
      none_unlisted (s ∷ xs) all =
          ap (λ b. cond b (Some s) (find (λ t. seen t && not (is_listed lines t)) xs)) (never (seen s) (is_listed lines s) (All-head (λ s. seen s ≡ true → is_listed lines s ≡ true) s xs all))
          ∙ none_unlisted xs (All-tail (λ s. seen s ≡ true → is_listed lines s ≡ true) s xs all) where
            never : (a b : Bool) → (a ≡ true → b ≡ true) → (a && not b) ≡ false
            never true true h = refl
            never true false h = absurd (false≢true (h refl))
            never false b h = refl
