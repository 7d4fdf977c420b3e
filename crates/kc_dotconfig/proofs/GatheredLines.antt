-- Gathered assignments of members.
use Rattle.std.proofs.Common.{◌||◌, filter}
use Rattle.kc_dotconfig.proofs.Common.{◌≡◌, ◌≢◌, ◌⊎◌, inl, inr, ℕ, suc, ◌<◌, ◌≤◌, Bool, true, false, not, ◌==◌, cond, List, [], ◌∷◌, ◌++◌, length, Option, Some, None, refl, sym, ◌∙◌, ap, arith, Vec, is_some, slice_set, option_or, lookup, is_at, insert_entry, nat_cmp, match_ordering, nat_cmp_is}
use Rattle.kc_dotconfig.proofs.Common.{Ordering, Less, Equal, Greater, cases_eq, false≢true, get_or-set_same, get_or-set_other, length-set, changed_users, user_of, MemberLine, UserValue, is_listed, merged_user, kept_last, changes_of, AreAbove, IsAscending, AreBelow, lines_user, value_in, lines_in, held_in}
use Rattle.kc_dotconfig.proofs.Common.{with_unit, joined, split}
use Rattle.std.specs.Option.{option_map}
use Rattle.std.specs.Ordering.{is_eq}
use Rattle.kc_rules_model.specs.declared.values.UserValue.TheVariants.{Lines as LinesUser}
use Rattle.kc_rules_model.specs.MemberLines.{merged_lines}

-- a list with one more assignment lists the member of this one too
listed_push : (lines : List MemberLine) (l : MemberLine) (s : ℕ) → is_listed (lines ++ l ∷ []) s ≡ (is_listed lines s || (l.member == s))
listed_push [] l s = go (l.member == s) where
  go : (b : Bool) → (b || false) ≡ b
  go true = refl
  go false = refl
listed_push (k ∷ lines) l s = ap (λ t. (k.member == s) || t) (listed_push lines l s) ∙ assoc (k.member == s) (is_listed lines s) (l.member == s) where
  assoc : (a b c : Bool) → (a || (b || c)) ≡ ((a || b) || c)
  assoc true b c = refl
  assoc false b c = refl

-- one more assignment overrides those kept
pub kept_push : (lines : List MemberLine) (l : MemberLine) → kept_last (lines ++ l ∷ []) ≡ merged_lines (l ∷ []) (kept_last lines)
kept_push [] l = refl
kept_push (k ∷ lines) l =
    ap (λ b. cond b (kept_last (lines ++ l ∷ [])) (k ∷ kept_last (lines ++ l ∷ []))) (listed_push lines l k.member)
    ∙ ap (λ r. cond (is_listed lines k.member || (l.member == k.member)) r (k ∷ r)) (kept_push lines l)
    ∙ go (kept_last lines) (is_listed lines k.member) (l.member == k.member) refl where
      go : (kept : List MemberLine) (a b : Bool) → (l.member == k.member) ≡ b
          → cond (a || b) (merged_lines (l ∷ []) kept) (k ∷ merged_lines (l ∷ []) kept) ≡ merged_lines (l ∷ []) (cond a kept (k ∷ kept))
      go kept true b e = refl
      go kept false b e = at (filter (λ (x : MemberLine). not (is_listed (l ∷ []) x.member)) kept) b e where
        at : (others : List MemberLine) (b : Bool) → (l.member == k.member) ≡ b
            → cond b (others ++ l ∷ []) (k ∷ others ++ l ∷ []) ≡ cond (not ((l.member == k.member) || false)) (k ∷ others) others ++ l ∷ []
        at others true e = sym (ap (λ t. cond (not (t || false)) (k ∷ others) others ++ l ∷ []) e)
        at others false e = sym (ap (λ t. cond (not (t || false)) (k ∷ others) others ++ l ∷ []) e)

-- an assignment of a member over those of a unit
pub lines_over : (lines : List MemberLine) (l : MemberLine) → lines_user (lines ++ l ∷ []) ≡ merged_user (LinesUser (l ∷ [])) (Some (lines_user lines))
lines_over lines l = ap (λ x. LinesUser x) (kept_push lines l)

-- what is at a unit in a list of pairs after an insertion
pub at_same : (u : ℕ) → is_at (nat_cmp u) u ≡ true
at_same u = ap (λ o. is_eq o) (sym (nat_cmp_is u u Equal refl))

pub at_other : (u w : ℕ) → u ≢ w → is_at (nat_cmp u) w ≡ false
at_other u w ne = elim (split u w) [
  | inl less ↦ ap (λ o. is_eq o) (sym (nat_cmp_is u w Less less))
  | inr more ↦ elim (split w u) [
    | inl less ↦ ap (λ o. is_eq o) (sym (nat_cmp_is u w Greater less))
    | inr same ↦ absurd (ne (omega arith))
  ]
]

module _ {X : Type 0} where
  pub found_same : (es : List (ℕ × X)) (u : ℕ) (x : X) → lookup (is_at (nat_cmp u)) (insert_entry nat_cmp es u x) ≡ Some x
  found_same [] u x = ap (λ b. cond b (Some x) None) (at_same u)
  found_same (e ∷ es) u x = go (nat_cmp u e.0) refl (found_same es u x) where
    go : (o : Ordering) → nat_cmp u e.0 ≡ o → lookup (is_at (nat_cmp u)) (insert_entry nat_cmp es u x) ≡ Some x
        → lookup (is_at (nat_cmp u)) (match_ordering o ((u, x) ∷ e ∷ es) ((e.0, x) ∷ es) (e ∷ insert_entry nat_cmp es u x)) ≡ Some x
    go Less is next = ap (λ b. cond b (Some x) (lookup (is_at (nat_cmp u)) (e ∷ es))) (at_same u)
    go Equal is next = ap (λ o. cond (is_eq o) (Some x) (lookup (is_at (nat_cmp u)) es)) is
    go Greater is next = ap (λ o. cond (is_eq o) (Some e.1) (lookup (is_at (nat_cmp u)) (insert_entry nat_cmp es u x))) is ∙ next

  pub found_other : (es : List (ℕ × X)) (u w : ℕ) (x : X) → u ≢ w
      → lookup (is_at (nat_cmp u)) (insert_entry nat_cmp es w x) ≡ lookup (is_at (nat_cmp u)) es
  found_other [] u w x ne = ap (λ b. cond b (Some x) None) (at_other u w ne)
  found_other (e ∷ es) u w x ne = go (nat_cmp w e.0) refl (found_other es u w x ne) where
    same_unit : nat_cmp w e.0 ≡ Equal → is_at (nat_cmp u) e.0 ≡ false
    same_unit is = elim (cases_eq u e.0) [
      | inl eq ↦ absurd (ne (eq ∙ sym (elim (cases_eq w e.0) [
        | inl same ↦ same
        | inr apart ↦ absurd (false≢true (sym (at_other w e.0 apart) ∙ ap (λ o. is_eq o) is))
      ])))
      | inr apart ↦ at_other u e.0 apart
    ]

    go : (o : Ordering) → nat_cmp w e.0 ≡ o → lookup (is_at (nat_cmp u)) (insert_entry nat_cmp es w x) ≡ lookup (is_at (nat_cmp u)) es
        → lookup (is_at (nat_cmp u)) (match_ordering o ((w, x) ∷ e ∷ es) ((e.0, x) ∷ es) (e ∷ insert_entry nat_cmp es w x)) ≡ lookup (is_at (nat_cmp u)) (e ∷ es)
    go Less is next = ap (λ b. cond b (Some x) (lookup (is_at (nat_cmp u)) (e ∷ es))) (at_other u w ne)
    go Equal is next = ap (λ b. cond b (Some x) (lookup (is_at (nat_cmp u)) es)) (same_unit is) ∙ sym (ap (λ b. cond b (Some e.1) (lookup (is_at (nat_cmp u)) es)) (same_unit is))
    go Greater is next = ap (λ r. cond (is_at (nat_cmp u) e.0) (Some e.1) r) next

-- a unit's value in a list that gathered assignments are joined to
pub or_none : {X : Type 0} (o : Option X) → option_or o None ≡ o
or_none None = refl
or_none (Some x) = refl

module _ (es : List (ℕ × UserValue)) (g : ℕ × Vec MemberLine) (gathered : List (ℕ × Vec MemberLine)) (u : ℕ) where
  abbrev value : UserValue
  value = lines_user g.1.items

  abbrev rest : Option UserValue
  rest = option_map lines_user (lines_in gathered u)

  abbrev whole : Bool → Option UserValue
  whole b = option_map lines_user (option_map (λ (v : Vec MemberLine). v.items) (cond b (Some g.1) (lookup (is_at (nat_cmp u)) gathered)))

  one_joined : option_or (value_in (with_unit es g.0 g.1.items) u) rest ≡ held_in es (g ∷ gathered) u
  one_joined = elim (cases_eq u g.0) [
    | inl eq ↦ same eq (value_in es g.0) refl
    | inr ne ↦ other ne (is_some (value_in es g.0)) ∙ ap (λ b. option_or (value_in es u) (whole b)) (sym (at_other u g.0 ne))
  ] where
    same : u ≡ g.0 → (o : Option UserValue) → value_in es g.0 ≡ o → option_or (value_in (with_unit es g.0 g.1.items) u) rest ≡ held_in es (g ∷ gathered) u
    same eq (Some x) is =
        let here : value_in es u ≡ Some x = ap (value_in es) eq ∙ is in
        ap (λ o. option_or (value_in (cond (is_some o) es (insert_entry nat_cmp es g.0 value)) u) rest) is
        ∙ ap (λ o. option_or o rest) here
        ∙ sym (ap (λ o. option_or o (whole (is_at (nat_cmp u) g.0))) here)
    same eq None is =
        let here : value_in es u ≡ None = ap (value_in es) eq ∙ is in
        let found : value_in (insert_entry nat_cmp es g.0 value) u ≡ Some value = ap (value_in (insert_entry nat_cmp es g.0 value)) eq
        ∙ found_same es g.0 value in
        let at : is_at (nat_cmp u) g.0 ≡ true = ap (is_at (nat_cmp u)) (sym eq) ∙ at_same u in
        ap (λ o. option_or (value_in (cond (is_some o) es (insert_entry nat_cmp es g.0 value)) u) rest) is
        ∙ ap (λ o. option_or o rest) found
        ∙ sym (ap (λ o. option_or o (whole (is_at (nat_cmp u) g.0))) here ∙ ap whole at)

    other : u ≢ g.0 → (b : Bool) → option_or (value_in (cond b es (insert_entry nat_cmp es g.0 value)) u) rest ≡ held_in es gathered u
    other ne true = refl
    other ne false = ap (λ o. option_or o rest) (found_other es u g.0 value ne)

pub value_joined : (es : List (ℕ × UserValue)) (gathered : List (ℕ × Vec MemberLine)) (u : ℕ) → value_in (joined es gathered) u ≡ held_in es gathered u
value_joined es [] u = sym (or_none (value_in es u))
value_joined es (g ∷ gathered) u = value_joined (with_unit es g.0 g.1.items) gathered u ∙ one_joined es g gathered u

-- gathered assignments joined in an order are joined to the earlier ones
pub joined_push : (es : List (ℕ × UserValue)) (gathered : List (ℕ × Vec MemberLine)) (g : ℕ × Vec MemberLine)
    → joined es (gathered ++ g ∷ []) ≡ with_unit (joined es gathered) g.0 g.1.items
joined_push es [] g = refl
joined_push es (f ∷ gathered) g = joined_push (with_unit es f.0 f.1.items) gathered g

-- no unit is at or above a number that no value is at or above
pub below_of_none : (n : ℕ) (es : List (ℕ × UserValue)) → ((u : ℕ) → n ≤ u → value_in es u ≡ None) → AreBelow n es
below_of_none n [] none = tt
below_of_none n (e ∷ es) none = (first (split e.0 n), below_of_none n es rest) where
  first : (e.0 < n) ⊎ (n ≤ e.0) → e.0 < n
  first (inl less) = less
  first (inr more) = let found : value_in (e ∷ es) e.0 ≡ Some e.1 = ap (λ b. cond b (Some e.1) (value_in es e.0)) (at_same e.0) in
      let without = none e.0 more in cc

  rest : (u : ℕ) → n ≤ u → value_in es u ≡ None
  rest u more = go (is_at (nat_cmp u) e.0) (none u more) where
    go : (b : Bool) → cond b (Some e.1) (value_in es u) ≡ None → value_in es u ≡ None
    go true is = cc
    go false is = is

pub none_above : (n : ℕ) (es : List (ℕ × UserValue)) (u : ℕ) → AreBelow n es → n ≤ u → value_in es u ≡ None
none_above n [] u below more = refl
none_above n (e ∷ es) u below more =
    let ne : u ≢ e.0 = (let b = below.0 in omega arith) in
    ap (λ b. cond b (Some e.1) (value_in es u)) (at_other u e.0 ne) ∙ none_above n es u below.1 more

not_above : (k : ℕ) (es : List (ℕ × UserValue)) → AreAbove k es → value_in es k ≡ None
not_above k [] above = refl
not_above k (e ∷ es) above =
    let ne : k ≢ e.0 = (let b = above.0 in omega arith) in
    ap (λ b. cond b (Some e.1) (value_in es k)) (at_other k e.0 ne) ∙ not_above k es above.1

-- a unit's user value after changes that set units in ascending order
pub assigned_at : (es : List (ℕ × UserValue)) (base : List (Option UserValue)) (u : ℕ) → IsAscending es → u < length base
    → user_of (changed_users (changes_of es) base) u ≡ option_or (value_in es u) (user_of base u)
assigned_at [] base u rises inside = refl
assigned_at (e ∷ es) base u rises inside =
    let len = length-set base e.0 (Some e.1) in
    assigned_at es (slice_set base e.0 (Some e.1)) u rises.1 (omega arith) ∙ elim (cases_eq u e.0) [
      | inl eq ↦
          let without : value_in es u ≡ None = ap (value_in es) eq ∙ not_above e.0 es rises.0 in
          let at : is_at (nat_cmp u) e.0 ≡ true = ap (is_at (nat_cmp u)) (sym eq) ∙ at_same u in
          let here : user_of (slice_set base e.0 (Some e.1)) u ≡ Some e.1 = ap (λ k. user_of (slice_set base k (Some e.1)) u) (sym eq)
          ∙ get_or-set_same base u (Some e.1) None inside in
          ap (λ o. option_or o (user_of (slice_set base e.0 (Some e.1)) u)) without ∙ here
          ∙ sym (ap (λ b. option_or (cond b (Some e.1) (value_in es u)) (user_of base u)) at)
      | inr ne ↦
          ap (option_or (value_in es u)) (get_or-set_other base e.0 u (Some e.1) None ne)
          ∙ sym (ap (λ b. option_or (cond b (Some e.1) (value_in es u)) (user_of base u)) (at_other u e.0 ne))
    ]

-- two assignments of one length with the same user value of each unit are the same
pub same_users : (a b : List (Option UserValue)) → length a ≡ length b → ((u : ℕ) → u < length a → user_of a u ≡ user_of b u) → a ≡ b
same_users [] [] n h = refl
same_users [] (y ∷ b) n h = absurd (omega arith)
same_users (x ∷ a) [] n h = absurd (omega arith)
same_users (x ∷ a) (y ∷ b) n h =
    let first : x ≡ y = h 0 (omega arith) in
    let rest : a ≡ b = same_users a b (omega arith) (λ u inside. h (suc u) (omega arith)) in
    ap (λ z. z ∷ a) first ∙ ap (λ l. y ∷ l) rest
