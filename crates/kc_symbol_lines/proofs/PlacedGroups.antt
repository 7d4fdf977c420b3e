-- The groups that were read, by their numbers.
use Rattle.kc_symbol_lines.proofs.Common.{◌≡◌, inl, inr, ℕ, zero, suc, ◌<◌, List, [], ◌∷◌, length, drop, ap, sym, subst, ◌∙◌, arith, Exprs, Group, side_of, opening, closing, inside, open_blocks, GroupInContext, group_in_context, groups_in_context, names_defined, Has, get_below, read_before}
use Rattle.kc_symbol_lines.proofs.Common.{shown_at, count_is, HasLines, TreeLines, Some}
use Rattle.kc_tree_model.specs.Blocks.{Side}
use Rattle.kc_tree_model.proofs.Consistency.Lists.{at-has}
use Rattle.kc_checks.proofs.GroupPlaces.{IsNumbered, numbered, numbered_at, placed_count, place_numbered}

module _ (e : Exprs) (lines : TreeLines) (read : List Group) (h : HasLines e lines read) where
  pub many_groups : length lines.groups.items ≡ length read
  many_groups = count_is e (names_defined read) h.texts lines.lines.items lines.groups.items read h.groups_are

  -- the group of the listing with its number represents it
  abbrev pub IsShown : Group → Type 0
  IsShown g = IsNumbered e (names_defined read) h.texts lines.lines.items lines.groups.items read g

  pub shown_of : (g : Group) → Has g read → IsShown g
  shown_of = numbered e (names_defined read) h.texts lines.lines.items lines.groups.items read h.groups_are

  some_is : (p q : GroupInContext) (o : _) → o ≡ Some p → o ≡ Some q → p ≡ q
  some_is p q o a b = cc

  -- a group in its context is that with its number, in the blocks that are open at it
  pub placed : (p : GroupInContext) → Has p (groups_in_context read)
      → IsShown p.group × (p.opened ≡ open_blocks 0 (read_before p.group.number read)) × (p.group.number < length read)
  placed p k =
      let c = many_groups in
      let n = placed_count read in
      let a = at-has p (groups_in_context read) k in
      let below : a.0 < length read = (let l = get_below (groups_in_context read) a.0 p a.1 in omega (arith, l, n)) in
      let s = shown_at e (names_defined read) h.texts lines.lines.items lines.groups.items read h.groups_are a.0 (omega (arith, below, c)) in
      let same : group_in_context (open_blocks 0 (read_before a.0 read)) s.group ≡ p = some_is _ p _ (place_numbered read a.0 s.group below s.now) a.1 in
      let r = numbered_at e (names_defined read) h.texts lines.lines.items lines.groups.items read h.groups_are a.0 s.group below s.now in
      let group : s.group ≡ p.group = ap (λ (q : GroupInContext). q.group) same in
      let number : p.group.number ≡ a.0 = sym (ap (λ (g : Group). g.number) group) ∙ r.0 in (
        subst IsShown group r.1,
        sym (ap (λ (q : GroupInContext). q.opened) same) ∙ ap (λ k. open_blocks 0 (read_before k read)) (sym number),
        omega (arith, number, below),
      )

-- open blocks were read
module _ (g : Group) where
  opened_by : (s : Side) (n : ℕ) (m : Group) (before : List Group) → ((k : ℕ) → Has g (open_blocks k before) → Has g before)
      → Has g (elim s as (λ _. List Group) [
        | opening ↦ elim n as (λ _. List Group) [ zero ↦ m ∷ open_blocks 0 before | suc k ↦ open_blocks k before ]
        | closing ↦ open_blocks (suc n) before
        | inside ↦ open_blocks n before
      ])
      → Has g (m ∷ before)
  opened_by opening zero m before ih (inl e) = inl e
  opened_by opening zero m before ih (inr h) = inr (ih 0 h)
  opened_by opening (suc k) m before ih h = inr (ih k h)
  opened_by closing n m before ih h = inr (ih (suc n) h)
  opened_by inside n m before ih h = inr (ih n h)

  pub opened_read : (n : ℕ) (read : List Group) → Has g (open_blocks n read) → Has g read
  opened_read n [] h = absurd h
  opened_read n (m ∷ before) h = opened_by (side_of m.head) n m before (λ k. opened_read k before) h

pub dropped_read : (g : Group) (k : ℕ) (read : List Group) → Has g (drop k read) → Has g read
dropped_read g zero read h = h
dropped_read g (suc k) [] h = absurd h
dropped_read g (suc k) (m ∷ read) h = inr (dropped_read g k read h)
