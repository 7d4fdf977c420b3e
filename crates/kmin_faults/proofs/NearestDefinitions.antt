-- The definition whose line is nearest to a place, statement by statement.
use Rattle.std.proofs.Common.{get_or}
use Rattle.kmin_faults.proofs.Common.{◌≡◌, inl, inr, ℕ, ◌+◌, ◌<◌, ◌≤◌, Bool, true, false, cond, ◌&&◌, ◌==◌, List, [], ◌∷◌, Option, Some, take, length, reverse, refl, ap, sym, subst, ◌∙◌, arith, find, nat_le, option_and_then, cases_Bool, eq-eqb, ne_eqb, false≢true, reverse-append, later, TextPlace}
use Rattle.kmin_faults.proofs.Common.{begins_before, defined_by, definition_at, last_line}
use Rattle.std.proofs.lemmas.Bool.{leb-false}
use Rattle.std.proofs.lemmas.List.{take_all, take_more}
use Rattle.kc_parser.specs.declared.listing.Group.{Group}

-- of these statements, the newest first, the definition of this symbol is nearest to a place, at this line
pub record HasNearest (newest : List Group) (at : TextPlace) (found : Option ℕ) (nearest : ℕ) : Type 0 where
  pub line_is : nearest ≡ last_line at newest
  pub found_is : found ≡ definition_at at newest

both : (a b : Bool) → (a && b) ≡ true → (a ≡ true) × (b ≡ true)
both true b h = (refl, h)
both false b h = absurd (false≢true h)

module _ (newest : List Group) (at : TextPlace) (g : Group) where
  -- the symbol of the first that passes, where a line is the last
  abbrev among : (line : ℕ) (gs : List Group) → Option ℕ
  among line gs = option_and_then (λ (h : Group). defined_by h.head) (find (λ h. begins_before at h && (h.line == line)) gs)

  -- a definition at this line or after it is nearer
  line_taken : begins_before at g ≡ true → nat_le (last_line at newest) g.line ≡ true → last_line at (g ∷ newest) ≡ g.line
  line_taken begins above =
      ap (λ b. cond b (later g.line (last_line at newest)) (last_line at newest)) begins ∙ ap (λ b. cond b g.line (last_line at newest)) above

  taken : begins_before at g ≡ true → nat_le (last_line at newest) g.line ≡ true → definition_at at (g ∷ newest) ≡ defined_by g.head
  taken begins above =
      ap (λ n. among n (g ∷ newest)) (line_taken begins above)
      ∙ ap (λ b. option_and_then (λ (h : Group). defined_by h.head) (cond b (Some g) (find (λ h. begins_before at h && (h.line == g.line)) newest)))
      (ap (λ b. b && (g.line == g.line)) begins ∙ eq-eqb g.line g.line refl)

  -- another statement changes nothing
  line_kept : (begins_before at g && nat_le (last_line at newest) g.line) ≡ false → last_line at (g ∷ newest) ≡ last_line at newest
  line_kept test = elim (cases_Bool (begins_before at g)) [
    | inl begins ↦ ap (λ b. cond b (later g.line (last_line at newest)) (last_line at newest)) begins
        ∙ ap (λ b. cond b g.line (last_line at newest)) (sym (ap (λ b. b && nat_le (last_line at newest) g.line) begins) ∙ test)
    | inr not ↦ ap (λ b. cond b (later g.line (last_line at newest)) (last_line at newest)) not
  ]

  passed : (begins_before at g && nat_le (last_line at newest) g.line) ≡ false → (begins_before at g && (g.line == last_line at newest)) ≡ false
  passed test = elim (cases_Bool (begins_before at g)) [
    | inl begins ↦ ap (λ b. b && (g.line == last_line at newest)) begins
        ∙ ne_eqb g.line (last_line at newest) (λ same.
        (let far = leb-false (last_line at newest) g.line (sym (ap (λ b. b && nat_le (last_line at newest) g.line) begins) ∙ test) in omega (arith, far, same)))
    | inr not ↦ ap (λ b. b && (g.line == last_line at newest)) not
  ]

  kept : (begins_before at g && nat_le (last_line at newest) g.line) ≡ false → definition_at at (g ∷ newest) ≡ definition_at at newest
  kept test =
      ap (λ n. among n (g ∷ newest)) (line_kept test)
      ∙ ap (λ b. option_and_then (λ (h : Group). defined_by h.head) (cond b (Some g) (find (λ h. begins_before at h && (h.line == last_line at newest)) newest)))
      (passed test)

-- the first i + 1 statements, the newest first
one_newer : (groups : List Group) (i : ℕ) (d : Group) → i < length groups → reverse (take (i + 1) groups) ≡ get_or groups i d ∷ reverse (take i groups)
one_newer groups i d h = ap reverse (take_more groups i d h) ∙ reverse-append (take i groups) (get_or groups i d ∷ [])

pub nearer_next : (groups : List Group) (at : TextPlace) (i : ℕ) (d : Group) (found : Option ℕ) (nearest : ℕ) (found_next : Option ℕ) (nearest_next : ℕ)
    → i < length groups → HasNearest (reverse (take i groups)) at found nearest
    → (begins_before at (get_or groups i d) && nat_le nearest (get_or groups i d).line) ≡ true → found_next ≡ defined_by (get_or groups i d).head
    → nearest_next ≡ (get_or groups i d).line → HasNearest (reverse (take (i + 1) groups)) at found_next nearest_next
nearer_next groups at i d found nearest found_next nearest_next h before test f n =
    let g : Group = get_or groups i d in
    let newest = reverse (take i groups) in
    let parts = both (begins_before at g) (nat_le nearest g.line) test in
    let above : nat_le (last_line at newest) g.line ≡ true = ap (λ l. nat_le l g.line) (sym before.line_is) ∙ parts.1 in
    subst (λ gs. HasNearest gs at found_next nearest_next) (sym (one_newer groups i d h))
    (record { line_is = n ∙ sym (line_taken newest at g parts.0 above); found_is = f ∙ sym (taken newest at g parts.0 above) })

pub further_next : (groups : List Group) (at : TextPlace) (i : ℕ) (d : Group) (found : Option ℕ) (nearest : ℕ) (found_next : Option ℕ) (nearest_next : ℕ)
    → i < length groups → HasNearest (reverse (take i groups)) at found nearest
    → (begins_before at (get_or groups i d) && nat_le nearest (get_or groups i d).line) ≡ false → found_next ≡ found → nearest_next ≡ nearest
    → HasNearest (reverse (take (i + 1) groups)) at found_next nearest_next
further_next groups at i d found nearest found_next nearest_next h before test f n =
    let g : Group = get_or groups i d in
    let newest = reverse (take i groups) in
    let far : (begins_before at g && nat_le (last_line at newest) g.line) ≡ false =
    ap (λ l. begins_before at g && nat_le l g.line) (sym before.line_is) ∙ test in
    subst (λ gs. HasNearest gs at found_next nearest_next) (sym (one_newer groups i d h))
    (record { line_is = n ∙ before.line_is ∙ sym (line_kept newest at g far); found_is = f ∙ before.found_is ∙ sym (kept newest at g far) })

-- after all statements
pub after_all : (groups : List Group) (at : TextPlace) (i : ℕ) (found : Option ℕ) (nearest : ℕ) → length groups ≤ i
    → HasNearest (reverse (take i groups)) at found nearest → found ≡ definition_at at (reverse groups)
after_all groups at i found nearest h all = all.found_is ∙ ap (λ gs. definition_at at (reverse gs)) (take_all i groups h)
