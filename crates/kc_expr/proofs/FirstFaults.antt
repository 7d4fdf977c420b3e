-- The fault that is read is the first one.
use Rattle.kc_expr.proofs.Common.{◌≡◌, ℕ, ◌+◌, ◌≤◌, ◌⊎◌, inl, inr, true, false, List, [], ◌∷◌, ◌++◌, Result, Ok, Err, refl, ap, sym, ◌∙◌, subst, append_assoc, append-nil, arith, ExprKind, Malformed, TooDeep, Lexeme, Expr, ors, IsExpr, Read, is_operand_kind, read_factor, read_ors, read_to_end}
use Rattle.kc_expr.specs.Grammar.{read_expr}
use Rattle.kc_expr.specs.ExprFaults.{IsBeginning, IsFault, malformed, too_deep, HasNoFault, IsFirstExprFault, at_token, at_end}
use Rattle.kc_expr.proofs.Beginnings.{Begins, ArePrefixes, IsPrefix, whole_begins, front_begins, within_more}
use Rattle.kc_expr.proofs.GrammarComplete.{expr_complete, expr_read}
use Rattle.kc_expr.proofs.GrammarLaws.{expr_sound}
use Rattle.kc_expr.proofs.Outcomes.{Cause, ends, wrong, deep, Outcome, cause_begins}
use Rattle.kc_expr.proofs.FactorOutcomes.{expr_outcome}

-- a `!` or a `(` is no operand
prefix_no_operand : (t : Lexeme) → IsPrefix t → is_operand_kind t.kind ≡ true → ⊥
prefix_no_operand t (inl e) h = let q : is_operand_kind t.kind ≡ false = ap is_operand_kind e in cc
prefix_no_operand t (inr e) h = let q : is_operand_kind t.kind ≡ false = ap is_operand_kind e in cc

no_operand : (us vs deeper : List Lexeme) (t : Lexeme) → ArePrefixes deeper → is_operand_kind t.kind ≡ true → us ++ t ∷ vs ≡ deeper → ⊥
no_operand [] vs [] t p h e = cc
no_operand (u ∷ us) vs [] t p h e = cc
no_operand [] vs (w ∷ deeper) t p h e = let q : w ≡ t = cc in prefix_no_operand t (subst IsPrefix q p.0) h
no_operand (u ∷ us) vs (w ∷ deeper) t p h e = let q : us ++ t ∷ vs ≡ deeper = cc in no_operand us vs deeper t p.1 h q

-- an operand before a fault ends what begins an expression within the depth
within_depth : (us vs within deeper : List Lexeme) (t : Lexeme) → ArePrefixes deeper → is_operand_kind t.kind ≡ true
    → us ++ t ∷ vs ≡ within ++ deeper → (ws : List Lexeme) × (within ≡ (us ++ t ∷ []) ++ ws)
within_depth us vs [] deeper t p h e = absurd (no_operand us vs deeper t p h e)
within_depth [] vs (w ∷ within) deeper t p h e = let q : w ≡ t = cc in (within, ap (λ u. u ∷ within) q)
within_depth (u ∷ us) vs (w ∷ within) deeper t p h e =
    let q : us ++ t ∷ vs ≡ within ++ deeper = cc in
    let k : w ≡ u = cc in
    let (ws, f) = within_depth us vs within deeper t p h q in
    (ws, ap (λ v. v ∷ within) k ∙ ap (λ ts. u ∷ ts) f)

-- no token before a fault has one
no_fault_by : (us vs front within deeper : List Lexeme) (t : Lexeme) {k : ExprKind} (n : ℕ) → Begins ors n front → Begins ors 64 within
    → front ≡ within ++ deeper → ArePrefixes deeper → front ≡ us ++ t ∷ vs → IsFault us t k → ⊥
no_fault_by us vs front within deeper t n b w s p e (malformed none) =
    none n (front_begins ors n (us ++ t ∷ []) vs (subst (Begins ors n) (e ∙ sym (append_assoc us (t ∷ []) vs)) b))
no_fault_by us vs front within deeper t n b w s p e (too_deep m o x none) =
    let (ws, f) = within_depth us vs within deeper t p o (sym e ∙ s) in
    none (front_begins ors 64 (us ++ t ∷ []) ws (subst (Begins ors 64) f w))

no_fault : (front within deeper : List Lexeme) (n : ℕ) → Begins ors n front → Begins ors 64 within → front ≡ within ++ deeper → ArePrefixes deeper
    → HasNoFault front
no_fault front within deeper n b w s p us vs t k e x = no_fault_by us vs front within deeper t n b w s p e x

-- a fault at each depth, or at one
none_begin : (front : List Lexeme) (t : Lexeme) (n : ℕ)
    → ((vs : List Lexeme) (e : Expr) → read_ors (read_factor n) (front ++ t ∷ vs) ≡ Ok (e, []) → ⊥) → IsBeginning n (front ++ t ∷ []) → ⊥
none_begin front t n never (vs, e, x) = never vs e (expr_read n (front ++ t ∷ vs) e (subst (λ ts. IsExpr ors n ts e) (append_assoc front (t ∷ []) vs) x))

more_begin : (m n : ℕ) (ts : List Lexeme) → m ≤ n → IsBeginning m ts → IsBeginning n ts
more_begin m n ts h (us, e, x) = (us, e, within_more x n h)

err_no_ok : (q : Read) (f : ExprKind × List Lexeme) (r : Expr × List Lexeme) → q ≡ Err f → q ≡ Ok r → ⊥
err_no_ok q f r h k = cc

wrong_fault : (front : List Lexeme) (t : Lexeme)
    → ((n : ℕ) → 64 ≤ n → (vs : List Lexeme) (e : Expr) → read_ors (read_factor n) (front ++ t ∷ vs) ≡ Ok (e, []) → ⊥) → IsFault front t Malformed
wrong_fault front t never = malformed (λ d b.
    none_begin front t (64 + d) (never (64 + d) (omega arith)) (more_begin d (64 + d) (front ++ t ∷ []) (omega arith) b))

first_of : (ts front : List Lexeme) {k : ExprKind} {us : List Lexeme} → ((e : Expr) → IsExpr ors 64 ts e → ⊥) → ts ≡ front ++ us → HasNoFault front
    → Cause ors 64 front k us → IsFirstExprFault ts (k, us)
first_of ts front none is clear (ends n h b) = at_end (subst HasNoFault (sym (is ∙ append-nil front)) clear) none
first_of ts front none is clear (wrong {t = t} n h b again) =
    at_token front t is clear (wrong_fault front t (λ n h vs e q.
    err_no_ok (read_ors (read_factor n) (front ++ t ∷ vs)) (Malformed, t ∷ vs) (e, []) (again n h vs) q))
first_of ts front none is clear (deep {t = t} n h b o again) =
    at_token front t is clear (too_deep n o b (none_begin front t 64 (λ vs e q.
    err_no_ok (read_ors (read_factor 64) (front ++ t ∷ vs)) (TooDeep, t ∷ vs) (e, []) (again vs) q)))

abbrev rest_of : Read → List Lexeme
rest_of (Ok r) = r.1
rest_of (Err f) = []

other_rest : (q : Read) (e x : Expr) (t : Lexeme) (ts : List Lexeme) → q ≡ Ok (e, t ∷ ts) → q ≡ Ok (x, []) → ⊥
other_rest q e x t ts h k = let z : t ∷ ts ≡ [] = ap rest_of (sym h ∙ k) in cc

first_by : (ts : List Lexeme) (q : Read) (f : ExprKind × List Lexeme) → ((e : Expr) → IsExpr ors 64 ts e → ⊥) → Outcome ors 64 ts q
    → read_to_end q ≡ Err f → IsFirstExprFault ts f
first_by ts (Err g) f none y h =
    let q : g ≡ f = cc in
    let (n, l, b) = cause_begins ors 64 y.front y.cause in
    subst (IsFirstExprFault ts) q (first_of ts y.front none y.is (no_fault y.front y.within y.deeper n b y.begins y.splits y.prefixes) y.cause)
first_by ts (Ok (e, [])) f none y h = cc
first_by ts (Ok (e, t ∷ us)) f none y h =
    let q : (Malformed, t ∷ us) ≡ f = cc in
    let b = whole_begins ors 64 y.front e y.whole in
    subst (IsFirstExprFault ts) q (at_token y.front t y.is (no_fault y.front y.front [] 64 b b (sym (append-nil y.front)) tt)
    (wrong_fault y.front t (λ n h vs x q. other_rest (read_ors (read_factor n) (y.front ++ t ∷ vs)) e x t vs (y.again n h (t ∷ vs) refl) q)))

-- the fault that reading tokens as an expression gives is their first one
pub first_fault : (ts : List Lexeme) (f : ExprKind × List Lexeme) → read_expr ts ≡ Err f → IsFirstExprFault ts f
unfolding read_expr
first_fault ts f h = first_by ts (read_ors (read_factor 64) ts) f (λ e x. let q = expr_complete ts e x in cc) (expr_outcome 64 ts) h

-- of two places in a list one comes first, or they are one
abbrev Places : (ls rs : List Lexeme) (t u : Lexeme) (xs ys : List Lexeme) → Type 0
Places ls rs t u xs ys = ((cs : List Lexeme) × (rs ≡ ls ++ t ∷ cs)) ⊎ (((cs : List Lexeme) × (ls ≡ rs ++ u ∷ cs)) ⊎ ((ls ≡ rs) × (t ≡ u) × (xs ≡ ys)))

places_on : (a b : Lexeme) (ls rs : List Lexeme) (t u : Lexeme) (xs ys : List Lexeme) → a ≡ b → Places ls rs t u xs ys → Places (a ∷ ls) (b ∷ rs) t u xs ys
places_on a b ls rs t u xs ys e (inl (cs, q)) = inl (cs, ap (λ c. c ∷ rs) (sym e) ∙ ap (λ cs. a ∷ cs) q)
places_on a b ls rs t u xs ys e (inr (inl (cs, q))) = inr (inl (cs, ap (λ c. c ∷ ls) e ∙ ap (λ cs. b ∷ cs) q))
places_on a b ls rs t u xs ys e (inr (inr (q, same, rest))) = inr (inr (ap (λ c. c ∷ ls) e ∙ ap (λ cs. b ∷ cs) q, same, rest))

places : (ls rs : List Lexeme) (t u : Lexeme) (xs ys : List Lexeme) → ls ++ t ∷ xs ≡ rs ++ u ∷ ys → Places ls rs t u xs ys
places [] [] t u xs ys e = let q : t ≡ u = cc in let r : xs ≡ ys = cc in inr (inr (refl, q, r))
places [] (b ∷ rs) t u xs ys e = let q : b ≡ t = cc in inl (rs, ap (λ c. c ∷ rs) q)
places (a ∷ ls) [] t u xs ys e = let q : a ≡ u = cc in inr (inl (ls, ap (λ c. c ∷ ls) q))
places (a ∷ ls) (b ∷ rs) t u xs ys e =
    let q : a ≡ b = cc in
    let r : ls ++ t ∷ xs ≡ rs ++ u ∷ ys = cc in
    places_on a b ls rs t u xs ys q (places ls rs t u xs ys r)

-- a token has one fault after others
one_kind : (ts : List Lexeme) (t : Lexeme) {j k : ExprKind} → IsFault ts t j → IsFault ts t k → j ≡ k
one_kind ts t (malformed a) (malformed b) = refl
one_kind ts t (malformed a) (too_deep d o x none) = absurd (a d x)
one_kind ts t (too_deep d o x none) (malformed a) = absurd (a d x)
one_kind ts t (too_deep d o x none) (too_deep c p y never) = refl

by_places : (ls rs xs ys : List Lexeme) (t u : Lexeme) (j k : ExprKind) → HasNoFault ls → IsFault ls t j → HasNoFault rs → IsFault rs u k
    → Places ls rs t u xs ys → ◌≡◌ {A = ExprKind × List Lexeme} (j, t ∷ xs) (k, u ∷ ys)
by_places ls rs xs ys t u j k clear x none y (inl (cs, q)) = absurd (none ls cs t j q x)
by_places ls rs xs ys t u j k clear x none y (inr (inl (cs, q))) = absurd (clear rs cs u k q y)
by_places ls rs xs ys t u j k clear x none y (inr (inr (q, same, rest))) =
    let z : IsFault rs u j = subst (λ (v : Lexeme). IsFault rs v j) same (subst (λ cs. IsFault cs t j) q x) in
    let kinds = one_kind rs u z y in cc

-- there is one first fault
one_first : (ts : List Lexeme) {f g : ExprKind × List Lexeme} → IsFirstExprFault ts f → IsFirstExprFault ts g → f ≡ g
one_first ts (at_token {us = xs} {kind = j} ls t e clear x) (at_token {us = ys} {kind = k} rs u h none y) =
    by_places ls rs xs ys t u j k clear x none y (places ls rs t u xs ys (sym e ∙ h))
one_first ts (at_token {us = xs} {kind = j} ls t e clear x) (at_end none away) = absurd (none ls xs t j e x)
one_first ts (at_end clear away) (at_token {us = ys} {kind = k} rs u h none y) = absurd (clear rs ys u k h y)
one_first ts (at_end clear away) (at_end none off) = refl

-- an expression has no fault
no_fault_begins : (front us : List Lexeme) (t : Lexeme) {k : ExprKind} → IsFault front t k → IsBeginning 64 (front ++ t ∷ us) → ⊥
no_fault_begins front us t (malformed none) b =
    none 64 (front_begins ors 64 (front ++ t ∷ []) us (subst (Begins ors 64) (sym (append_assoc front (t ∷ []) us)) b))
no_fault_begins front us t (too_deep d o x none) b =
    none (front_begins ors 64 (front ++ t ∷ []) us (subst (Begins ors 64) (sym (append_assoc front (t ∷ []) us)) b))

no_first : (ts : List Lexeme) (e : Expr) {f : ExprKind × List Lexeme} → IsExpr ors 64 ts e → IsFirstExprFault ts f → ⊥
no_first ts e x (at_token {us = us} front t is clear y) = no_fault_begins front us t y (subst (Begins ors 64) is (whole_begins ors 64 ts e x))
no_first ts e x (at_end clear none) = none e x

-- the first fault of tokens as an expression is the one that reading them gives
pub fault_read : (ts : List Lexeme) (f : ExprKind × List Lexeme) → IsFirstExprFault ts f → read_expr ts ≡ Err f
fault_read ts f x = by_result (read_expr ts) refl
  where
    by_result : (r : Result Expr (ExprKind × List Lexeme)) → read_expr ts ≡ r → read_expr ts ≡ Err f
    by_result (Ok e) h = absurd (no_first ts e (expr_sound ts e h) x)
    by_result (Err g) h = h ∙ ap Err (one_first ts (first_fault ts g h) x)
