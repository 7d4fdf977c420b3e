-- The tokens of an expression end only at its end: no operand or `)` in it is directly before an operand.
use Rattle.kc_tree_model.proofs.Common.{◌≡◌, ℕ, Bool, true, false, cond, ◌&&◌, ◌||◌, List, [], ◌∷◌, ◌++◌, length, drop, Some, refl, ap, sym, ◌∙◌, subst, TokenKind, Word, Quoted, Relation, Not, And, Or, Open, Close, Lexeme, Expr, Operand, Level, IsExpr, one_and, more_ors, one_factor, more_ands}
use Rattle.kc_tree_model.proofs.Common.{operand, relation, negation, parentheses, operand_of_kind, operand_of_lexeme, is_operand_kind, is_close, extent}

-- whether an expression ends between two tokens: an operand or a `)` comes before an operand
abbrev pub is_seam : TokenKind → TokenKind → Bool
is_seam t u = (is_operand_kind t || is_close t) && is_operand_kind u

-- these tokens are not empty, no expression ends between two of them, and the last is an operand or a `)`
abbrev pub IsTight : List Lexeme → Type 0
IsTight [] = ⊥
IsTight (t ∷ []) = (is_operand_kind t.kind || is_close t.kind) ≡ true
IsTight (t ∷ u ∷ ts) = (is_seam t.kind u.kind ≡ false) × IsTight (u ∷ ts)

-- a token that is no operand and no parenthesis
abbrev IsJoint : TokenKind → Type 0
IsJoint kind = (is_operand_kind kind ≡ false) × (is_close kind ≡ false)

no_seam_before : (t u : TokenKind) → is_operand_kind u ≡ false → is_seam t u ≡ false
no_seam_before t u e = ap (λ b. (is_operand_kind t || is_close t) && b) e ∙ and_false (is_operand_kind t || is_close t)
  where
    and_false : (b : Bool) → (b && false) ≡ false
    and_false true = refl
    and_false false = refl

no_seam_after : (t u : TokenKind) → is_operand_kind t ≡ false → is_close t ≡ false → is_seam t u ≡ false
no_seam_after t u e f = ap (λ b. (b || is_close t) && is_operand_kind u) e ∙ ap (λ b. b && is_operand_kind u) f

tight_cons : (t : Lexeme) (ts : List Lexeme) → is_operand_kind t.kind ≡ false → is_close t.kind ≡ false → IsTight ts → IsTight (t ∷ ts)
tight_cons t [] e f h = absurd h
tight_cons t (u ∷ ts) e f h = (no_seam_after t.kind u.kind e f, h)

tight_join : (ts : List Lexeme) (o : Lexeme) (us : List Lexeme) → is_operand_kind o.kind ≡ false → is_close o.kind ≡ false → IsTight ts → IsTight us
    → IsTight (ts ++ o ∷ us)
tight_join [] o us e f h k = absurd h
tight_join (t ∷ []) o us e f h k = (no_seam_before t.kind o.kind e, tight_cons o us e f k)
tight_join (t ∷ u ∷ ts) o us e f h k = (h.0, tight_join (u ∷ ts) o us e f h.1 k)

tight_close : (ts : List Lexeme) (c : Lexeme) → c.kind ≡ Close → IsTight ts → IsTight (ts ++ c ∷ [])
tight_close [] c e h = absurd h
tight_close (t ∷ []) c e h = (no_seam_before t.kind c.kind (ap is_operand_kind e), ap (λ k. is_operand_kind k || is_close k) e)
tight_close (t ∷ u ∷ ts) c e h = (h.0, tight_close (u ∷ ts) c e h.1)

operand_by : (kind : TokenKind) (text : List ℕ) (a : Operand) → operand_of_kind kind text ≡ Some a → is_operand_kind kind ≡ true
operand_by Word text a e = refl
operand_by Quoted text a e = refl
operand_by kind text a e = cc

is_operand : (t : Lexeme) (a : Operand) → operand_of_lexeme t ≡ Some a → is_operand_kind t.kind ≡ true
is_operand t a e = operand_by t.kind t.text a e

kind_joint : (k : TokenKind) (t : Lexeme) → t.kind ≡ k → IsJoint k → IsJoint t.kind
kind_joint k t e j = subst IsJoint (sym e) j

pub expr_tight : {l : Level} {d : ℕ} {ts : List Lexeme} {e : Expr} → IsExpr l d ts e → IsTight ts
expr_tight (one_and h) = expr_tight h
expr_tight (more_ors {ts = ts} {us = us} o h k j same) =
    let x = kind_joint Or o k (refl, refl) in
    subst IsTight (sym same) (tight_join ts o us x.0 x.1 (expr_tight h) (expr_tight j))
expr_tight (one_factor h) = expr_tight h
expr_tight (more_ands {ts = ts} {us = us} o h k j same) =
    let x = kind_joint And o k (refl, refl) in
    subst IsTight (sym same) (tight_join ts o us x.0 x.1 (expr_tight h) (expr_tight j))
expr_tight (operand t e same) = subst IsTight (sym same) (ap (λ b. b || is_close t.kind) (is_operand t _ e))
expr_tight (relation t r u op e k f same) =
    let x = kind_joint (Relation op) r k (refl, refl) in
    subst IsTight (sym same) (no_seam_before t.kind r.kind x.0, (no_seam_after r.kind u.kind x.0 x.1, ap (λ b. b || is_close u.kind) (is_operand u _ f)))
expr_tight (negation {ts = ts} t k h same) =
    let x = kind_joint Not t k (refl, refl) in
    subst IsTight (sym same) (tight_cons t ts x.0 x.1 (expr_tight h))
expr_tight (parentheses {ts = ts} o c k h f same) =
    let x = kind_joint Open o k (refl, refl) in
    subst IsTight (sym same) (tight_cons o (ts ++ c ∷ []) x.0 x.1 (tight_close ts c f (expr_tight h)))

-- these tokens end an expression before them: they are none or begin with an operand
abbrev pub EndsExpr : List Lexeme → Type 0
EndsExpr [] = Unit {0}
EndsExpr (t ∷ ts) = is_operand_kind t.kind ≡ true

pub extent_tight : (front rest : List Lexeme) → IsTight front → EndsExpr rest → extent (front ++ rest) ≡ front
extent_tight [] rest h e = absurd h
extent_tight (t ∷ []) [] h e = refl
extent_tight (t ∷ []) (u ∷ us) h e = ap (λ b. cond b (t ∷ []) (t ∷ extent (u ∷ us))) (ap (λ b. b && is_operand_kind u.kind) h ∙ e)
extent_tight (t ∷ u ∷ ts) rest h e =
    ap (λ b. cond b (t ∷ []) (t ∷ extent (u ∷ (ts ++ rest)))) h.0 ∙ ap (λ us. t ∷ us) (extent_tight (u ∷ ts) rest h.1 e)

-- the tokens are those of the expression at the front, and the others
front_by : (b : Bool) (t : Lexeme) (ts : List Lexeme) → ts ≡ extent ts ++ drop (length (extent ts)) ts
    → t ∷ ts ≡ cond b (t ∷ []) (t ∷ extent ts) ++ drop (length (cond b (t ∷ []) (t ∷ extent ts))) (t ∷ ts)
front_by true t ts h = refl
front_by false t ts h = ap (λ us. t ∷ us) h

pub extent_front : (ts : List Lexeme) → ts ≡ extent ts ++ drop (length (extent ts)) ts
extent_front [] = refl
extent_front (t ∷ []) = refl
extent_front (t ∷ u ∷ ts) = front_by (is_seam t.kind u.kind) t (u ∷ ts) (extent_front (u ∷ ts))

pub drop_front : (front rest : List Lexeme) → drop (length front) (front ++ rest) ≡ rest
drop_front [] rest = refl
drop_front (t ∷ ts) rest = drop_front ts rest
