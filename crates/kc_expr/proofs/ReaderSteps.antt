-- Steps of reading an expression.
use Rattle.std.proofs.Common.{drop-drop}
use Rattle.kc_expr.proofs.Common.{◌≡◌, ℕ, suc, zero, ◌+◌, ◌<◌, ◌≤◌, ◌⊎◌, inl, inr, Bool, true, false, List, [], ◌∷◌, length, drop, Some, None, Ok, Err, refl, ap, sym, ◌∙◌, arith, ExprKind, Malformed, TooDeep, Relop, TokenKind, Word, Quoted, Relation, Not, And, Or, Open, Close, Expr, Operand, alone}
use Rattle.kc_expr.proofs.Common.{related, negated, Read, on_read, past_depth_limit, chain, is_and, is_or, is_close, closed, after_operand, right_operand, operand_of_kind, read_factor, read_to_end, first_kind, first_operand, first_relation, relation_of, Lexeme, as_condition}
use Rattle.kc_expr.specs.Grammar.{read_expr}
use Rattle.kc_expr.specs.declared.node.Connective.{Connective}
use Rattle.kc_expr.specs.declared.node.Connective.TheVariants.{And as Ands, Or as Ors}
use Rattle.kc_expr.specs.checker.Nodes.{joined}
use Rattle.kc_expr.specs.checker.ParserResults.{operand_else, operand_read, factor_read, connective_kind, part_read, joined_read, read_all_tokens}
use Rattle.kc_expr.proofs.GrammarLaws.{beyond_kind, after_operand_kind, zero_kind, suc_kind}
use Rattle.kc_expr.proofs.GrammarComplete.{Stops, chain_same, chain_stops, factor_short, ands_short}

pub drop_one : {X : Type 0} (at : ℕ) (xs : List X) → drop (at + 1) xs ≡ drop 1 (drop at xs)
drop_one at xs = sym (drop-drop 1 at xs)

-- past the greatest depth
module _ (us : List Lexeme) where
  pub beyond_next : (first_kind us ≡ Some Not) ⊎ (first_kind us ≡ Some Open) → past_depth_limit us ≡ past_depth_limit (drop 1 us)
  beyond_next h = beyond_next_at us h
    where
      beyond_next_at : (us : List Lexeme) → (first_kind us ≡ Some Not) ⊎ (first_kind us ≡ Some Open) → past_depth_limit us ≡ past_depth_limit (drop 1 us)
      beyond_next_at [] (inl e) = cc
      beyond_next_at [] (inr e) = cc
      beyond_next_at (t ∷ ts) (inl e) = let k : t.kind ≡ Not = cc in ap (λ k. beyond_kind k t ts) k
      beyond_next_at (t ∷ ts) (inr e) = let k : t.kind ≡ Open = cc in ap (λ k. beyond_kind k t ts) k

pub beyond_symbol : (us : List Lexeme) → (first_kind us ≡ Some Word) ⊎ (first_kind us ≡ Some Quoted) → past_depth_limit us ≡ Err (TooDeep, us)
beyond_symbol [] (inl e) = cc
beyond_symbol [] (inr e) = cc
beyond_symbol (t ∷ ts) (inl e) = let k : t.kind ≡ Word = cc in ap (λ k. beyond_kind k t ts) k
beyond_symbol (t ∷ ts) (inr e) = let k : t.kind ≡ Quoted = cc in ap (λ k. beyond_kind k t ts) k

beyond_by : (k : TokenKind) (t : Lexeme) (ts : List Lexeme) → t.kind ≡ k → ((Some k ≡ Some Not) ⊎ (Some k ≡ Some Open) → ⊥)
    → ((Some k ≡ Some Word) ⊎ (Some k ≡ Some Quoted) → ⊥) → past_depth_limit (t ∷ ts) ≡ Err (Malformed, t ∷ ts)
beyond_by Not t ts e n s = absurd (n (inl refl))
beyond_by Open t ts e n s = absurd (n (inr refl))
beyond_by Word t ts e n s = absurd (s (inl refl))
beyond_by Quoted t ts e n s = absurd (s (inr refl))
beyond_by _ t ts e n s = ap (λ k. beyond_kind k t ts) e

pub beyond_other : (us : List Lexeme) → ((first_kind us ≡ Some Not) ⊎ (first_kind us ≡ Some Open) → ⊥)
    → ((first_kind us ≡ Some Word) ⊎ (first_kind us ≡ Some Quoted) → ⊥) → past_depth_limit us ≡ Err (Malformed, us)
beyond_other [] n s = refl
beyond_other (t ∷ ts) n s = beyond_by t.kind t ts refl n s

-- where the first token is no operand, reading an operand gives Malformed at it
pub operand_none : (us : List Lexeme) → first_operand us ≡ None → operand_read us ≡ Err (Malformed, us)
unfolding operand_read
operand_none [] h = refl
operand_none (t ∷ ts) h = ap (λ o. operand_else o t ts) h

after_operand_by : (k : TokenKind) (a : Operand) (t : Lexeme) (ts : List Lexeme) → t.kind ≡ k → relation_of k ≡ None
    → after_operand a (t ∷ ts) ≡ Ok (alone a, t ∷ ts)
after_operand_by (Relation op) a t ts e h = cc
after_operand_by _ a t ts e h = ap (λ k. after_operand_kind a k t ts) e

no_relation_after : (a : Operand) (ts : List Lexeme) → first_relation ts ≡ None → after_operand a ts ≡ Ok (alone a, ts)
no_relation_after a [] h = refl
no_relation_after a (t ∷ ts) h = after_operand_by t.kind a t ts refl h

pub operand_alone : (us : List Lexeme) (a : Operand) → first_operand us ≡ Some a → first_relation (drop 1 us) ≡ None → operand_read us ≡ Ok (alone a, drop 1 us)
unfolding operand_read
operand_alone [] a h r = cc
operand_alone (t ∷ ts) a h r = ap (λ o. operand_else o t ts) h ∙ no_relation_after a ts r

relation_kind : (k : TokenKind) (op : Relop) → relation_of k ≡ Some op → k ≡ Relation op
relation_kind (Relation op) o h = ap Relation (let q : op ≡ o = cc in q)
relation_kind _ op h = cc

after_relation : (a : Operand) (op : Relop) (ts : List Lexeme) → first_relation ts ≡ Some op → after_operand a ts ≡ right_operand (related op a) (drop 1 ts)
after_relation a op [] h = cc
after_relation a op (t ∷ ts) h = let k = relation_kind t.kind op h in ap (λ k. after_operand_kind a k t ts) k

right_none : (f : Operand → Expr) (ts : List Lexeme) → first_operand ts ≡ None → right_operand f ts ≡ Err (Malformed, ts)
right_none f [] h = refl
right_none f (t ∷ ts) h = rw (h, right_operand) refl

right_some : (f : Operand → Expr) (b : Operand) (ts : List Lexeme) → first_operand ts ≡ Some b → right_operand f ts ≡ Ok (f b, drop 1 ts)
right_some f b [] h = cc
right_some f b (t ∷ ts) h = rw (h, right_operand) refl

operand_then : (us : List Lexeme) (a : Operand) → first_operand us ≡ Some a → operand_read us ≡ after_operand a (drop 1 us)
unfolding operand_read
operand_then [] a h = cc
operand_then (t ∷ ts) a h = ap (λ o. operand_else o t ts) h

pub operand_no_right : (us : List Lexeme) (a : Operand) (op : Relop) → first_operand us ≡ Some a → first_relation (drop 1 us) ≡ Some op
    → first_operand (drop 1 (drop 1 us)) ≡ None → operand_read us ≡ Err (Malformed, drop 1 (drop 1 us))
operand_no_right us a op h r n = operand_then us a h ∙ after_relation a op (drop 1 us) r ∙ right_none (related op a) (drop 1 (drop 1 us)) n

pub operand_related : (us : List Lexeme) (a b : Operand) (op : Relop) → first_operand us ≡ Some a → first_relation (drop 1 us) ≡ Some op
    → first_operand (drop 1 (drop 1 us)) ≡ Some b → operand_read us ≡ Ok (related op a b, drop 1 (drop 1 (drop 1 us)))
operand_related us a b op h r n = operand_then us a h ∙ after_relation a op (drop 1 us) r ∙ right_some (related op a) b (drop 1 (drop 1 us)) n

-- a factor, by its first token
factor_by : (d : ℕ) (k : TokenKind) (t : Lexeme) (ts : List Lexeme) → t.kind ≡ k → (Some k ≡ Some Not → ⊥) → (Some k ≡ Some Open → ⊥)
    → read_factor d (t ∷ ts) ≡ operand_else (operand_of_kind k t.text) t ts
factor_by d Not t ts e n o = absurd (n refl)
factor_by d Open t ts e n o = absurd (o refl)
factor_by zero _ t ts e n o = ap (λ k. zero_kind k t ts) e
factor_by (suc d) _ t ts e n o = ap (λ k. suc_kind d k t ts) e

pub factor_operand : (d : ℕ) (us : List Lexeme) → (first_kind us ≡ Some Not → ⊥) → (first_kind us ≡ Some Open → ⊥) → factor_read d us ≡ operand_read us
unfolding factor_read operand_read
factor_operand zero [] n o = refl
factor_operand (suc d) [] n o = refl
factor_operand d (t ∷ ts) n o = factor_by d t.kind t ts refl n o

pub factor_too_deep : (us : List Lexeme) → (first_kind us ≡ Some Not) ⊎ (first_kind us ≡ Some Open) → factor_read 0 us ≡ past_depth_limit (drop 1 us)
unfolding factor_read
factor_too_deep [] (inl e) = cc
factor_too_deep [] (inr e) = cc
factor_too_deep (t ∷ ts) (inl e) = let k : t.kind ≡ Not = cc in ap (λ k. zero_kind k t ts) k
factor_too_deep (t ∷ ts) (inr e) = let k : t.kind ≡ Open = cc in ap (λ k. zero_kind k t ts) k

pub factor_not : (d : ℕ) (us : List Lexeme) → first_kind us ≡ Some Not → factor_read (suc d) us ≡ on_read (factor_read d (drop 1 us))
    (λ r. Ok (negated r.0, r.1))
unfolding factor_read
factor_not d [] e = cc
factor_not d (t ∷ ts) e = let k : t.kind ≡ Not = cc in ap (λ k. suc_kind d k t ts) k

pub factor_open : (d : ℕ) (us : List Lexeme) → first_kind us ≡ Some Open → factor_read (suc d) us ≡ on_read (joined_read Ors d (drop 1 us)) closed
unfolding factor_read joined_read
factor_open d [] e = cc
factor_open d (t ∷ ts) e = let k : t.kind ≡ Open = cc in ap (λ k. suc_kind d k t ts) k

pub closed_ok : (e : Expr) (us : List Lexeme) → first_kind us ≡ Some Close → closed (e, us) ≡ Ok (e, drop 1 us)
closed_ok e [] h = cc
closed_ok e (t ∷ ts) h = let k : t.kind ≡ Close = cc in rw k refl

close_by : (k : TokenKind) → (Some k ≡ Some Close → ⊥) → is_close k ≡ false
close_by Close n = absurd (n refl)
close_by _ n = refl

pub closed_not : (e : Expr) (us : List Lexeme) → (first_kind us ≡ Some Close → ⊥) → closed (e, us) ≡ Err (Malformed, us)
closed_not e [] n = refl
closed_not e (t ∷ ts) n = let k = close_by t.kind n in rw k refl

-- whether a token is a connective
abbrev pub is_joint : Connective → TokenKind → Bool
is_joint Ands = is_and
is_joint Ors = is_or

joint : (c : Connective) → is_joint c (connective_kind c) ≡ true
joint Ands = refl
joint Ors = refl

no_joint : (c : Connective) (k : TokenKind) → (Some k ≡ Some (connective_kind c) → ⊥) → is_joint c k ≡ false
no_joint Ands And n = absurd (n refl)
no_joint Ors Or n = absurd (n refl)
no_joint Ands _ n = refl
no_joint Ors _ n = refl

-- a part of what a connective joins leaves no more tokens than there were
part_short : (c : Connective) (d : ℕ) (ts : List Lexeme) (r : Expr × List Lexeme) → part_read c d ts ≡ Ok r → length r.1 ≤ length ts
unfolding factor_read joined_read
part_short Ands d ts r h = factor_short d ts r h
part_short Ors d ts r h = ands_short d ts r h

pub as_joined : (c : Connective) (condition : Bool) (a b : Expr) → joined c (as_condition condition a) (as_condition condition b) ≡ as_condition condition (joined c a b)
as_joined Ands true a b = refl
as_joined Ands false a b = refl
as_joined Ors true a b = refl
as_joined Ors false a b = refl

-- reads the further parts of what a connective joins, after the expression that was read of it
unfoldable pub joined_on : Connective → ℕ → Expr → List Lexeme → Read
joined_on c d e us = chain (is_joint c) (joined c) (part_read c d) (length us) e us

is_chain : (c : Connective) (d : ℕ) (us : List Lexeme) → joined_read c d us
    ≡ on_read (part_read c d us) (λ r. chain (is_joint c) (joined c) (part_read c d) (length us) r.0 r.1)
unfolding factor_read joined_read
is_chain Ands d us = refl
is_chain Ors d us = refl

-- how the reader of joined parts goes on after its first part, at a connective and where none follows
module _ (c : Connective) (d : ℕ) where
  abbrev then : List Lexeme → (Expr → Expr) → Read → Read
  then us f q = on_read q (λ r. chain (is_joint c) (joined c) (part_read c d) (length us) (f r.0) r.1)

  pub first_fails : (us : List Lexeme) (f : ExprKind × List Lexeme) → part_read c d us ≡ Err f → joined_read c d us ≡ Err f
  first_fails us f h = is_chain c d us ∙ ap (then us (λ e. e)) h

  pub first : (us ws : List Lexeme) (e : Expr) → part_read c d us ≡ Ok (e, ws) → joined_read c d us ≡ joined_on c d e ws
  unfolding joined_on
  first us ws e h = is_chain c d us ∙ ap (then us (λ e. e)) h
      ∙ chain_same (is_joint c) (joined c) (part_read c d) (part_short c d) (length us) (length ws) e ws (part_short c d us (e, ws) h) (omega arith)

  pub link_fails : (us : List Lexeme) (e : Expr) (f : ExprKind × List Lexeme) → first_kind us ≡ Some (connective_kind c) → part_read c d (drop 1 us) ≡ Err f
      → joined_on c d e us ≡ Err f
  unfolding joined_on
  link_fails [] e f k h = cc
  link_fails (t ∷ ts) e f k h =
      let same : t.kind ≡ connective_kind c = cc in
      let q : is_joint c t.kind ≡ true = ap (is_joint c) same ∙ joint c in
      rw (q, chain) (ap (then ts (joined c e)) h)

  pub link : (us ws : List Lexeme) (e b : Expr) → first_kind us ≡ Some (connective_kind c) → part_read c d (drop 1 us) ≡ Ok (b, ws)
      → joined_on c d e us ≡ joined_on c d (joined c e b) ws
  unfolding joined_on
  link [] ws e b k h = cc
  link (t ∷ ts) ws e b k h =
      let same : t.kind ≡ connective_kind c = cc in
      let q : is_joint c t.kind ≡ true = ap (is_joint c) same ∙ joint c in
      rw (q, chain) (ap (then ts (joined c e)) h
      ∙ chain_same (is_joint c) (joined c) (part_read c d) (part_short c d) (length ts) (length ws) (joined c e b) ws (part_short c d ts (b, ws) h) (omega arith))

  stops : (us : List Lexeme) → (first_kind us ≡ Some (connective_kind c) → ⊥) → Stops (is_joint c) us
  stops [] n = tt
  stops (t ∷ ts) n = no_joint c t.kind n

  pub ends : (us : List Lexeme) (e : Expr) → (first_kind us ≡ Some (connective_kind c) → ⊥) → joined_on c d e us ≡ Ok (e, us)
  unfolding joined_on
  ends us e n = chain_stops (is_joint c) (joined c) (part_read c d) (part_short c d) (length us) e us (stops us n)

-- a fault of reading an expression is one of reading all tokens as an expression
pub whole_fails : (d : ℕ) (us : List Lexeme) (f : ExprKind × List Lexeme) → joined_read Ors d us ≡ Err f → read_all_tokens d us ≡ Err f
unfolding joined_read read_all_tokens
whole_fails d us f e = ap read_to_end e

pub whole_left : (d : ℕ) (us ws : List Lexeme) (e : Expr) → joined_read Ors d us ≡ Ok (e, ws) → 0 < length ws → read_all_tokens d us ≡ Err (Malformed, ws)
unfolding joined_read read_all_tokens
whole_left d us [] e h l = absurd (omega arith)
whole_left d us (w ∷ ws) e h l = ap read_to_end h

pub whole_ok : (d : ℕ) (us ws : List Lexeme) (e : Expr) → joined_read Ors d us ≡ Ok (e, ws) → ws ≡ [] → read_all_tokens d us ≡ Ok e
unfolding joined_read read_all_tokens
whole_ok d us ws e h n = ap read_to_end (h ∙ ap (λ vs. Ok (e, vs)) n)

pub whole_expr : (us : List Lexeme) → read_all_tokens 64 us ≡ read_expr us
unfolding read_all_tokens read_expr
whole_expr us = refl
