-- What a reader of a level gives, and that it gives it whatever comes later.
use Rattle.kc_expr.proofs.Common.{◌≡◌, ℕ, suc, zero, ◌≤◌, Bool, true, false, List, [], ◌∷◌, ◌++◌, length, Ok, Err, refl, ap, sym, ◌∙◌, subst, append_assoc, append-nil, length-append, arith, ExprKind, Malformed, TooDeep, TokenKind, Lexeme, Expr, Level, ors, ands, factor, IsExpr, Read, on_read, chain}
use Rattle.kc_expr.proofs.Common.{is_operand_kind, read_factor, read_ands, read_ors}
use Rattle.kc_expr.proofs.Beginnings.{Begins, ArePrefixes, front_begins, within_more}
use Rattle.kc_expr.proofs.GrammarComplete.{Stops, chain_stops, chain_links}

-- the reader of a level of the grammar, with at most this many `!` and parentheses around a symbol
abbrev pub reader : Level → ℕ → List Lexeme → Read
reader ors d ts = read_ors (read_factor d) ts
reader ands d ts = read_ands (read_factor d) ts
reader factor d ts = read_factor d ts

-- two lists of tokens have the same first token, or both have none
abbrev pub Alike : List Lexeme → List Lexeme → Type 0
Alike [] [] = Unit {0}
Alike [] (u ∷ us) = ⊥
Alike (t ∷ ts) [] = ⊥
Alike (t ∷ ts) (u ∷ us) = t ≡ u

pub alike_stops : (p : TokenKind → Bool) (ts us : List Lexeme) → Alike ts us → Stops p ts → Stops p us
alike_stops p [] [] h s = tt
alike_stops p [] (u ∷ us) h s = absurd h
alike_stops p (t ∷ ts) [] h s = absurd h
alike_stops p (t ∷ ts) (u ∷ us) h s = subst (λ (v : Lexeme). p v.kind ≡ false) h s

-- an expression of a level is read at the front of tokens, and at any greater depth too
pub record IsRead (l : Level) (d : ℕ) (ts : List Lexeme) (r : Expr × List Lexeme) : Type 0 where
  pub front : List Lexeme
  pub is : ts ≡ front ++ r.1
  pub whole : IsExpr l d front r.0
  pub again : (n : ℕ) → d ≤ n → (us : List Lexeme) → Alike r.1 us → reader l n (front ++ us) ≡ Ok (r.0, us)

-- a fault comes after tokens that begin an expression, at this or a greater depth, and unless it is TooDeep it does at any
-- greater depth too
pub data Cause (l : Level) (d : ℕ) (front : List Lexeme) : ExprKind → List Lexeme → Type 0 where
  ends : (n : ℕ) → d ≤ n → Begins l n front → Cause l d front Malformed []
  wrong : {t : Lexeme} {us : List Lexeme} (n : ℕ) → d ≤ n → Begins l n front
      → ((n : ℕ) → d ≤ n → (vs : List Lexeme) → reader l n (front ++ t ∷ vs) ≡ Err (Malformed, t ∷ vs)) → Cause l d front Malformed (t ∷ us)
  deep : {t : Lexeme} {us : List Lexeme} (n : ℕ) → d ≤ n → Begins l n (front ++ t ∷ []) → is_operand_kind t.kind ≡ true
      → ((vs : List Lexeme) → reader l d (front ++ t ∷ vs) ≡ Err (TooDeep, t ∷ vs)) → Cause l d front TooDeep (t ∷ us)

-- tokens are refused with a fault: it comes after tokens that begin an expression within the depth and then only `!` and `(`
pub record IsRefused (l : Level) (d : ℕ) (ts : List Lexeme) (f : ExprKind × List Lexeme) : Type 0 where
  pub front : List Lexeme
  pub is : ts ≡ front ++ f.1
  pub cause : Cause l d front f.0 f.1
  pub within : List Lexeme
  pub deeper : List Lexeme
  pub splits : front ≡ within ++ deeper
  pub begins : Begins l d within
  pub prefixes : ArePrefixes deeper

abbrev pub Outcome : Level → ℕ → List Lexeme → Read → Type 0
Outcome l d ts (Ok r) = IsRead l d ts r
Outcome l d ts (Err f) = IsRefused l d ts f

pub cause_begins : (l : Level) (d : ℕ) (front : List Lexeme) {k : ExprKind} {rest : List Lexeme} → Cause l d front k rest → (n : ℕ) × (d ≤ n) × Begins l n front
cause_begins l d front (ends n h b) = (n, h, b)
cause_begins l d front (wrong n h b again) = (n, h, b)
cause_begins l d front (deep {t = t} n h b o again) = (n, h, front_begins l n front (t ∷ []) b)

-- a fault with its cause refuses tokens, if the tokens before it begin an expression within the depth
pub refused_there : (l : Level) (d : ℕ) (ts front : List Lexeme) (k : ExprKind) (rest : List Lexeme) → ts ≡ front ++ rest → Begins l d front
    → Cause l d front k rest → IsRefused l d ts (k, rest)
refused_there l d ts front k rest is b c =
    record { front = front; is = is; cause = c; within = front; deeper = []; splits = sym (append-nil front); begins = b; prefixes = tt }

-- a part that is refused after other tokens, where a fault of the part is one of the whole, and what begins the part goes on with
-- the whole
module _ (l m : Level) (d e : ℕ) (before : List Lexeme)
    (fails : (n : ℕ) → e ≤ n → (k : ℕ) × (d ≤ k)
    × ((us : List Lexeme) (f : ExprKind × List Lexeme) → reader l k us ≡ Err f → reader m n (before ++ us) ≡ Err f))
    (fails_here : (us : List Lexeme) (f : ExprKind × List Lexeme) → reader l d us ≡ Err f → reader m e (before ++ us) ≡ Err f)
    (goes_on : (k : ℕ) → d ≤ k → (n : ℕ) × (e ≤ n) × ((us : List Lexeme) → Begins l k us → Begins m n (before ++ us)))
    (goes_on_here : (us : List Lexeme) → Begins l d us → Begins m e (before ++ us)) where
  cause_after : (front : List Lexeme) {k : ExprKind} {rest : List Lexeme} → Cause l d front k rest → Cause m e (before ++ front) k rest
  cause_after front (ends k h b) = let (n, g, on) = goes_on k h in ends n g (on front b)
  cause_after front (wrong {t = t} k h b again) =
      let (n, g, on) = goes_on k h in
      wrong n g (on front b) (λ n g vs.
      let (k, h, on) = fails n g in
      ap (reader m n) (append_assoc before front (t ∷ vs)) ∙ on (front ++ t ∷ vs) (Malformed, t ∷ vs) (again k h vs))
  cause_after front (deep {t = t} k h b o again) =
      let (n, g, on) = goes_on k h in
      deep n g (subst (Begins m n) (sym (append_assoc before front (t ∷ []))) (on (front ++ t ∷ []) b)) o (λ vs.
      ap (reader m e) (append_assoc before front (t ∷ vs)) ∙ fails_here (front ++ t ∷ vs) (TooDeep, t ∷ vs) (again vs))

  pub refused_after : (ts all : List Lexeme) (f : ExprKind × List Lexeme) → all ≡ before ++ ts → IsRefused l d ts f → IsRefused m e all f
  refused_after ts all f q r = record {
    front = before ++ r.front;
    is = q ∙ ap (λ us. before ++ us) r.is ∙ sym (append_assoc before r.front f.1);
    cause = cause_after r.front r.cause;
    within = before ++ r.within;
    deeper = r.deeper;
    splits = ap (λ us. before ++ us) r.splits ∙ sym (append_assoc before r.within r.deeper);
    begins = goes_on_here r.within r.begins;
    prefixes = r.prefixes;
  }

-- the same at one depth
module _ (l m : Level) (d : ℕ) (before : List Lexeme)
    (fails : (n : ℕ) → d ≤ n → (us : List Lexeme) (f : ExprKind × List Lexeme) → reader l n us ≡ Err f → reader m n (before ++ us) ≡ Err f)
    (goes_on : (n : ℕ) → d ≤ n → (us : List Lexeme) → Begins l n us → Begins m n (before ++ us)) where
  pub refused_beside : (ts all : List Lexeme) (f : ExprKind × List Lexeme) → all ≡ before ++ ts → IsRefused l d ts f → IsRefused m d all f
  refused_beside = refused_after l m d d before (λ n h. (n, h, fails n h)) (fails d (omega arith)) (λ n h. (n, h, goes_on n h)) (goes_on d (omega arith))

-- a chain of parts
module _ (l m : Level) (d : ℕ) (is_joint : TokenKind → Bool) (join : Expr → Expr → Expr)
    (short : (n : ℕ) (ts : List Lexeme) (r : Expr × List Lexeme) → reader m n ts ≡ Ok r → length r.1 ≤ length ts)
    (more : (n : ℕ) (ts us all : List Lexeme) (o : Lexeme) (a b : Expr) → IsExpr l n ts a
    → is_joint o.kind ≡ true → IsExpr m n us b → all ≡ ts ++ o ∷ us → IsExpr l n all (join a b))
    (part : (ts : List Lexeme) → Outcome m d ts (reader m d ts)) where
  abbrev on : ℕ → ℕ → Expr → List Lexeme → Read
  on n size a ts = chain is_joint join (reader m n) size a ts

  -- what is read of a chain so far, and how it goes on at each depth
  abbrev Goes : List Lexeme → Expr → List Lexeme → Type 0
  Goes front a ts = (n : ℕ) → d ≤ n → (us : List Lexeme) → Alike ts us → reader l n (front ++ us) ≡ on n (length us) a us

  chain_ends : (all front ts : List Lexeme) (a : Expr) → all ≡ front ++ ts → IsExpr l d front a → Goes front a ts → Stops is_joint ts → IsRead l d all (a, ts)
  chain_ends all front ts a is x goes s = record { front = front; is = is; whole = x; again = again }
    where
      again : (n : ℕ) → d ≤ n → (us : List Lexeme) → Alike ts us → reader l n (front ++ us) ≡ Ok (a, us)
      again n h us same = goes n h us same ∙ chain_stops is_joint join (reader m n) (short n) (length us) a us (alike_stops is_joint ts us same s)

  link_fails : (n : ℕ) (front : List Lexeme) (t : Lexeme) (a : Expr) (us : List Lexeme) (f : ExprKind × List Lexeme) → is_joint t.kind ≡ true
      → reader l n (front ++ t ∷ us) ≡ on n (length (t ∷ us)) a (t ∷ us) → reader m n us ≡ Err f → reader l n ((front ++ t ∷ []) ++ us) ≡ Err f
  link_fails n front t a us f j goes h =
      ap (reader l n) (append_assoc front (t ∷ []) us) ∙ goes
      ∙ rw (j, chain) (ap (λ q. on_read q (λ r. on n (length us) (join a r.0) r.1)) h)

  link_begins : (n : ℕ) (front : List Lexeme) (t : Lexeme) (a : Expr) (us : List Lexeme) → is_joint t.kind ≡ true → IsExpr l n front a
      → Begins m n us → Begins l n ((front ++ t ∷ []) ++ us)
  link_begins n front t a us j x (ws, b, z) = (
    ws,
    join a b,
    more n front (us ++ ws) (((front ++ t ∷ []) ++ us) ++ ws) t a b x j z
        (append_assoc (front ++ t ∷ []) us ws ∙ append_assoc front (t ∷ []) (us ++ ws)),
  )

  link_goes : (front ts rest : List Lexeme) (t : Lexeme) (a b : Expr) → is_joint t.kind ≡ true → Goes front a (t ∷ ts)
      → (y : IsRead m d ts (b, rest)) → Goes (front ++ t ∷ y.front) (join a b) rest
  link_goes front ts rest t a b j goes y n h us same =
      ap (reader l n) (append_assoc front (t ∷ y.front) us) ∙ goes n h (t ∷ (y.front ++ us)) refl
      ∙ chain_links is_joint join (reader m n) (short n) a b t y.front us j (y.again n h us same)

  -- what the rest of a chain gives
  abbrev Rest : ℕ → List Lexeme → Type 0
  Rest size all =
      (front ts : List Lexeme) (a : Expr) → length ts ≤ size → all ≡ front ++ ts → IsExpr l d front a → Goes front a ts → Outcome l d all (on d size a ts)

  at_part : (size : ℕ) (all front ts : List Lexeme) (t : Lexeme) (a : Expr) (q : Read) → length (t ∷ ts) ≤ suc size → all ≡ front ++ t ∷ ts
      → IsExpr l d front a → Goes front a (t ∷ ts) → is_joint t.kind ≡ true → Rest size all → Outcome m d ts q
      → Outcome l d all (on_read q (λ r. on d size (join a r.0) r.1))
  at_part size all front ts t a (Err f) h is x goes j ih y =
      refused_beside m l d (front ++ t ∷ []) (λ n g us f k. link_fails n front t a us f j (goes n g (t ∷ us) refl) k)
      (λ n g us b. link_begins n front t a us j (within_more x n g) b)
      ts all f (is ∙ sym (append_assoc front (t ∷ []) ts)) y
  at_part size all front ts t a (Ok (b, rest)) h is x goes j ih y =
      ih (front ++ t ∷ y.front) rest (join a b) (omega (arith, h, ap length y.is, length-append y.front rest))
      (is ∙ ap (λ us. front ++ t ∷ us) y.is ∙ sym (append_assoc front (t ∷ y.front) rest))
      (more d front y.front (front ++ t ∷ y.front) t a b x j y.whole refl) (link_goes front ts rest t a b j goes y)

  at_link : (b : Bool) (size : ℕ) (all front ts : List Lexeme) (t : Lexeme) (a : Expr) → length (t ∷ ts) ≤ suc size → all ≡ front ++ t ∷ ts
      → IsExpr l d front a → Goes front a (t ∷ ts) → is_joint t.kind ≡ b → Rest size all
      → Outcome l d all (elim b as (λ _. Read) [ true ↦ on_read (reader m d ts) (λ r. on d size (join a r.0) r.1) | false ↦ Ok (a, t ∷ ts) ])
  at_link false size all front ts t a h is x goes j ih = chain_ends all front (t ∷ ts) a is x goes j
  at_link true size all front ts t a h is x goes j ih = at_part size all front ts t a (reader m d ts) h is x goes j ih (part ts)

  pub chain_outcome : (size : ℕ) (all front ts : List Lexeme) (a : Expr) → length ts ≤ size → all ≡ front ++ ts → IsExpr l d front a
      → Goes front a ts → Outcome l d all (on d size a ts)
  chain_outcome zero all front [] a h is x goes = chain_ends all front [] a is x goes tt
  chain_outcome (suc size) all front [] a h is x goes = chain_ends all front [] a is x goes tt
  chain_outcome zero all front (t ∷ ts) a h is x goes = absurd (omega arith)
  chain_outcome (suc size) all front (t ∷ ts) a h is x goes = at_link (is_joint t.kind) size all front ts t a h is x goes refl (chain_outcome size all)
