-- The plain spelling is read as the same tree.
use Rattle.kc_reasons_model.proofs.Common.{◌≡◌, ℕ, zero, suc, ◌≤◌, Bool, true, false, cond, List, [], ◌∷◌, ◌++◌, Some, refl, ◌∙◌, ap, arith, length, codes, ◌==◌, Relation, Not, And, Or, Open, Close, Lexeme, Expr, named, quoted, alone, related, negated, both, either, shown, take-append_seam, get_or}
use Rattle.kc_reasons_model.proofs.Common.{escaped_byte, Level, ors, ands, factor, IsExpr, one_and, more_ors, one_factor, more_ands, operand, relation, negation, parentheses, relation_text, token, operand_token, in_parentheses, under_not, spelling}
use Rattle.std.specs.Prelude.{nat_lt, nat_le, ◌-◌, ◌||◌, ◌+◌}
use Rattle.std.proofs.lemmas.Bool.{ltb-true, ltb-false, cond_both, le-leb}
use Rattle.std.specs.List.{flat_map}
use Rattle.std.proofs.lemmas.List.{length-append}
use Rattle.std.proofs.Math.Seq.{get_or-append_seam}
use Rattle.kc_value.specs.QuotedTexts.{unescaped, quoted as quoted_spelling}
use Rattle.kc_tokens.specs.QuotedTexts.{quoted_text, between_quotes}
use Rattle.kc_expr.specs.Grammar.{constant_else, constant_or}
use Rattle.kc_reasons_model.specs.Spelling.{depth_under_not, depth, IsPlain, deeper}
use Rattle.kc_reasons_model.specs.Laws.{SpelledIsReadBack, OperandsAreReadBack}

at_level : (l : Level) (d : ℕ) (ts : List Lexeme) (e : Expr) → IsExpr factor d ts e → IsExpr l d ts e
at_level ors d ts e h = one_and (one_factor h)
at_level ands d ts e h = one_factor h
at_level factor d ts e h = h

left_fits : (m n d : ℕ) → deeper m n ≤ d → m ≤ d
left_fits m n d h = cond_both (nat_lt m n) n m (λ x. x ≤ d → m ≤ d) (λ e k. omega (arith, ltb-true m n e)) (λ e k. k) h

right_fits : (m n d : ℕ) → deeper m n ≤ d → n ≤ d
right_fits m n d h = cond_both (nat_lt m n) n m (λ x. x ≤ d → n ≤ d) (λ e k. k) (λ e k. omega (arith, ltb-false m n e)) h

under : (m d : ℕ) → suc m ≤ suc d → m ≤ d
under m d h = omega arith

in_both : (d : ℕ) (ts : List Lexeme) (e : Expr) → IsExpr ors d ts e → IsExpr factor (suc d) (in_parentheses ts) e
in_both d ts e h = parentheses (token Open (codes "(")) (token Close (codes ")")) refl h refl refl

-- the operand of a `!`
negated_operand : (d : ℕ) (e : Expr) → ((k : ℕ) → depth factor e ≤ k → IsExpr factor k (spelling factor e) e) → depth_under_not e (depth factor e) ≤ d → IsExpr factor d (under_not e (spelling factor e)) e
negated_operand zero (related op a b) read fits = absurd (omega arith)
negated_operand (suc d) (related op a b) read fits = in_both d _ (related op a b) (one_and (one_factor (read d (omega arith))))
negated_operand d _ read fits = read d fits

pub read : (l : Level) (d : ℕ) (e : Expr) → IsPlain e → depth l e ≤ d → IsExpr l d (spelling l e) e
read l d (alone a) plain fits = at_level l d _ (alone a) (operand (operand_token a) plain refl)
read l d (related op a b) plain fits = at_level l d _ (related op a b) (relation (operand_token a) (token (Relation op) (relation_text op)) (operand_token b) op plain.0 refl plain.1 refl)
read l (suc d) (negated e) plain fits = at_level l (suc d) _ (negated e) (negation (token Not (codes "!")) refl (negated_operand d e (λ k f. read factor k e plain f) (under _ d fits)) refl)
read ors d (either a b) plain fits = more_ors (token Or (codes "||")) (read ors d a plain.0 (left_fits _ _ d fits)) refl (read ands d b plain.1 (right_fits _ _ d fits)) refl
read ors d (both a b) plain fits = one_and (more_ands (token And (codes "&&")) (read ands d a plain.0 (left_fits _ _ d fits)) refl (read factor d b plain.1 (right_fits _ _ d fits)) refl)
read ands d (both a b) plain fits = more_ands (token And (codes "&&")) (read ands d a plain.0 (left_fits _ _ d fits)) refl (read factor d b plain.1 (right_fits _ _ d fits)) refl
read ands (suc d) (either a b) plain fits = one_factor (in_both d _ (either a b) (more_ors (token Or (codes "||")) (read ors d a plain.0 (left_fits _ _ d (under _ d fits))) refl (read ands d b plain.1 (right_fits _ _ d (under _ d fits))) refl))
read factor (suc d) (either a b) plain fits = in_both d _ (either a b) (more_ors (token Or (codes "||")) (read ors d a plain.0 (left_fits _ _ d (under _ d fits))) refl (read ands d b plain.1 (right_fits _ _ d (under _ d fits))) refl)
read factor (suc d) (both a b) plain fits = in_both d _ (both a b) (one_and (more_ands (token And (codes "&&")) (read ands d a plain.0 (left_fits _ _ d (under _ d fits))) refl (read factor d b plain.1 (right_fits _ _ d (under _ d fits))) refl))
read l d (shown e) plain fits = absurd plain
read _ zero _ plain fits = absurd (omega arith)

pub read_back : SpelledIsReadBack
read_back e plain = read ors (depth ors e) e plain (omega arith)

-- what is escaped means the text
unescaped_escaped : (x : List ℕ) → unescaped false (flat_map escaped_byte x) ≡ x
unescaped_escaped [] = refl
unescaped_escaped (c ∷ cs) = go (c == 34) refl (c == 92) refl (unescaped_escaped cs) where
  go : (a : Bool) → (c == 34) ≡ a → (b : Bool) → (c == 92) ≡ b → unescaped false (flat_map escaped_byte cs) ≡ cs → unescaped false (cond (a || b) (92 ∷ c ∷ []) (c ∷ []) ++ flat_map escaped_byte cs) ≡ c ∷ cs
  go true e b f rest = ap (λ t. c ∷ t) rest
  go false e true f rest = ap (λ t. c ∷ t) rest
  go false e false f rest = rw f (ap (λ t. c ∷ t) rest)

-- what is between the quotes of a spelling
between : (ts : List ℕ) → between_quotes (34 ∷ (ts ++ 34 ∷ [])) ≡ ts
between ts =
    let xs = ts ++ 34 ∷ [] in
    let long : length xs ≡ length ts + 1 = length-append ts (34 ∷ []) in
    let two : nat_le 2 (suc (length xs)) ≡ true = le-leb 2 (suc (length xs)) (omega (arith, long)) in
    let place : suc (length xs) - 1 ≡ suc (length ts) = omega (arith, long) in
    let last : get_or (34 ∷ xs) (suc (length xs) - 1) 0 ≡ 34 = ap (λ i. get_or (34 ∷ xs) i 0) place ∙ get_or-append_seam ts 34 [] 0 in
    let cut : suc (length xs) - 2 ≡ length ts = omega (arith, long) in
    rw (two, last, cut) (take-append_seam ts (34 ∷ []))

pub operands : OperandsAreReadBack
operands x none = (
  ap (λ o. Some (constant_else o (named x))) none,
  (let e : quoted_text (quoted_spelling x) ≡ x = ap (unescaped false) (between (flat_map escaped_byte x)) ∙ unescaped_escaped x in
      ap (λ t. Some (constant_or quoted t)) e ∙ ap (λ o. Some (constant_else o (quoted x))) none),
)
