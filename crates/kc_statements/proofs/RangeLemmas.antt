-- The line of a range, by its two operands and the tokens after them.
use Rattle.kc_statements.proofs.Common.{◌≡◌, ℕ, ◌≤◌, false, List, [], ◌∷◌, length, drop, refl, ap, arith, Option, Some, None, Ok, Err, slice_index_or, lexeme_of, lexemes_of, Expr, Operand, TokenKind, Word, Quoted, Relation, Not, And, Or, Open, Close, is_operand_kind, operand_of_kind}
use Rattle.kc_statements.proofs.Common.{operand_of_lexeme, TreeKind, Malformed, attribute, range, optional_if}
use Rattle.kc_tokens.specs.declared.token.Token.{Token as CodeToken}
use Rattle.kc_tree_model.specs.Forms.{range_line, range_of_operands}
use Rattle.kc_statements.proofs.FormLemmas.{some_token}

no_operand : (k : TokenKind) (text : List ℕ) → is_operand_kind k ≡ false → operand_of_kind k text ≡ None
no_operand Word text e = cc
no_operand Quoted text e = cc
no_operand (Relation op) text e = refl
no_operand Not text e = refl
no_operand And text e = refl
no_operand Or text e = refl
no_operand Open text e = refl
no_operand Close text e = refl

any_first : (a : Option Operand) → range_of_operands a None ≡ (λ ts. Err Malformed)
any_first None = refl
any_first (Some a) = refl

-- a range whose first token is neither a word nor a quoted text is malformed
pub first_refused : (ts : List CodeToken) → 2 ≤ length ts → is_operand_kind (slice_index_or ts 0 some_token).kind ≡ false
    → range_line (lexemes_of ts) ≡ Err Malformed
first_refused [] l e = absurd (omega arith)
first_refused (t ∷ []) l e = absurd (omega arith)
first_refused (t ∷ u ∷ ts) l e = rw (no_operand t.kind t.text.now e) refl

pub second_refused : (ts : List CodeToken) → 2 ≤ length ts → is_operand_kind (slice_index_or ts 1 some_token).kind ≡ false
    → range_line (lexemes_of ts) ≡ Err Malformed
second_refused [] l e = absurd (omega arith)
second_refused (t ∷ []) l e = absurd (omega arith)
second_refused (t ∷ u ∷ ts) l e = rw (no_operand u.kind u.text.now e) (ap (λ f. f (lexemes_of ts)) (any_first (operand_of_lexeme (lexeme_of t))))

-- two operands, and maybe a condition after them, are a range
pub operands_given : (ts : List CodeToken) (a b : Operand) (c : Option Expr) → 2 ≤ length ts
    → operand_of_lexeme (lexeme_of (slice_index_or ts 0 some_token)) ≡ Some a → operand_of_lexeme (lexeme_of (slice_index_or ts 1 some_token)) ≡ Some b
    → optional_if (drop 2 (lexemes_of ts)) ≡ Ok c → range_line (lexemes_of ts) ≡ Ok (attribute (range (record { low = a; high = b; condition = c })))
operands_given [] a b c l p q o = absurd (omega arith)
operands_given (t ∷ []) a b c l p q o = absurd (omega arith)
operands_given (t ∷ u ∷ ts) a b c l p q o = rw (p, q, o) refl

pub operands_refused : (ts : List CodeToken) (a b : Operand) (k : TreeKind) → 2 ≤ length ts
    → operand_of_lexeme (lexeme_of (slice_index_or ts 0 some_token)) ≡ Some a → operand_of_lexeme (lexeme_of (slice_index_or ts 1 some_token)) ≡ Some b
    → optional_if (drop 2 (lexemes_of ts)) ≡ Err k → range_line (lexemes_of ts) ≡ Err k
operands_refused [] a b k l p q o = absurd (omega arith)
operands_refused (t ∷ []) a b k l p q o = absurd (omega arith)
operands_refused (t ∷ u ∷ ts) a b k l p q o = rw (p, q, o) refl
