-- How a word alone is read.
use Rattle.kc_expr.proofs.Common.{◌≡◌, ℕ, List, drop, [], Some, None, Ok, ap, sym, ◌∙◌, TokenKind, Word, Not, Open, Operand, alone, first_kind, first_operand, first_relation, Lexeme}
use Rattle.kc_expr.specs.checker.ParserResults.{factor_read, connective_kind, part_read, joined_read, read_all_tokens}
use Rattle.kc_expr.proofs.ReaderSteps.{operand_alone, factor_operand, first, ends, whole_ok}
use Rattle.kc_expr.specs.declared.node.Connective.{Connective}
use Rattle.kc_expr.specs.declared.node.Connective.TheVariants.{And as Ands, Or as Ors}

module _ (us : List Lexeme) (a : Operand) (k : first_kind us ≡ Some Word) (o : first_operand us ≡ Some a) (last : drop 1 us ≡ []) where
  other : (kind : TokenKind) → (Word ≡ kind → ⊥) → first_kind us ≡ Some kind → ⊥
  other kind n e = n (let both : Some Word ≡ Some kind = sym k ∙ e in cc)

  none_follows : (kind : TokenKind) → first_kind (drop 1 us) ≡ Some kind → ⊥
  none_follows kind e = let none : None ≡ Some kind = sym (ap first_kind last) ∙ e in cc

  word_factor : (d : ℕ) → factor_read d us ≡ Ok (alone a, drop 1 us)
  word_factor d = factor_operand d us (other Not (λ e. cc)) (other Open (λ e. cc)) ∙ operand_alone us a o (ap first_relation last)

  word_joined : (c : Connective) (d : ℕ) → part_read c d us ≡ Ok (alone a, drop 1 us) → joined_read c d us ≡ Ok (alone a, drop 1 us)
  word_joined c d h = first c d us (drop 1 us) (alone a) h ∙ ends c d (drop 1 us) (alone a) (none_follows (connective_kind c))

  pub word_whole : (d : ℕ) → read_all_tokens d us ≡ Ok (alone a)
  word_whole d = whole_ok d us (drop 1 us) (alone a) (word_joined Ors d (word_joined Ands d (word_factor d))) last
