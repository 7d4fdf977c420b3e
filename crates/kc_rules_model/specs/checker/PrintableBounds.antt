-- The bounds of ranges can be printed, and their texts read back.
use Rattle.std.proofs.Common.{◌≡◌, ℕ, zero, suc, ◌<◌, ◌^◌, Bool, true, false, ◌&&◌, cond, List, Option, Some, None, is_some, ℤ, pos, negsuc, int_lt, unwrap_or, refl, subst, sym, ◌∙◌, ap, arith}
use Rattle.std.specs.Prelude.{unsigned_abs, neg_ℤ, ◌≤ℤ◌, ◌<ℤ◌}
use Rattle.std.proofs.lemmas.Int.{ints}
use Rattle.std.proofs.lemmas.Bool.{le-ltb, false≢true, and_parts}
use Rattle.kc_value.specs.declared.value.Kind.{Kind}
use Rattle.kc_value.specs.declared.value.Kind.TheVariants.{Bool as Boolean, Tristate, Text, Int, Hex}
use Rattle.kc_value.specs.Kinds.{is_number}
use Rattle.kc_value.specs.Number.{number_of_text, number_spelling, IsPrintable}
use Rattle.kc_value.proofs.NumberSpelling.{spelling_read_back}
use Rattle.kc_expr.specs.Expr.{Operand, operand_text}
use Rattle.kc_tokens.specs.Languages.{is_linux_6_12}
use Rattle.kc_tree_model.specs.Trees.{Tree}
use Rattle.kc_rules_model.specs.declared.values.UnitValue.{UnitValue}
use Rattle.kc_rules_model.specs.SymbolValues.{environment}
use Rattle.kc_rules_model.specs.Rule.{bound, bound_text}
use Rattle.kc_value.specs.NumberGrammar.{IsInt, IsHex, decimal, negative, bare, prefixed}
use Rattle.kc_value.proofs.NumberLaws.{int_sound}
use Rattle.kc_value.proofs.HexLaws.{hex_sound}

negative_size : (n : ℕ) → n < 2 ^ 63 → unsigned_abs (neg_ℤ (pos n)) < 2 ^ 63
negative_size zero below = below
negative_size (suc n) below = below

int_printable : (text : List ℕ) (z : ℤ) → IsInt text z → unsigned_abs z < 2 ^ 63
int_printable text z (decimal n writes below is len) = subst (λ k. unsigned_abs k < 2 ^ 63) (sym is) below
int_printable text z (negative digits n parts writes below is len) = subst (λ k. unsigned_abs k < 2 ^ 63) (sym is) (negative_size n below)

hex_printable : (text : List ℕ) (z : ℤ) → IsHex text z → (pos 0 ≤ℤ z) × (z <ℤ pos (2 ^ 64))
hex_printable text z (bare n writes below is len) = subst (λ k. (pos 0 ≤ℤ k) × (k <ℤ pos (2 ^ 64))) (sym is) (omega (arith, ints), omega (arith, ints))
hex_printable text z (prefixed digits n parts writes below is len) =
    subst (λ k. (pos 0 ≤ℤ k) × (k <ℤ pos (2 ^ 64))) (sym is) (omega (arith, ints), omega (arith, ints))

-- the bound of an int range can be printed, also the 0 of a text that isn't a number
pub int_bound : (text : List ℕ) (o : Option ℤ) → number_of_text Int text ≡ o → IsPrintable Int (unwrap_or o (pos 0))
int_bound text None e = omega arith
int_bound text (Some z) e = int_printable text z (int_sound text z e)

pub hex_bound : (text : List ℕ) (o : Option ℤ) → number_of_text Hex text ≡ o → IsPrintable Hex (unwrap_or o (pos 0))
hex_bound text None e = (omega (arith, ints), omega (arith, ints))
hex_bound text (Some z) e = hex_printable text z (hex_sound text z e)

-- a bound can be printed
pub bound_printable : (kind : Kind) (text : List ℕ) (o : Option ℤ) → is_number kind ≡ true → number_of_text kind text ≡ o → IsPrintable kind (unwrap_or o (pos 0))
bound_printable Boolean text o large e = absurd (false≢true large)
bound_printable Tristate text o large e = absurd (false≢true large)
bound_printable Text text o large e = absurd (false≢true large)
bound_printable Int text o large e = int_bound text o e
bound_printable Hex text o large e = hex_bound text o e

-- 0 can be printed
pub zero_printable : (kind : Kind) → is_number kind ≡ true → IsPrintable kind (pos 0)
zero_printable Boolean large = absurd (false≢true large)
zero_printable Tristate large = absurd (false≢true large)
zero_printable Text large = absurd (false≢true large)
zero_printable Int large = omega arith
zero_printable Hex large = (omega (arith, ints), omega (arith, ints))

-- the text of a bound is read back as the bound
pub bound_read_back : (tree : Tree) (values : List UnitValue) (kind : Kind) (a : Operand) → is_number kind ≡ true
    → number_of_text kind (bound_text tree values kind a) ≡ Some (bound tree values kind a)
bound_read_back tree values kind a large =
    go (number_of_text kind (operand_text (environment tree values) a)) (is_linux_6_12 tree.language) refl
    (spelling_read_back kind _ (bound_printable kind (operand_text (environment tree values) a) (number_of_text kind (operand_text (environment tree values) a)) large refl)) where
      go : (o : Option ℤ) (six : Bool) → number_of_text kind (operand_text (environment tree values) a) ≡ o
          → number_of_text kind (number_spelling kind (bound tree values kind a)) ≡ Some (bound tree values kind a)
          → number_of_text kind (cond (six && is_some (number_of_text kind (operand_text (environment tree values) a))) (operand_text (environment tree values) a) (number_spelling kind (bound tree values kind a))) ≡ Some (bound tree values kind a)
      go o false e spelled = spelled
      go None true e spelled =
          subst (λ x. number_of_text kind (cond (is_some x) (operand_text (environment tree values) a) (number_spelling kind (bound tree values kind a))) ≡ Some (bound tree values kind a)) (sym e) spelled
      go (Some z) true e spelled =
          subst (λ x. number_of_text kind (cond (is_some x) (operand_text (environment tree values) a) (number_spelling kind (bound tree values kind a))) ≡ Some (unwrap_or x (pos 0))) (sym e) e

-- no number is below itself
pub not_below_itself : (z : ℤ) → int_lt z z ≡ false
not_below_itself (pos n) = le-ltb n n (omega arith)
not_below_itself (negsuc n) = le-ltb n n (omega arith)
