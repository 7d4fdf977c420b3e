-- Bounds of ranges.
use Rattle.std.proofs.Common.{pos, unwrap_or}
use Rattle.std.specs.Fmt.{digits}
use Rattle.kc_value.specs.declared.value.Kind.{Kind}
use Rattle.kc_value.specs.declared.value.Kind.TheVariants.{Bool as Boolean, Tristate, Text, Int, Hex}
use Rattle.kc_value.specs.Number.{number_of_text, number_spelling, IsPrintable}
use Rattle.kc_expr.specs.Expr.{alone, related, negated, both, either, shown, operand_text}
use Rattle.kc_evaluation.proofs.Common.{◌≡◌, ℕ, List, [], ◌∷◌, refl, sym, ap, Expr, Tree, UnitValue, environment}
use Rattle.kc_tree.specs.between.Views.{operand_or_empty}
use Rattle.kc_rules_model.specs.Rule.{expression_text}
use Rattle.kc_rules_model.specs.checker.PrintableBounds.{int_bound, hex_bound}
use Rattle.kc_evaluation.specs.checker.Texts.{IsNumber}

pub bound_is : (tree : Tree) (values : List UnitValue) (e : Expr) → expression_text tree values e ≡ operand_text (environment tree values) (operand_or_empty e)
bound_is tree values (alone a) = refl
bound_is tree values (related op a b) = refl
bound_is tree values (negated e) = refl
bound_is tree values (both a b) = refl
bound_is tree values (either a b) = refl
bound_is tree values (shown e) = refl

-- the number of a text in an int or hex, or 0 where it represents none, can be printed in that type
pub number_printable : (kind : Kind) (text : List ℕ) → IsNumber kind → IsPrintable kind (unwrap_or (number_of_text kind text) (pos 0))
number_printable Int text is = int_bound text (number_of_text Int text) refl
number_printable Hex text is = hex_bound text (number_of_text Hex text) refl
number_printable Boolean text is = absurd is
number_printable Tristate text is = absurd is
number_printable Text text is = absurd is

-- the spelling of 0 in a type
pub zero_hex : (kind : Kind) → kind ≡ Hex → 48 ∷ 120 ∷ 48 ∷ [] ≡ number_spelling kind (pos 0)
unfolding digits
zero_hex kind is = sym (ap (λ k. number_spelling k (pos 0)) is)

pub zero_other : (kind : Kind) → (kind ≡ Hex → ⊥) → 48 ∷ [] ≡ number_spelling kind (pos 0)
unfolding digits
zero_other Boolean other = refl
zero_other Tristate other = refl
zero_other Text other = refl
zero_other Int other = refl
zero_other Hex other = absurd (other refl)
