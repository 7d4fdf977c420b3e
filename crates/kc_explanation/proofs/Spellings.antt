-- The spelling of a value, by its type.
use Rattle.kc_explanation.proofs.Common.{◌≡◌, ℕ, List, refl, Strings}
use Rattle.kc_value.specs.declared.value.Kind.{Kind}
use Rattle.kc_value.specs.declared.value.Kind.TheVariants.{Bool as Boolean, Tristate, Text, Int, Hex}
use Rattle.kc_minimal_model.specs.SymbolLine.{spelled}
use Rattle.kc_reasons_model.specs.Reasons.{text_of_kind}

pub spelled_is : (strings : Strings) (kind : Kind) (text : List ℕ) → spelled strings kind text ≡ text_of_kind strings kind text
spelled_is strings Boolean text = refl
spelled_is strings Tristate text = refl
spelled_is strings Text text = refl
spelled_is strings Int text = refl
spelled_is strings Hex text = refl
