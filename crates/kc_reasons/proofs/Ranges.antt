-- A range of what is no number.
use Rattle.std.proofs.Common.{◌≡◌, true, false, List, Option, Some, None, pos, refl}
use Rattle.kc_value.specs.declared.value.Kind.{Kind}
use Rattle.kc_value.specs.declared.value.Kind.TheVariants.{Bool as Boolean, Tristate, Text, Int, Hex}
use Rattle.kc_tree_model.specs.Trees.{Tree, Range}
use Rattle.kc_rules_model.specs.declared.values.UnitValue.{UnitValue}
use Rattle.kc_rules_model.specs.Rule.{is_upside_down, is_within}

-- a type has no numbers
abbrev pub HasNoNumbers : Kind → Type 0
HasNoNumbers Boolean = Unit {0}
HasNoNumbers Tristate = Unit {0}
HasNoNumbers Text = Unit {0}
HasNoNumbers _ = ⊥

pub no_number_upside : (tree : Tree) (values : List UnitValue) (kind : Kind) (o : Option Range) → HasNoNumbers kind → is_upside_down tree values kind o ≡ false
no_number_upside tree values kind None none = refl
no_number_upside tree values Boolean (Some r) none = refl
no_number_upside tree values Tristate (Some r) none = refl
no_number_upside tree values Text (Some r) none = refl
no_number_upside tree values Int (Some r) none = absurd none
no_number_upside tree values Hex (Some r) none = absurd none

pub no_number_within : (tree : Tree) (values : List UnitValue) (kind : Kind) (o : Option Range) → HasNoNumbers kind → is_within tree values kind o (pos 0) ≡ true
no_number_within tree values kind None none = refl
no_number_within tree values Boolean (Some r) none = refl
no_number_within tree values Tristate (Some r) none = refl
no_number_within tree values Text (Some r) none = refl
no_number_within tree values Int (Some r) none = absurd none
no_number_within tree values Hex (Some r) none = absurd none
