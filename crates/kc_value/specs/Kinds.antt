-- Tests of a symbol's type.
use Rattle.std.specs.Prelude.{Bool, true, false}
use Rattle.kc_value.specs.declared.value.Kind.{Kind}
use Rattle.kc_value.specs.declared.value.Kind.TheVariants.{Bool as Boolean, Tristate, Text, Int, Hex}

-- whether a type is bool
abbrev pub is_bool : Kind → Bool
is_bool Boolean = true
is_bool _ = false

-- whether a type is tristate
abbrev pub is_tristate : Kind → Bool
is_tristate Tristate = true
is_tristate _ = false

-- whether the values of a type are tristate values (bool, tristate) and not texts (string, int, hex)
abbrev pub is_tri_kind : Kind → Bool
is_tri_kind Boolean = true
is_tri_kind Tristate = true
is_tri_kind _ = false

-- whether a type is string, whose values are texts of any form
abbrev pub is_text_kind : Kind → Bool
is_text_kind Text = true
is_text_kind _ = false

-- whether a type is int or hex
abbrev pub is_number : Kind → Bool
is_number Int = true
is_number Hex = true
is_number _ = false

-- whether two types are the same
abbrev pub same_kind : Kind → Kind → Bool
same_kind Boolean Boolean = true
same_kind Tristate Tristate = true
same_kind Text Text = true
same_kind Int Int = true
same_kind Hex Hex = true
same_kind _ _ = false
