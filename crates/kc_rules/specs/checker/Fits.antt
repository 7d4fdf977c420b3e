-- The test of whether a user value fits a type.
use Rattle.std.specs.Prelude.{Bool, false}
use Rattle.kc_value.specs.declared.value.Kind.{Kind}
use Rattle.kc_rules_model.specs.declared.values.UserValue.{UserValue}
use Rattle.kc_rules_model.specs.declared.values.UserValue.TheVariants.{Tri as TriUser, Text as TextUser, Member as MemberUser, Lines as LinesUser}
use Rattle.kc_rules_model.specs.Shapes.{tri_fits, user_text_fits}

-- whether a user value fits this type: a tristate that the type has, one line of UTF-8 for a string, a number for an int or hex
abbrev pub kind_user_fits : Kind → UserValue → Bool
kind_user_fits kind (TriUser t) = tri_fits kind t
kind_user_fits kind (TextUser text) = user_text_fits kind text
kind_user_fits kind (MemberUser s) = false
kind_user_fits kind (LinesUser lines) = false
