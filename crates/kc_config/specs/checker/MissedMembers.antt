-- The member that a user value selects by the last assignment of `y`.
use Rattle.std.specs.Prelude.{ℕ, true, Option, Some, None}
use Rattle.kc_rules_model.specs.declared.values.UserValue.{UserValue}
use Rattle.kc_rules_model.specs.declared.values.UserValue.TheVariants.{Tri as TriUser, Text as TextUser, Member as MemberUser, Lines as LinesUser}
use Rattle.kc_rules_model.specs.MemberLines.{last_y}

-- of assignments of members the last member with `y`; none for any other user value, and for no user value
abbrev pub last_in : Option UserValue → Option ℕ
last_in None = None
last_in (Some (TriUser t)) = None
last_in (Some (TextUser text)) = None
last_in (Some (MemberUser s)) = None
last_in (Some (LinesUser lines)) = last_y (λ m. true) lines
