-- The bounds of what is to be shown.
use Rattle.std.specs.Prelude.{Bool, true, false}
use Rattle.kc_value.specs.declared.tri.Tri.{Tri}
use Rattle.kc_value.specs.declared.tri.Tri.TheVariants.{N, M}
use Rattle.kc_value.specs.Tri.{is_y, is_n}

-- whether nothing that is to be shown is above a bound, or else below it
abbrev pub is_never_off : (above : Bool) → Tri → Bool
is_never_off true bound = is_y bound
is_never_off false bound = is_n bound

-- what its part is above, or else below, where it is off
abbrev pub shown_limit : (above : Bool) → Tri
shown_limit true = N
shown_limit false = M
