-- The lacking parts of a condition in the order in which the code finds them.
use Rattle.std.specs.Prelude.{List, [], ◌∷◌, ◌++◌, if◌then◌else◌}
use Rattle.kc_value.specs.declared.tri.Tri.{Tri}
use Rattle.kc_value.specs.declared.tri.Tri.TheVariants.{M}
use Rattle.kc_expr.specs.Expr.{Expr, alone, related, negated, both, either, shown, Environment, value}
use Rattle.kc_value.specs.Tri.{is_n}
use Rattle.kc_reasons_model.specs.Conjuncts.{Part, below}

-- a part, if it is too low
abbrev pub if_low : Environment → Tri → Expr → List Part
if_low names t e = if below (value names e) t then record { expr = e; wanted = t } ∷ [] else []

-- the parts of a condition that are too low, from right to left
abbrev pub lacking_in_reverse : Environment → Tri → Expr → List Part
lacking_in_reverse names t (alone a) = if_low names t (alone a)
lacking_in_reverse names t (related op a b) = if_low names t (related op a b)
lacking_in_reverse names t (negated e) = if_low names t (negated e)
lacking_in_reverse names t (either a b) = if_low names t (either a b)
lacking_in_reverse names t (both a b) = lacking_in_reverse names t b ++ lacking_in_reverse names t a
lacking_in_reverse names t (shown e) = if is_n t then [] else lacking_in_reverse names M e
