-- The parts of a condition as the code has them.
use Rattle.std.specs.Prelude.{◌<◌, List, length, map, All}
use Rattle.std.specs.Global.{Vec}
use Rattle.kc_expr.specs.between.Arena.{Exprs, node_expr}
use Rattle.kc_reasons_model.specs.Conjuncts.{Part}
use Rattle.kc_reasons.specs.declared.low_parts.LowPart.{LowPart}

-- the part that one of the code represents
abbrev pub part_view : Exprs → LowPart → Part
part_view exprs p = record { expr = node_expr exprs p.expr; wanted = p.wanted }

abbrev pub parts_view : Exprs → List LowPart → List Part
parts_view exprs ps = map (part_view exprs) ps

-- several lists of parts, one for each prompt or definition
abbrev pub alternatives_view : Exprs → List (Vec LowPart) → List (List Part)
alternatives_view exprs vs = map (λ (v : Vec LowPart). parts_view exprs v.items) vs

-- a part is an expression of the arena
abbrev pub IsThere : Exprs → LowPart → Type 0
IsThere exprs p = p.expr < length exprs.nodes

abbrev pub AreThere : Exprs → List (Vec LowPart) → Type 0
AreThere exprs vs = All (λ (v : Vec LowPart). All (IsThere exprs) v.items) vs
