-- The parts of conditions with their places, as the code has them.
use Rattle.std.specs.Prelude.{◌<◌, List, length, map, All}
use Rattle.std.specs.Global.{Vec}
use Rattle.kc_expr.specs.between.Arena.{Exprs}
use Rattle.kc_reasons.specs.between.Parts.{part_view, IsThere}
use Rattle.kc_symbol_lines.specs.between.LinesView.{position_view}
use Rattle.kc_located_reasons.specs.LocatedNeeds as model
use Rattle.kc_located_reasons.specs.declared.located_parts.LocatedPart.{LocatedPart}

-- the part that one of the code represents
abbrev pub located_part_view : Exprs → LocatedPart → model.LocatedPart
located_part_view exprs p = record { part = part_view exprs p.part; at = position_view p.at }

abbrev pub located_parts_view : Exprs → List LocatedPart → List model.LocatedPart
located_parts_view exprs ps = map (located_part_view exprs) ps

-- several lists of parts, one for each prompt or definition
abbrev pub located_alternatives_view : Exprs → List (Vec LocatedPart) → List (List model.LocatedPart)
located_alternatives_view exprs vs = map (λ (v : Vec LocatedPart). located_parts_view exprs v.items) vs

-- a part is an expression of the arena
abbrev pub IsPartThere : Exprs → LocatedPart → Type 0
IsPartThere exprs p = IsThere exprs p.part

abbrev pub ArePartsThere : Exprs → List (Vec LocatedPart) → Type 0
ArePartsThere exprs vs = All (λ (v : Vec LocatedPart). All (IsPartThere exprs) v.items) vs
