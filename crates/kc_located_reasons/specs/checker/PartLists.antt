-- Lists of parts as the code has them.
use Rattle.kc_reasons.specs.declared.low_parts.LowPart.{LowPart}
use Rattle.kc_symbol_lines.specs.declared.located.Position.{Position}
use Rattle.kc_located_reasons.specs.declared.located_parts.LocatedPart.{LocatedPart}

-- a part on the line at a place
abbrev pub part_at : Position → LowPart → LocatedPart
part_at at p = record { part = p; at = at }
