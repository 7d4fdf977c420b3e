-- The lines of a symbol as the code has them.
use Rattle.std.specs.Prelude.{◌<◌, List, length, map, All}
use Rattle.std.specs.Global.{Vec}
use Rattle.kc_expr.specs.between.Arena.{Exprs, node_expr}
use Rattle.kc_tree_model.specs.Blocks as model
use Rattle.kc_reasons_model.specs.Places as model_places
use Rattle.kc_reasons_model.specs.SymbolLines as model_lines
use Rattle.kc_symbol_lines.specs.declared.located.Position.{Position}
use Rattle.kc_symbol_lines.specs.declared.located.LocatedExpr.{LocatedExpr}
use Rattle.kc_symbol_lines.specs.declared.located.SymbolLines.{SymbolLines}

-- the place that one of the code represents
abbrev pub position_view : Position → model.Position
position_view p = record { file = p.file; line = p.line }

-- the expression with its place that one of the code represents
abbrev pub located_view : Exprs → LocatedExpr → model_places.LocatedExpr
located_view exprs p = record { expr = node_expr exprs p.expr; at = position_view p.at; of_choice = p.of_choice }

abbrev pub all_located : Exprs → List LocatedExpr → List model_places.LocatedExpr
all_located exprs ps = map (located_view exprs) ps

-- several lists of parts, one for each prompt or definition
abbrev pub each_located : Exprs → List (Vec LocatedExpr) → List (List model_places.LocatedExpr)
each_located exprs vs = map (λ (v : Vec LocatedExpr). all_located exprs v.items) vs

-- the lines that those of the code represent
abbrev pub symbol_lines_view : Exprs → SymbolLines → model_lines.SymbolLines
symbol_lines_view exprs l = record {
  prompts = each_located exprs l.prompts.items;
  direct = each_located exprs l.direct.items;
  defaults = map position_view l.defaults.items;
  ranges = map position_view l.ranges.items;
  selectors = map position_view l.selectors.items;
  impliers = map position_view l.impliers.items;
}

-- a part is an expression of the arena
abbrev pub IsHeld : Exprs → LocatedExpr → Type 0
IsHeld exprs p = p.expr < length exprs.nodes

abbrev pub AreHeld : Exprs → List (Vec LocatedExpr) → Type 0
AreHeld exprs vs = All (λ (v : Vec LocatedExpr). All (IsHeld exprs) v.items) vs
