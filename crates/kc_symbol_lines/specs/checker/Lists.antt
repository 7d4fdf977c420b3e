-- Lists of lists.
use Rattle.std.specs.Prelude.{List, map}
use Rattle.std.specs.Global.{Vec}
use Rattle.kc_symbol_lines.specs.declared.located.LocatedExpr.{LocatedExpr}

-- the items of each list
abbrev pub each_items : List (Vec LocatedExpr) → List (List LocatedExpr)
each_items vs = map (λ (v : Vec LocatedExpr). v.items) vs
