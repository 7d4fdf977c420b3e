-- The view of an arena's fields.
use Rattle.kc_expr.specs.declared.arena.Arena.TheInside.{Inside}
use Rattle.kc_expr.specs.between.Arena.{Exprs}
use Rattle.kc_expr.specs.checker.Store.{exprs_in, IsSound}

-- what contracts see of an arena, from its fields: its names, and the expression that each of its nodes represents
abbrev pub exprs_view : Inside → Exprs
exprs_view a = exprs_in a.store

-- the store in an arena's fields is sound: its nodes refer only to what exists, no name is held twice, numbers have 32 bits
abbrev pub holds_sound : Inside → Type 0
holds_sound a = IsSound a.store
