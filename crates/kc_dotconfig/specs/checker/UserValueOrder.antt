-- User values in ascending order of units.
use Rattle.std.specs.Prelude.{ℕ, zero, suc, ◌+◌, ◌<◌, slice_index, List, [], ◌∷◌, map}
use Rattle.kc_rules_model.specs.declared.values.UserValue.{UserValue}

-- all units of a list of user values are greater than this unit
abbrev pub AreAbove : ℕ → List (ℕ × UserValue) → Type 0
AreAbove u [] = Unit {0}
AreAbove u (e ∷ es) = (u < e.0) × AreAbove u es

-- the units of a list of user values ascend without repeats
abbrev pub IsAscending : List (ℕ × UserValue) → Type 0
IsAscending [] = Unit {0}
IsAscending (e ∷ es) = AreAbove e.0 es × IsAscending es

-- all units of a list of user values are below a number
abbrev pub AreBelow : ℕ → List (ℕ × UserValue) → Type 0
AreBelow n [] = Unit {0}
AreBelow n (e ∷ es) = (e.0 < n) × AreBelow n es

-- the units to which a list of user values assigns, in order
abbrev pub units_of : List (ℕ × UserValue) → List ℕ
units_of assigns = map (λ (a : ℕ × UserValue). a.0) assigns

-- the least unit that a list of strictly ascending units can have at an index: one more than the preceding unit, or 0
abbrev pub next_at : List ℕ → ℕ → ℕ
next_at units zero = 0
next_at units (suc k) = slice_index units k + 1
