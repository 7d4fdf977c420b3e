-- The limit and the work of the bytes that are stored for a variable.
use Rattle.std.specs.Prelude.{ℕ}
use Rattle.kc_macros_model.specs.Programs.{Place, Program}
use Rattle.kc_macros_model.specs.Expansion.{unless_too_long}
use Rattle.kc_macros.specs.checker.Events.{spent}

-- the program that spends the work of storing this many bytes for a variable, or fails if they are too many
abbrev pub stored_bytes : Place → ℕ → Program (Unit {0})
stored_bytes at n = unless_too_long at n (spent at n)
