-- The fewest changes that were found.
use Rattle.std.specs.Prelude.{ℕ, ◌||◌, ◌==◌, nat_le, if◌then◌else◌}

-- a number of changes, if it is less than a limit and not 0; else the limit
abbrev pub changes_or_limit : (count limit : ℕ) → ℕ
changes_or_limit count limit = if count == 0 || nat_le limit count then limit else count
