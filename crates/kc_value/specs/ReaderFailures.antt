-- How reading into memory changes the count of failures.
use Rattle.std.specs.Prelude.{ℕ}
use Rattle.kc_value.specs.declared.reader_bytes.ReadEnd.{ReadEnd}
use Rattle.kc_value.specs.declared.reader_bytes.ReadEnd.TheVariants.{AtEnd, AtLimit, AtFailure}
use Rattle.kc_value.specs.Streams.{one_failure_more}

-- the count of a reader's failures after reading into memory, by the count before and why reading ended
abbrev pub failures_after_reading : ℕ → ReadEnd → ℕ
failures_after_reading n AtEnd = n
failures_after_reading n AtLimit = n
failures_after_reading n AtFailure = one_failure_more n
