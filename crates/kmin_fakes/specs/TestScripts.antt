use Rattle.std.specs.Prelude.{ℕ, List, Option, Some, None}
use Rattle.kmin_fakes.specs.declared.test_streams.Then.{Then}
use Rattle.kmin_fakes.specs.declared.test_streams.Then.TheVariants.{Again}

-- the bytes that a `Script` has left to give; None, which means unknown, if the `Script` begins again after its last byte
abbrev pub script_bytes_left : Then → List ℕ → Option (List ℕ)
script_bytes_left Again bytes = None
script_bytes_left _ bytes = Some bytes
