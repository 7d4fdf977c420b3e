-- The bytes of a prefix.
use Rattle.std.specs.Prelude.{ℕ, List, take}
use Rattle.kc_dotconfig_model.specs.declared.prefix.Prefix.{Prefix}

-- the bytes of a prefix, without the unused end of its array
abbrev pub prefix_bytes : Prefix → List ℕ
prefix_bytes prefix = take prefix.len prefix.bytes
