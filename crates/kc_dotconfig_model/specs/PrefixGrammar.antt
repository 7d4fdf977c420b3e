-- Names and prefixes in configuration files.
use Rattle.std.specs.Prelude.{ℕ, Bool, ◌&&◌, nat_lt, nat_le, List, length}
use Rattle.std.specs.List.{list_all}
use Rattle.kc_value.specs.declared.limits.TheConstants.{MAX_PREFIX_BYTES}
use Rattle.kc_tokens.specs.Token.{is_name_byte}

-- whether a text can come before the names in configuration files: at most `MAX_PREFIX_BYTES` letters, digits and `_`; the empty
-- text where names are there as in the tree
abbrev pub is_name_prefix : List ℕ → Bool
is_name_prefix text = nat_le (length text) MAX_PREFIX_BYTES && list_all is_name_byte text

-- whether a text can be the prefix of names: 1 to `MAX_PREFIX_BYTES` letters, digits and `_`
abbrev pub is_prefix : List ℕ → Bool
is_prefix text = nat_lt 0 (length text) && is_name_prefix text
