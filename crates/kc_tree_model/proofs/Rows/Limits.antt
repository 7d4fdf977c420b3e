-- Rows on limits: their values, and whether one more definition is too many at the limit of symbols and past it.
use Rattle.std.proofs.Common.{filter_map}
use Rattle.std.specs.Prelude.{◌&&◌, not}
use Rattle.kc_value.specs.declared.limits.TheConstants.{MAX_CHOICES, MAX_OPEN_BLOCKS}
use Rattle.kc_tree_model.proofs.Common.{true, false, ◌≡◌, List, length, refl, ap, ◌∙◌, codes, nat_le, MAX_SYMBOLS, MAX_FILES, MAX_TREE_BYTES, MAX_LINE_BYTES, MAX_NAME_BYTES, MAX_OPEN_FILES, config, head, Group, defined_name, is_too_many, is_in_list, names_defined}

limits : (MAX_SYMBOLS ≡ 1000000) × (MAX_CHOICES ≡ 4096) × (MAX_FILES ≡ 4096) × (MAX_TREE_BYTES ≡ 67108864)
    × (MAX_LINE_BYTES ≡ 65536) × (MAX_NAME_BYTES ≡ 256) × (MAX_OPEN_FILES ≡ 32) × (MAX_OPEN_BLOCKS ≡ 64)
limits = (refl, refl, refl, refl, refl, refl, refl, refl)

new_symbol_at_the_limit : (read : List Group) → is_in_list (codes "A") (filter_map defined_name read) ≡ false → length (names_defined read) ≡ 999999
    → is_too_many read (head (config (codes "A"))) ≡ false
new_symbol_at_the_limit read h k = ap (λ b. not b && nat_le 1000000 (length (names_defined read))) h ∙ ap (nat_le 1000000) k

new_symbol_past_the_limit : (read : List Group) → is_in_list (codes "A") (filter_map defined_name read) ≡ false → length (names_defined read) ≡ 1000000
    → is_too_many read (head (config (codes "A"))) ≡ true
new_symbol_past_the_limit read h k = ap (λ b. not b && nat_le 1000000 (length (names_defined read))) h ∙ ap (nat_le 1000000) k

known_symbol_past_the_limit : (read : List Group) → is_in_list (codes "A") (filter_map defined_name read) ≡ true
    → is_too_many read (head (config (codes "A"))) ≡ false
known_symbol_past_the_limit read h = ap (λ b. not b && nat_le 1000000 (length (names_defined read))) h
