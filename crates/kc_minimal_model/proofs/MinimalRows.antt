-- Minimal files of small trees.
use Rattle.kc_minimal_model.proofs.Common.{◌≡◌, ℕ, [], ◌∷◌, Some, refl, codes, Present, UnitValue, n, m, y, tree_a, tree_lifted, tree_pick, Escaped, FileFormat, minimal_file}
use Rattle.kc_rules_model.specs.declared.values.UnitValue.TheVariants.{Member as MemberValue}
use Rattle.kc_rules_model.specs.Rule.{rule}
use Rattle.kc_rules_model.proofs.RowTrees.{text, tree_default_y, tree_default_n, tree_string, tree_chain, tree_hidden}
use Rattle.kc_minimal_model.specs.SymbolLine.{symbol_line}

abbrev config : FileFormat
config = record { prefix = codes "CONFIG_"; strings = Escaped }

abbrev picks : ℕ → UnitValue
picks s = MemberValue (Some s)

without_user_values : (minimal_file config Present tree_a (n ∷ []) ≡ [])
    × (minimal_file config Present tree_default_y (y ∷ []) ≡ [])
    × (minimal_file config Present tree_hidden (y ∷ []) ≡ [])
unfolding rule symbol_line
without_user_values = (refl, refl, refl)

against_defaults : (minimal_file config Present tree_default_y (n ∷ []) ≡ codes "# CONFIG_A is not set\n")
    × (minimal_file config Present tree_default_n (y ∷ []) ≡ codes "CONFIG_A=y\n")
unfolding rule symbol_line
against_defaults = (refl, refl)

-- a default above the visibility has no line; the value below it has one
below_a_lifted_default : (minimal_file config Present tree_lifted (y ∷ m ∷ y ∷ []) ≡ [])
    × (minimal_file config Present tree_lifted (y ∷ m ∷ m ∷ []) ≡ codes "CONFIG_A=m\n")
unfolding rule symbol_line
below_a_lifted_default = (refl, refl)

strings : (minimal_file config Present tree_string (text (codes "x") ∷ []) ≡ [])
    × (minimal_file config Present tree_string (text [] ∷ []) ≡ codes "CONFIG_S=\"\"\n")
    × (minimal_file config Present tree_string (text (codes "a\"b\\c") ∷ []) ≡ codes "CONFIG_S=\"a\\\"b\\\\c\"\n")
unfolding rule symbol_line
strings = (refl, refl, refl)

-- of a choice the selected member alone; lines are in order of definition
choices : (minimal_file config Present tree_pick (picks 1 ∷ n ∷ []) ≡ [])
    × (minimal_file config Present tree_pick (picks 2 ∷ y ∷ []) ≡ codes "CONFIG_C=y\nCONFIG_X=y\n")
unfolding rule symbol_line
choices = (refl, refl)

along_a_chain : minimal_file config Present tree_chain (y ∷ y ∷ y ∷ []) ≡ codes "CONFIG_A=y\nCONFIG_C=y\n"
unfolding rule symbol_line
along_a_chain = refl
