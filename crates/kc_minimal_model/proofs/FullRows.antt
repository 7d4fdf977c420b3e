-- Full files of small trees, byte for byte.
use Rattle.kc_minimal_model.proofs.Common.{◌≡◌, ℕ, [], ◌∷◌, Some, None, refl, codes, Tree, UnitValue, n, m, y, tree_a, tree_lifted, tree_pick, Escaped, FileFormat, heading, full_file}
use Rattle.kc_value.specs.declared.value.Kind.TheVariants.{Bool as Boolean}
use Rattle.kc_rules_model.specs.declared.values.UnitValue.TheVariants.{Member as MemberValue}
use Rattle.kc_rules_model.proofs.RowTrees.{always, name, otherwise, plain, three_symbols, tree_shown_if, tree_menu}
use Rattle.kc_minimal_model.specs.SymbolLine.{symbol_line}

abbrev config : FileFormat
config = record { prefix = codes "CONFIG_"; strings = Escaped }

abbrev picks : ℕ → UnitValue
picks s = MemberValue (Some s)

-- config A / bool "a" / default y / config B / bool "b" / depends on A / config C / bool / default B
abbrev tree_three : Tree
tree_three =
    three_symbols (plain (codes "A") Boolean (always ∷ []) (otherwise always ∷ []))
    (record (plain (codes "B") Boolean (name (codes "A") ∷ []) []) { direct = name (codes "A") ∷ [] })
    (plain (codes "C") Boolean [] (otherwise (name (codes "B")) ∷ []))

plain_symbols : (full_file config tree_three (y ∷ y ∷ y ∷ []) ≡ codes "CONFIG_A=y\nCONFIG_B=y\nCONFIG_C=y\n")
    × (full_file config tree_a (n ∷ []) ≡ codes "# CONFIG_A is not set\n")
    × (full_file config tree_lifted (y ∷ m ∷ y ∷ []) ≡ codes "CONFIG_MODULES=y\nCONFIG_D=m\nCONFIG_A=y\n")
unfolding symbol_line
plain_symbols = (refl, refl, refl)

choices : (full_file config tree_pick (picks 1 ∷ n ∷ []) ≡ codes "# CONFIG_A is not set\nCONFIG_B=y\n# CONFIG_X is not set\n")
    × (full_file config tree_shown_if (MemberValue None ∷ n ∷ n ∷ []) ≡ codes "# CONFIG_X is not set\n")
    × (full_file config tree_shown_if (picks 0 ∷ y ∷ y ∷ []) ≡ codes "CONFIG_A=y\nCONFIG_B=y\nCONFIG_X=y\n")
unfolding symbol_line
choices = (refl, refl, refl)

headings : full_file config tree_menu (n ∷ n ∷ n ∷ [])
    ≡ codes "# CONFIG_A is not set\n\n#\n# Net\n#\n# CONFIG_B is not set\n# end of Net\n\n# CONFIG_C is not set\n\n#\n# done\n#\n"
unfolding symbol_line
headings = refl

-- where names have no prefix
abbrev bare : FileFormat
bare = record { prefix = []; strings = Escaped }

without_prefix : (full_file bare tree_menu (n ∷ y ∷ n ∷ [])
    ≡ codes "# A is not set\n\n#\n# Net\n#\nB=y\n# end of Net\n\n# C is not set\n\n#\n# done\n#\n")
    × (full_file bare tree_lifted (y ∷ m ∷ y ∷ []) ≡ codes "MODULES=y\nD=m\nA=y\n")
unfolding symbol_line
without_prefix = (refl, refl)

-- a second space comes where `# TITLE` would be an unset line, and with a prefix before each title that begins with it
second_spaces : (heading [] (codes "A is not set") ≡ codes "\n#\n#  A is not set\n#\n")
    × (heading [] (codes "no:name is not set \t") ≡ codes "\n#\n#  no:name is not set \t\n#\n")
    × (heading [] (codes "A is not set yet") ≡ codes "\n#\n# A is not set yet\n#\n")
    × (heading [] (codes " is not set") ≡ codes "\n#\n#  is not set\n#\n")
    × (heading [] (codes "A B is not set") ≡ codes "\n#\n# A B is not set\n#\n")
    × (heading [] [] ≡ codes "\n#\n# \n#\n")
    × (heading (codes "CONFIG_") (codes "A is not set") ≡ codes "\n#\n# A is not set\n#\n")
    × (heading (codes "CONFIG_") (codes "CONFIG_ of A") ≡ codes "\n#\n#  CONFIG_ of A\n#\n")
second_spaces = (refl, refl, refl, refl, refl, refl, refl, refl)
