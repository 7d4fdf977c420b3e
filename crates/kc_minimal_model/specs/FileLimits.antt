-- The limits that written files keep.
use Rattle.std.specs.Prelude.{◌≡◌, ◌≤◌, ℕ, true, List, length, map}
use Rattle.kc_tree_model.specs.Trees.{Tree}
use Rattle.kc_rules_model.specs.declared.profile.Profile.{Profile}
use Rattle.kc_rules_model.specs.declared.values.UnitValue.{UnitValue}
use Rattle.kc_rules_model.specs.SettledTrees.{IsSettledTree}
use Rattle.kc_dotconfig_model.specs.Formats.{FileFormat}
use Rattle.kc_dotconfig_model.specs.PrefixGrammar.{is_name_prefix}
use Rattle.kc_value.specs.declared.limits.TheConstants.{MAX_CONFIG_BYTES, MAX_CONFIG_LINES}
use Rattle.kc_dotconfig_model.specs.LoadFaults.{IsAccepted}
use Rattle.kc_dotconfig_model.specs.ConfigFiles.{file_lines}
use Rattle.kc_minimal_model.specs.SymbolLine.{symbol_line}
use Rattle.kc_minimal_model.specs.MinimalFileLaws.{ForSolutions}
use Rattle.kc_minimal_model.specs.MinimalFile.{minimal_file, minimal_symbols}
use Rattle.kc_minimal_model.specs.FileValues.{ReadsTo, Loads, has_short_lines}

-- the lines of a minimal file are its symbols' lines, in order
abbrev pub MinimalFileLines : Type 0
MinimalFileLines = (format : FileFormat) → is_name_prefix format.prefix ≡ true
    → ForSolutions (λ profile tree values. file_lines (minimal_file format profile tree values)
    ≡ map (symbol_line format tree values) (minimal_symbols profile tree values))

-- a configuration file whose lines are UTF-8 and not malformed is accepted if it is within the limits of bytes, lines
-- and line lengths
abbrev pub ReadFilesAreAccepted : Type 0
ReadFilesAreAccepted = (format : FileFormat) (profile : Profile) (tree : Tree) (bytes : List ℕ) (values : List UnitValue)
    → ReadsTo format profile tree bytes values → length bytes ≤ MAX_CONFIG_BYTES → length (file_lines bytes) ≤ MAX_CONFIG_LINES
    → has_short_lines bytes ≡ true → IsAccepted format tree bytes

-- the minimal file of an accepted file is accepted and gives the same values, if it is within the limit of bytes
abbrev pub MinimalFilesAreAccepted : Type 0
MinimalFilesAreAccepted = (format : FileFormat) (profile : Profile) (tree : Tree) (bytes : List ℕ) (values : List UnitValue)
    → is_name_prefix format.prefix ≡ true → IsSettledTree tree → Loads format profile tree bytes values
    → length (minimal_file format profile tree values) ≤ MAX_CONFIG_BYTES
    → Loads format profile tree (minimal_file format profile tree values) values
