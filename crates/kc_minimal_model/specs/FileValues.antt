-- The values that reading a file gives.
use Rattle.std.specs.Prelude.{◌≡◌, ◌≢◌, ℕ, Bool, true, nat_le, List, length}
use Rattle.std.specs.List.{list_all}
use Rattle.kc_tree_model.specs.Trees.{Tree}
use Rattle.kc_solver.specs.Solutions.{UniquelySolves}
use Rattle.kc_rules_model.specs.declared.profile.Profile.{Profile}
use Rattle.kc_rules_model.specs.declared.values.UnitValue.{UnitValue}
use Rattle.kc_rules_model.specs.SymbolValues.{value_of_symbol}
use Rattle.kc_rules_model.specs.Rule.{rule}
use Rattle.kc_dotconfig_model.specs.Formats.{FileFormat}
use Rattle.kc_dotconfig_model.specs.ConfigLines.{LineMeaning}
use Rattle.kc_dotconfig_model.specs.ConfigFiles.{FileMeans, file_lines, file_assignment, has_utf8_lines}
use Rattle.kc_value.specs.declared.limits.TheConstants.{MAX_LINE_BYTES}
use Rattle.kc_dotconfig_model.specs.LoadFaults.{IsAccepted}

-- each line of the configuration file is UTF-8 and not malformed, and the file's assignment gives these values and no others
pub record ReadsTo (format : FileFormat) (profile : Profile) (tree : Tree) (bytes : List ℕ) (values : List UnitValue) : Type 0 where
  pub utf8 : has_utf8_lines bytes ≡ true
  pub meanings : List LineMeaning
  pub has_meaning : FileMeans format tree bytes meanings
  pub gives : UniquelySolves (length tree.units) (rule profile tree) (file_assignment tree meanings) values

-- the configuration file is accepted, and gives these values and no others
pub record Loads (format : FileFormat) (profile : Profile) (tree : Tree) (bytes : List ℕ) (values : List UnitValue) : Type 0 where
  pub accepted : IsAccepted format tree bytes
  pub reads : ReadsTo format profile tree bytes values

-- whether each line of a configuration file has at most `MAX_LINE_BYTES` bytes
abbrev pub has_short_lines : List ℕ → Bool
has_short_lines bytes = list_all (λ (line : List ℕ). nat_le (length line) MAX_LINE_BYTES) (file_lines bytes)

-- every symbol has the same value in both valuations
abbrev pub HaveSameValues : Tree → List UnitValue → List UnitValue → Type 0
HaveSameValues tree v w = (s : ℕ) → value_of_symbol tree v s ≡ value_of_symbol tree w s

-- some symbol has different values in the two valuations
abbrev pub DifferAtASymbol : Tree → List UnitValue → List UnitValue → Type 0
DifferAtASymbol tree v w = (s : ℕ) × (value_of_symbol tree v s ≢ value_of_symbol tree w s)
