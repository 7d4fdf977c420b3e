-- A configuration file of which a part is known.
use Rattle.std.specs.Prelude.{◌≡◌, ℕ, ◌<◌, ◌≤◌, List, ◌++◌, length, true}
use Rattle.std.specs.List.{AllZip}
use Rattle.std.specs.Str.{IsUtf8}
use Rattle.kc_tree_model.specs.Trees.{Tree}
use Rattle.kc_dotconfig_model.specs.Formats.{FileFormat}
use Rattle.kc_value.specs.Lines.{has_no_byte, HasWholeLines}
use Rattle.kc_dotconfig_model.specs.ConfigLines.{LineMeaning, Means}
use Rattle.kc_tree_model.specs.LogicalLines.{without_white_end}
use Rattle.kc_dotconfig_model.specs.ConfigFiles.{file_lines}
use Rattle.kc_value.specs.declared.limits.TheConstants.{MAX_CONFIG_BYTES, MAX_CONFIG_LINES, MAX_LINE_BYTES}

-- the line has this meaning, is UTF-8, and has at most `MAX_LINE_BYTES` bytes
pub record IsSound (format : FileFormat) (tree : Tree) (line : List ℕ) (meaning : LineMeaning) : Type 0 where
  pub text : IsUtf8 line
  pub short : length line ≤ MAX_LINE_BYTES
  pub has_meaning : Means format tree (without_white_end line) meaning

-- `known` is the first part of a file, within all limits: complete lines without a fault, which have these meanings,
-- and after them `line`, which is empty or has no newline yet
pub record IsCutFile (format : FileFormat) (tree : Tree) (known line : List ℕ) (meanings : List LineMeaning) : Type 0 where
  pub front : List ℕ
  pub whole : known ≡ front ++ line
  pub ended : HasWholeLines front
  pub one_line : has_no_byte 10 line ≡ true
  pub sound : AllZip (IsSound format tree) (file_lines front) meanings
  pub few : length meanings ≤ MAX_CONFIG_LINES
  pub room : 0 < length line → length meanings < MAX_CONFIG_LINES
  pub small : length known ≤ MAX_CONFIG_BYTES
  pub short : length line ≤ MAX_LINE_BYTES
