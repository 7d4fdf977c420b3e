-- The functions of `LineMeanings` give exactly the meanings of lines and files.
use Rattle.std.specs.Prelude.{◌≡◌, ◌↔◌, ℕ, true, List, Some}
use Rattle.kc_tree_model.specs.Trees.{Tree}
use Rattle.kc_dotconfig_model.specs.Formats.{FileFormat}
use Rattle.kc_dotconfig_model.specs.PrefixGrammar.{is_name_prefix}
use Rattle.kc_dotconfig_model.specs.ConfigLines.{LineMeaning, Means}
use Rattle.kc_dotconfig_model.specs.ConfigFiles.{FileMeans}
use Rattle.kc_dotconfig_model.specs.between.LineMeanings.{line_meaning, file_meanings}

-- `line_meaning` gives a meaning for a line exactly if the line has that meaning
abbrev pub LinesAreRead : Type 0
LinesAreRead = (format : FileFormat) (tree : Tree) (line : List ℕ) (meaning : LineMeaning) → is_name_prefix format.prefix ≡ true
    → (line_meaning format tree line ≡ Some meaning) ↔ Means format tree line meaning

-- `file_meanings` gives a list of meanings for a file exactly if the lines of the file have those meanings
abbrev pub FilesAreRead : Type 0
FilesAreRead = (format : FileFormat) (tree : Tree) (bytes : List ℕ) (meanings : List LineMeaning) → is_name_prefix format.prefix ≡ true
    → (file_meanings format tree bytes ≡ Some meanings) ↔ FileMeans format tree bytes meanings
