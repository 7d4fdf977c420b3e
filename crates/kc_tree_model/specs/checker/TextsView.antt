-- The files of `Texts`, from the entries of its map.
use Rattle.std.specs.Prelude.{ℕ, List, map, String, Vec, string_bytes}
use Rattle.std.specs.declared.alloc.Global.{Global}
use Rattle.std.specs.declared.rc.Rc.{Rc}
use Rattle.kc_tokens.specs.declared.language.Language.{Language}
use Rattle.kc_tree_model.specs.TreeFiles.{Files}

-- the path and the bytes of one entry of the map in `Texts`
abbrev pub file_of : String Global × Rc (Vec ℕ Global) Global → List ℕ × List ℕ
file_of e = (string_bytes e.0, e.1.value.items)

-- the files of a language, from the entries of the map in `Texts`
abbrev pub files_of : Language → List (String Global × Rc (Vec ℕ Global) Global) → Files
files_of language entries = record { language = language; list = map file_of entries }
