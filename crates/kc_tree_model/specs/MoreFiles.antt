-- Readings of a tree with more files.
use Rattle.std.specs.Prelude.{◌≡◌, ◌≢◌, ℕ, List, Option, Some}
use Rattle.kc_tokens.specs.declared.language.Language.{Language}
use Rattle.kc_tree_model.specs.declared.fault.TreeKind.TheVariants.{MissingFile}
use Rattle.kc_tree_model.specs.declared.fault.TreeFault.{TreeFault}
use Rattle.kc_tree_model.specs.Limits.{FileSource}
use Rattle.kc_tree_model.specs.TreeReading.{Outcome, read_root}

-- the outcome of reading a tree from its first file on
abbrev pub reading_from : FileSource → Outcome
reading_from r = read_root r (r.bytes r.root)

-- a reading with this outcome doesn't end at a missing file
abbrev pub LacksNoFile : Outcome → Type 0
LacksNoFile o = (fault : TreeFault) → o.fault ≡ Some fault → fault.kind ≢ MissingFile

-- each file of the first function from paths to bytes is a file of the second, with the same bytes
abbrev pub AreAmong : (bytes more : List ℕ → Option (List ℕ)) → Type 0
AreAmong bytes more = (path text : List ℕ) → bytes path ≡ Some text → more path ≡ Some text

-- the reading of a tree is the same with more files, unless it ends at a missing file
abbrev pub MoreFilesChangeNothing : Type 0
MoreFilesChangeNothing = (language : Language) (bytes more : List ℕ → Option (List ℕ)) (number : List ℕ → ℕ) (root : List ℕ) → AreAmong bytes more
    → LacksNoFile (reading_from (record { language = language; bytes = bytes; number = number; root = root }))
    → reading_from (record { language = language; bytes = more; number = number; root = root }) ≡ reading_from (record { language = language; bytes = bytes; number = number; root = root })
