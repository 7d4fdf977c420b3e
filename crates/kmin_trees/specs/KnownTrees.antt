-- The tree that known files determine.
use Rattle.std.specs.Prelude.{◌≡◌, ◌≢◌, ℕ, List, [], Option, Some, None, take}
use Rattle.kc_value.specs.declared.limits.TheConstants.{MAX_FILE_BYTES}
use Rattle.kc_value.specs.FileContents.{FileContent, unknown, absent, known}
use Rattle.kc_tokens.specs.declared.language.Language.{Language}
use Rattle.kc_tree_model.specs.TreeFiles.{Files, index_of_file}
use Rattle.kc_tree_model.specs.Trees.{Tree}
use Rattle.kc_tree_model.specs.Blocks.{Group}
use Rattle.kc_tree_model.specs.ReadingRelation.{IsWholeReading}
use Rattle.kc_tree_model.specs.Contents.{tree_of_groups}
use Rattle.kc_tree_model.specs.TreeFaults.{tree_faults}
use Rattle.kmin_inputs.specs.FileContents.{AreTextsBelow, path_below}
use Rattle.kmin_trees.specs.AcceptedTrees.{AreAccepted}

-- the known bytes of a file, but no more than the first `MAX_FILE_BYTES`; `None` if they aren't known, or the file can't be
-- opened
abbrev pub known_bytes : FileContent → Option (List ℕ)
known_bytes unknown = None
known_bytes absent = None
known_bytes (known bytes) = Some (take MAX_FILE_BYTES bytes)

-- this is the tree in this language whose first file is at the path `first`, where a file at a path has these bytes and this
-- number: the files are read without a fault, and the checks on the whole tree find none
abbrev pub IsTreeOfBytes : Language → (bytes : List ℕ → Option (List ℕ)) → (number : List ℕ → ℕ) → (first : List ℕ) → Tree → Type 0
IsTreeOfBytes language bytes number first tree = (groups : List Group) × IsWholeReading (record { language = language; bytes = bytes; number = number; root = first }) groups
    × (tree_faults language groups ≡ []) × (tree ≡ tree_of_groups language groups)

-- Where the file at each path below the root is known, all texts that are accepted have the tree of the known bytes, with the
-- numbers that the texts give to the files.
abbrev pub KnownFilesDetermineTheTree : Type 0
KnownFilesDetermineTheTree = (content_of : List ℕ → FileContent) (root first : List ℕ) (texts : Files) (tree : Tree)
    → ((path : List ℕ) → content_of (path_below root path) ≢ unknown) → AreTextsBelow content_of root texts.language texts → AreAccepted texts first tree
    → IsTreeOfBytes texts.language (λ path. known_bytes (content_of (path_below root path))) (index_of_file texts) first tree

-- bytes have at most one tree in a language, for given numbers of files
abbrev pub BytesHaveOneTree : Type 0
BytesHaveOneTree = (language : Language) (bytes : List ℕ → Option (List ℕ)) (number : List ℕ → ℕ) (first : List ℕ) (tree other : Tree)
    → IsTreeOfBytes language bytes number first tree → IsTreeOfBytes language bytes number first other → tree ≡ other
