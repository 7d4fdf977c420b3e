-- Statements and files that pass a limit of a tree; the limits are the constants of `kc_value::limits`.
use Rattle.std.specs.Prelude.{ℕ, ◌+◌, Bool, false, not, ◌&&◌, ◌||◌, nat_le, nat_lt, List, [], ◌∷◌, ◌++◌, length, filter, filter_map, sum_by, Option, Some, None, is_some, bytes_eq, if◌then◌else◌}
use Rattle.std.specs.List.{list_any}
use Rattle.kc_value.specs.declared.limits.TheConstants.{MAX_SYMBOLS, MAX_CHOICES, MAX_NAME_BYTES, MAX_OPEN_BLOCKS}
use Rattle.kc_tokens.specs.declared.language.Language.{Language}
use Rattle.kc_tree_model.specs.declared.fault.TreeKind.{TreeKind}
use Rattle.kc_tree_model.specs.declared.source_faults.TheConstants.{TREE_KINDS}
use Rattle.kc_tree_model.specs.SourceFaults.{fault_of_source}
use Rattle.kc_tree_model.specs.Statements.{Head, block_of_head, Attribute, Statement}
use Rattle.kc_tree_model.specs.declared.statement.Head.TheVariants.{Config as config, Choice as choice}
use Rattle.kc_tree_model.specs.declared.statement.Attribute.TheVariants.{Select as select, Imply as imply}
use Rattle.kc_tree_model.specs.declared.statement.Statement.TheVariants.{Head as head, Attribute as attribute}
use Rattle.kc_tree_model.specs.Blocks.{Group, open_blocks, opened_block, defined_name, sourced_path, opens_choice}

-- whether a text is in a list of texts
abbrev pub is_in_list : List ℕ → List (List ℕ) → Bool
is_in_list x xs = list_any (λ y. bytes_eq y x) xs

-- the texts of a list (newest first) without repeats, in order of first occurrence (oldest first)
abbrev pub without_repeats : List (List ℕ) → List (List ℕ)
without_repeats [] = []
without_repeats (x ∷ xs) = if is_in_list x xs then without_repeats xs else without_repeats xs ++ x ∷ []

-- the names of the symbols that these groups (newest first) define, in order of first definition
abbrev pub names_defined : List Group → List (List ℕ)
names_defined read = without_repeats (filter_map defined_name read)

-- whether a name has more than MAX_NAME_BYTES bytes
abbrev pub is_long_name : List ℕ → Bool
is_long_name name = nat_lt MAX_NAME_BYTES (length name)

-- whether a statement after these groups adds one symbol or choice more than a tree may have, or defines a name that is too long
abbrev pub too_many_by_head : List Group → Head → Bool
too_many_by_head read (config name) = is_long_name name || (not (is_in_list name (filter_map defined_name read)) && nat_le MAX_SYMBOLS (length (names_defined read)))
too_many_by_head read choice = nat_le MAX_CHOICES (length (filter opens_choice read))
too_many_by_head read h = false

-- whether an attribute selects or implies a name that is too long
abbrev pub too_many_by_attribute : Attribute → Bool
too_many_by_attribute (select s) = is_long_name s.name
too_many_by_attribute (imply s) = is_long_name s.name
too_many_by_attribute a = false

-- whether a statement or attribute after these groups passes the limit of symbols, of choices or of a name's bytes
abbrev pub is_too_many : List Group → Statement → Bool
is_too_many read (head h) = too_many_by_head read h
is_too_many read (attribute a) = too_many_by_attribute a

-- whether a statement after these groups opens one block more than may be open at once, over all open files
abbrev pub is_too_deep : List Group → Statement → Bool
is_too_deep read (head h) = is_some (block_of_head h) && nat_le MAX_OPEN_BLOCKS (length (filter_map opened_block (open_blocks 0 read)))
is_too_deep read (attribute a) = false

-- the files of a reading: their language, the bytes of a path (None if absent), its number among the files, and the first path
pub record FileSource : Type 0 where
  pub language : Language
  pub bytes : List ℕ → Option (List ℕ)
  pub number : List ℕ → ℕ
  pub root : List ℕ

-- the bytes of the file at a path, or no bytes if it is absent
abbrev pub bytes_in : FileSource → List ℕ → List ℕ
bytes_in r path = elim (r.bytes path) [ None ↦ [] | Some bytes ↦ bytes ]

-- how many bytes the file at a path has, 0 if it is absent
abbrev pub size_in : FileSource → List ℕ → ℕ
size_in r path = length (bytes_in r path)

-- the paths of the files that are open after these groups (newest first): that of the tree's first file, then those of the open
-- sourced files, innermost first
abbrev pub open_files : FileSource → List Group → List (List ℕ)
open_files r read = r.root ∷ filter_map sourced_path (open_blocks 0 read)

-- the paths of all files that were read up to these groups, each as often as it was read
abbrev pub files_read : FileSource → List Group → List (List ℕ)
files_read r read = r.root ∷ filter_map sourced_path read

-- the kind of the first fault of a `source` of this path after these groups, or None if it has no fault
unfoldable pub source_fault : FileSource → List Group → List ℕ → Option TreeKind
source_fault r read path = fault_of_source TREE_KINDS (is_in_list path (open_files r read)) (is_some (r.bytes path)) (length (open_files r read)) (length (files_read r read)) (sum_by (size_in r) (files_read r read) + size_in r path)
