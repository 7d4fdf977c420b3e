-- The trees of files, the faults that are reported, and the paths that are wanted.
use Rattle.std.specs.Prelude.{◌≡◌, ◌⊎◌, ℕ, List, [], ◌∷◌, ◌++◌, slice_get, filter, filter_map, not, is_some, Some, Result}
use Rattle.kc_tree_model.specs.declared.fault.TreeFault.{TreeFault}
use Rattle.kc_tree_model.specs.TreeFiles.{Files, file_at, index_of_file}
use Rattle.kc_tree_model.specs.Trees.{Tree}
use Rattle.kc_tree_model.specs.Blocks.{Group, sourced_path}
use Rattle.kc_tree_model.specs.Limits.{FileSource, without_repeats}
use Rattle.kc_tree_model.specs.TreeReading.{Outcome, bytes_or_none, paths_or_fault}
use Rattle.kc_tree_model.specs.ReadingRelation.{IsWholeReading, IsCutReading, IsOutcome}
use Rattle.kc_tree_model.specs.Contents.{tree_of_groups}
use Rattle.kc_tree_model.specs.TreeFaults.{tree_faults}

-- these files as the files of a reading that begins at this first path
abbrev pub origin_of : Files → List ℕ → FileSource
origin_of files root = record { language = files.language; bytes = file_at files; number = index_of_file files; root = root }

-- these files as the files of a reading that begins at this first path, where an absent path counts as an empty file
abbrev pub lenient_origin : Files → List ℕ → FileSource
lenient_origin files root = record { language = files.language; bytes = λ path. Some (bytes_or_none files path); number = index_of_file files; root = root }

-- this is the tree of these files: they are read without a fault, the checks on the whole tree find none, and the tree is that of
-- the groups read, in the language of the files
abbrev pub IsTreeOfFiles : Files → List ℕ → Tree → Type 0
IsTreeOfFiles files root tree = (groups : List Group) × IsWholeReading (origin_of files root) groups × (tree_faults files.language groups ≡ []) × (tree ≡ tree_of_groups files.language groups)

-- this fault is reported for these files: it ends the reading, or is the first that the checks on the whole tree find
abbrev pub IsReportedFault : Files → List ℕ → TreeFault → Type 0
IsReportedFault files root fault =
    ((groups : List Group) × IsCutReading (origin_of files root) (record { read = groups; fault = Some fault }))
    ⊎ ((groups : List Group) × IsWholeReading (origin_of files root) groups × (slice_get (tree_faults files.language groups) 0 ≡ Some fault))

-- the absent paths among the first path and those that these groups source, once each, in order of first occurrence
abbrev pub absent_paths : Files → List ℕ → List Group → List (List ℕ)
absent_paths files root read = filter (λ path. not (is_some (file_at files path))) (without_repeats (filter_map sourced_path read ++ root ∷ []))

-- this result is what the reading of these files gives where an absent path counts as an empty file: the absent paths that it
-- comes to, or if there are none, the fault that ends it, if one does
abbrev pub AreWanted : Files → List ℕ → Result (List (List ℕ)) TreeFault → Type 0
AreWanted files root result = (o : Outcome) × IsOutcome (lenient_origin files root) o × (result ≡ paths_or_fault (absent_paths files root o.read) o.fault)
