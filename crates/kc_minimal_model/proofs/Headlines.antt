-- The headline, over the bytes of two files.
use Rattle.kc_minimal_model.proofs.Common.{◌≡◌, ℕ, true, List, length, subst, sym, Tree, Files, IsConsistent, IsTreeOfFiles, tree_related, HasNoCycle, Profile, ordered_tree, solutions_fit, FileFormat, is_name_prefix, file_assignment, IsAccepted, AreComparedByMinimalFiles}
use Rattle.kc_tree_model.proofs.Consistency.Consistent.{tree_is_consistent}
use Rattle.kc_rules_model.specs.Dependencies.{dependencies}
use Rattle.kc_rules_model.specs.SettledTrees.{IsSettledTree}
use Rattle.kc_dotconfig_model.proofs.AcceptedFiles.{accepted_read}
use Rattle.kc_dotconfig_model.proofs.AcceptedLines.{accepted_utf8}
use Rattle.kc_minimal_model.specs.Headline.{MinimalFilesAreCanonical, DifferencesDecideMinimalFiles, Headline}
use Rattle.kc_minimal_model.proofs.DifferenceLaws.{differences_are_exact}
use Rattle.kc_minimal_model.proofs.Canonical.{fits_of, each, same_files}
use Rattle.kc_minimal_model.proofs.MinimalTexts.{canonical_text}

pub canonical : MinimalFilesAreCanonical
canonical format profile tree bytes valid settled accepted =
    let ordered = ordered_tree tree settled in
    let meanings = accepted_read format tree bytes valid accepted in
    let utf8 = accepted_utf8 format tree bytes valid accepted in
    let found = each format valid profile tree ordered bytes meanings.0 utf8 meanings.1 in
    let reads = found.1 in
    let fits = fits_of format valid profile tree ordered bytes reads.meanings reads.utf8 reads.has_meaning in
    record {
      values = found.0;
      loads = record { accepted = accepted; reads = reads };
      canonical = canonical_text format valid profile tree ordered (file_assignment tree reads.meanings) found.0 fits reads.gives.solves;
    }

pub compared : (format : FileFormat) (profile : Profile) (tree : Tree) (a b : List ℕ) → is_name_prefix format.prefix ≡ true → IsSettledTree tree
    → IsAccepted format tree a
    → IsAccepted format tree b → AreComparedByMinimalFiles format profile tree a b
compared format profile tree a b valid settled accepted_a accepted_b =
    let left = canonical format profile tree a valid settled accepted_a in
    let right = canonical format profile tree b valid settled accepted_b in
    record { left = left; right = right; same = left.canonical.same b right.values right.loads.reads }

pub differences_decide_files : DifferencesDecideMinimalFiles
differences_decide_files format profile tree a b left right valid settled fits_a fits_b gives_a gives_b =
    let ordered = ordered_tree tree settled in
    let exact = differences_are_exact tree left right settled.consistent (solutions_fit profile tree ordered a fits_a left gives_a.solves)
    (solutions_fit profile tree ordered b fits_b right gives_b.solves) in
    let equal = same_files format valid profile tree ordered a b left right fits_a fits_b gives_a.solves gives_b.solves in
    (λ none. equal.0 (exact.0 none), λ files. exact.1 (equal.1 files))

-- the tree of some files is settled if its units have no cycle
pub settled_tree : (files : Files) (root : List ℕ) (tree : Tree) → IsTreeOfFiles files root tree → HasNoCycle (length tree.units) (dependencies tree)
    → IsSettledTree tree
settled_tree files root tree read acyclic =
    let found = (tree_related files root tree).1 read in
    record { consistent = subst IsConsistent (sym found.1) (tree_is_consistent files root found.0); acyclic = acyclic }

pub headline : Headline
headline files root tree format profile a b valid read acyclic accepted_a accepted_b =
    compared format profile tree a b valid (settled_tree files root tree read acyclic) accepted_a accepted_b
