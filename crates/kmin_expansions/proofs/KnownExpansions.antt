-- The texts of an expanded tree are those of the known tree.
use Rattle.std.proofs.Common.{◌≡◌, Bool, true, false, cond, List, [], Some, None, sym, ap, ◌∙◌}
use Rattle.std.specs.Prelude.{map}
use Rattle.std.specs.Str.{is_utf8}
use Rattle.kc_value.specs.FileContents.{FileContent, unknown, absent}
use Rattle.kc_files.specs.TreeContents.{FolderContent}
use Rattle.kc_macros_model.specs.Programs.{Notice}
use Rattle.kc_expansion.proofs.KnownExpansions.{known_files_determine}
use Rattle.kmin_inputs.specs.FileContents.{path_below}
use Rattle.kmin_expansions.specs.TreeFolders.{contents_below}
use Rattle.kmin_expansions.specs.KnownExpansions.{KnownFilesDetermineTheExpandedTree}
use Rattle.kmin_report.specs.Reports.{macro_notice_line}

file_known : (b : Bool) (content : FileContent) → (content ≡ unknown → ⊥) → cond b content absent ≡ unknown → ⊥
file_known true content h e = h e
file_known false content h e = (let z : ⊥ = cc in z)

folder_known : (b : Bool) (content : FolderContent) → (content ≡ None → ⊥) → cond b content (Some []) ≡ None → ⊥
folder_known true content h e = h e
folder_known false content h e = (let z : ⊥ = cc in z)

pub known_texts : KnownFilesDetermineTheExpandedTree
known_texts known root first language job t files folders e =
    let h = known_files_determine (contents_below known root) e.answers first e.notices e.files
    (λ path. file_known (is_utf8 path) (known.regular (path_below root path)) (files path))
    (λ folder. folder_known (is_utf8 folder) (known.names (path_below root folder)) (folders folder)) e.expanded in
    record {
      answers = e.answers;
      answered = e.answered;
      files = e.files;
      expanded = h.0;
      texts = e.texts;
      names = e.names;
      lines = e.lines ∙ ap (λ (ns : List Notice). map macro_notice_line ns) (sym h.1);
    }
