use Rattle.kc_files.proofs.Common.{ap, ◌∙◌, Some, path_of_key}
use Rattle.kc_files.proofs.PathOfKeyLemmas.{path_items, find_path}
use Rattle.kc_files.proofs.expanded_files.ExpandedFiles.path_of.Goals as goal

pub returns-in_err-file : goal.returns-in_err-file
returns-in_err-file c =
    rw c.from_residual.ensures
    (ap (λ o. path_items o) c.in_err-file.ensures.value
    ∙ find_path c.args.key.now c.self.inside.files.entries
    ∙ ap (λ fs. path_of_key fs c.args.key.now) c.self.view_is)

pub returns : goal.returns
returns c =
    ap (λ b. Some b) c.as_slice.ensures.value
    ∙ ap (λ o. path_items o) c.in_ok-file.ensures.value
    ∙ find_path c.args.key.now c.self.inside.files.entries
    ∙ ap (λ fs. path_of_key fs c.args.key.now) c.self.view_is
