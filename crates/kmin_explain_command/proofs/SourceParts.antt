-- What symbols are explained by: the tree with its lines, and the files with theirs.
use Rattle.kmin_explain_command.proofs.Common.{◌≡◌, ℕ, List, [], ◌++◌, Option, map, refl, sym, ap, ◌∙◌, subst, AllZip, TreeModel, Tree, Group, Settled, tree_model_of, tree_of_settled, profile_of, empty_assignment, LineMeaning, other_choices, file_format, IsSolved, tree_in, FileContent, KeepsLines}
use Rattle.kmin_explain_command.proofs.Common.{FileLines, explain_job_view, settings_view, ExplainJob, SpelledBytes, TreeTexts, IsLinedTree, LinedTree, AllowsNotices, AreNoticed, lists_of, AreLined, AreOfSources, paths_of_job, sources_of, LinedFiles}
use Rattle.kc_tree_model.specs.TreeFiles.{Files}
use Rattle.kc_tree_model.specs.Contents.{tree_of_groups}
use Rattle.kc_dotconfig_model.specs.ConfigFiles.{files_assignment}
use Rattle.kc_builder.specs.between.TreeLines.{HasLines, IsTreeWithLines}
use Rattle.kc_builder.specs.declared.tree_lines.TreeLines.{TreeLines}
use Rattle.kc_symbol_lines.specs.between.Indexes.{IsReadTree}
use Rattle.kmin_trees.specs.AcceptedTrees.{AreAccepted}
use Rattle.kmin_outputs.specs.Outputs.{Resolve}
use Rattle.kmin_outputs.proofs.JobOutputs.{resolved, allowed_are}
use Rattle.kmin_explain_command.specs.Explains.{AreSourcesOfJob}

-- a tree of groups has their language
language_is : (files : Files) (root : List ℕ) (t : TreeModel) (lines : TreeLines) (w : IsTreeWithLines files root t lines) → t.tree.language ≡ files.language
unfolding tree_of_groups
language_is files root t lines w = ap (λ (tree : Tree). tree.language) w.tree_is

by_language : (files : Files) (root : List ℕ) (t : TreeModel) (lines : TreeLines) (w : IsTreeWithLines files root t lines)
    → t.tree ≡ tree_of_groups t.tree.language w.groups
by_language files root t lines w =
    subst (λ language. t.tree ≡ tree_of_groups language w.groups) (sym (language_is files root t lines w)) w.tree_is

-- a tree that was read with its lines is of the groups that were read, and so are these
pub read_tree : (files : Files) (root : List ℕ) (t : TreeModel) (lines : TreeLines) → IsTreeWithLines files root t lines → IsReadTree t lines
read_tree files root t lines w = record { read = w.groups; tree_is = by_language files root t lines w; has = w.lines_are }

-- a job over its tree, whose files were read
module _ (content_of : List ℕ → FileContent) (job : ExplainJob) (tree : LinedTree) (found : LinedFiles) (taken middle after : SpelledBytes)
    (failed failed_middle failed_after : ℕ)
    (same : found.read.config.system ≡ tree.settled) (p : profile_of tree.settled ≡ job.settings.profile) (s : IsSolved found.read.config)
    (l : AreLined content_of (file_format job.settings.format) job.settings.strict (tree_of_settled tree.settled) (paths_of_job job)
    (empty_assignment (tree_of_settled tree.settled)) found.read.config.users [] (lists_of found.read.chosen.items) [] found.lines.items
    taken failed middle failed_middle)
    (n : AreNoticed job.settings.strict (paths_of_job job) found.read middle failed_middle after failed_after)
    (t : TreeTexts) (lined : IsLinedTree t job.settings.tree.now tree) where
  -- the tree and its lines are of the groups that were read, and of the files the last lines are kept
  pub are_of_sources : AreOfSources tree found lined.lines.groups l.read.loaded.meanings
  are_of_sources = record {
    tree_is =
        subst (λ (sys : Settled). tree_of_settled sys ≡ tree_of_groups (tree_of_settled sys).language lined.lines.groups) (sym same)
        (by_language t.texts job.settings.tree.now (tree_model_of tree.settled) tree.lines lined.lines);
    has = subst (λ (sys : Settled). HasLines (tree_model_of sys).exprs tree.lines lined.lines.groups) (sym same) lined.lines.lines_are;
    kept =
        subst (λ (sys : Settled). AllZip (KeepsLines (tree_of_settled sys)) l.read.loaded.meanings found.lines.items) (sym same)
        (subst (λ (ls : List FileLines). AllZip (KeepsLines (tree_of_settled tree.settled)) l.read.loaded.meanings ls) (sym l.lines_are) l.kept);
  }

  -- and these are what the job's symbols are explained by
  pub are_sources : AreSourcesOfJob content_of (explain_job_view job) t (sources_of job tree found lined.lines.groups l.read.loaded.meanings)
  are_sources = record {
    accepted = subst (λ (sys : Settled). AreAccepted t.texts job.settings.tree.now (tree_of_settled sys)) (sym same) lined.accepted;
    whole = lined.lines.whole;
    faultless = lined.lines.faultless;
    tree_is = subst (λ (sys : Settled). tree_of_settled sys ≡ tree_of_groups t.texts.language lined.lines.groups) (sym same) lined.lines.tree_is;
    tree_paths = lined.paths;
    resolved =
        subst (λ (sys : Settled). Resolve content_of (settings_view job.settings) (tree_of_settled sys) (paths_of_job job) l.read.loaded.meanings found.read.config.values) (sym same)
        (resolved content_of (settings_view job.settings) found.read.config tree.settled (paths_of_job job) taken middle failed failed_middle same p s l.read.loaded);
    users = subst (λ (sys : Settled). found.read.config.users ≡ files_assignment (tree_of_settled sys) l.read.loaded.meanings) (sym same) l.read.loaded.users_are;
    profile = ap profile_of same ∙ p;
    file_paths = refl;
    strings = refl;
    allowed =
        subst (λ (sys : Settled). AllowsNotices job.settings.strict (other_choices (tree_of_settled sys) found.read.config.values l.read.loaded.meanings)) (sym same)
        (allowed_are content_of (settings_view job.settings) found.read.config tree.settled (paths_of_job job) (lists_of found.read.chosen.items) taken middle
        failed failed_middle same l.read n.allowed);
  }
