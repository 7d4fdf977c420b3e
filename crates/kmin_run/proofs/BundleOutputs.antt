-- The outputs for bundles.
use Rattle.std.proofs.Common.{Result}
use Rattle.std.proofs.lemmas.Bool.{false≢true}
use Rattle.kc_value.specs.FileContents.{known}
use Rattle.kc_tokens.specs.declared.language.Language.{Language}
use Rattle.kc_tokens.specs.declared.language.Language.TheVariants.{Strict}
use Rattle.kc_tree_model.specs.Blocks.{Group}
use Rattle.kc_tree_model.specs.Contents.{tree_of_groups}
use Rattle.kc_dotconfig_model.specs.OtherChoices.{has_no_version, choice_lines_from, placed_from, other_places, other_choices}
use Rattle.kmin_run.proofs.Common.{◌≡◌, ℕ, false, List, [], ◌∷◌, ◌++◌, Option, Some, Ok, Err, Vec, IfOk, IfErr, codes, cond, map, refl, sym, ap, ◌∙◌, append-nil, Global, Settled, tree_of_settled, profile_of, empty_assignment, tree_in, RunError, ErrorLine, SpelledBytes, TakesLines}
use Rattle.kmin_run.proofs.Common.{AreAccepted, IsBundle, bundle_content, status_of, StopsAtTexts, for_memory, lines_append}
use Rattle.kc_tree_model.specs.Trees.{Tree}
use Rattle.kc_rules_model.specs.declared.profile.Profile.TheVariants.{Present}
use Rattle.kc_rules_model.specs.declared.values.UnitValue.{UnitValue}
use Rattle.kc_rules_model.specs.declared.values.UserValue.{UserValue}
use Rattle.kc_dotconfig_model.specs.Formats.{FileFormat, plain_format}
use Rattle.kc_dotconfig_model.specs.ConfigLines.{LineMeaning}
use Rattle.kc_dotconfig_model.specs.ConfigFiles.{merged_users}
use Rattle.kc_dotconfig.specs.declared.fragment.Fragment.{Fragment}
use Rattle.kc_config.specs.ConfigStates.{Configured, IsSolved}
use Rattle.kc_dotconfig.specs.Fragments.{users_of}
use Rattle.kc_dotconfig.specs.ReadResults.{IsReadAs}
use Rattle.kc_minimal_model.specs.FullFile.{full_file}
use Rattle.kmin_options.specs.declared.job.Verb.TheVariants.{Full}
use Rattle.kmin_report.specs.Reports.{notice_lines, choice_notice_lines}
use Rattle.kmin_outputs.specs.Outputs.{Resolve, of_files}
use Rattle.kmin_outputs.specs.Stops.{StopsAmongFiles}
use Rattle.kmin_run.specs.BundleOutputs.{BundleHasOutput, StopsInBundle, StopsOnBundle, at_tree, in_configuration, bundle_files, bundle_settings}
use Rattle.kmin_run.specs.BundleOutputs as bundles
use Rattle.kmin_outputs.specs.between.LoadResults.{AreLoaded}
use Rattle.kmin_outputs.specs.between.LoadStops.{StopsLoad, fragment_notices}
use Rattle.kmin_trees.specs.between.TreeStops.{at_texts}
use Rattle.kmin_outputs.proofs.Sequences.{stopped_at, stopped_path, loaded_from, loaded_one}
use Rattle.kmin_outputs.proofs.JobOutputs.{resolved}

-- a tree has the language of the files in which it was read
language_of_groups : (language : Language) (groups : List Group) → (tree_of_groups language groups).language ≡ language
unfolding tree_of_groups
language_of_groups language groups = refl

-- in the strict language there are no notices on choices
strict_choices : (tree : Tree) (values : List UnitValue) (meanings : List (List LineMeaning)) → tree.language ≡ Strict → other_choices tree values meanings ≡ []
strict_choices tree values meanings e = ap (λ language. cond (has_no_version language) (other_places tree values (placed_from 0 (map (choice_lines_from 1) meanings))) []) e

-- a bundle's configuration that wasn't accepted ends the run among its configuration files, with the lines that were reported
pub memory_stops : (text : List ℕ) (left : Option (List ℕ)) (format plain : FileFormat) (tree : Tree) (path : List ℕ) (after : Option (List ℕ))
    (read_failed read_failed_after status : ℕ) (taken taken_after : SpelledBytes) (failed failed_after : ℕ)
    → format ≡ plain → left ≡ Some text → StopsLoad format tree path left after read_failed read_failed_after status taken failed taken_after failed_after
    → (lines : List ErrorLine) × StopsAmongFiles (bundle_content text) plain false tree (path ∷ []) status lines × TakesLines taken failed lines taken_after
    failed_after
memory_stops text left format plain tree path after f g status taken taken_after failed failed_after p e h =
    let k : StopsLoad plain tree path (Some text) after f g status taken failed taken_after failed_after = rw (p, e) at h in
    stopped_path (bundle_content text) plain false tree status taken failed taken_after failed_after path
    (stopped_at (known text) plain tree path (Some text) after refl false f g status taken taken_after failed failed_after k)

-- a bundle's configuration that was read and accepted is loaded as the one configuration file of the run
pub memory_loaded : (text : List ℕ) (left : Option (List ℕ)) (format plain : FileFormat) (tree : Tree) (path : List ℕ) (after : Option (List ℕ))
    (before users : List (Option UserValue)) (fragment : Fragment) (taken taken_after : SpelledBytes) (failed failed_after : ℕ)
    → format ≡ plain → left ≡ Some text → IsReadAs format tree left after fragment
    → TakesLines taken failed (fragment_notices tree path fragment) taken_after failed_after
    → users ≡ merged_users (users_of tree fragment.assigns.items) before
    → AreLoaded (bundle_content text) plain false tree (path ∷ []) before users taken failed taken_after failed_after
memory_loaded text left format plain tree path after before users fragment taken taken_after failed failed_after p e h t u =
    let k : IsReadAs plain tree (Some text) after fragment = rw (p, e) at h in
    loaded_one (bundle_content text) plain false tree path before users fragment taken taken_after failed failed_after
    (loaded_from (known text) plain tree path (Some text) after refl taken taken_after failed failed_after fragment k t) (λ s. cc) u

-- the full file of the configuration of a bundle is that of the one solution of its assignment
pub full_output : (text : List ℕ) (format : FileFormat) (bytes : List ℕ) (config : Configured) (settled : Settled) (taken taken_after : SpelledBytes)
    (failed failed_after : ℕ)
    → config.system ≡ settled → format ≡ plain_format → IsSolved config
    → AreLoaded (bundle_content text) plain_format false (tree_of_settled settled) (codes "config" ∷ []) (empty_assignment (tree_of_settled settled))
    config.users taken failed taken_after failed_after
    → bytes ≡ full_file format (tree_in config) config.values
    → (meanings : List (List LineMeaning)) × (values : List UnitValue) × Resolve (bundle_content text) (record bundle_settings { profile = profile_of settled })
    (tree_of_settled settled) (codes "config" ∷ []) meanings values
    × (bytes ≡ full_file plain_format (tree_of_settled settled) values) × TakesLines taken failed (notice_lines (tree_of_settled settled) (codes "config" ∷ []) meanings) taken_after
    failed_after
full_output text format bytes config settled taken taken_after failed failed_after e p s l b = (
  l.meanings,
  config.values,
  resolved (bundle_content text) (record bundle_settings { profile = profile_of settled }) config settled (codes "config" ∷ []) taken taken_after failed
      failed_after e refl s l,
  rw (← e, ← p) b,
  l.reported,
)

-- a bundle ends where its tree does
tree_stops_bundle : (bundle tree configuration : List ℕ) (status : ℕ) (lines : List ErrorLine) → IsBundle bundle tree configuration
    → StopsAtTexts (bundle_files tree) (bundle_files tree) (codes "Kconfig") status lines → StopsInBundle bundle status lines
tree_stops_bundle bundle tree configuration status lines parts (at_texts line r s e) = at_tree tree configuration line parts r s e
tree_stops_bundle bundle tree configuration status lines parts (for_memory s e) = bundles.for_memory s e

module _ (bundle tree configuration : List ℕ) (parts : IsBundle bundle tree configuration) where
  pub tree_stopped : (status : ℕ) (taken taken_after : SpelledBytes) (failed failed_after : ℕ)
      → (lines : List ErrorLine) × StopsAtTexts (bundle_files tree) (bundle_files tree) (codes "Kconfig") status lines
      × TakesLines taken failed lines taken_after failed_after
      → (lines : List ErrorLine) × StopsInBundle bundle status lines × TakesLines taken failed lines taken_after failed_after
  tree_stopped status taken taken_after failed failed_after h = (h.0, tree_stops_bundle bundle tree configuration status h.0 parts h.1, h.2)

  module _ (rules : Settled) (accepted : AreAccepted (bundle_files tree) (codes "Kconfig") (tree_of_settled rules)) (profile : profile_of rules ≡ Present)
      (taken middle taken_after : SpelledBytes) (failed failed_middle failed_after : ℕ) (before : TakesLines taken failed [] middle failed_middle) where
    pub bundle_outputs : (r : Result (Vec ℕ Global) RunError)
        → IfOk r (λ text. (meanings : List (List LineMeaning)) × (values : List UnitValue) × Resolve (bundle_content configuration)
        (record bundle_settings { profile = profile_of rules }) (tree_of_settled rules) (codes "config" ∷ []) meanings values
        × (text.items ≡ full_file plain_format (tree_of_settled rules) values) × TakesLines middle failed_middle
        (notice_lines (tree_of_settled rules) (codes "config" ∷ []) meanings) taken_after failed_after)
        → IfOk r (λ text. (notices : List ErrorLine) × BundleHasOutput bundle text.items notices × TakesLines taken failed notices taken_after failed_after)
    bundle_outputs (Err stop) h = tt
    bundle_outputs (Ok text) h =
        let resolve : Resolve (bundle_content configuration) bundle_settings (tree_of_settled rules) (codes "config" ∷ []) h.0 h.1 = rw profile at h.2 in (
          notice_lines (tree_of_settled rules) (codes "config" ∷ []) h.0,
          record {
            tree = tree;
            configuration = configuration;
            parts = parts;
            has = of_files (tree_of_settled rules) Full (codes "config" ∷ []) h.0 h.1 refl accepted resolve h.3 refl (λ e. absurd (false≢true e))
                (sym (ap (λ ps. notice_lines (tree_of_settled rules) (codes "config" ∷ []) h.0 ++ choice_notice_lines (codes "config" ∷ []) ps)
                (strict_choices (tree_of_settled rules) h.1 h.0 (ap (λ (t : Tree). t.language) accepted.read.3 ∙ language_of_groups Strict accepted.read.0))
                ∙ append-nil (notice_lines (tree_of_settled rules) (codes "config" ∷ []) h.0)));
          },
          lines_append taken middle failed failed_middle [] _ taken_after failed_after before h.4,
        )

    pub configuration_stopped : (r : Result (Vec ℕ Global) RunError)
        → IfErr r (λ stop. (lines : List ErrorLine) × StopsAmongFiles (bundle_content configuration) plain_format false (tree_of_settled rules)
        (codes "config" ∷ []) (status_of stop) lines × TakesLines middle failed_middle lines taken_after failed_after)
        → IfErr r (λ stop. (lines : List ErrorLine) × StopsInBundle bundle (status_of stop) lines × TakesLines taken failed lines taken_after failed_after)
    configuration_stopped (Ok text) h = tt
    configuration_stopped (Err stop) h = (
      h.0,
      in_configuration tree configuration (tree_of_settled rules) parts accepted h.1,
      lines_append taken middle failed failed_middle [] h.0 taken_after
          failed_after before h.2,
    )
