-- The output for a bundle, and the ends of a bundle without one.
use Rattle.std.specs.Prelude.{◌≡◌, ℕ, false, ◌<◌, List, [], ◌∷◌, ◌++◌, Option, None, take, length, codes}
use Rattle.std.specs.Io.KnownBytes.{Appends, Consumes}
use Rattle.kc_value.specs.declared.limits.TheConstants.{MAX_BUNDLE_BYTES}
use Rattle.kc_value.specs.FileContents.{FileContent, known}
use Rattle.kc_tokens.specs.declared.language.Language.TheVariants.{Strict}
use Rattle.kc_tree_model.specs.Trees.{Tree}
use Rattle.kc_tree_model.specs.TreeFiles.{Files, strict_files}
use Rattle.kc_rules_model.specs.declared.profile.Profile.TheVariants.{Present}
use Rattle.kc_dotconfig_model.specs.Formats.{plain_format}
use Rattle.kc_dotconfig_model.specs.declared.fault.LoadKind.{LoadKind}
use Rattle.kc_dotconfig_model.specs.declared.fault.LoadKind.TheVariants.{Read, TooLarge}
use Rattle.kmin_records.specs.declared.output_form.OutputForm.TheVariants.{Plain}
use Rattle.kmin_options.specs.Jobs.{Settings, Task, over}
use Rattle.kmin_options.specs.declared.job.Verb.TheVariants.{Full}
use Rattle.kmin_report.specs.Reports.{ErrorLine, fault_line, output_line}
use Rattle.kmin_run.specs.Bundles.{IsBundle, ReadsToEnd}
use Rattle.kmin_outputs.specs.Outputs.{HasOutput}
use Rattle.kmin_trees.specs.AcceptedTrees.{AreAccepted}
use Rattle.kmin_trees.specs.Stops.{RefusesTexts}
use Rattle.kmin_outputs.specs.Stops.{StopsAmongFiles}

-- the options of a run on a bundle: a tree in the strict language that begins at `Kconfig`, without the expansion of macros
abbrev pub bundle_settings : Settings
bundle_settings = record {
  root = [];
  tree = codes "Kconfig";
  language = Strict;
  format = plain_format;
  profile = Present;
  strict = false;
  expansion = None;
  messages = None;
  output_form = Plain;
}

-- the command of a run on a bundle: the full file of the one configuration file `config`
abbrev pub bundle_task : Task
bundle_task = over Full (codes "config" ∷ [])

-- the files of a bundle's tree: one file of this text with the path `Kconfig`
abbrev pub bundle_files : List ℕ → Files
bundle_files tree = strict_files ((codes "Kconfig", tree) ∷ [])

-- what is known of the configuration file of a bundle: it has these bytes, whatever its path
abbrev pub bundle_content : List ℕ → List ℕ → FileContent
bundle_content configuration path = known configuration

-- the line of standard error for a fault of a bundle as a whole: `bundle:0: KIND`
abbrev pub bundle_line : LoadKind → ErrorLine
bundle_line kind = fault_line (codes "bundle") 0 kind

-- the line of standard error for a bundle that has too many bytes
abbrev pub large_line : ErrorLine
large_line = bundle_line TooLarge

-- the line of standard error for a bundle that can't be read to its end
abbrev pub unread_line : ErrorLine
unread_line = bundle_line Read

-- A run on this bundle has this output, the full file of its configuration over its tree, and these lines of notices.
pub record BundleHasOutput (bundle text : List ℕ) (notices : List ErrorLine) : Type 0 where
  pub tree : List ℕ
  pub configuration : List ℕ
  pub parts : IsBundle bundle tree configuration
  pub has : HasOutput (bundle_content configuration) bundle_settings (bundle_files tree) bundle_task text 0 notices

-- A run on this bundle ends without an output, with this status and these lines of standard error before those of `last_lines`:
-- its tree or its configuration is refused, or memory ran out.
pub data StopsInBundle (bundle : List ℕ) (status : ℕ) (lines : List ErrorLine) : Type 0 where
  at_tree : (tree configuration : List ℕ) (line : ErrorLine) → IsBundle bundle tree configuration
      → RefusesTexts (bundle_files tree) (bundle_files tree) (codes "Kconfig") line → status ≡ 3 → lines ≡ line ∷ [] → StopsInBundle bundle status lines
  in_configuration : (tree configuration : List ℕ) (whole : Tree) → IsBundle bundle tree configuration
      → AreAccepted (bundle_files tree) (codes "Kconfig") whole
      → StopsAmongFiles (bundle_content configuration) plain_format false whole (codes "config" ∷ []) status lines
      → StopsInBundle bundle status lines
  for_memory : status ≡ 6 → lines ≡ [] → StopsInBundle bundle status lines

-- A run on a bundle ends early, with this status and these lines of standard error before those of `last_lines`: the bundle is
-- too large, a read fails, there is no output, a write fails, or memory ran out.
pub data StopsOnBundle (left left_after : Option (List ℕ)) (status : ℕ) (lines : List ErrorLine) : Type 0 where
  too_large : (bytes : List ℕ) → Consumes left left_after bytes → MAX_BUNDLE_BYTES < length bytes → status ≡ 4 → lines ≡ large_line ∷ []
      → StopsOnBundle left left_after status lines
  unread : status ≡ 5 → lines ≡ unread_line ∷ [] → StopsOnBundle left left_after status lines
  in_bundle : (bundle : List ℕ) → ReadsToEnd left left_after bundle → StopsInBundle bundle status lines
      → StopsOnBundle left left_after status lines
  at_write : (bundle text : List ℕ) (notices : List ErrorLine) → ReadsToEnd left left_after bundle
      → BundleHasOutput bundle text notices → status ≡ 5 → lines ≡ notices ++ output_line ∷ []
      → StopsOnBundle left left_after status lines
  for_memory : status ≡ 6 → lines ≡ [] → StopsOnBundle left left_after status lines

-- a bundle was read to its end, and standard output took the first bytes of its output, the full file of its configuration
pub record WritesPart (left_before left_after taken_before taken_after : Option (List ℕ)) : Type 0 where
  pub bundle : List ℕ
  pub whole : ReadsToEnd left_before left_after bundle
  pub text : List ℕ
  pub notices : List ErrorLine
  pub has : BundleHasOutput bundle text notices
  pub written : ℕ
  pub taken : Appends taken_before taken_after (take written text)
