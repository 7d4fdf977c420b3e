-- The settings of a run.
use Rattle.std.specs.Prelude.{◌≡◌, ℕ, Bool, true, not, ◌&&◌, ◌||◌, List, []}
use Rattle.kc_tree_model.specs.Trees.{Tree}
use Rattle.kc_rules_model.specs.declared.profile.Profile.{Profile}
use Rattle.kc_dotconfig_model.specs.Formats.{FileFormat}
use Rattle.kc_dotconfig_model.specs.declared.notice.NoticeKind.{NoticeKind}
use Rattle.kc_rules.specs.declared.rules.Settled.{Settled}
use Rattle.kc_rules.specs.between.SettledViews.{tree_of_settled, profile_of}
use Rattle.kc_dotconfig_model.specs.declared.format.Format.{Format}
use Rattle.kc_dotconfig_model.specs.between.Formats.{file_format}
use Rattle.kmin_tidy.specs.declared.options.TidyOptions.{TidyOptions}

-- the settings of a run: the format of configuration files, the profile (how `imply` acts), the Kconfig tree, and the options
pub record TidySettings : Type 0 where
  pub format : FileFormat
  pub profile : Profile
  pub tree : Tree
  pub options : TidyOptions

-- the settings of a run over a settled tree
abbrev pub settings_of : Settled → Format → TidyOptions → TidySettings
settings_of settled format options = record {
  format = file_format format;
  profile = profile_of settled;
  tree = tree_of_settled settled;
  options = options;
}

-- notices of a configuration file, each as the number of its line, counted from 1, and its kind
abbrev pub Notices : Type 0
Notices = List (ℕ × NoticeKind)

-- whether a file with a notice is refused: if `strict` is set, or if `write` is set and `drop` isn't
abbrev pub refuses_notices : TidyOptions → Bool
refuses_notices options = options.strict || (options.write && not options.drop)

-- under these options, a file with these notices isn't refused for them
abbrev pub AreAllowed : TidyOptions → Notices → Type 0
AreAllowed options notices = refuses_notices options ≡ true → notices ≡ []
