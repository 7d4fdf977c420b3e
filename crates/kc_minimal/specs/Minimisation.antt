-- Minimising a configuration file from a reader to a writer.
use Rattle.std.specs.Prelude.{◌≡◌, ℕ, ◌<◌, ◌-◌, ◌^◌, List, Option, length, map, take}
use Rattle.std.specs.Io.KnownBytes.{Consumes, IsAtEnd, Appends, Keeps}
use Rattle.kc_tree_model.specs.Trees.{Tree}
use Rattle.kc_rules_model.specs.declared.profile.Profile.{Profile}
use Rattle.kc_rules_model.specs.declared.values.UnitValue.{UnitValue}
use Rattle.kc_dotconfig_model.specs.Formats.{FileFormat}
use Rattle.kc_dotconfig_model.specs.declared.notice.Notice.{Notice}
use Rattle.kc_dotconfig_model.specs.ConfigFiles.{notices_from}
use Rattle.kc_dotconfig_model.specs.between.Notices.{notice_pair}
use Rattle.kc_dotconfig.specs.ReadResults.{ReportsFault}
use Rattle.kc_minimal.specs.declared.minimisation.RunFault.{RunFault}
use Rattle.kc_minimal.specs.declared.minimisation.RunFault.TheVariants.{Load, Memory, Write}
use Rattle.kc_minimal_model.specs.MinimalFile.{minimal_file}
use Rattle.kc_minimal_model.specs.CanonicalText.{IsCanonicalText}
use Rattle.kc_minimal_model.specs.FileValues.{Loads}

-- A configuration file is read to its end and accepted, and a writer takes the minimal file of its values: `before` and `after`
-- are the bytes that the reader has left, `taken` and `taken_after` those that the writer has taken, where known.
pub record IsMinimised (format : FileFormat) (profile : Profile) (tree : Tree) (before after taken taken_after : Option (List ℕ)) (notices : List Notice) : Type 0 where
  -- the configuration file: the bytes that the reader supplied, to its end
  pub known : List ℕ
  pub consumed : Consumes before after known
  pub ended : IsAtEnd after
  -- the values of the tree's units: the configuration file is accepted and gives these values and no others
  pub values : List UnitValue
  pub loads : Loads format profile tree known values
  -- the returned notices are those of the lines of the configuration file
  pub noted : map notice_pair notices ≡ notices_from 1 loads.reads.meanings
  -- the text that the writer took, and nothing else
  pub text : List ℕ
  pub written : Appends taken taken_after text
  -- the text that the writer took is the canonical file of the values
  pub canonical : IsCanonicalText format profile tree values text

-- A configuration file was read to its end and accepted, but a write failed or took nothing after the first `written` bytes of
-- its minimal file, which has more bytes.
pub record IsCutOff (format : FileFormat) (profile : Profile) (tree : Tree) (before after taken taken_after : Option (List ℕ)) (failed failed_after written : ℕ) : Type 0 where
  pub known : List ℕ
  pub consumed : Consumes before after known
  pub ended : IsAtEnd after
  pub values : List UnitValue
  pub loads : Loads format profile tree known values
  pub part : written < length (minimal_file format profile tree values)
  pub took : Appends taken taken_after (take written (minimal_file format profile tree values))
  pub rose : failed < 2 ^ 64 - 1 → failed < failed_after

-- what holds of the reader and the writer where the minimising of a configuration file ends in this fault: a write fault leaves a
-- part of the minimal file written, any other fault nothing
abbrev pub FailsWith : FileFormat → Profile → Tree → (before after : Option (List ℕ)) → (failed failed_after : ℕ) → (taken taken_after : Option (List ℕ)) → (writes_failed writes_failed_after : ℕ) → RunFault → Type 0
FailsWith format profile tree before after failed failed_after taken taken_after writes_failed writes_failed_after (Load fault) =
    ReportsFault format tree before after failed failed_after fault.kind fault.line × Keeps taken taken_after
FailsWith format profile tree before after failed failed_after taken taken_after writes_failed writes_failed_after Memory =
    Keeps taken taken_after
FailsWith format profile tree before after failed failed_after taken taken_after writes_failed writes_failed_after (Write fault) =
    IsCutOff format profile tree before after taken taken_after writes_failed writes_failed_after fault.written
