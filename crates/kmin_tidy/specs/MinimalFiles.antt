-- Files of a disk, and their minimal files.
use Rattle.std.specs.Prelude.{◌≡◌, ◌≢◌, ℕ, true, List, [], ◌∷◌, ◌++◌, Option, Some, map}
use Rattle.kc_value.specs.FileContents.{AreKnownBytes}
use Rattle.kc_tree_model.specs.Trees.{Tree}
use Rattle.kc_rules_model.specs.declared.values.UnitValue.{UnitValue}
use Rattle.kc_dotconfig_model.specs.ConfigLines.{LineMeaning}
use Rattle.kc_dotconfig_model.specs.ConfigFiles.{FileMeans, notices_from}
use Rattle.kc_dotconfig_model.specs.declared.notice.NoticeKind.TheVariants.{OtherChoice}
use Rattle.kc_dotconfig_model.specs.OtherChoices.{other_choices}
use Rattle.kc_dotconfig_model.specs.LoadFaults.{IsAccepted}
use Rattle.kc_minimal_model.specs.CanonicalText.{IsCanonicalText}
use Rattle.kc_minimal_model.specs.FileValues.{Loads}
use Rattle.kmin_disk.specs.Contents.{Content, special, readable}
use Rattle.kmin_disk.specs.Disks.{DiskState, content_at}
use Rattle.kmin_tidy.specs.Options.{TidySettings, Notices, AreAllowed}

-- these bytes may be read from a file of this content, as far as it is known
abbrev pub IsReadAs : Option Content → (bytes : List ℕ) → Type 0
IsReadAs content bytes = AreKnownBytes (readable content) bytes

-- A path may be read: under the option `--write`, it isn't known to lead to a link, a folder, a pipe or a device.
abbrev pub MayBeRead : TidySettings → DiskState → (path : List ℕ) → Type 0
MayBeRead s disk path = s.options.write ≡ true → content_at disk path ≢ Some special

-- The file at a path may be read, and has these bytes, as far as it is known.
pub record IsReadAt (s : TidySettings) (disk : DiskState) (path bytes : List ℕ) : Type 0 where
  pub may : MayBeRead s disk path
  pub bytes_are : IsReadAs (content_at disk path) bytes

-- the notices on choices in a configuration file whose lines have these meanings, and which gives these values
abbrev pub choice_notices : Tree → List UnitValue → List LineMeaning → Notices
choice_notices tree values meanings = map (λ (place : ℕ × ℕ). (place.1, OtherChoice)) (other_choices tree values (meanings ∷ []))

-- These bytes are an accepted configuration file, whose lines have these notices; or its lines have none, and these are on choices,
-- by the values that it gives.
pub data HasNotices (s : TidySettings) (bytes : List ℕ) (notices : Notices) : Type 0 where
  of_lines : (meanings : List LineMeaning) → IsAccepted s.format s.tree bytes → FileMeans s.format s.tree bytes meanings
      → notices ≡ notices_from 1 meanings → HasNotices s bytes notices
  of_choices : (values : List UnitValue) (loads : Loads s.format s.profile s.tree bytes values) → notices_from 1 loads.reads.meanings ≡ []
      → notices ≡ choice_notices s.tree values loads.reads.meanings → HasNotices s bytes notices

-- These bytes are an accepted configuration file, which has these notices, of its lines and then on choices, and `minimal_bytes` is the
-- minimal file of the values that it gives.
pub record HasMinimalFile (s : TidySettings) (bytes minimal_bytes : List ℕ) (notices : Notices) : Type 0 where
  pub values : List UnitValue
  pub loads : Loads s.format s.profile s.tree bytes values
  pub canonical : IsCanonicalText s.format s.profile s.tree values minimal_bytes
  pub notices_are : notices ≡ notices_from 1 loads.reads.meanings ++ choice_notices s.tree values loads.reads.meanings

-- these bytes are the minimal file of some values of the symbols
abbrev pub IsMinimalFile : TidySettings → (bytes : List ℕ) → Type 0
IsMinimalFile s bytes = (values : List UnitValue) × IsCanonicalText s.format s.profile s.tree values bytes

-- The file at a path is accepted with these notices, and not refused for them, and has this minimal file.
pub record Minimises (s : TidySettings) (disk : DiskState) (path bytes minimal_bytes : List ℕ) (notices : Notices) : Type 0 where
  pub read : IsReadAt s disk path bytes
  pub minimal : HasMinimalFile s bytes minimal_bytes notices
  pub allowed : AreAllowed s.options notices

-- The file at a path is accepted with these notices, and not refused for them, and its bytes aren't those of its minimal file.
pub record IsNotMinimal (s : TidySettings) (disk : DiskState) (path bytes minimal_bytes : List ℕ) (notices : Notices) : Type 0 where
  pub minimises : Minimises s disk path bytes minimal_bytes notices
  pub differs : minimal_bytes ≢ bytes
