-- Files that are read whole before all others: the list of `tidy --from`, and those of the words `@FILE`.
use Rattle.std.specs.Prelude.{◌≡◌, ℕ, ◌<◌, ◌≤◌, List, [], ◌∷◌, ◌++◌, Option, codes, length, bytes_eq, if◌then◌else◌}
use Rattle.kc_value.specs.declared.limits.TheConstants.{MAX_LIST_BYTES}
use Rattle.kc_value.specs.FileContents.{FileContent, AreKnownBytes, content_of_reader}
use Rattle.kc_dotconfig_model.specs.declared.fault.LoadKind.TheVariants.{Read, TooLarge}
use Rattle.kmin_report.specs.Reports.{ErrorLine, fault_line, refused_line}

-- what is known of the list of `tidy --from`, or of the file of a word `@FILE`: its content is that of standard input if its path is
-- `-`, or that of the file at its path
abbrev pub list_content : (content_of : List ℕ → FileContent) → (left : Option (List ℕ)) → (path : List ℕ) → FileContent
list_content content_of left path = if bytes_eq path (codes "-") then content_of_reader left else content_of path

-- these bytes agree with what is known of such a file, and are no more than `MAX_LIST_BYTES`
pub record IsListRead (content : FileContent) (bytes : List ℕ) : Type 0 where
  pub known : AreKnownBytes content bytes
  pub within : length bytes ≤ MAX_LIST_BYTES

-- Such a file can't be read, with this status and these lines of standard error: it has too many bytes, it can't be opened or read,
-- or memory ran out.
pub data StopsReadingList (content : FileContent) (path : List ℕ) (status : ℕ) (lines : List ErrorLine) : Type 0 where
  too_large : (front rest : List ℕ) → AreKnownBytes content (front ++ rest) → MAX_LIST_BYTES < length front → status ≡ 4
      → lines ≡ fault_line path 0 TooLarge ∷ [] → StopsReadingList content path status lines
  unread : status ≡ 5 → lines ≡ fault_line path 0 Read ∷ [] → StopsReadingList content path status lines
  for_memory : status ≡ 6 → lines ≡ [] → StopsReadingList content path status lines

-- the line of standard error for such a file with a path or a word that isn't UTF-8, or a path with a newline: `from: Malformed`
abbrev pub malformed_line : ErrorLine
malformed_line = refused_line (codes "from: Malformed\n")
