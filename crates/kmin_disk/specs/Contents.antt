-- The content of a name in a folder, as far as it is known.
use Rattle.std.specs.Prelude.{◌≡◌, ℕ, List, Option, Some, None}
use Rattle.kc_value.specs.FileContents.{FileContent, unknown, absent, known, AreKnownBytes}
use Rattle.kmin_disk.specs.declared.kind.FileKind.{FileKind}
use Rattle.kmin_disk.specs.declared.kind.FileKind.TheVariants.{Missing, Regular, NotRegular}

-- what a name in a folder holds: nothing, a regular file of these bytes, a new file that isn't finished, or anything else (a
-- link, a folder, a pipe or a device)
pub data Content : Type 0 where
  nothing : Content
  file : (bytes : List ℕ) → Content
  unfinished : Content
  special : Content

-- the kind of a file agrees with its content, if that is known
abbrev pub IsOfKind : Option Content → FileKind → Type 0
IsOfKind None kind = Unit {0}
IsOfKind (Some nothing) kind = kind ≡ Missing
IsOfKind (Some (file bytes)) kind = kind ≡ Regular
IsOfKind (Some unfinished) kind = kind ≡ Regular
IsOfKind (Some special) kind = kind ≡ NotRegular

-- what is known of a file of this content that is opened for reading
abbrev pub readable : Option Content → FileContent
readable (Some nothing) = absent
readable (Some (file bytes)) = known bytes
readable _ = unknown

-- reading a file of this content may give exactly these bytes, as far as the content is known
abbrev pub MayRead : Option Content → List ℕ → Type 0
MayRead content bytes = AreKnownBytes (readable content) bytes
