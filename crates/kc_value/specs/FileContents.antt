-- What is known of a file before it is read.
use Rattle.std.specs.Prelude.{◌≡◌, ℕ, List, Option, Some, None}

-- what is known of a file: nothing, that there is no file that can be opened, or its bytes
pub data FileContent : Type 0 where
  unknown : FileContent
  absent : FileContent
  known : (bytes : List ℕ) → FileContent

-- the opening of a file agrees with its content. `reader` is `None` where the file can't be opened, and else has the bytes that
-- its reader has left, if these are known: where the bytes of a file are known, its reader has just these left
abbrev pub OpensAs : FileContent → (reader : Option (Option (List ℕ))) → Type 0
OpensAs unknown reader = Unit {0}
OpensAs absent reader = reader ≡ None
OpensAs (known bytes) reader = reader ≡ Some (Some bytes)

-- these bytes may be read from a file of this content
abbrev pub AreKnownBytes : FileContent → (bytes : List ℕ) → Type 0
AreKnownBytes unknown bytes = Unit {0}
AreKnownBytes absent bytes = ⊥
AreKnownBytes (known all) bytes = bytes ≡ all

-- the content of the file that a reader reads, by the bytes that the reader has left, if these are known
abbrev pub content_of_reader : (left : Option (List ℕ)) → FileContent
content_of_reader None = unknown
content_of_reader (Some bytes) = known bytes
