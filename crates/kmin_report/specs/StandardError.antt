-- The lines that standard error takes, one after another, and how it spells them.
use Rattle.std.specs.Prelude.{◌≡◌, ℕ, ◌<◌, ◌⊎◌, List, [], ◌∷◌, ◌++◌, Option, length, take}
use Rattle.std.specs.Io.KnownBytes.{Appends}
use Rattle.kc_files.specs.TreeContents.{HasRisen}
use Rattle.kmin_report.specs.Reports.{ErrorLine}

-- a writer took a text to its end, and no write failed
pub record TakesWhole (before : Option (List ℕ)) (failed : ℕ) (text : List ℕ) (after : Option (List ℕ)) (failed_after : ℕ) : Type 0 where
  pub appends : Appends before after text
  pub unfailed : failed_after ≡ failed

-- a write failed, and the writer took the first bytes of the text, and not all of them
pub record TakesPart (before : Option (List ℕ)) (failed : ℕ) (text : List ℕ) (after : Option (List ℕ)) (failed_after : ℕ) : Type 0 where
  pub written : ℕ
  pub within : written < length text
  pub appends : Appends before after (take written text)
  pub rose : HasRisen failed failed_after

-- what a spelling may show of a line beside its file, number and kind: a text, and the names of symbols in that
pub record Detail : Type 0 where
  pub text : List ℕ
  pub names : List (List ℕ)

-- the bytes that standard error took, None if they aren't known, and how it spells a line: its bytes, with some detail, or with none
-- where memory ran out for that
pub record SpelledBytes : Type 0 where
  pub spelling : ErrorLine → Option Detail → List ℕ
  pub bytes : Option (List ℕ)

-- standard error took a line as it spells it, or the first bytes of that if a write failed; it spells the next lines in the same way
pub record TakesLine (before : SpelledBytes) (failed : ℕ) (line : ErrorLine) (after : SpelledBytes) (failed_after : ℕ) : Type 0 where
  pub detail : Option Detail
  pub takes : TakesWhole before.bytes failed (before.spelling line detail) after.bytes failed_after
      ⊎ TakesPart before.bytes failed (before.spelling line detail) after.bytes failed_after
  pub spelling : after.spelling ≡ before.spelling

-- standard error took these lines in order, each to its end or up to a write that failed, and nothing else
pub data TakesLines (before : SpelledBytes) (failed : ℕ) : List ErrorLine → SpelledBytes → ℕ → Type 0 where
  none : TakesLines before failed [] before failed
  one_more : (lines all : List ErrorLine) (line : ErrorLine) (middle after : SpelledBytes) (failed_middle failed_after : ℕ)
      → TakesLines before failed lines middle failed_middle → TakesLine middle failed_middle line after failed_after
      → all ≡ lines ++ line ∷ [] → TakesLines before failed all after failed_after
