-- How a configuration file is spelled: the prefix before its names, and the form of its strings.
use Rattle.std.specs.Prelude.{◌≡◌, ℕ, Bool, true, false, not, ◌||◌, ◌==◌, List, [], ◌∷◌, ◌++◌, codes}
use Rattle.kc_value.specs.QuotedTexts.{quoted, IsQuoted}
use Rattle.kc_dotconfig_model.specs.declared.format.Strings.{Strings}
use Rattle.kc_dotconfig_model.specs.declared.format.Strings.TheVariants.{Escaped, Raw}

-- the format of a configuration file: the prefix of names, such as `CONFIG_`, and the form of strings
pub record FileFormat : Type 0 where
  pub prefix : List ℕ
  pub strings : Strings

-- the format of Linux's configuration files: the prefix `CONFIG_`, and escaped strings
abbrev pub plain_format : FileFormat
plain_format = record { prefix = codes "CONFIG_"; strings = Escaped }

-- a text between two quotes, without escapes (U-Boot's `conf`)
abbrev pub between_quotes : List ℕ → List ℕ
between_quotes text = 34 ∷ (text ++ 34 ∷ [])

-- how a string is written after the `=` of a line `CONFIG_NAME=`, in quotes: escaped as in Kconfiglib's `escape`, or raw
abbrev pub string_spelling : Strings → List ℕ → List ℕ
string_spelling Escaped text = quoted text
string_spelling Raw text = between_quotes text

-- a spelling (the first list) is how a line `CONFIG_NAME=` may write a string, escaped or raw, and the second list is the
-- string's text
abbrev pub IsStringSpelling : Strings → List ℕ → List ℕ → Type 0
IsStringSpelling Escaped spelling text = IsQuoted spelling text
IsStringSpelling Raw spelling text = spelling ≡ between_quotes text

-- whether bytes, read in pairs of a `\` and the byte after it, and of other bytes one by one, have a `\` before another byte than `"`
-- and `\`; the flag says that a `\` is before the first byte
abbrev pub has_other_escape : Bool → List ℕ → Bool
has_other_escape escaped [] = false
has_other_escape true (c ∷ cs) = not (c == 34 || (c == 92)) || has_other_escape false cs
has_other_escape false (c ∷ cs) = has_other_escape (c == 92) cs
