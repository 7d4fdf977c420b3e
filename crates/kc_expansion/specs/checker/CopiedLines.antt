-- Lines that are copied as they are.
use Rattle.std.specs.Prelude.{◌≡◌, ℕ, Bool, false, ◌||◌, not, nat_lt, List, length, Option, Some, None}
use Rattle.std.specs.Str.{is_utf8}
use Rattle.kc_value.specs.declared.limits.TheConstants.{MAX_TEXT_BYTES}
use Rattle.kc_macros_model.specs.Programs.{Place, returns}
use Rattle.kc_macros_model.specs.ReadingStates.{ReadingState, written_line}
use Rattle.kc_macros_model.specs.TreeExpansion.{SourceReader, line_written}

-- the expansion leaves a line as it is in each state of a reading, and takes a help text to follow it just if `begins_help`
pub record IsCopiedLine (text : List ℕ) (begins_help : Bool) : Type 0 where
  pub written : (sub : SourceReader) (at : Place) (continued : Bool) (s : ReadingState) → line_written sub at continued text s ≡ returns (written_line text begins_help s)

-- a line is copied as it is, with a help text after it or not (`Some`); or it may change, and is UTF-8 and not too long (`None`)
abbrev pub MayBeCopied : List ℕ → Option Bool → Type 0
MayBeCopied text (Some begins_help) = IsCopiedLine text begins_help
MayBeCopied text None = (nat_lt MAX_TEXT_BYTES (length text) || not (is_utf8 text)) ≡ false
