-- Lines that the expansion copies.
use Rattle.std.specs.Prelude.{◌≡◌, ℕ, Bool, false, List}
use Rattle.kc_macros_model.specs.Programs.{Place, returns}
use Rattle.kc_macros_model.specs.ReadingStates.{ReadingState, written_line}
use Rattle.kc_macros_model.specs.TreeExpansion.{SourceReader, line_written}

-- the expansion copies a line: in each state of the reading the line is written as it is, and no help text follows it
pub record IsCopied (text : List ℕ) : Type 0 where
  pub written : (sub : SourceReader) (at : Place) (continued : Bool) (s : ReadingState) → line_written sub at continued text s ≡ returns (written_line text false s)
