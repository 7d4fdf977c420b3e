-- The fault of a configuration file that is reported is the one whose byte comes first.
use Rattle.std.specs.Prelude.{◌≡◌, ◌⊎◌, ℕ, ◌+◌, ◌<◌, ◌≤◌, List, [], ◌∷◌, ◌++◌, length, take, true}
use Rattle.std.specs.Str.{IsUtf8}
use Rattle.kc_value.specs.declared.limits.TheConstants.{MAX_CONFIG_BYTES, MAX_CONFIG_LINES, MAX_LINE_BYTES}
use Rattle.kc_tree_model.specs.Trees.{Tree}
use Rattle.kc_dotconfig_model.specs.Formats.{FileFormat}
use Rattle.kc_dotconfig_model.specs.declared.fault.LoadKind.{LoadKind}
use Rattle.kc_dotconfig_model.specs.declared.fault.LoadKind.TheVariants.{Malformed, NotUtf8, LineTooLong, TooManyLines, Read, OutOfMemory, TooLarge}
use Rattle.kc_value.specs.Lines.{has_no_byte, newline_count, HasWholeLines}
use Rattle.kc_dotconfig_model.specs.ConfigLines.{IsMalformed}

-- `line` is the line of the file with this number, counted from 1, and its first byte is at `start`; its newline isn't part of it
pub record IsLineAt (bytes line : List ℕ) (number start : ℕ) : Type 0 where
  pub front : List ℕ
  pub rest : List ℕ
  pub whole : bytes ≡ front ++ (line ++ rest)
  pub starts : start ≡ length front
  pub number_is : number ≡ newline_count front + 1
  pub begins : HasWholeLines front
  pub ends : ((rest ≡ []) × (0 < length line)) ⊎ ((later : List ℕ) × (rest ≡ 10 ∷ later))
  pub one_line : has_no_byte 10 line ≡ true

-- in a complete file of these bytes, a fault of this kind occurs at the byte of the first number, counted from 0, and
-- is reported with the line of the second number, counted from 1
abbrev pub OccursAt : FileFormat → Tree → List ℕ → LoadKind → ℕ → ℕ → Type 0
OccursAt format tree bytes TooLarge byte number = (MAX_CONFIG_BYTES < length bytes) × (byte ≡ MAX_CONFIG_BYTES)
    × (number ≡ newline_count (take MAX_CONFIG_BYTES bytes) + 1)
OccursAt format tree bytes TooManyLines byte number = (line : List ℕ) × IsLineAt bytes line number byte
    × (number ≡ MAX_CONFIG_LINES + 1)
OccursAt format tree bytes LineTooLong byte number = (line : List ℕ) × (start : ℕ) × IsLineAt bytes line number start
    × (MAX_LINE_BYTES < length line) × (byte ≡ start + MAX_LINE_BYTES)
OccursAt format tree bytes NotUtf8 byte number = (line : List ℕ) × (start : ℕ) × IsLineAt bytes line number start
    × (IsUtf8 line → ⊥) × (byte ≡ start + length line)
OccursAt format tree bytes Malformed byte number = (line : List ℕ) × (start : ℕ) × IsLineAt bytes line number start
    × IsMalformed format tree line × (byte ≡ start + length line)
OccursAt format tree bytes Read byte number = ⊥
OccursAt format tree bytes OutOfMemory byte number = ⊥

-- the rank of a kind of fault: of several faults at the same byte the one of the lowest rank is the first
abbrev pub rank_of : LoadKind → ℕ
rank_of TooLarge = 0
rank_of TooManyLines = 1
rank_of LineTooLong = 2
rank_of NotUtf8 = 3
rank_of Malformed = 4
rank_of Read = 5
rank_of OutOfMemory = 6

-- whether a configuration file ends after the bytes that were read, or a read failed there
pub data InputEnd : Type 0 where
  complete : InputEnd
  cut_short : InputEnd

-- A fault of this kind, byte and line may be the first one: in a complete file any that occurs; after a failed read any at a byte
-- before it, and the failed read itself. So the line that a failed read cuts can only be too long or one line too many.
abbrev pub IsConsideredAt : FileFormat → Tree → InputEnd → List ℕ → LoadKind → ℕ → ℕ → Type 0
IsConsideredAt format tree complete bytes kind byte number = OccursAt format tree bytes kind byte number
IsConsideredAt format tree cut_short bytes kind byte number =
    (OccursAt format tree bytes kind byte number × (byte < length bytes)) ⊎ ((kind ≡ Read) × (byte ≡ length bytes) × (number ≡ newline_count bytes + 1))

-- the first fault of the configuration file, which is complete or was cut short by a failed read, has this kind and
-- this line number
pub record IsFirstFault (format : FileFormat) (tree : Tree) (extent : InputEnd) (bytes : List ℕ) (kind : LoadKind) (number : ℕ) : Type 0 where
  pub byte : ℕ
  pub comes : IsConsideredAt format tree extent bytes kind byte number
  pub first : (other : LoadKind) (other_byte other_number : ℕ)
      → IsConsideredAt format tree extent bytes other other_byte other_number
      → (byte < other_byte) ⊎ ((byte ≡ other_byte) × (rank_of kind ≤ rank_of other))

-- no fault occurs in the configuration file
abbrev pub IsAccepted : FileFormat → Tree → List ℕ → Type 0
IsAccepted format tree bytes =
    (kind : LoadKind) (byte number : ℕ) → IsConsideredAt format tree complete bytes kind byte number → ⊥
