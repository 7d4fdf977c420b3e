-- The relation of reading: what reading the files of a tree gives, from one line to the next.
use Rattle.std.specs.Prelude.{◌≡◌, ◌⊎◌, ℕ, ◌<◌, ◌≤◌, List, [], ◌∷◌, length, Some, None}
use Rattle.kc_value.specs.declared.limits.TheConstants.{MAX_TREE_BYTES}
use Rattle.kc_tree_model.specs.declared.fault.TreeKind.{TreeKind}
use Rattle.kc_tree_model.specs.declared.fault.TreeKind.TheVariants.{Unclosed, MissingFile, TooMany}
use Rattle.kc_tree_model.specs.LogicalLines.{LogicalLine}
use Rattle.kc_tree_model.specs.LineGrammar.{IsInLines}
use Rattle.kc_tree_model.specs.Statements.{Statement}
use Rattle.kc_tree_model.specs.declared.statement.Head.TheVariants.{Source as source}
use Rattle.kc_tree_model.specs.declared.statement.Statement.TheVariants.{Head as head}
use Rattle.kc_tree_model.specs.declared.keyword.Block.{Block}
use Rattle.kc_tree_model.specs.Blocks.{Group, Position, of_head, file_end, innermost}
use Rattle.kc_tree_model.specs.Limits.{FileSource, bytes_in, source_fault}
use Rattle.kc_tree_model.specs.TreeReading.{with_group, with_statement, path_to_read, Outcome, ended_by_fault}
use Rattle.kc_tree_model.specs.ReadingFaults.{HasTokens, HasForm, IsLineFault, line_order, HoldsNever, IsFirstOf}

-- the line `l` at the position `at` has no fault, sources no file, and turns the groups `read` into these: it has no tokens, or
-- its statement or attribute is added
pub data Appends (r : FileSource) (at : Position) (l : LogicalLine) (read : List Group) : List Group → Type 0 where
  nothing : HoldsNever (IsLineFault r.language read l) → HasTokens r.language l [] → Appends r at l read read
  statement : {s : Statement} → HoldsNever (IsLineFault r.language read l) → HasForm r.language l s → path_to_read (Some s) ≡ None → Appends r at l read (with_statement at (Some s) read)

-- a line has no fault after these groups and is a `source` of this path
pub record SourcesPath (r : FileSource) (read : List Group) (l : LogicalLine) (path : List ℕ) : Type 0 where
  pub faultless : HoldsNever (IsLineFault r.language read l)
  pub form : HasForm r.language l (head (source path))

-- a line has no fault after these groups and is a `source` of this path, which has no fault either and whose file has these lines
pub record SourcesLines (r : FileSource) (read : List Group) (l : LogicalLine) (path : List ℕ) (lines : List LogicalLine) : Type 0 where
  pub sources : SourcesPath r read l path
  pub faultless : source_fault r read path ≡ None
  pub has_lines : IsInLines (bytes_in r path) lines

-- the position of a logical line in the file with this number
abbrev pub place : ℕ → LogicalLine → Position
place file l = record { file = file; line = l.number }

-- The remaining lines of the file with this number are read to its end without a fault, and turn the groups `before` into
-- `after`: each line adds its statement, if any, the lines of a sourced file are read in the place of its `source`, followed by
-- that file's end, and no block of a file is open at its end.
pub data IsRead (r : FileSource) : ℕ → List LogicalLine → (before after : List Group) → Type 0 where
  at_end : {file : ℕ} {read : List Group} → innermost read ≡ None → IsRead r file [] read read
  line : {file : ℕ} {l : LogicalLine} {ls : List LogicalLine} {read next after : List Group} → Appends r (place file l) l read next → IsRead r file ls next after
      → IsRead r file (l ∷ ls) read after
  sourced : {file : ℕ} {l : LogicalLine} {ls lines : List LogicalLine} {read within after : List Group} {path : List ℕ} → SourcesLines r read l path lines
      → IsRead r (r.number path) lines (with_group (place file l) (of_head (source path)) read) within → IsRead r file ls (with_group (place file l) file_end within) after
      → IsRead r file (l ∷ ls) read after

-- Reading the remaining lines of the file with this number after these groups comes, without a fault so far, to the remaining
-- lines `rest` of the file with number `at` after the groups `there`: past lines and sourced files, or into a sourced file.
pub data ComesTo (r : FileSource) (at : ℕ) (rest : List LogicalLine) (there : List Group) : ℕ → List LogicalLine → List Group → Type 0 where
  here : ComesTo r at rest there at rest there
  past_line : {file : ℕ} {l : LogicalLine} {ls : List LogicalLine} {read next : List Group} → Appends r (place file l) l read next → ComesTo r at rest there file ls next
      → ComesTo r at rest there file (l ∷ ls) read
  past_file : {file : ℕ} {l : LogicalLine} {ls lines : List LogicalLine} {read within : List Group} {path : List ℕ} → SourcesLines r read l path lines
      → IsRead r (r.number path) lines (with_group (place file l) (of_head (source path)) read) within → ComesTo r at rest there file ls (with_group (place file l) file_end within)
      → ComesTo r at rest there file (l ∷ ls) read
  into_file : {file : ℕ} {l : LogicalLine} {ls lines : List LogicalLine} {read : List Group} {path : List ℕ} → SourcesLines r read l path lines
      → ComesTo r at rest there (r.number path) lines (with_group (place file l) (of_head (source path)) read)
      → ComesTo r at rest there file (l ∷ ls) read

-- A fault comes next in a file with these remaining lines after these groups, and ends the reading with this outcome: the first
-- fault of the next line, or the first fault of the `source` on that line, or at the file's end a block that is still open.
pub data FaultAt (r : FileSource) (file : ℕ) (read : List Group) : List LogicalLine → Outcome → Type 0 where
  of_line : {l : LogicalLine} {ls : List LogicalLine} {kind : TreeKind} → IsFirstOf line_order (IsLineFault r.language read l) kind
      → FaultAt r file read (l ∷ ls) (ended_by_fault (place file l) kind read)
  of_source : {l : LogicalLine} {ls : List LogicalLine} {path : List ℕ} {kind : TreeKind} → SourcesPath r read l path → source_fault r read path ≡ Some kind
      → FaultAt r file read (l ∷ ls) (ended_by_fault (place file l) kind (with_group (place file l) (of_head (source path)) read))
  of_end : {block : Group × Block} → innermost read ≡ Some block → FaultAt r file read [] (ended_by_fault (record { file = file; line = block.0.at.line }) Unclosed read)

-- the first file of a tree exists, is not larger than MAX_TREE_BYTES, and has these lines
abbrev pub HasFirstFile : FileSource → List LogicalLine → Type 0
HasFirstFile r lines = (bytes : List ℕ) × (r.bytes r.root ≡ Some bytes) × (length bytes ≤ MAX_TREE_BYTES) × IsInLines bytes lines

-- a tree is read from its first file on without a fault and gives these groups
abbrev pub IsWholeReading : FileSource → List Group → Type 0
IsWholeReading r groups = (lines : List LogicalLine) × HasFirstFile r lines × IsRead r (r.number r.root) lines [] groups

-- a fault ends the reading of a tree with this outcome: its first file is missing or too large, or the reading comes to a fault
pub data IsCutReading (r : FileSource) : Outcome → Type 0 where
  no_file : r.bytes r.root ≡ None → IsCutReading r (record { read = []; fault = Some (record { file = None; line = 0; kind = MissingFile }) })
  large_file : {bytes : List ℕ} → r.bytes r.root ≡ Some bytes → MAX_TREE_BYTES < length bytes
      → IsCutReading r (ended_by_fault (record { file = r.number r.root; line = 0 }) TooMany [])
  comes_to_fault : {first rest : List LogicalLine} {file : ℕ} {read : List Group} {o : Outcome} → HasFirstFile r first → ComesTo r file rest read (r.number r.root) first []
      → FaultAt r file read rest o → IsCutReading r o

-- this is an outcome of reading a tree: all its groups without a fault, or those up to the fault that ends the reading
abbrev pub IsOutcome : FileSource → Outcome → Type 0
IsOutcome r o = (IsWholeReading r o.read × (o.fault ≡ None)) ⊎ IsCutReading r o
