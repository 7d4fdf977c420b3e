-- Reads the files of a tree into statements, or finds the first fault. It computes what `ReadingRelation` and `ReadingFaults`
-- describe, by the laws `reading_is_the_relation` and `reading_ends_at_the_first_fault`.
use Rattle.std.specs.Prelude.{ℕ, zero, suc, Bool, true, false, not, nat_lt, List, [], ◌∷◌, ◌++◌, length, filter, filter_map, Option, Some, None, is_some, Result, Ok, Err, if◌then◌else◌}
use Rattle.std.specs.Str.{is_utf8}
use Rattle.kc_tokens.specs.Token.{Lexeme, lexemes_from}
use Rattle.kc_tokens.specs.declared.fault.ExprFault.{ExprFault}
use Rattle.kc_tokens.specs.declared.language.Language.{Language}
use Rattle.kc_tree_model.specs.declared.fault.TreeKind.{TreeKind}
use Rattle.kc_tree_model.specs.declared.fault.TreeKind.TheVariants.{NotUtf8, LineTooLong, UnknownStatement, Unclosed, StrayEnd, Misplaced, MissingFile, TooDeep, TooMany, LeftOut}
use Rattle.kc_tree_model.specs.declared.fault.TreeFault.{TreeFault}
use Rattle.kc_tree_model.specs.TreeFiles.{Files, file_at, index_of_file}
use Rattle.kc_tree_model.specs.LogicalLines.{LogicalLine, lines_of}
use Rattle.kc_tree_model.specs.Statements.{path_of_head, Attribute, Statement}
use Rattle.kc_tree_model.specs.declared.statement.Statement.TheVariants.{Head as head, Attribute as attribute}
use Rattle.kc_tree_model.specs.Keywords.{keyword_of}
use Rattle.kc_tree_model.specs.declared.keyword.Keyword.{Keyword}
use Rattle.kc_tree_model.specs.Forms.{statement_of, kind_of_fault, ◌>>=◌}
use Rattle.kc_tree_model.specs.declared.keyword.Block.{Block}
use Rattle.kc_tree_model.specs.Blocks.{Group, Position, GroupHead, of_head, file_end, innermost, sourced_path}
use Rattle.kc_tree_model.specs.Placement.{is_allowed, is_left_out, is_stray_end}
use Rattle.kc_tree_model.specs.Limits.{is_too_many, is_too_deep, FileSource, bytes_in, source_fault, without_repeats}
use Rattle.kc_value.specs.declared.limits.TheConstants.{MAX_TREE_BYTES, MAX_LINE_BYTES, MAX_OPEN_FILES}

-- a fault of this kind if the test is true
abbrev pub fault_if : Bool → TreeKind → Result (Unit {0}) TreeKind
fault_if true k = Err k
fault_if false k = Ok tt

-- the statement of a line in a language, after these groups, with this keyword and these tokens after it, or its first fault
abbrev pub statement_by_keyword : Language → List Group → Keyword → List Lexeme → Result (Option Statement) TreeKind
statement_by_keyword language read k ts = do
  left_out ← fault_if (is_left_out language read k ts) LeftOut
  misplaced ← fault_if (not (is_allowed read k)) Misplaced
  stray ← fault_if (is_stray_end read k) StrayEnd
  s ← statement_of k ts
  deep ← fault_if (is_too_deep read s) TooDeep
  many ← fault_if (is_too_many read s) TooMany
  Ok (Some s)

-- the statement of a line by its keyword and the tokens after it, or its first fault: UnknownStatement if it has no keyword
abbrev pub statement_by_word : Language → List Group → List Lexeme → Option Keyword → Result (Option Statement) TreeKind
statement_by_word language read ts None = Err UnknownStatement
statement_by_word language read ts (Some k) = statement_by_keyword language read k ts

-- the statement of a line with these tokens after these groups, None if it has no tokens, or the line's first fault
abbrev pub statement_of_tokens : Language → List Group → List Lexeme → Result (Option Statement) TreeKind
statement_of_tokens language read [] = Ok None
statement_of_tokens language read (t ∷ ts) = statement_by_word language read ts (keyword_of t)

-- the statement of a line after these groups, None if it has no tokens, or the line's first fault, first that of its tokens
abbrev pub statement_or_fault : Language → List Group → Result (List Lexeme) ExprFault → Result (Option Statement) TreeKind
statement_or_fault language read (Err e) = Err (kind_of_fault e.kind)
statement_or_fault language read (Ok ts) = statement_of_tokens language read ts

-- the statement of a logical line after these groups, None if it is blank, a comment or of a help text, or the line's first fault
unfoldable pub statement_on_line : Language → List Group → LogicalLine → Result (Option Statement) TreeKind
statement_on_line language read l =
    if nat_lt MAX_LINE_BYTES (length l.text) then Err LineTooLong
    else if not (is_utf8 l.text) then Err NotUtf8
    else if l.help then Ok None
    else statement_or_fault language read (lexemes_from language 0 0 l.text)

-- the groups read so far, with an attribute at a line added to the newest group
abbrev pub with_attribute : ℕ → Attribute → List Group → List Group
with_attribute line a [] = []
with_attribute line a (g ∷ before) = record g { attributes = g.attributes ++ record { number = line; attribute = a } ∷ [] } ∷ before

-- the groups read so far and a new one at a place, with this beginning and without attributes
abbrev pub with_group : Position → GroupHead → List Group → List Group
with_group at group_head read = record { number = length read; at = at; head = group_head; attributes = [] } ∷ read

-- the groups read so far, with the statement of a line added as a new group, or its attribute to the newest group
abbrev pub with_statement : Position → Option Statement → List Group → List Group
with_statement at None read = read
with_statement at (Some (head h)) read = with_group at (of_head h) read
with_statement at (Some (attribute a)) read = with_attribute at.line a read

-- the path that the statement of a line sources, if it is a `source`
abbrev pub path_to_read : Option Statement → Option (List ℕ)
path_to_read (Some (head h)) = path_of_head h
path_to_read s = None

-- the outcome of reading a tree or a file: the groups read, newest first, and the fault that ended the reading, if one did
pub record Outcome : Type 0 where
  pub read : List Group
  pub fault : Option TreeFault

-- the outcome of a reading that a fault of this kind at this place ends after these groups
abbrev pub ended_by_fault : Position → TreeKind → List Group → Outcome
ended_by_fault at kind read = record { read = read; fault = Some (record { file = Some at.file; line = at.line; kind = kind }) }

-- the outcome at the end of a file: the fault Unclosed if a block is open in it, at the line that opened the block
abbrev pub at_file_end : ℕ → List Group → Option (Group × Block) → Outcome
at_file_end file read None = record { read = read; fault = None }
at_file_end file read (Some o) = ended_by_fault (record { file = file; line = o.0.at.line }) Unclosed read

-- The functions from here to `read_lines` read the lines of a file. `sub` reads the file of a `source`, `rest` reads the lines
-- after the current one, and `r` has the files.

-- the outcome after a sourced file: its fault if it has one, or its end is added and `rest` reads the lines after the `source`
abbrev pub continue_after_file : (rest : List Group → Outcome) → Position → Outcome → Option TreeFault → Outcome
continue_after_file rest at o (Some f) = o
continue_after_file rest at o None = rest (with_group at file_end o.read)

-- the outcome of a `source` and the lines after it: its own fault if it has one, or `sub` reads its file and `rest` the lines
abbrev pub continue_after_source : (sub : List ℕ → List Group → Outcome) (rest : List Group → Outcome) → Position → List ℕ → List Group → Option TreeKind → Outcome
continue_after_source sub rest at path read (Some k) = ended_by_fault at k read
continue_after_source sub rest at path read None = let o = sub path read in continue_after_file rest at o o.fault

-- the outcome of a line and the lines after it: its statement is added, `sub` reads the file that it sources and `rest` the lines
abbrev pub continue_after_statement : (sub : List ℕ → List Group → Outcome) (rest : List Group → Outcome) → FileSource → Position → List Group → Option Statement → Option (List ℕ) → Outcome
continue_after_statement sub rest r at read s None = rest (with_statement at s read)
continue_after_statement sub rest r at read s (Some path) = continue_after_source sub rest at path (with_statement at s read) (source_fault r read path)

-- the outcome of a line and the lines after it: the line's fault ends the reading, or its statement is added and reading goes on
abbrev pub continue_after_line : (sub : List ℕ → List Group → Outcome) (rest : List Group → Outcome) → FileSource → Position → List Group → Result (Option Statement) TreeKind → Outcome
continue_after_line sub rest r at read (Err k) = ended_by_fault at k read
continue_after_line sub rest r at read (Ok s) = continue_after_statement sub rest r at read s (path_to_read s)

-- the outcome of reading the remaining lines of the file with this number after these groups; `sub` reads the file of a `source`
abbrev pub read_lines : (sub : List ℕ → List Group → Outcome) → FileSource → ℕ → List LogicalLine → List Group → Outcome
read_lines sub r file [] read = at_file_end file read (innermost read)
read_lines sub r file (l ∷ ls) read = continue_after_line sub (read_lines sub r file ls) r (record { file = file; line = l.number }) read (statement_on_line r.language read l)

-- The outcome of reading the file at a path after these groups; the number is how many files may still be opened, this one
-- included. No reading comes to zero: when as many files are open as may be, a `source` is TooDeep and its file isn't read.
abbrev pub read_file : ℕ → FileSource → List ℕ → List Group → Outcome
read_file zero r path read = record { read = read; fault = None }
read_file (suc n) r path read = read_lines (read_file n r) r (r.number path) (lines_of (bytes_in r path)) read

-- the outcome of reading a tree from the bytes of its first file, which may be absent (None) or too large
abbrev pub read_root : FileSource → Option (List ℕ) → Outcome
read_root r None = record { read = []; fault = Some (record { file = None; line = 0; kind = MissingFile }) }
read_root r (Some bytes) = if nat_lt MAX_TREE_BYTES (length bytes) then ended_by_fault (record { file = r.number r.root; line = 0 }) TooMany [] else read_file MAX_OPEN_FILES r r.root []

-- the outcome of reading these files as a tree, from the file at this first path on
unfoldable pub reading : Files → List ℕ → Outcome
reading files root = read_root (record { language = files.language; bytes = file_at files; number = index_of_file files; root = root }) (file_at files root)

-- the bytes of the file at a path, or no bytes if it is absent
abbrev pub bytes_or_none : Files → List ℕ → List ℕ
bytes_or_none files path = elim (file_at files path) [ None ↦ [] | Some bytes ↦ bytes ]

-- the outcome of reading these files as a tree, from this first path on, where an absent path counts as an empty file
unfoldable pub lenient_reading : Files → List ℕ → Outcome
lenient_reading files root = read_root (record { language = files.language; bytes = λ path. Some (bytes_or_none files path); number = index_of_file files; root = root }) (Some (bytes_or_none files root))

-- the absent paths among the first path and those sourced in a reading where absent files count as empty, once each, in order of
-- first occurrence
unfoldable pub wanted_by : Files → List ℕ → List (List ℕ)
wanted_by files root = filter (λ path. not (is_some (file_at files path))) (without_repeats (filter_map sourced_path (lenient_reading files root).read ++ root ∷ []))

-- these paths, or if there are none, the fault if there is one, or no paths
abbrev pub paths_or_fault : List (List ℕ) → Option TreeFault → Result (List (List ℕ)) TreeFault
paths_or_fault [] (Some f) = Err f
paths_or_fault [] None = Ok []
paths_or_fault (path ∷ paths) f = Ok (path ∷ paths)

-- the absent paths to which a reading comes where absent files count as empty, or if there are none, its fault; `AreWanted`
-- describes this, by the law `trees_are_of_the_relation`
unfoldable pub files_wanted : Files → List ℕ → Result (List (List ℕ)) TreeFault
files_wanted files root = paths_or_fault (wanted_by files root) (lenient_reading files root).fault
