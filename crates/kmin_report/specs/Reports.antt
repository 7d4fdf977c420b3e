-- The lines of standard error.
use Rattle.std.specs.Prelude.{ℕ, List, [], ◌∷◌, ◌++◌, Option, Some, None, codes, map, slice_get, unwrap_or, option_and_then, ◌==◌, if◌then◌else◌}
use Rattle.std.specs.List.{flat_map}
use Rattle.kc_tree_model.specs.TreeFiles.{Files, path_at}
use Rattle.kc_tree_model.specs.Trees.{Tree, Symbol, Choice}
use Rattle.kc_tree_model.specs.declared.ids.Unit.TheVariants.{Symbol as of_symbol, Choice as of_choice}
use Rattle.kc_tree_model.specs.declared.ids.Unit.{Unit as TreeUnit}
use Rattle.kc_tree_model.specs.declared.fault.TreeFault.{TreeFault}
use Rattle.kc_tree_model.specs.declared.fault.TreeKind.{TreeKind}
use Rattle.kc_dotconfig_model.specs.declared.fault.LoadKind.{LoadKind}
use Rattle.kc_dotconfig_model.specs.declared.notice.NoticeKind.{NoticeKind}
use Rattle.kc_dotconfig_model.specs.declared.notice.NoticeKind.TheVariants.{OtherChoice, UnknownSymbol}
use Rattle.kc_dotconfig_model.specs.ConfigLines.{LineMeaning}
use Rattle.kc_dotconfig_model.specs.ConfigFiles.{notices_from}
use Rattle.kc_macros_model.specs.declared.fault.AnswersKind.{AnswersKind}
use Rattle.kc_macros_model.specs.Programs.{Fault, Notice}

-- The texts of a tree in which a fault is: those read from the path `first` on, of which the one at fault has the number `file`, if
-- one has. `names` are the same texts, each at the name that messages give to its file.
pub record TextsRead : Type 0 where
  pub texts : Files
  pub names : Files
  pub first : List ℕ
  pub file : Option ℕ

-- a line of standard error, by what it reports; its bytes are by the spelling of standard error, as `plain_line`
pub data ErrorLine : Type 0 where
  -- a fault of a tree, at a line of a file, and the texts that were read
  tree_line : (path : List ℕ) (number : ℕ) (kind : TreeKind) (read : TextsRead) → ErrorLine
  -- symbols and choices of a tree that depend on each other in a circle, by their numbers as units, at a line of a file
  cycle_line : (path : List ℕ) (number : ℕ) (tree : Tree) (units : List ℕ) → ErrorLine
  -- a fault of a configuration file, of a list of paths or of a bundle
  fault_line : (path : List ℕ) (number : ℕ) (kind : LoadKind) → ErrorLine
  -- a notice of a configuration file, by the number of its line and its kind, and the names of the tree among which that nearest to
  -- an unknown one is looked for
  notice_line : (path : List ℕ) (notice : ℕ × NoticeKind) (names : List (List ℕ)) → ErrorLine
  -- a fault of an answer file
  answers_line : (path : List ℕ) (number : ℕ) (kind : AnswersKind) → ErrorLine
  -- a notice of an expansion of macros
  macro_notice_line : (notice : Notice) → ErrorLine
  -- a fault of an expansion of macros
  macro_fault_line : (fault : Fault) → ErrorLine
  -- standard output can't be written
  output_line : ErrorLine
  -- a path that leads to a link, a folder, a pipe or a device
  not_regular_line : (path : List ℕ) → ErrorLine
  -- a file that couldn't be replaced, or whose folder couldn't be synced after it
  write_line : (path : List ℕ) → ErrorLine
  -- a new file that couldn't be removed
  left_line : (new_path : List ℕ) → ErrorLine
  -- memory ran out
  memory_line : ErrorLine
  -- words that are refused, by their message, which may have several lines
  refused_line : (message : List ℕ) → ErrorLine

-- the path of the file of this number in a tree; the path `first` of the first file if there is no number, or no such file
abbrev pub path_or_first : Files → (first : List ℕ) → Option ℕ → List ℕ
path_or_first texts first None = first
path_or_first texts first (Some number) = unwrap_or (path_at texts number) first

-- the line of standard error for a fault of the tree of these texts, whose files have their names in `names`
abbrev pub tree_fault_line : (texts names : Files) → (first : List ℕ) → TreeFault → ErrorLine
tree_fault_line texts names first fault =
    tree_line (path_or_first names first fault.file) fault.line fault.kind
    (record { texts = texts; names = names; first = first; file = fault.file })

-- the names of a tree among which that nearest to an unknown one is looked for: those of its symbols; none for other kinds of notices
abbrev pub near_names : Tree → NoticeKind → List (List ℕ)
near_names tree UnknownSymbol = map (λ (symbol : Symbol). symbol.name) tree.symbols
near_names tree kind = []

-- the line of standard error for a notice of a configuration file over a tree, by the number of its line and its kind
abbrev pub tree_notice_line : Tree → (path : List ℕ) → (notice : ℕ × NoticeKind) → ErrorLine
tree_notice_line tree path notice = notice_line path notice (near_names tree notice.1)

-- the name of the symbol of this number in a tree; empty if there is none
abbrev pub name_at : Tree → ℕ → List ℕ
name_at tree s = elim (slice_get tree.symbols s) [ None ↦ [] | Some symbol ↦ symbol.name ]

-- the name of the first member of a choice; empty if there is no choice, or it has no members
abbrev pub first_member_name : Tree → Option Choice → List ℕ
first_member_name tree None = []
first_member_name tree (Some choice) = elim (slice_get choice.members 0) [ None ↦ [] | Some s ↦ name_at tree s ]

-- a symbol or a choice in the line of a cycle: ` NAME`, or ` choice:MEMBER` with the name of the choice's first member
abbrev pub unit_text : Tree → Option TreeUnit → List ℕ
unit_text tree None = []
unit_text tree (Some (of_symbol s)) = codes " " ++ name_at tree s
unit_text tree (Some (of_choice c)) = codes " choice:" ++ first_member_name tree (slice_get tree.choices c)

-- the number of the file and the line of a symbol's first definition; zeros if there is no symbol
abbrev pub symbol_place : Option Symbol → ℕ × ℕ
symbol_place None = (0, 0)
symbol_place (Some symbol) = (symbol.file, symbol.line)

-- the number of the file and the line of a choice; zeros if there is no choice
abbrev pub choice_place : Option Choice → ℕ × ℕ
choice_place None = (0, 0)
choice_place (Some choice) = (choice.file, choice.line)

-- the number of the file and the line at which a symbol or a choice begins; zeros if there is neither
abbrev pub unit_place : Tree → Option TreeUnit → ℕ × ℕ
unit_place tree None = (0, 0)
unit_place tree (Some (of_symbol s)) = symbol_place (slice_get tree.symbols s)
unit_place tree (Some (of_choice c)) = choice_place (slice_get tree.choices c)

-- the symbols and choices of a cycle, by their numbers as units of the tree, each after a space
abbrev pub units_text : Tree → List ℕ → List ℕ
units_text tree units = flat_map (λ u. unit_text tree (slice_get tree.units u)) units

-- the number of the file and the line of a cycle: those of its first symbol or choice
abbrev pub cycle_place : Tree → List ℕ → ℕ × ℕ
cycle_place tree units = unit_place tree (option_and_then (slice_get tree.units) (slice_get units 0))

-- the line of standard error for a cycle, at its first symbol or choice
abbrev pub tree_cycle_line : Files → (first : List ℕ) → Tree → List ℕ → ErrorLine
tree_cycle_line texts first tree units =
    cycle_line (path_or_first texts first (Some (cycle_place tree units).0)) (cycle_place tree units).1 tree units

-- the lines of standard error for the notices of a configuration file over a tree, from the meanings of its lines
abbrev pub file_notices : Tree → (path : List ℕ) → List LineMeaning → List ErrorLine
file_notices tree path meanings = map (tree_notice_line tree path) (notices_from 1 meanings)

-- the lines of standard error for the notices of several configuration files over a tree, in order, from the meanings of their lines
abbrev pub notice_lines : Tree → (paths : List (List ℕ)) → List (List LineMeaning) → List ErrorLine
notice_lines tree [] meanings = []
notice_lines tree (path ∷ paths) [] = []
notice_lines tree (path ∷ paths) (meanings ∷ others) = file_notices tree path meanings ++ notice_lines tree paths others

-- the lines of standard error for the notices on choices in configuration files at these paths, in order, each from its place: the
-- number of its file, from 0, and of its line
abbrev pub choice_notice_lines : (paths : List (List ℕ)) → List (ℕ × ℕ) → List ErrorLine
choice_notice_lines paths places = map (λ (p : ℕ × ℕ). notice_line (unwrap_or (slice_get paths p.0) []) (p.1, OtherChoice) []) places

-- the last lines of standard error of a run, by its exit status: `out of memory` for 6, and none for any other
abbrev pub last_lines : (status : ℕ) → List ErrorLine
last_lines status = if status == 6 then memory_line ∷ [] else []
