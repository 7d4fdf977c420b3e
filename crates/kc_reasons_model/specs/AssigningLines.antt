-- The line that assigns a symbol's user value.
use Rattle.std.specs.Prelude.{◌≡◌, ℕ, ◌+◌, length, List, [], ◌∷◌, Option, Some, None, ◌==◌, filter, if◌then◌else◌}
use Rattle.std.specs.Option.{option_or, option_and_then}
use Rattle.kc_tree_model.specs.Trees.{Tree}
use Rattle.kc_rules_model.specs.declared.values.UserValue.{UserValue}
use Rattle.kc_rules_model.specs.declared.values.UserValue.TheVariants.{Tri as TriUser, Text as TextUser, Member as MemberUser, Lines as LinesUser}
use Rattle.kc_rules_model.specs.declared.values.MemberLine.{MemberLine}
use Rattle.kc_dotconfig_model.specs.ConfigLines.{LineMeaning, assigns, assigns_escaped, unchosen, notice, silent}
use Rattle.kc_dotconfig_model.specs.ConfigFiles.{assigned_over, merged_files}

-- assignments of members, if there are any
abbrev pub if_any : List MemberLine → Option UserValue
if_any [] = None
if_any (l ∷ lines) = Some (LinesUser (l ∷ lines))

-- what a user value of its unit says of symbol s: of assignments of members those of s, if there are any; any other user value says
-- what it is
abbrev pub said_of : ℕ → UserValue → Option UserValue
said_of s (TriUser t) = Some (TriUser t)
said_of s (TextUser text) = Some (TextUser text)
said_of s (MemberUser m) = Some (MemberUser m)
said_of s (LinesUser lines) = if_any (filter (λ (l : MemberLine). l.member == s) lines)

-- what a unit's user value, if it has one, says of symbol s
abbrev pub said_to : ℕ → Option UserValue → Option UserValue
said_to s user = option_and_then (said_of s) user

-- the user value that a line assigns to unit u, if it assigns one
abbrev pub user_by_line : ℕ → LineMeaning → Option UserValue
user_by_line u (assigns w x) = if w == u then Some x else None
user_by_line u (assigns_escaped w text) = if w == u then Some (TextUser text) else None
user_by_line u (unchosen w s) = None
user_by_line u (notice kind) = None
user_by_line u silent = None

-- a line that assigns: its number, and what it says
pub record AssigningLine : Type 0 where
  pub number : ℕ
  pub user : UserValue

abbrev pub line_giving : ℕ → Option UserValue → Option AssigningLine
line_giving n None = None
line_giving n (Some x) = Some (record { number = n; user = x })

-- the last line of a file that says something of symbol s of unit u, the first line having this number
abbrev pub assigning_line : (u s first : ℕ) → List LineMeaning → Option AssigningLine
assigning_line u s n [] = None
assigning_line u s n (meaning ∷ meanings) =
    option_or (assigning_line u s (n + 1) meanings) (line_giving n (said_to s (user_by_line u meaning)))

-- of some files the last that has such a line, the first file having this number
pub record AssigningPlace : Type 0 where
  pub file : ℕ
  pub line : AssigningLine

abbrev pub place_giving : ℕ → Option AssigningLine → Option AssigningPlace
place_giving f None = None
place_giving f (Some line) = Some (record { file = f; line = line })

abbrev pub assigning_place : (u s first : ℕ) → List (List LineMeaning) → Option AssigningPlace
assigning_place u s f [] = None
assigning_place u s f (meanings ∷ files) = option_or (assigning_place u s (f + 1) files) (place_giving f (assigning_line u s 1 meanings))

-- the assignment of user values after the lines of some files, each over those before it
abbrev pub all_over : List (List LineMeaning) → List (Option UserValue) → List (Option UserValue)
all_over [] users = users
all_over (meanings ∷ files) users = all_over files (assigned_over meanings users)

-- law: that is what the files' own assignments give, each merged with those before it
abbrev pub FilesAreOverAssignments : Type 0
FilesAreOverAssignments = (tree : Tree) (files : List (List LineMeaning)) (users : List (Option UserValue)) → length users ≡ length tree.units
    → all_over files users ≡ merged_files tree users files
