-- What is known of the files that lines of standard error are about.
use Rattle.std.specs.Prelude.{◌≡◌, ℕ, List, Option, Some, None, Result, Ok, Err}
use Rattle.kmin_texts.specs.NumberedLines.{line_at}
use Rattle.kmin_texts.specs.declared.line_files.Reread.{Reread}
use Rattle.kmin_details.specs.declared.places.Unreadable.{Unreadable}
use Rattle.kmin_details.specs.declared.places.Unreadable.TheVariants.{FailedRead}
use Rattle.kmin_texts.specs.declared.line_files.Reread.TheVariants.{Shown, Hidden, NoLine, Unread}

-- what is known of a file: its bytes, or why it can't be read; None if neither is known
abbrev pub KnownFile : Type 0
KnownFile = Option (Result (List ℕ) Unreadable)

-- what is known of files: of one of a tree in the folder `root`, by its path there, and of one of the command line, by its path
pub record KnownLines : Type 0 where
  pub tree : (root path : List ℕ) → KnownFile
  pub named : (path : List ℕ) → KnownFile

-- nothing is known of any file
abbrev pub nothing_known : KnownLines
nothing_known = record { tree = λ root path. None; named = λ path. None }

-- this may be the line of a file with a number, as far as the file is known; None if it has no such line
abbrev pub IsLineOf : KnownFile → (number : ℕ) → (line : Option (List ℕ)) → Type 0
IsLineOf None number line = Unit {0}
IsLineOf (Some (Err why)) number line = ⊥
IsLineOf (Some (Ok bytes)) number line = line_at bytes number ≡ line

-- a file may be unreadable for this reason: for the one that is known, or since a read failed, where its bytes are known
abbrev pub MayBeUnread : KnownFile → Unreadable → Type 0
MayBeUnread None why = Unit {0}
MayBeUnread (Some (Err known)) why = why ≡ known
MayBeUnread (Some (Ok bytes)) why = why ≡ FailedRead

-- this may be why a file can't be read, None if it can be read
abbrev pub MayBeReason : KnownFile → Option Unreadable → Type 0
MayBeReason known (Some why) = MayBeUnread known why
MayBeReason (Some (Err why)) None = ⊥
MayBeReason known None = Unit {0}

-- this may be what a file that is read once more has at a line
abbrev pub IsReread : KnownFile → (number : ℕ) → Reread → Type 0
IsReread known number (Shown line) = IsLineOf known number (Some line.items)
IsReread known number (Hidden line) = IsLineOf known number (Some line.items)
IsReread known number NoLine = IsLineOf known number None
IsReread known number (Unread why) = MayBeUnread known why
