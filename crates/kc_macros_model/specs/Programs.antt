-- A reading of a tree as a program: the things that it needs from outside, and its result.
use Rattle.std.specs.Prelude.{ℕ, Bool, List, Option}
use Rattle.kc_macros_model.specs.declared.fault.MacroKind.{MacroKind}
use Rattle.kc_macros_model.specs.declared.fault.MacroNoticeKind.{MacroNoticeKind}

-- a place in a tree: the path of a file and the number of a line in it, which is 0 for the file as a whole
pub record Place : Type 0 where
  pub file : List ℕ
  pub line : ℕ

-- why a tree can't be expanded: a kind at a place, and the name or the message that the fault is about
pub record Fault : Type 0 where
  pub at : Place
  pub kind : MacroKind
  pub text : List ℕ

-- a message of a tree's macros at a place, which doesn't make the expansion fail
pub record Notice : Type 0 where
  pub at : Place
  pub kind : MacroNoticeKind
  pub text : List ℕ

-- an answer to a question: a text, or `None` where an environment variable isn't set
abbrev pub Answer : Type 0
Answer = Option (List ℕ)

-- an event of a program: it does work, reports a notice, asks a question, reads the bytes of a path, asks whether a file is at a
-- path, or lists a folder's names
pub data Event : Type 0 where
  spend : Place → ℕ → Event
  report : Notice → Event
  ask : Place → List ℕ → Event
  read_file : List ℕ → Event
  find_file : List ℕ → Event
  list_folder : List ℕ → Event

-- the type of the reply to an event: an answer if there is one, the bytes of a path if it can be read, whether a file is at a path,
-- the names in a folder unless it is there and can't be listed
abbrev pub Reply : Event → Type 0
Reply (spend at work) = Unit {0}
Reply (report notice) = Unit {0}
Reply (ask at question) = Option Answer
Reply (read_file path) = Option (List ℕ)
Reply (find_file path) = Bool
Reply (list_folder folder) = Option (List (List ℕ))

-- a program returns a value, fails, stops since the rest depends on an open question, or has an event and goes on by the reply
pub data Program (A : Type 0) : Type 0 where
  returns : A → Program A
  fails : Fault → Program A
  stops : Program A
  does : (event : Event) → (Reply event → Program A) → Program A

infixl 10 ◌>>=◌
-- one program after another, which is given the value that the first returns; a first one that fails or stops ends the whole
abbrev pub ◌>>=◌ : {A B : Type 0} → Program A → (A → Program B) → Program B
returns x >>= f = f x
fails fault >>= f = fails fault
stops >>= f = stops
does event k >>= f = does event (λ r. k r >>= f)
