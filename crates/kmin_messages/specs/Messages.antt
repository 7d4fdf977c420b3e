-- Messages, and their spellings for people and for programs.
use Rattle.std.specs.Prelude.{◌≡◌, ℕ, true, List, [], ◌∷◌, ◌++◌, Option, Some, None, codes, decimal}
use Rattle.std.specs.Str.Lossy.{utf8_lossy}
use Rattle.json.specs.Json.{Json, null, number, string, array, object, Items, no_items, item, no_members, member, document}
use Rattle.json.specs.Tree.{json_tokens}
use Rattle.json.specs.Print.{print}
use Rattle.kmin_messages.specs.declared.message.Form.{Form}
use Rattle.kmin_messages.specs.declared.message.Form.TheVariants.{Long, Json as Object}
use Rattle.kmin_messages.specs.declared.message.Severity.{Severity}
use Rattle.kmin_messages.specs.declared.message.Severity.TheVariants.{Error, Warning}
use Rattle.kmin_messages.specs.ShownTexts.{has_no_byte}

-- a message: the name of its kind, its severity, the path of its file, if it is of one, the line there (0 where there is none), what
-- there is to say about it, which may be empty, and the names of symbols in that
pub record Message : Type 0 where
  pub kind : List ℕ
  pub severity : Severity
  pub file : Option (List ℕ)
  pub line : ℕ
  pub text : List ℕ
  pub names : List (List ℕ)

-- the word for a severity in messages
abbrev pub severity_name : Severity → List ℕ
severity_name Error = codes "error"
severity_name Warning = codes "warning"

-- where a message is: `FILE:LINE`, or `kmin` without a file
abbrev pub place : (file : Option (List ℕ)) (line : ℕ) → List ℕ
place None line = codes "kmin"
place (Some file) line = file ++ (codes ":" ++ decimal line)

-- a colon, a space and a text; empty for the empty text
abbrev pub after_colon : (text : List ℕ) → List ℕ
after_colon [] = []
after_colon (c ∷ text) = codes ": " ++ c ∷ text

-- the line of a message for people: `FILE:LINE: error: KIND: TEXT`; without a file `kmin: error: KIND: TEXT`, and without `: TEXT` where
-- there is no text
abbrev pub long_line : Message → List ℕ
long_line m = place m.file m.line ++ (codes ": " ++ (severity_name m.severity ++ (codes ": " ++ (m.kind ++ (after_colon m.text ++ codes "\n")))))

-- a path as JSON: a string, in which U+FFFD stands for what isn't UTF-8, or null where there is no file
abbrev pub file_json : Option (List ℕ) → Json
file_json None = null
file_json (Some file) = string (utf8_lossy file)

-- names as the items of a JSON array
abbrev pub names_json : List (List ℕ) → Items
names_json [] = no_items
names_json (name ∷ names) = item (string name) (names_json names)

-- a message as JSON: an object with the members kind, severity, file, line, text and names, in this order
abbrev pub message_json : Message → Json
message_json m =
    object
    (member (codes "kind") (string m.kind)
    (member (codes "severity") (string (severity_name m.severity))
    (member (codes "file") (file_json m.file)
    (member (codes "line") (number (decimal m.line))
    (member (codes "text") (string m.text)
    (member (codes "names") (array (names_json m.names)) no_members))))))

-- the line of a message for programs: its JSON, without white space between tokens
abbrev pub json_line : Message → List ℕ
json_line m = print (json_tokens (message_json m)) ++ codes "\n"

-- the line of a message in a form
abbrev pub form_line : Form → Message → List ℕ
form_line Long message = long_line message
form_line Object message = json_line message

-- a line is one JSON object, that of this message: it reads back as that, and has a newline at its end alone
pub record IsOneObject (m : Message) (line : List ℕ) : Type 0 where
  pub text : List ℕ
  pub ended : line ≡ text ++ 10 ∷ []
  pub one_line : has_no_byte 10 text ≡ true
  pub read_back : document text ≡ Some (message_json m)
