-- Records: lines for programs, each one JSON object.
use Rattle.std.specs.Prelude.{◌≡◌, ℕ, ◌==◌, Bool, true, ◌&&◌, List, [], ◌∷◌, ◌++◌, Some, codes, length, if◌then◌else◌}
use Rattle.json.specs.Json.{string, array, object, Items, no_items, item, Members, no_members, member, document}
use Rattle.json.specs.Tree.{json_tokens}
use Rattle.json.specs.Print.{print}
use Rattle.kmin_lines.specs.Lines.{have_same_lines}
use Rattle.kmin_messages.specs.ShownTexts.{has_no_byte}
use Rattle.kmin_records.specs.JsonValues.{text_json}
use Rattle.kmin_lines.specs.LackingLines.{lacking_lines}

-- the line of an object with these members, without white space between tokens
abbrev pub record_line : Members → List ℕ
record_line members = print (json_tokens (object members)) ++ codes "\n"

-- a line is the record with these members: one object that reads back as they are, with a newline at its end alone
pub record IsRecord (members : Members) (line : List ℕ) : Type 0 where
  pub text : List ℕ
  pub ended : line ≡ text ++ 10 ∷ []
  pub one_line : has_no_byte 10 text ≡ true
  pub read_back : document text ≡ Some (object members)

-- lines as the items of a JSON array
abbrev pub lines_json : List (List ℕ) → Items
lines_json [] = no_items
lines_json (line ∷ lines) = item (text_json line) (lines_json lines)

-- the members of the record of a symbol whose values differ
abbrev pub compare_members : (name left right : List ℕ) → Members
compare_members name left right =
    member (codes "name") (string name) (member (codes "left") (text_json left) (member (codes "right") (text_json right) no_members))

-- the record of a symbol whose values differ, spelled as in the plain line of `compare`
abbrev pub compare_record : (name left right : List ℕ) → List ℕ
compare_record name left right = record_line (compare_members name left right)

-- how a file differs from its minimal file: `line ends` if they have the same lines in the same order, or else `order` if no line goes
-- and none comes, or else `lines`
abbrev pub status_name : (same : Bool) (out_lines in_lines : List (List ℕ)) → List ℕ
status_name same out_lines in_lines = if same
    then codes "line ends"
    else (if (length out_lines == 0) && (length in_lines == 0) then codes "order" else codes "lines")

-- the members of the record of a file of these bytes, whose minimal file is `least`: its path, how they differ, the lines that only the
-- file has, and those that only its minimal file has
abbrev pub tidy_members : (path bytes least : List ℕ) → Members
tidy_members path bytes least =
    let out_lines = lacking_lines bytes least in
    let in_lines = lacking_lines least bytes in
    member (codes "file") (string path)
    (member (codes "status") (string (status_name (have_same_lines bytes least) out_lines in_lines))
    (member (codes "out") (array (lines_json out_lines))
    (member (codes "in") (array (lines_json in_lines)) no_members)))

-- the record of a file of these bytes, which aren't those of its minimal file `least`
abbrev pub tidy_record : (path bytes least : List ℕ) → List ℕ
tidy_record path bytes least = record_line (tidy_members path bytes least)
