-- The lines of records: each is one object, which reads back.
use Rattle.std.proofs.Common.{◌≡◌, ◌≤◌, ℕ, List, [], ◌∷◌, refl, lit≤}
use Rattle.json.specs.Json.{Members, object, max_depth}
use Rattle.json.specs.Tree.{json_tokens, depth, items_depth}
use Rattle.json.specs.Print.{print}
use Rattle.json.proofs.Printed.Trees.{document-print}
use Rattle.kmin_messages.specs.SmallNumbers.{ItemsAreSmall, MembersAreSmall}
use Rattle.kmin_messages.proofs.OneLine.{printed_one_line, numbers}
use Rattle.kmin_records.specs.Records.{IsRecord, record_line, lines_json, compare_members, compare_record, tidy_members, tidy_record}
use Rattle.kmin_lines.specs.LackingLines.{lacking_lines}

-- members whose numbers are small and that don't nest too deep are one object in one line
pub one_object : (members : Members) → MembersAreSmall members → depth (object members) ≤ max_depth → IsRecord members (record_line members)
one_object members small shallow = record {
  text = print (json_tokens (object members));
  ended = refl;
  one_line = printed_one_line (object members) small;
  read_back = document-print (object members) (numbers (object members) small) shallow;
}

lines_depth : (lines : List (List ℕ)) → items_depth (lines_json lines) ≡ 0
lines_depth [] = refl
lines_depth (line ∷ lines) = rw (lines_depth lines) refl

lines_small : (lines : List (List ℕ)) → ItemsAreSmall (lines_json lines)
lines_small [] = tt
lines_small (line ∷ lines) = (tt, lines_small lines)

pub differences_read_back : (name left right : List ℕ) → IsRecord (compare_members name left right) (compare_record name left right)
differences_read_back name left right = one_object (compare_members name left right) (tt, (tt, (tt, tt))) (lit≤ tt)

pub files_read_back : (path bytes least : List ℕ) → IsRecord (tidy_members path bytes least) (tidy_record path bytes least)
files_read_back path bytes least =
    let outs = lacking_lines bytes least in
    let ins = lacking_lines least bytes in
    one_object (tidy_members path bytes least)
    (tt, (tt, (lines_small outs, (lines_small ins, tt))))
    (rw (lines_depth outs, lines_depth ins) (lit≤ tt))
