-- The line of a message as JSON.
use Rattle.std.proofs.Common.{◌≡◌, ℕ, ◌<◌, ◌≤◌, ◌^◌, List, [], ◌∷◌, Option, Some, None, refl, arith, lit≤}
use Rattle.json.specs.Json.{max_depth}
use Rattle.json.specs.Tree.{json_tokens, depth, items_depth}
use Rattle.json.specs.Print.{print}
use Rattle.json.proofs.Printed.Trees.{document-print}
use Rattle.kmin_messages.specs.Messages.{Message, file_json, names_json, message_json, json_line, IsOneObject}
use Rattle.kmin_messages.specs.SmallNumbers.{HasSmallNumbers, ItemsAreSmall}
use Rattle.kmin_messages.proofs.OneLine.{printed_one_line, numbers}

file_depth : (file : Option (List ℕ)) → depth (file_json file) ≡ 0
file_depth None = refl
file_depth (Some path) = refl

file_small : (file : Option (List ℕ)) → HasSmallNumbers (file_json file)
file_small None = tt
file_small (Some path) = tt

names_depth : (names : List (List ℕ)) → items_depth (names_json names) ≡ 0
names_depth [] = refl
names_depth (name ∷ names) = rw (names_depth names) refl

names_small : (names : List (List ℕ)) → ItemsAreSmall (names_json names)
names_small [] = tt
names_small (name ∷ names) = (tt, names_small names)

shallow : (m : Message) → depth (message_json m) ≤ max_depth
shallow m = rw (file_depth m.file, names_depth m.names) (lit≤ tt)

small : (m : Message) → m.line < 2 ^ 32 → HasSmallNumbers (message_json m)
small m h = (tt, (tt, (file_small m.file, ((m.line, omega arith, refl), (tt, (names_small m.names, tt))))))

-- the line of a message is one object
pub one_object : (m : Message) → m.line < 2 ^ 32 → IsOneObject m (json_line m)
one_object m h = record {
  text = print (json_tokens (message_json m));
  ended = refl;
  one_line = printed_one_line (message_json m) (small m h);
  read_back = document-print (message_json m) (numbers (message_json m) (small m h)) (shallow m);
}
