-- JSON values, as lists of their items and members.
use Rattle.std.specs.Prelude.{ℕ, List, [], ◌∷◌, Option, Some, None, codes, decimal}
use Rattle.std.specs.Str.Lossy.{utf8_lossy}
use Rattle.json.specs.Json.{Json, null, number, string, array, object, Items, no_items, item, Members, no_members, member}

-- bytes as a JSON string, with U+FFFD in place of what isn't UTF-8
abbrev pub text_json : List ℕ → Json
text_json bytes = string (utf8_lossy bytes)

-- values as the items of an array
abbrev pub json_items : List Json → Items
json_items [] = no_items
json_items (j ∷ js) = item j (json_items js)

-- values as an array
abbrev pub array_of : List Json → Json
array_of js = array (json_items js)

-- a value, or null where there is none
abbrev pub or_null : {X : Type 0} → (X → Json) → Option X → Json
or_null f None = null
or_null f (Some x) = f x

-- names with their values as the members of an object
abbrev pub members_of : List (List ℕ × Json) → Members
members_of [] = no_members
members_of (m ∷ ms) = member m.0 m.1 (members_of ms)

-- names with their values as an object
abbrev pub object_of : List (List ℕ × Json) → Json
object_of ms = object (members_of ms)

-- the members of a place: the path of its file, and the line there
abbrev pub place_members : (path : List ℕ) (line : ℕ) → List (List ℕ × Json)
place_members path line = (codes "path", string path) ∷ (codes "line", number (decimal line)) ∷ []
