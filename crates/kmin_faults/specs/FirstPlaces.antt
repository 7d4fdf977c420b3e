-- The first definitions of symbols among the statements of a tree that were read, the newest first.
use Rattle.std.specs.Prelude.{ℕ, Bool, false, ◌&&◌, ◌==◌, List, [], ◌∷◌, Option, Some, None, bytes_eq, find, is_some, nat_le, option_and_then, option_map, reverse, if◌then◌else◌}
use Rattle.std.specs.List.{list_any}
use Rattle.std.specs.Option.{option_or}
use Rattle.kc_tree_model.specs.Statements.{type_of}
use Rattle.kc_tree_model.specs.Blocks.{Group, Line, Position, defined_name}

-- whether a statement defines a symbol, and begins in the file of a place, at its line or before
abbrev pub begins_before : Position → Group → Bool
begins_before at g = elim (defined_name g) [ None ↦ false | Some name ↦ g.at.file == at.file && nat_le g.at.line at.line ]

-- the later of two lines
abbrev pub later : ℕ → ℕ → ℕ
later one other = if nat_le other one then one else other

-- the last line, at a place or before it in its file, at which a definition begins; 0 if none does
abbrev pub last_line : Position → (read : List Group) → ℕ
last_line at [] = 0
last_line at (g ∷ before) = if begins_before at g then later g.at.line (last_line at before) else last_line at before

-- the name of the symbol whose definition has a place: the one that begins at that line
abbrev pub name_at : (read : List Group) → Position → Option (List ℕ)
name_at read at = option_and_then defined_name (find (λ g. begins_before at g && (g.at.line == last_line at read)) read)

-- whether a statement defines the symbol with a name
abbrev pub defines : (name : List ℕ) → Group → Bool
defines name g = elim (defined_name g) [ None ↦ false | Some other ↦ bytes_eq other name ]

-- whether one of a statement's attributes gives a type
abbrev pub has_type : Group → Bool
has_type g = list_any (λ (l : Line). is_some (type_of l.attribute)) g.attributes

-- the place of the first definition of a symbol
abbrev pub first_definition : (read : List Group) → (name : List ℕ) → Option Position
first_definition read name = option_map (λ (g : Group). g.at) (find (defines name) (reverse read))

-- the place of the first definition of a symbol that has a type
abbrev pub first_typed : (read : List Group) → (name : List ℕ) → Option Position
first_typed read name = option_map (λ (g : Group). g.at) (find (λ g. defines name g && has_type g) (reverse read))

-- a place, unless it is this one
abbrev pub unless_at : (at : Position) → Option Position → Option Position
unless_at at None = None
unless_at at (Some place) = if place.file == at.file && (place.line == at.line) then None else Some place

-- the place of a symbol's first definition, unless it is this one; else of its first one with a type, unless that is this one
abbrev pub other_place : (read : List Group) → (at : Position) → (name : List ℕ) → Option Position
other_place read at name = option_or (unless_at at (first_definition read name)) (unless_at at (first_typed read name))

-- of the symbol whose definition has a place: the place of its first definition with a type
abbrev pub first_type : (read : List Group) → (at : Position) → Option Position
first_type read at = option_and_then (first_typed read) (name_at read at)

-- of the symbol whose definition begins at a place: that of its first definition, or where that is this one of its first one with a
-- type, if that is another
abbrev pub other_definition : (read : List Group) → (at : Position) → Option Position
other_definition read at = option_and_then (other_place read at) (name_at read at)
