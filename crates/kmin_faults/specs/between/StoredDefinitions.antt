-- The definitions of symbols among the statements of a listing.
use Rattle.std.specs.Prelude.{ℕ, Bool, false, ◌&&◌, ◌==◌, [], ◌∷◌, nat_le, List, length, find, reverse, Option, Some, None, is_some, option_and_then, option_map, slice_range, if◌then◌else◌}
use Rattle.std.specs.List.{list_any, range_with_len}
use Rattle.std.specs.Option.{option_or}
use Rattle.kc_statements.specs.between.StatementViews.{ReadAttribute}
use Rattle.kc_tree_model.specs.Statements.{type_of}
use Rattle.kc_parser.specs.declared.listing.Group.{Group}
use Rattle.kc_parser.specs.declared.listing.GroupHead.{GroupHead}
use Rattle.kc_parser.specs.declared.listing.GroupHead.TheVariants.{Config}
use Rattle.kc_parser.specs.declared.listing.Line.{Line}
use Rattle.kc_parser.specs.declared.listing.Listing.{Listing}
use Rattle.kc_tree_model.specs.Blocks.{Position}
use Rattle.kmin_faults.specs.FirstPlaces.{later}
use Rattle.kc_checks.specs.between.Summaries.{attributes_end, group_at}
use Rattle.kmin_faults.specs.declared.first_places.TextPlace.{TextPlace}

-- the number of the symbol that a statement defines, if it defines one
abbrev pub defined_by : GroupHead → Option ℕ
defined_by (Config symbol) = Some symbol
defined_by head = None

-- whether a statement defines the symbol with a number
abbrev pub defines : (symbol : ℕ) → Group → Bool
defines symbol group = elim (defined_by group.head) [ None ↦ false | Some s ↦ s == symbol ]

-- whether a statement defines a symbol, and begins in the file of a place, at its line or before
abbrev pub begins_before : TextPlace → Group → Bool
begins_before at group = elim (defined_by group.head) [ None ↦ false | Some s ↦ group.file == at.file && nat_le group.line at.line ]

-- the last line, at a place or before it in its file, at which one of these definitions begins; 0 if none does
abbrev pub last_line : TextPlace → (newest : List Group) → ℕ
last_line at [] = 0
last_line at (g ∷ before) = if begins_before at g then later g.line (last_line at before) else last_line at before

-- the number of the symbol whose definition begins at that line
abbrev pub definition_at : TextPlace → (newest : List Group) → Option ℕ
definition_at at newest = option_and_then (λ (g : Group). defined_by g.head) (find (λ g. begins_before at g && (g.line == last_line at newest)) newest)

-- a place as the definitions have it
abbrev pub position_of : TextPlace → Position
position_of place = record { file = place.file; line = place.line }

-- the place of a statement
abbrev pub place_of : Group → TextPlace
place_of group = record { file = group.file; line = group.line }

-- the place of the first definition of a symbol
abbrev pub first_of : List Group → (symbol : ℕ) → Option TextPlace
first_of groups symbol = option_map place_of (find (defines symbol) groups)

-- whether an attribute gives a type
abbrev pub gives_type : ReadAttribute → Bool
gives_type a = is_some (type_of a)

-- whether one of the attributes from one place up to another gives a type; false where the list doesn't have them
abbrev pub has_type : List Line → (begin end : ℕ) → Bool
has_type lines begin end = nat_le begin end && nat_le end (length lines) && list_any (λ (line : Line). gives_type line.attribute) (slice_range lines begin end)

-- whether a statement, by its number, has a type
abbrev pub is_typed : Listing → (number : ℕ) → Bool
is_typed listing number =
    has_type listing.lines.items (group_at listing.groups.items number).attributes (attributes_end listing.groups.items listing.lines.items number)

-- the place of the first definition of a symbol that has a type
abbrev pub first_typed : Listing → (symbol : ℕ) → Option TextPlace
first_typed listing symbol =
    option_map (λ i. place_of (group_at listing.groups.items i))
    (find (λ i. defines symbol (group_at listing.groups.items i) && is_typed listing i) (range_with_len 0 (length listing.groups.items)))

-- whether two places are the same
abbrev pub is_same_place : TextPlace → TextPlace → Bool
is_same_place one other = one.file == other.file && (one.line == other.line)

-- a place, unless it is this one
abbrev pub unless_same : Option TextPlace → (at : TextPlace) → Option TextPlace
unless_same None at = None
unless_same (Some place) at = if is_same_place place at then None else Some place

-- the place of a symbol's first definition, if it is another than this; else of its first one with a type, if that is another
abbrev pub other_place : Listing → (at : TextPlace) → (symbol : ℕ) → Option TextPlace
other_place listing at symbol = option_or (unless_same (first_of listing.groups.items symbol) at) (unless_same (first_typed listing symbol) at)

-- the place of the first definition with a type of the symbol whose definition has a place
abbrev pub first_type_in : Listing → (at : TextPlace) → Option TextPlace
first_type_in listing at = option_and_then (first_typed listing) (definition_at at (reverse listing.groups.items))

-- the place of another definition of the symbol whose definition has a place
abbrev pub other_definition_in : Listing → (at : TextPlace) → Option TextPlace
other_definition_in listing at = option_and_then (other_place listing at) (definition_at at (reverse listing.groups.items))
