-- Summaries of symbols and choices, before conditions are joined.
use Rattle.std.specs.Prelude.{◌≡◌, ℕ, Bool, false, ◌&&◌, ◌-◌, ◌+◌, ◌==◌, List, [], ◌∷◌, drop, length, map, filter, filter_map, flat_map, slice_get, slice_index_or, slice_range, Option, Some, None, is_none, option_and_then, option_map, option_to_list, nat_lt, if◌then◌else◌}
use Rattle.std.specs.Option.{option_or}
use Rattle.kc_value.specs.declared.value.Kind.{Kind}
use Rattle.kc_expr.specs.between.Arena.{Exprs}
use Rattle.kc_expr.specs.Lookup.{index_of_name}
use Rattle.kc_statements.specs.between.StatementViews.{attribute_in}
use Rattle.kc_tree_model.specs.Statements.{type_of}
use Rattle.kc_tree_model.specs.Blocks.{Group, defined_name, opens_choice}
use Rattle.kc_tree_model.specs.Conditions.{GroupInContext, groups_in_context, attribute_values}
use Rattle.kc_tree_model.specs.Contents.{Contents, begins_symbol, contents_of, choice_number, defines, is_first_definition}
use Rattle.kc_tree_model.specs.declared.ids.Unit.{Unit as TreeUnit}
use Rattle.kc_tree_model.specs.declared.ids.Unit.TheVariants.{Symbol as of_symbol, Choice as of_choice}
use Rattle.kc_parser.specs.declared.listing.Group.{Group as CodeGroup}
use Rattle.kc_parser.specs.declared.listing.Line.{Line as CodeLine}
use Rattle.kc_parser.specs.declared.listing.Listing.{Listing}
use Rattle.kc_parser.specs.declared.listing.GroupHead.TheVariants as codes
use Rattle.kc_parser.specs.between.ListingView.{RepresentsListing}
use Rattle.kc_checks.specs.declared.summary.SymbolSummary.{SymbolSummary}
use Rattle.kc_checks.specs.declared.summary.Summary.{Summary}
use Rattle.kc_tree.specs.declared.items_with_keys.ItemsWithKeys.{ItemsWithKeys}

-- a listing represents some statements, in the form of the model
pub record IsRepresented (l : Listing) : Type 0 where
  pub read : List Group
  pub shows : RepresentsListing l read

-- the groups read before the one of this number, newest first, from all groups read, newest first
abbrev pub read_before : ℕ → List Group → List Group
read_before i read = drop (length read - i) read

-- the group used where no group has the given number
abbrev pub no_group : CodeGroup
no_group = record { file = 0; line = 0; head = codes.FileEnd; attributes = 0; choice = None }

-- the group with this number; `no_group` if there is no such group
abbrev pub group_at : List CodeGroup → ℕ → CodeGroup
group_at groups i = slice_index_or groups i no_group

-- the index where a group's attribute lines end, by the group's number: where the next group's begin, or the end of all lines
abbrev pub attributes_end : List CodeGroup → List CodeLine → ℕ → ℕ
attributes_end groups lines i = if nat_lt (i + 1) (length groups) then (group_at groups (i + 1)).attributes else length lines

-- the attribute lines of the group with this number in a listing
abbrev pub own_lines : Listing → ℕ → List CodeLine
own_lines l i = slice_range l.lines.items (group_at l.groups.items i).attributes (attributes_end l.groups.items l.lines.items i)

-- the number of the choice that encloses a group, among all choices; `None` outside choices
abbrev pub enclosing_choice : Contents → GroupInContext → Option ℕ
enclosing_choice c p = option_and_then (choice_number c) p.choice

-- the first value that a function gives for the definitions of a name among groups; `None` if there is none
abbrev pub first_in_definitions : {A : Type 0} → (GroupInContext → List A) → List GroupInContext → List ℕ → Option A
first_in_definitions f places name = slice_get (flat_map f (filter (defines name) places)) 0

-- the number of a group among all groups, as a list of one
abbrev pub number_at : GroupInContext → List ℕ
number_at p = p.group.number ∷ []

-- the number of the choice that encloses a group, among all choices, as a list of one; the empty list outside choices
abbrev pub choices_at : Contents → GroupInContext → List ℕ
choices_at c p = option_to_list (enclosing_choice c p)

-- the summary of the symbol of a name over its definitions among some groups
abbrev pub summary_in : Contents → List GroupInContext → List ℕ → SymbolSummary
summary_in c places name = record {
  first = first_in_definitions number_at places name;
  given = first_in_definitions (λ (p : GroupInContext). attribute_values type_of p.group) places name;
  choice = first_in_definitions (choices_at c) places name;
}

-- the summaries of all symbols over their definitions among some groups, in order of the symbols' numbers
abbrev pub symbol_summaries : Contents → List GroupInContext → List SymbolSummary
symbol_summaries c places = map (summary_in c places) c.names

-- the list has the summary of each symbol of a listing, in order of the symbols' numbers
abbrev pub AreSymbolSummaries : Listing → List SymbolSummary → Type 0
AreSymbolSummaries l symbols = (read : List Group) → RepresentsListing l read → symbols ≡ symbol_summaries (contents_of read) (groups_in_context read)

-- the type that an attribute line gives; `None` if it gives none
abbrev pub type_in : Exprs → CodeLine → Option Kind
type_in e l = type_of (attribute_in e l.attribute)

-- two summaries of a symbol as one: each value is the first summary's, or the second's where the first has none
abbrev pub first_summary : SymbolSummary → SymbolSummary → SymbolSummary
first_summary a b = record { first = option_or a.first b.first; given = option_or a.given b.given; choice = option_or a.choice b.choice }

-- the number of a name's symbol as a list of one, if the name is defined inside a choice; the empty list if not
abbrev pub member_in : Contents → Option ℕ → Option (List ℕ) → List ℕ
member_in c None name = []
member_in c (Some k) name = option_to_list (option_and_then (λ x. index_of_name x c.names) name)

-- the number of the choice that encloses a group that is the first definition of a symbol; `None` for any other group
abbrev pub own_choice : Contents → GroupInContext → Option ℕ
own_choice c p = if begins_symbol c p then enclosing_choice c p else None

-- the number of the symbol that a group defines, as a list of one, where a function gives it a choice; else the empty list
abbrev pub members_at : (GroupInContext → Option ℕ) → Contents → GroupInContext → List ℕ
members_at choice_at c p = member_in c (choice_at p) (defined_name p.group)

-- the number of the choice that a function gives a group; 0 where it gives none
abbrev pub member_key : (GroupInContext → Option ℕ) → GroupInContext → ℕ
member_key choice_at p = elim (choice_at p) [ None ↦ 0 | Some k ↦ k ]

-- the number of the choice that a function gives a group, as a list of one, for a group that defines a symbol; else the empty list
abbrev pub member_keys_at : (GroupInContext → Option ℕ) → Contents → GroupInContext → List ℕ
member_keys_at choice_at c p = map (λ _. member_key choice_at p) (members_at choice_at c p)

-- the collected items are the symbols that some groups define where a function gives a choice, each under the choice's number
pub record AreMembers (choice_at : GroupInContext → Option ℕ) (c : Contents) (places : List GroupInContext) (m : ItemsWithKeys ℕ) : Type 0 where
  pub member_keys : m.keys.items ≡ flat_map (member_keys_at choice_at c) places
  pub members : m.items.items ≡ flat_map (members_at choice_at c) places

-- the choice that a group opens, as a unit; `None` if the group opens none
abbrev pub choice_begun : Contents → GroupInContext → Option TreeUnit
choice_begun c p = if opens_choice p.group then option_map of_choice (choice_number c p.group.number) else None

-- the unit that begins with a group: the choice that the group opens, or the symbol that it defines, if that is the symbol's first
-- definition and outside choices
abbrev pub own_unit : Contents → GroupInContext → Option TreeUnit
own_unit c p = elim (defined_name p.group) [ None ↦ choice_begun c p | Some name ↦ if is_first_definition c name p && is_none (enclosing_choice c p) then option_map of_symbol (index_of_name name c.names) else None ]

-- a summary of some of the groups read: the symbols' summaries, how many choices these groups open, the members of choices by all
-- these groups and by first definitions alone, and the units that begin with them
pub record IsSummaryOf (c : Contents) (places : List GroupInContext) (s : Summary) : Type 0 where
  pub symbols : s.symbols.items ≡ map (summary_in c places) c.names
  pub choices : s.choices ≡ length (map (λ (p : GroupInContext). p.group.number) (filter (λ (p : GroupInContext). opens_choice p.group) places))
  pub members : AreMembers (enclosing_choice c) c places s.members
  pub own_members : AreMembers (own_choice c) c places s.own_members
  pub units : s.units.items ≡ filter_map (own_unit c) places

-- a summary is that of all these groups
unfoldable pub IsSummary : List Group → Summary → Type 0
IsSummary read s = IsSummaryOf (contents_of read) (groups_in_context read) s

-- whether an optional group number is present and equals a number
abbrev pub first_is : Option ℕ → ℕ → Bool
first_is None i = false
first_is (Some n) i = n == i

-- a summary is that of the statements that a listing represents
abbrev pub IsSummed : Listing → Summary → Type 0
IsSummed l s = (read : List Group) → RepresentsListing l read → IsSummary read s
