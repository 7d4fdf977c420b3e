-- The defaults of choices, as they are collected.
use Rattle.std.specs.Prelude.{◌≡◌, ℕ, List, [], All, length, map, filter, filter_map, reverse, slice_get, Option, Some, None, option_map, option_and_then, if◌then◌else◌}
use Rattle.kc_tokens.specs.declared.language.Language.{Language}
use Rattle.kc_expr.specs.between.Arena.{node_expr}
use Rattle.kc_expr.specs.between.Names.{name_alone}
use Rattle.kc_statements.specs.between.StatementViews.{ReadAttribute}
use Rattle.kc_tree_model.specs.Statements.{default_of}
use Rattle.kc_parser.specs.declared.listing.Line.{Line as CodeLine}
use Rattle.kc_parser.specs.declared.listing.Listing.{Listing}
use Rattle.kc_parser.specs.declared.listing.SymbolTable.{SymbolTable}
use Rattle.kc_parser.specs.declared.listing.GroupHead.{GroupHead as CodeHead}
use Rattle.kc_parser.specs.between.SymbolTable.{number_in}
use Rattle.kc_parser.specs.between.ListingView.{RepresentsListing}
use Rattle.kc_tree_model.specs.Trees as tree
use Rattle.kc_tree_model.specs.Blocks.{Group, opens_choice}
use Rattle.kc_tree_model.specs.Conditions.{GroupInContext, attribute_values}
use Rattle.kc_tree_model.specs.Contents.{Contents, member_default}
use Rattle.kc_tree.specs.between.Views.{member_default_view, MemberDefaultFits}
use Rattle.kc_tree.specs.between.GatheredAttributes.{AreKeys}
use Rattle.kc_tree.specs.between.GroupedItems.{items_of}
use Rattle.kc_parser.specs.between.EnclosingChoices.{is_choice_code}
use Rattle.kc_conditions.specs.between.Walks.{RepresentsAllConditions}
use Rattle.kc_builder.specs.checker.GatheredItems.{gathered_items}
use Rattle.kc_tree.specs.declared.items_with_keys.ItemsWithKeys.{ItemsWithKeys}
use Rattle.kc_tree.specs.declared.symbol.MemberDefault.{MemberDefault}
use Rattle.kc_conditions.specs.declared.group_walk.GroupConditions.{GroupConditions}

-- a listing represents the statements read, and `groups` and `conditions` represent the conditions of statements and attributes
pub record IsWalkOf (language : Language) (l : Listing) (groups : List GroupConditions) (conditions : List ℕ) (read : List Group) : Type 0 where
  pub shows : RepresentsListing l read
  pub shown : RepresentsAllConditions language l.names.arena l.texts.items conditions (length conditions) (reverse groups) read

-- the number of the value's expression in a default, with or without a type; `None` for any other attribute
abbrev pub default_value_view : ReadAttribute → Option ℕ
default_value_view a = option_map (λ d. d.value) (default_of a)

-- the number of the symbol whose bare name an expression is, by the expression's number; `None` if there is none
abbrev pub symbol_bare : SymbolTable → ℕ → Option ℕ
symbol_bare n id = option_and_then (number_in n.arena.names n.numbers.items) (name_alone (node_expr n.arena id))

-- the choice default that an attribute with a condition gives; `None` if it isn't a default with a symbol's bare name
abbrev pub member_default_row : SymbolTable → CodeLine → ℕ → Option MemberDefault
member_default_row n l c = option_map (λ s. record { member = s; condition = c }) (option_and_then (symbol_bare n) (default_value_view l.attribute))

-- the choice defaults that attribute lines with their conditions give, in order; a line that gives none is left out
abbrev pub member_default_rows : SymbolTable → List CodeLine → List ℕ → List MemberDefault
member_default_rows n ls cs = gathered_items (member_default_row n) ls cs

-- the choice defaults that a statement's attributes with their conditions give; none if the statement is no `choice`
abbrev pub group_default_rows : CodeHead → SymbolTable → List CodeLine → List ℕ → List MemberDefault
group_default_rows what n ls cs = if is_choice_code what then member_default_rows n ls cs else []

-- the defaults, in the model, of the choice that a group opens; none for `None`
abbrev pub choice_defaults_of : Language → Contents → Option GroupInContext → List tree.MemberDefault
choice_defaults_of language c None = []
choice_defaults_of language c (Some p) = filter_map (member_default language c p) (attribute_values default_of p.group)

-- the collected defaults, each under its choice's number, represent those of the choices that groups in `places` open
pub record AreDefaultsOf (language : Language) (l : Listing) (c : Contents) (places : List GroupInContext) (count : ℕ) (found : ItemsWithKeys MemberDefault) : Type 0 where
  pub keys : AreKeys count found.keys.items
  pub fits : All (MemberDefaultFits (length l.names.arena.nodes) (length l.names.symbols.items)) found.items.items
  pub are : (k : ℕ) → map (member_default_view l.names.arena) (items_of k found.keys.items found.items.items) ≡ choice_defaults_of language c (slice_get (filter (λ (p : GroupInContext). opens_choice p.group) places) k)
