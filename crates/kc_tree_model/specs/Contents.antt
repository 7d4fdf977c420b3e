-- The tree that a list of statements defines.
use Rattle.std.specs.Prelude.{ℕ, Bool, false, ◌&&◌, ◌==◌, List, [], ◌∷◌, ◌++◌, map, filter, filter_map, flat_map, take, slice_get, Option, Some, None, is_none, option_map, option_and_then, unwrap_or, position, bytes_eq, if◌then◌else◌}
use Rattle.std.specs.List.{list_any}
use Rattle.kc_value.specs.declared.value.Kind.{Kind}
use Rattle.kc_value.specs.declared.value.Kind.TheVariants.{Bool as Boolean}
use Rattle.kc_tokens.specs.declared.language.Language.{Language}
use Rattle.kc_tokens.specs.Languages.{is_linux_6_12}
use Rattle.kc_expr.specs.Expr.{Expr, Operand, named, alone}
use Rattle.kc_expr.specs.Lookup.{index_of_name}
use Rattle.kc_tree_model.specs.Trees.{Default, Range, ReverseDependency, Symbol, MemberDefault, Choice, Tree}
use Rattle.kc_tree_model.specs.declared.ids.Unit.{Unit as TreeUnit}
use Rattle.kc_tree_model.specs.declared.ids.Unit.TheVariants.{Symbol as of_symbol, Choice as of_choice}
use Rattle.kc_tree_model.specs.Trees as tree
use Rattle.kc_tree_model.specs.declared.statement.DefaultAttribute.{DefaultAttribute}
use Rattle.kc_tree_model.specs.declared.statement.RangeAttribute.{RangeAttribute}
use Rattle.kc_tree_model.specs.declared.statement.TargetAttribute.{TargetAttribute}
use Rattle.kc_tree_model.specs.Statements.{Head, Attribute, title_of_head, type_of, default_of, visible_of, range_of, select_of, imply_of, is_optional}
use Rattle.kc_tree_model.specs.declared.statement.Head.TheVariants.{Config as config, Choice as choice, Menu as menu, Comment as comment, Ends as ends}
use Rattle.kc_tree_model.specs.declared.keyword.Block.TheVariants as blocks
use Rattle.kc_tree_model.specs.Blocks.{Group, Line, from_head, defined_name, opens_choice}
use Rattle.kc_tree_model.specs.TreeFiles.{Files}
use Rattle.kc_tree_model.specs.Limits.{names_defined}
use Rattle.kc_tree_model.specs.TreeReading.{reading}
use Rattle.kc_tree_model.specs.Conditions.{Context, context, context_of, attribute_values, dependency_of, attribute_condition, prompts_of, conjunction_of, GroupInContext, groups_in_context}

-- the contents of what was read: the groups in reading order with the blocks open at them, the names of the symbols in order of first
-- definition, and the numbers of the groups that open choices
pub record Contents : Type 0 where
  pub places : List GroupInContext
  pub names : List (List ℕ)
  pub choices : List ℕ

-- the contents of the groups that were read (newest first)
abbrev pub contents_of : List Group → Contents
contents_of read =
    let places = groups_in_context read in
    record {
      places = places;
      names = names_defined read;
      choices = map (λ (p : GroupInContext). p.group.number) (filter (λ (p : GroupInContext). opens_choice p.group) places);
    }

-- the index of a number in a list, from 0, if it is in the list
unfoldable pub index_of_number : ℕ → List ℕ → Option ℕ
index_of_number n numbers = position (λ k. k == n) numbers

-- the number of a choice among the choices, from 0, by the number of the group that opens it
abbrev pub choice_number : Contents → ℕ → Option ℕ
choice_number c group = index_of_number group c.choices

-- whether a group defines the symbol with this name
abbrev pub defines : List ℕ → GroupInContext → Bool
defines name p = elim (defined_name p.group) [ None ↦ false | Some x ↦ bytes_eq x name ]

-- the definitions of the symbol with this name, in reading order
abbrev pub definitions_of : Contents → List ℕ → List GroupInContext
definitions_of c name = filter (defines name) c.places

-- the group of the first definition of the symbol with this name, if it has one
abbrev pub first_definition : Contents → List ℕ → Option Group
first_definition c name = option_map (λ (p : GroupInContext). p.group) (slice_get (definitions_of c name) 0)

-- the group that opens the choice in which the first definition of the symbol with this name is, if it is in one
abbrev pub choice_of_first_definition : Contents → List ℕ → Option ℕ
choice_of_first_definition c name = option_and_then (λ (p : GroupInContext). p.choice) (slice_get (definitions_of c name) 0)

-- the first type that the definitions of the symbol with this name give, if any ("Menu attributes", type definition)
abbrev pub type_given : Contents → List ℕ → Option Kind
type_given c name = slice_get (flat_map (λ (p : GroupInContext). attribute_values type_of p.group) (definitions_of c name)) 0

-- the number of the choice of which the symbol with this name is a member, if any: that of its first definition within a choice
abbrev pub choice_of_symbol : Contents → List ℕ → Option ℕ
choice_of_symbol c name = option_and_then (choice_number c) (slice_get (filter_map (λ (p : GroupInContext). p.choice) (definitions_of c name)) 0)

-- the type of a symbol, by the number of its choice if it is a member and the first type given to it, if any: a member is a bool,
-- also one that is given as a tristate, and so is a symbol without a type
abbrev pub kind_in_tree : Option ℕ → Option Kind → Kind
kind_in_tree (Some k) given = Boolean
kind_in_tree None given = unwrap_or given Boolean

-- the defaults of a definition, in order, with their whole conditions ("Menu attributes", default value)
abbrev pub defaults_at : Language → GroupInContext → List Default
defaults_at language p = map (λ (d : DefaultAttribute Expr). record { value = d.value; condition = attribute_condition (context_of language p) p.group d.condition; from_environment = d.from_environment }) (attribute_values default_of p.group)

-- the ranges of a definition, in order, with their whole conditions ("Menu attributes", numerical ranges)
abbrev pub ranges_at : Language → GroupInContext → List Range
ranges_at language p = map (λ (r : RangeAttribute Expr Operand). record { low = r.low; high = r.high; condition = attribute_condition (context_of language p) p.group r.condition }) (attribute_values range_of p.group)

-- the reverse dependencies that the symbol with this name exerts by these `select`s or `imply`s of one of its definitions
abbrev pub reverse_dependencies_by : Language → Contents → GroupInContext → List (TargetAttribute Expr (List ℕ)) → List ℕ → List ReverseDependency
reverse_dependencies_by language c p aims by = elim (index_of_name by c.names) [ None ↦ [] | Some s ↦ map (λ (a : TargetAttribute Expr (List ℕ)). record { by = s; condition = attribute_condition (context_of language p) p.group a.condition }) aims ]

-- the reverse dependencies that a group's `select`s or `imply`s put on this name ("Menu attributes", reverse dependencies)
abbrev pub reverse_dependencies_of : Language → (Attribute → Option (TargetAttribute Expr (List ℕ))) → Contents → List ℕ → GroupInContext → List ReverseDependency
reverse_dependencies_of language f c name p = elim (defined_name p.group) [ None ↦ [] | Some by ↦ reverse_dependencies_by language c p (filter (λ (a : TargetAttribute Expr (List ℕ)). bytes_eq a.name name) (attribute_values f p.group)) by ]

-- the dependencies of a symbol that count, out of those of all its definitions: only the first for a member of a choice, else all
abbrev pub own_dependencies : {A : Type 0} → (choice : Option ℕ) → List A → List A
own_dependencies None all = all
own_dependencies (Some k) all = take 1 all

-- the symbol with this name, from all its definitions in reading order ("Menu entries"); without a type it counts as a bool
abbrev pub symbol_of : Language → Contents → List ℕ → Symbol
symbol_of language c name =
    let own = definitions_of c name in
    let first = first_definition c name in
    record {
      name = name;
      kind = kind_in_tree (choice_of_symbol c name) (type_given c name);
      file = unwrap_or (option_map (λ (g : Group). g.at.file) first) 0;
      line = unwrap_or (option_map (λ (g : Group). g.at.line) first) 0;
      prompts = flat_map (λ (p : GroupInContext). prompts_of (context_of language p) p.group) own;
      defaults = flat_map (defaults_at language) own;
      ranges = flat_map (ranges_at language) own;
      selectors = flat_map (reverse_dependencies_of language select_of c name) c.places;
      impliers = flat_map (reverse_dependencies_of language imply_of c name) c.places;
      direct = own_dependencies (choice_of_symbol c name) (map (λ (p : GroupInContext). dependency_of (context_of language p) p.group) own);
      choice = choice_of_symbol c name;
    }

-- whether the choice that the group with this number opens encloses a group
abbrev pub is_member_of : ℕ → GroupInContext → Bool
is_member_of group p = elim p.choice [ None ↦ false | Some k ↦ k == group ]

-- the names that definitions in the choice that the group with this number opens define, in order
abbrev pub member_names : Contents → ℕ → List (List ℕ)
member_names c group = filter_map (λ (p : GroupInContext). defined_name p.group) (filter (is_member_of group) c.places)

-- the name that an expression is, if it is one name without quotes
abbrev pub bare_name : Expr → Option (List ℕ)
bare_name (alone (named x)) = Some x
bare_name e = None

-- this name, if it is in the list of names
abbrev pub name_among : List (List ℕ) → List ℕ → Option (List ℕ)
name_among names x = option_map (λ _. x) (index_of_name x names)

-- the name of the member that a choice's default chooses, if its value is the bare name of one of these members
abbrev pub member_named : List (List ℕ) → DefaultAttribute Expr → Option (List ℕ)
member_named members d = if d.single then option_and_then (name_among members) (bare_name d.value) else None

-- the default of a choice by the member that it names, if it names one ("Kconfig syntax", choices)
abbrev pub member_default : Language → Contents → GroupInContext → DefaultAttribute Expr → Option MemberDefault
member_default language c p d =
    option_map (λ s. record { member = s; condition = attribute_condition (context_of language p) p.group d.condition })
    (option_and_then (λ x. index_of_name x c.names) (member_named (member_names c p.group.number) d))

-- whether a group has the attribute `optional`
abbrev pub is_optional_group : Group → Bool
is_optional_group g = list_any (λ (l : Line). is_optional l.attribute) g.attributes

-- whether a group is the first definition of the symbol with this name
abbrev pub is_first_definition : Contents → List ℕ → GroupInContext → Bool
is_first_definition c name p = elim (first_definition c name) [ None ↦ false | Some g ↦ g.number == p.group.number ]

-- whether a group is the first definition of a symbol
abbrev pub begins_symbol : Contents → GroupInContext → Bool
begins_symbol c p = elim (defined_name p.group) [ None ↦ false | Some name ↦ is_first_definition c name p ]

-- the names of the members of the choice that the group with this number opens, each once, in order of first definition
abbrev pub own_member_names : Contents → ℕ → List (List ℕ)
own_member_names c group =
    filter_map (λ (p : GroupInContext). defined_name p.group) (filter (λ (p : GroupInContext). is_member_of group p && begins_symbol c p) c.places)

-- the choice that a group opens ("Kconfig syntax", choices)
abbrev pub choice_of : Language → Contents → GroupInContext → Choice
choice_of language c p =
    record {
      file = p.group.at.file;
      line = p.group.at.line;
      members = filter_map (λ x. index_of_name x c.names) (own_member_names c p.group.number);
      prompt = slice_get (prompts_of (context_of language p) p.group) 0;
      defaults = filter_map (member_default language c p) (attribute_values default_of p.group);
      optional = is_optional_group p.group;
    }

-- the begin or end entry of the menu that a group opens: its title, dependency and `visible if`s, joined with the enclosing ones
abbrev pub menu_entry : (List ℕ → Expr → Expr → tree.Entry) → Context → Group → Option tree.Entry
menu_entry f enclosing g = option_map (λ title. f title (dependency_of enclosing g) (conjunction_of (enclosing.visibles ++ attribute_values visible_of g))) (from_head title_of_head g.head)

-- the entry of a menu's end, by the blocks that are open before that end, innermost first: the first of them is the menu
abbrev pub menu_end_of : Language → List Group → Option tree.Entry
menu_end_of language [] = None
menu_end_of language (g ∷ outer) = menu_entry tree.menu_ends (context (is_linux_6_12 language) outer) g

-- the entry that a group gives: a definition, a choice, the beginning or end of a menu, or a comment ("Menu structure"), if any
abbrev pub entry_of_head : Language → Contents → GroupInContext → Head → Option tree.Entry
entry_of_head language c p (config name) = option_map tree.definition (index_of_name name c.names)
entry_of_head language c p choice = option_map tree.choice_begins (choice_number c p.group.number)
entry_of_head language c p (menu title) = menu_entry tree.menu_begins (context_of language p) p.group
entry_of_head language c p (comment title) = Some (tree.comment title (dependency_of (context_of language p) p.group))
entry_of_head language c p (ends blocks.Menu) = menu_end_of language p.opened
entry_of_head language c p h = None

-- the unit that begins at a group: a choice, or a symbol outside choices at its first definition, if any
abbrev pub unit_of_head : Contents → GroupInContext → Head → Option TreeUnit
unit_of_head c p (config name) = if is_first_definition c name p && is_none (choice_of_symbol c name) then option_map of_symbol (index_of_name name c.names) else None
unit_of_head c p choice = option_map of_choice (choice_number c p.group.number)
unit_of_head c p h = None

-- the tree that these groups (newest first) of files in this language define
unfoldable pub tree_of_groups : Language → List Group → Tree
tree_of_groups language read =
    let c = contents_of read in
    record {
      symbols = map (symbol_of language c) c.names;
      choices = map (choice_of language c) (filter (λ (p : GroupInContext). opens_choice p.group) c.places);
      entries = filter_map (λ (p : GroupInContext). from_head (entry_of_head language c p) p.group.head) c.places;
      units = filter_map (λ (p : GroupInContext). from_head (unit_of_head c p) p.group.head) c.places;
      language = language;
    }

-- the tree of these files from this first path on; if they have no fault, `IsTreeOfFiles` describes it, by the law
-- `trees_are_of_the_relation`
unfoldable pub tree_of_files : Files → List ℕ → Tree
tree_of_files files root = tree_of_groups files.language (reading files root).read
