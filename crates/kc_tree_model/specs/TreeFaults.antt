-- The checks on the whole tree, for a reading without a fault, and the fault that is reported.
use Rattle.std.specs.Prelude.{ℕ, Bool, true, false, not, ◌&&◌, ◌||◌, ◌==◌, List, [], ◌∷◌, ◌++◌, map, flat_map, slice_get, Option, Some, None, is_some, is_none, bytes_eq, if◌then◌else◌}
use Rattle.std.specs.List.{list_all}
use Rattle.std.specs.Option.{option_or}
use Rattle.kc_value.specs.declared.value.Kind.{Kind}
use Rattle.kc_value.specs.declared.value.Kind.TheVariants.{Bool as Boolean}
use Rattle.kc_value.specs.Kinds.{is_tri_kind, is_number, same_kind}
use Rattle.kc_tokens.specs.declared.language.Language.{Language}
use Rattle.kc_tokens.specs.declared.language.Language.TheVariants.{Strict, Linux}
use Rattle.kc_expr.specs.Expr.{Expr, modules as modules_name}
use Rattle.kc_tree_model.specs.declared.fault.TreeKind.{TreeKind}
use Rattle.kc_tree_model.specs.declared.fault.TreeKind.TheVariants.{NoType, TypeConflict, SecondPrompt, DefaultShape, RangeType, SelectType, ChoiceMember, ChoiceDefault, ModulesType}
use Rattle.kc_tree_model.specs.declared.fault.TreeFault.{TreeFault}
use Rattle.kc_tree_model.specs.TreeFiles.{Files}
use Rattle.kc_tree_model.specs.declared.statement.DefaultAttribute.{DefaultAttribute}
use Rattle.kc_tree_model.specs.Statements.{Head, Attribute, type_of, prompt_of, default_of, range_of, is_modules}
use Rattle.kc_tree_model.specs.declared.statement.Head.TheVariants.{Config as config, Choice as choice}
use Rattle.kc_tree_model.specs.declared.statement.Attribute.TheVariants.{Typed as typed, Depends as depends, Select as select, Imply as imply, Help as help}
use Rattle.kc_tree_model.specs.Blocks.{Group, Line, of_head, file_end}
use Rattle.kc_tree_model.specs.Conditions.{GroupInContext}
use Rattle.kc_tree_model.specs.Contents.{Contents, contents_of, is_first_definition, choice_of_first_definition, type_given, choice_of_symbol, member_names, member_named}
use Rattle.kc_tree_model.specs.TreeReading.{Outcome, reading}

-- a list of this kind alone if the test is true, or an empty list
abbrev pub when : Bool → TreeKind → List TreeKind
when true k = k ∷ []
when false k = []

-- whether a type is given and differs from this one
abbrev pub is_other_kind : Kind → Option Kind → Bool
is_other_kind k None = false
is_other_kind k (Some j) = not (same_kind j k)

-- the type of a symbol by the type given to it and whether it is a member of a choice: a member without a given type is a bool
abbrev pub kind_or_bool : Option Kind → Bool → Option Kind
kind_or_bool given is_member = option_or given (if is_member then Some Boolean else None)

-- the type of the symbol with this name: the first given one, or if none is given, bool for a choice's member, else None
abbrev pub kind_of : Contents → List ℕ → Option Kind
kind_of c name = kind_or_bool (type_given c name) (is_some (choice_of_symbol c name))

-- whether this name may be selected: it is undefined, or a symbol that is bool, tristate or without a type ("Menu attributes",
-- reverse dependencies)
abbrev pub is_selectable : Contents → List ℕ → Bool
is_selectable c name = elim (kind_of c name) [ None ↦ true | Some k ↦ is_tri_kind k ]

-- whether a later definition of a choice's member may have this attribute, in the language of Linux: a type without a prompt, a
-- dependency, a select, an imply or a help text
abbrev pub is_added_attribute : Attribute → Bool
is_added_attribute (typed k) = true
is_added_attribute (depends e) = true
is_added_attribute (select a) = true
is_added_attribute (imply a) = true
is_added_attribute help = true
is_added_attribute a = false

-- whether a definition is outside choices and has only attributes that a later definition of a choice's member may have
abbrev pub is_addition : GroupInContext → Bool
is_addition p = is_none p.choice && list_all (λ (l : Line). is_added_attribute l.attribute) p.group.attributes

-- whether two places are in the same choice, by the groups that open the choices around them, if they are in choices
abbrev pub is_same_choice : Option ℕ → Option ℕ → Bool
is_same_choice (Some g) (Some h) = g == h
is_same_choice _ _ = false

-- whether a definition of the symbol with this name is in the choice in which the symbol's first definition is
abbrev pub is_again_in_choice : Contents → List ℕ → GroupInContext → Bool
is_again_in_choice c name p = is_same_choice (choice_of_first_definition c name) p.choice

-- whether a definition may follow that of the same symbol in its choice: in the strict language none may; in the language of Linux
-- one in the same choice may, and one outside choices that only adds
abbrev pub only_extends_member : Language → Contents → List ℕ → GroupInContext → Bool
only_extends_member Strict c name p = false
only_extends_member (Linux version) c name p = is_addition p || is_again_in_choice c name p

-- whether a type is given that a member of a choice can't have: in the strict language any but bool; in the language of Linux a
-- member may be a tristate, which counts as a bool
abbrev pub is_no_member_kind : Language → Option Kind → Bool
is_no_member_kind language None = false
is_no_member_kind Strict (Some k) = not (same_kind k Boolean)
is_no_member_kind (Linux version) (Some k) = not (is_tri_kind k)

-- the kinds of faults of a definition of the symbol with this name that are reported at the line of its `config`
abbrev pub definition_faults : Language → Contents → GroupInContext → List ℕ → List TreeKind
definition_faults language c p name =
    let first = is_first_definition c name p in
    let other = is_other_kind Boolean (type_given c name) in
    when (first && is_none (kind_of c name)) NoType
    ++ when ((is_some p.choice && is_no_member_kind language (type_given c name)) || (not first && is_some (choice_of_symbol c name) && not (only_extends_member language c name p))) ChoiceMember
    ++ when (first && bytes_eq name modules_name && other) ModulesType

-- whether a default is that of a string, int or hex symbol and isn't one operand
abbrev pub is_shapeless : Kind → Option (DefaultAttribute Expr) → Bool
is_shapeless k None = false
is_shapeless k (Some d) = not (is_tri_kind k) && not d.single

-- whether an attribute is a `select` or an `imply` in, or of, a symbol that is neither bool nor tristate
abbrev pub is_wrong_reverse_dependency : Contents → Kind → Attribute → Bool
is_wrong_reverse_dependency c k (select a) = not (is_tri_kind k) || not (is_selectable c a.name)
is_wrong_reverse_dependency c k (imply a) = not (is_tri_kind k) || not (is_selectable c a.name)
is_wrong_reverse_dependency c k a = false

-- the fault of an attribute that is a second prompt of its entry, by whether a prompt came before
abbrev pub second_prompt : Bool → Attribute → List TreeKind
second_prompt prompted a = when (prompted && is_some (prompt_of a)) SecondPrompt

-- the kinds of faults of an attribute of a symbol, by the symbol's name and type and whether a prompt came before it; without a
-- type only a second prompt is a fault
abbrev pub attribute_faults : Contents → List ℕ → Option Kind → Bool → Attribute → List TreeKind
attribute_faults c name None prompted a = second_prompt prompted a
attribute_faults c name (Some k) prompted a =
    when (is_other_kind k (type_of a)) TypeConflict
    ++ second_prompt prompted a
    ++ when (is_shapeless k (default_of a)) DefaultShape
    ++ when (is_some (range_of a) && not (is_number k)) RangeType
    ++ when (is_wrong_reverse_dependency c k a) SelectType
    ++ when (is_modules a && not (bytes_eq name modules_name)) ModulesType

-- whether a default of a choice isn't the bare name of one of these members; false if there is no default
abbrev pub is_no_member : List (List ℕ) → Option (DefaultAttribute Expr) → Bool
is_no_member members None = false
is_no_member members (Some d) = is_none (member_named members d)

-- the kinds of faults of an attribute of a choice with these members, by whether a prompt came before it
abbrev pub choice_faults : List (List ℕ) → Bool → Attribute → List TreeKind
choice_faults members prompted a = second_prompt prompted a ++ when (is_no_member members (default_of a)) ChoiceDefault

-- the faults of these kinds at a line of the file in which a group is
abbrev pub faults_at : Group → ℕ → List TreeKind → List TreeFault
faults_at g line kinds = map (λ k. record { file = Some g.at.file; line = line; kind = k }) kinds

-- the faults of an entry's attributes, each at its line; the function gives the kinds, by whether a prompt came before
abbrev pub faults_of_lines : Group → (Bool → Attribute → List TreeKind) → Bool → List Line → List TreeFault
faults_of_lines g f prompted [] = []
faults_of_lines g f prompted (l ∷ ls) = faults_at g l.number (f prompted l.attribute) ++ faults_of_lines g f (prompted || is_some (prompt_of l.attribute)) ls

-- the faults of an entry: first those at its own line, then those of its attributes; at one line in the order of `TreeKind`
abbrev pub faults_of_head : Language → Contents → GroupInContext → Head → List TreeFault
faults_of_head language c p (config name) = faults_at p.group p.group.at.line (definition_faults language c p name) ++ faults_of_lines p.group (attribute_faults c name (kind_of c name)) false p.group.attributes
faults_of_head language c p choice = faults_of_lines p.group (choice_faults (member_names c p.group.number)) false p.group.attributes
faults_of_head language c p h = []

-- the faults of one group in the checks on the whole tree; the end of a file has none
abbrev pub faults_of_group : Language → Contents → GroupInContext → List TreeFault
faults_of_group language c p = elim p.group.head [ of_head h ↦ faults_of_head language c p h | file_end ↦ [] ]

-- the faults of the groups read (newest first) in the checks on the whole tree, in reading order
unfoldable pub tree_faults : Language → List Group → List TreeFault
tree_faults language read = let c = contents_of read in flat_map (faults_of_group language c) c.places

-- the fault that is reported after a reading: the reading's own, or if it has none, the first of the checks on the whole tree
abbrev pub first_fault_after : Language → Outcome → Option TreeFault
first_fault_after language o = option_or o.fault (slice_get (tree_faults language o.read) 0)

-- the fault that is reported for these files from this first path on, unless memory runs out; `IsReportedFault` describes it, by
-- the law `trees_are_of_the_relation`
unfoldable pub first_tree_fault : Files → List ℕ → Option TreeFault
first_tree_fault files root = first_fault_after files.language (reading files root)
