-- The conditions of entries and attributes ("Menu dependencies", "Menu structure").
use Rattle.std.specs.Prelude.{ℕ, Bool, List, [], ◌∷◌, ◌++◌, map, filter_map, Option, Some, None, option_to_list, option_map, unwrap_or, slice_get, if◌then◌else◌}
use Rattle.kc_value.specs.declared.tri.Tri.TheVariants.{N, Y}
use Rattle.kc_tokens.specs.declared.language.Language.{Language}
use Rattle.kc_tokens.specs.Languages.{is_linux_6_12}
use Rattle.kc_expr.specs.Expr.{Expr, constant, alone, both, shown}
use Rattle.kc_tree_model.specs.Statements.{Head, Attribute, depends_of, visible_of, prompt_of}
use Rattle.kc_tree_model.specs.declared.statement.Head.TheVariants.{Choice as choice, Menu as menu, Condition as condition}
use Rattle.kc_tree_model.specs.Blocks.{Group, GroupHead, of_head, file_end, Line, open_blocks, opens_choice}

-- the conjunction (`&&`) of an expression and all of a list, joined from the left
abbrev pub conjunction_from : Expr → List Expr → Expr
conjunction_from e [] = e
conjunction_from e (f ∷ fs) = conjunction_from (both e f) fs

-- the conjunction (`&&`) of all expressions of a list, joined from the left; of none it is `y`
abbrev pub conjunction_of : List Expr → Expr
conjunction_of [] = alone (constant Y)
conjunction_of (e ∷ es) = conjunction_from e es

-- the conditions that enclose a line of a tree: the dependencies and `visible if`s, outermost first
pub record Context : Type 0 where
  pub dependencies : List Expr
  pub visibles : List Expr

-- the values that a function gives for the attributes of a group, in their order
abbrev pub attribute_values : {A : Type 0} → (Attribute → Option A) → Group → List A
attribute_values f g = filter_map (λ (l : Line). f l.attribute) g.attributes

-- the dependencies of an entry: the enclosing ones, then those of its own `depends on`s, wherever they are among its attributes
abbrev pub dependencies_of : Context → Group → List Expr
dependencies_of enclosing g = enclosing.dependencies ++ attribute_values depends_of g

-- the dependency of an entry as one expression ("Menu dependencies")
abbrev pub dependency_of : Context → Group → Expr
dependency_of enclosing g = conjunction_of (dependencies_of enclosing g)

-- the condition of an attribute: the dependency of its entry and its own `if`, if it has one
abbrev pub attribute_condition : Context → Group → Option Expr → Expr
attribute_condition enclosing g c = conjunction_of (dependencies_of enclosing g ++ option_to_list c)

-- the conjunction of the enclosing `visible if`s as a list of one, or an empty list if there are none
abbrev pub visible_conjunct : List Expr → List Expr
visible_conjunct [] = []
visible_conjunct (e ∷ es) = conjunction_from e es ∷ []

-- the condition of a prompt: its entry's dependency, the enclosing `visible if`s and its own `if` ("Menu attributes", limiting
-- menu display)
abbrev pub prompt_condition : Context → Group → Option Expr → Expr
prompt_condition enclosing g c = conjunction_of (dependencies_of enclosing g ++ (visible_conjunct enclosing.visibles ++ option_to_list c))

-- the conditions of the prompts of a group, in their order
abbrev pub prompts_of : Context → Group → List Expr
prompts_of enclosing g = map (prompt_condition enclosing g) (attribute_values prompt_of g)

-- the condition that a choice is shown: that of its first prompt isn't `n`; without a prompt, never ("Kconfig syntax", choices)
abbrev pub shown_condition : Context → Group → Expr
shown_condition enclosing g = unwrap_or (option_map shown (slice_get (prompts_of enclosing g) 0)) (alone (constant N))

-- the conditions inside a menu: the outer ones, its own dependencies and its own `visible if`s ("Kconfig syntax", menu)
abbrev pub inside_menu : Context → Group → Context
inside_menu enclosing g = record { dependencies = dependencies_of enclosing g; visibles = enclosing.visibles ++ attribute_values visible_of g }

-- the conditions inside a choice: if those outside it go through, as in Linux 6.12, those that a menu would have, without that of
-- its prompt; else the condition that it is shown, in place of all outer ones ("Kconfig syntax", choices)
abbrev pub inside_choice : (through : Bool) → Context → Group → Context
inside_choice through enclosing g = if through then inside_menu enclosing g else record { dependencies = shown_condition enclosing g ∷ []; visibles = [] }

-- the conditions inside the block that a statement opens ("Kconfig syntax", menu and if)
abbrev pub inner_context_of_head : (through : Bool) → Head → Context → Group → Context
inner_context_of_head through choice enclosing g = inside_choice through enclosing g
inner_context_of_head through (menu title) enclosing g = inside_menu enclosing g
inner_context_of_head through (condition e) enclosing g = record { dependencies = enclosing.dependencies ++ e ∷ []; visibles = enclosing.visibles }
inner_context_of_head through h enclosing g = enclosing

-- the conditions inside the block that a group with this beginning opens; a sourced file adds none to those of its `source`
abbrev pub inner_context_of_group_head : (through : Bool) → GroupHead → Context → Group → Context
inner_context_of_group_head through (of_head h) enclosing g = inner_context_of_head through h enclosing g
inner_context_of_group_head through file_end enclosing g = enclosing

-- the conditions that enclose what is inside these open blocks (innermost first), by whether they go through choices
abbrev pub context : (through : Bool) → List Group → Context
context through [] = record { dependencies = []; visibles = [] }
context through (g ∷ outer) = inner_context_of_group_head through g.head (context through outer) g

-- the innermost choice among these open blocks (innermost first), by its group's number, if there is one
abbrev pub choice_among : List Group → Option ℕ
choice_among [] = None
choice_among (g ∷ outer) = if opens_choice g then Some g.number else choice_among outer

-- a group, the blocks that are open at it (innermost first), and the choice that encloses it, by its group's number
pub record GroupInContext : Type 0 where
  pub group : Group
  pub opened : List Group
  pub choice : Option ℕ

-- a group with these blocks open at it
abbrev pub group_in_context : List Group → Group → GroupInContext
group_in_context opened g = record { group = g; opened = opened; choice = choice_among opened }

-- the conditions that the blocks that are open at a group put on it, in a tree of this language
abbrev pub context_of : Language → GroupInContext → Context
context_of language p = context (is_linux_6_12 language) p.opened

-- the groups that were read (given newest first) in reading order, each with the blocks that are open at it
abbrev pub groups_in_context : List Group → List GroupInContext
groups_in_context [] = []
groups_in_context (g ∷ before) = groups_in_context before ++ group_in_context (open_blocks 0 before) g ∷ []
