-- The lines of the parts of a condition.
use Rattle.std.specs.Prelude.{ℕ, Bool, true, false, List, [], ◌∷◌, ◌++◌, map, filter_map, flat_map, Option, option_map, option_to_list, unwrap_or, slice_get, if◌then◌else◌}
use Rattle.kc_value.specs.declared.tri.Tri.{Tri}
use Rattle.kc_value.specs.declared.tri.Tri.TheVariants.{N, M}
use Rattle.kc_expr.specs.Expr.{Expr, Environment, alone, constant}
use Rattle.kc_tree_model.specs.Statements.{Head, Attribute, depends_of, visible_of, prompt_of}
use Rattle.kc_tree_model.specs.declared.statement.Head.TheVariants.{Choice as choice, Menu as menu, Condition as condition}
use Rattle.kc_tree_model.specs.Blocks.{Group, GroupHead, of_head, file_end, Line, Position}
use Rattle.kc_tree_model.specs.Conditions.{GroupInContext}
use Rattle.kc_tokens.specs.declared.language.Language.{Language}
use Rattle.kc_tokens.specs.Languages.{is_linux_6_12}
use Rattle.kc_reasons_model.specs.Conjuncts.{Part, lacking}

-- an expression, the place of its line, and whether it is a part of the condition that a choice is shown
pub record LocatedExpr : Type 0 where
  pub expr : Expr
  pub at : Position
  pub of_choice : Bool

-- an expression of a line of a group
abbrev pub located_at : Group → ℕ → Expr → LocatedExpr
located_at g line e = record { expr = e; at = record { file = g.at.file; line = line }; of_choice = false }

-- the expressions that a function gives for the attributes of a group, each with its line
abbrev pub located_attributes : (Attribute → Option Expr) → Group → List LocatedExpr
located_attributes f g = filter_map (λ (l : Line). option_map (located_at g l.number) (f l.attribute)) g.attributes

-- the enclosing dependencies and `visible if`s, outermost first, each with its line
pub record LocatedContext : Type 0 where
  pub dependencies : List LocatedExpr
  pub visibles : List LocatedExpr

-- the dependencies of an entry: the enclosing ones, then its own
abbrev pub located_dependencies : LocatedContext → Group → List LocatedExpr
located_dependencies enclosing g = enclosing.dependencies ++ located_attributes depends_of g

-- what is needed for an attribute of some line: the entry's dependencies and its own `if`
abbrev pub located_condition : LocatedContext → Group → ℕ → Option Expr → List LocatedExpr
located_condition enclosing g line c = located_dependencies enclosing g ++ option_to_list (option_map (located_at g line) c)

-- for a prompt also each enclosing `visible if`
abbrev pub located_prompt : LocatedContext → Group → ℕ → Option Expr → List LocatedExpr
located_prompt enclosing g line c =
    located_dependencies enclosing g ++ (enclosing.visibles ++ option_to_list (option_map (located_at g line) c))

-- for each prompt of a group
abbrev pub located_prompts : LocatedContext → Group → List (List LocatedExpr)
located_prompts enclosing g =
    filter_map (λ (l : Line). option_map (located_prompt enclosing g l.number) (prompt_of l.attribute)) g.attributes

-- before Linux 6.10 the parts of a choice's prompt take the place of all that is outside; without a prompt it is never shown
abbrev pub as_choice_parts : List LocatedExpr → List LocatedExpr
as_choice_parts parts = map (λ (p : LocatedExpr). record p { of_choice = true }) parts

abbrev pub located_choice : LocatedContext → Group → List LocatedExpr
located_choice enclosing g =
    unwrap_or (option_map as_choice_parts (slice_get (located_prompts enclosing g) 0)) (located_at g g.at.line (alone (constant N)) ∷ [])

-- the conditions inside a menu, with their lines
abbrev pub located_inside_menu : LocatedContext → Group → LocatedContext
located_inside_menu enclosing g =
    record { dependencies = located_dependencies enclosing g; visibles = enclosing.visibles ++ located_attributes visible_of g }

-- those inside a block, by whether the outer ones go through a choice, as in Linux 6.12
abbrev pub located_inside_head : (through : Bool) → Head → LocatedContext → Group → LocatedContext
located_inside_head through choice enclosing g = if through
    then located_inside_menu enclosing g
    else record { dependencies = located_choice enclosing g; visibles = [] }
located_inside_head through (menu title) enclosing g = located_inside_menu enclosing g
located_inside_head through (condition e) enclosing g =
    record { dependencies = enclosing.dependencies ++ located_at g g.at.line e ∷ []; visibles = enclosing.visibles }
located_inside_head through h enclosing g = enclosing

abbrev pub located_inside : (through : Bool) → GroupHead → LocatedContext → Group → LocatedContext
located_inside through (of_head h) enclosing g = located_inside_head through h enclosing g
located_inside through file_end enclosing g = enclosing

-- the conditions that enclose what is inside these open blocks (innermost first), with their lines
abbrev pub located_context : (through : Bool) → List Group → LocatedContext
located_context through [] = record { dependencies = []; visibles = [] }
located_context through (g ∷ outer) = located_inside through g.head (located_context through outer) g

-- those that enclose a group in a tree of this language
abbrev pub located_context_of : Language → GroupInContext → LocatedContext
located_context_of language p = located_context (is_linux_6_12 language) p.opened

-- the value wanted of a part if this value is wanted of the condition
abbrev pub wanted_of : Tri → LocatedExpr → Tri
wanted_of t p = if p.of_choice then M else t

-- the parts of these lines that are too low
abbrev pub lacking_located : Environment → Tri → List LocatedExpr → List Part
lacking_located names t parts = flat_map (λ (p : LocatedExpr). lacking names (wanted_of t p) p.expr) parts
