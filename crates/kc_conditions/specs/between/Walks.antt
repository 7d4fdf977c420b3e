-- The conditions of the walked groups and of their attributes, and those that enclose them.
use Rattle.std.specs.Prelude.{◌≡◌, ◌⊎◌, ℕ, ◌<◌, ◌≤◌, List, [], ◌∷◌, ◌++◌, length, map, reverse, All, Option, Some, None, slice_get, slice_range, option_to_list, unwrap_or, is_some, if◌then◌else◌}
use Rattle.kc_tokens.specs.declared.language.Language.{Language}
use Rattle.kc_tokens.specs.Languages.{is_linux_6_12}
use Rattle.kc_value.specs.declared.tri.Tri.TheVariants.{N}
use Rattle.kc_expr.specs.between.Arena.{Exprs, Represents, node_expr, Grows}
use Rattle.kc_expr.specs.Expr.{Expr, alone, constant}
use Rattle.kc_tree_model.specs.Trees as tree
use Rattle.kc_tree_model.specs.Statements.{Attribute, prompt_of, visible_of}
use Rattle.kc_tree_model.specs.between.Attributes.{if_given}
use Rattle.kc_tree_model.specs.Blocks.{Group, Line, closing, side_of, open_blocks}
use Rattle.kc_tree_model.specs.Conditions.{conjunction_of, visible_conjunct, attribute_values, dependencies_of, dependency_of, context, context_of, GroupInContext, group_in_context}
use Rattle.kc_tree_model.specs.Contents.{menu_end_of}
use Rattle.kc_conditions.specs.checker.Conjunctions.{Conjoins}
use Rattle.kc_conditions.specs.declared.conditions.EnclosingConditions.{EnclosingConditions}
use Rattle.kc_conditions.specs.declared.group_walk.GroupConditions.{GroupConditions}
use Rattle.kc_conditions.specs.declared.group_walk.GroupWalk.{GroupWalk}

-- an attribute's joined condition: its entry's dependencies, for a prompt the enclosing `visible if`s, and its own `if`
abbrev pub condition_among : List Expr → List Expr → Attribute → Expr
condition_among dependencies visibles a =
    if is_some (prompt_of a) then conjunction_of (dependencies ++ (visible_conjunct visibles ++ option_to_list (if_given a)))
    else conjunction_of (dependencies ++ option_to_list (if_given a))

-- the joined condition of an attribute line of a group in its context
abbrev pub condition_at : Language → GroupInContext → Line → Expr
condition_at language p l = condition_among (dependencies_of (context_of language p) p.group) (context_of language p).visibles l.attribute

-- the optional number of an expression if there is one, else the first number, which is that of the expression `y`
abbrev pub or_yes : ℕ → Option ℕ → ℕ
or_yes y o = unwrap_or o y

-- the numbers of a menu's title, dependency and `visible if` represent the entry of the menu's end; no title, no entry
abbrev pub RepresentsEnd : Exprs → List (List ℕ) → Option ℕ → ℕ → ℕ → Option tree.Entry → Type 0
RepresentsEnd exprs texts None d v e = e ≡ None
RepresentsEnd exprs texts (Some t) d v e =
    (title : List ℕ) × (slice_get texts t ≡ Some title) × (d < length exprs.nodes) × (v < length exprs.nodes)
    × (e ≡ Some (tree.menu_ends title (node_expr exprs d) (node_expr exprs v)))

-- conditions of the code represent those inside the innermost of the blocks in `opened`, in a tree of this language
pub record RepresentsEnclosing (language : Language) (exprs : Exprs) (texts : List (List ℕ)) (yes : ℕ) (a : EnclosingConditions) (opened : List Group) : Type 0 where
  pub dependencies_are : Conjoins exprs a.dependencies (context (is_linux_6_12 language) opened).dependencies
  pub visibles_are : Conjoins exprs a.visibles (context (is_linux_6_12 language) opened).visibles
  pub ends : RepresentsEnd exprs texts a.title (or_yes yes a.dependencies) (or_yes yes a.visibles) (menu_end_of language opened)

-- a list of the code represents the conditions inside each of some open blocks, innermost first
abbrev pub RepresentsEnclosings : Language → Exprs → List (List ℕ) → ℕ → List EnclosingConditions → List Group → Type 0
RepresentsEnclosings language exprs texts y [] [] = Unit {0}
RepresentsEnclosings language exprs texts y (a ∷ outer) (g ∷ gs) = RepresentsEnclosing language exprs texts y a (g ∷ gs) × RepresentsEnclosings language exprs texts y outer gs
RepresentsEnclosings language exprs texts y outer gs = ⊥

-- the conditions outside all blocks, which are empty conjunctions
abbrev pub outside : EnclosingConditions
outside = record { dependencies = None; visibles = None; title = None }

-- the conditions inside the innermost open block, from those inside each, innermost first; those outside all if none is open
abbrev pub innermost_enclosing : List EnclosingConditions → EnclosingConditions
innermost_enclosing [] = outside
innermost_enclosing (a ∷ outer) = a

-- the joined conditions of a group in its context and of its attributes are represented by `c` and `own`
pub record RepresentsConditions (language : Language) (exprs : Exprs) (texts : List (List ℕ)) (own : List ℕ) (c : GroupConditions) (p : GroupInContext) : Type 0 where
  pub own_are : map (node_expr exprs) own ≡ map (condition_at language p) p.group.attributes
  pub held : All (λ i. i < length exprs.nodes) own
  pub dependency_is : side_of p.group.head ≡ closing ⊎ Represents exprs c.dependency (dependency_of (context_of language p) p.group)
  pub visible_is : side_of p.group.head ≡ closing ⊎ Represents exprs c.visible (conjunction_of ((context_of language p).visibles ++ attribute_values visible_of p.group))
  pub ended_is : side_of p.group.head ≡ closing → RepresentsEnd exprs texts c.ended c.dependency c.visible (menu_end_of language p.opened)

-- the conditions of groups in the code represent the joined conditions of groups in the model, newest first, and the number list
-- up to the given index represents those of their attributes
abbrev pub RepresentsAllConditions : Language → Exprs → List (List ℕ) → List ℕ → ℕ → List GroupConditions → List Group → Type 0
RepresentsAllConditions language exprs texts conditions end [] [] = Unit {0}
RepresentsAllConditions language exprs texts conditions end (c ∷ cs) (m ∷ ms) =
    RepresentsConditions language exprs texts (slice_range conditions c.first end) c (group_in_context (open_blocks 0 ms) m) × (c.first ≤ end) × RepresentsAllConditions language exprs texts conditions c.first cs ms
RepresentsAllConditions language exprs texts conditions end cs ms = ⊥

-- a walk has the joined conditions of the groups in `before`, as expressions of the arena `exprs`
pub record IsWalked (language : Language) (exprs : Exprs) (texts : List (List ℕ)) (w : GroupWalk) (before : List Group) : Type 0 where
  pub yes_is : Represents exprs w.yes (conjunction_of [])
  pub no_is : Represents exprs w.no (alone (constant N))
  pub stack_is : RepresentsEnclosings language exprs texts w.yes (reverse w.stack.items) (open_blocks 0 before)
  pub groups_are : RepresentsAllConditions language exprs texts w.conditions.items (length w.conditions.items) (reverse w.groups.items) before

-- a walk has the joined conditions of a list of groups, in its arena and in each arena grown from it
abbrev pub HasWalked : Language → List (List ℕ) → GroupWalk → List Group → Type 0
HasWalked language texts w before = (later : Exprs) → Grows w.arena later → IsWalked language later texts w before
