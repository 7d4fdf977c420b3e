-- The conditions of attributes, by the numbers of their expressions.
use Rattle.std.specs.Prelude.{◌≡◌, ℕ, ◌<◌, List, [], ◌∷◌, ◌++◌, length, map, All, if◌then◌else◌}
use Rattle.kc_expr.specs.between.Arena.{Exprs, node_expr}
use Rattle.kc_expr.specs.Expr.{Expr}
use Rattle.kc_statements.specs.between.StatementViews.{ReadAttribute}
use Rattle.kc_tree_model.specs.between.Attributes.{is_prompt, if_given, conjunct_given}
use Rattle.kc_parser.specs.declared.listing.Line.{Line as CodeLine}
use Rattle.kc_tree_model.specs.Conditions.{conjunction_of, visible_conjunct}
use Rattle.kc_conditions.specs.checker.Conjunctions.{Conjoins, conjunct}
use Rattle.kc_tree_model.specs.declared.statement.Conjuncts.{Conjuncts}
use Rattle.kc_conditions.specs.declared.conditions.EntryConditions.{EntryConditions}

-- the expressions of all `depends on`s or of all `visible if`s among attribute lines, in order
abbrev pub conjunct_views : Conjuncts → Exprs → List CodeLine → List Expr
conjunct_views w exprs [] = []
conjunct_views w exprs (l ∷ ls) = conjunct exprs (conjunct_given w l.attribute) ++ conjunct_views w exprs ls

-- an entry's joined conditions are made of its dependencies, the enclosing `visible if`s (`visibles`) and its own `visible if`s
pub record AreJoined (exprs : Exprs) (e : EntryConditions) (dependencies visibles own : List Expr) : Type 0 where
  pub dependencies_are : Conjoins exprs e.dependencies dependencies
  pub visibles_are : Conjoins exprs e.visibles (visibles ++ own)
  pub shown_is : Conjoins exprs e.shown (dependencies ++ visible_conjunct visibles)

-- an attribute's joined condition: its entry's dependencies, for a prompt the enclosing `visible if`s, and its own `if`
abbrev pub condition_view : Exprs → List Expr → List Expr → ReadAttribute → Expr
condition_view exprs dependencies visibles a =
    if is_prompt a then conjunction_of (dependencies ++ (visible_conjunct visibles ++ conjunct exprs (if_given a)))
    else conjunction_of (dependencies ++ conjunct exprs (if_given a))

-- an attribute line's joined condition: its entry's dependencies, for a prompt the enclosing `visible if`s, and its own `if`
abbrev pub line_condition : Exprs → List Expr → List Expr → CodeLine → Expr
line_condition exprs dependencies visibles l = condition_view exprs dependencies visibles l.attribute

-- `after` is `before` with the joined condition of each line's attribute appended
pub record AreAppended (old new : Exprs) (before after : List ℕ) (dependencies visibles : List Expr) (lines : List CodeLine) : Type 0 where
  pub own : List ℕ
  pub is : after ≡ before ++ own
  pub exprs_are : map (node_expr new) own ≡ map (line_condition old dependencies visibles) lines
  pub held : All (λ i. i < length new.nodes) own
