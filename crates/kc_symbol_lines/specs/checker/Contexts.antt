-- The conditions that enclose what is inside blocks, as the code has them.
use Rattle.std.specs.Prelude.{ℕ, Bool, true, false, List, [], ◌∷◌, ◌++◌, map, Option, Some, None, slice_get, slice_range, if◌then◌else◌}
use Rattle.kc_parser.specs.declared.listing.Group.{Group}
use Rattle.kc_parser.specs.declared.listing.Line.{Line}
use Rattle.kc_parser.specs.declared.listing.GroupHead.{GroupHead}
use Rattle.kc_parser.specs.declared.listing.GroupHead.TheVariants.{Choice, Menu, Condition}
use Rattle.kc_checks.specs.between.Summaries.{group_at, attributes_end}
use Rattle.kc_tree_model.specs.declared.statement.Conjuncts.TheVariants.{Visibles}
use Rattle.kc_symbol_lines.specs.declared.located.Position.{Position}
use Rattle.kc_symbol_lines.specs.declared.located.LocatedExpr.{LocatedExpr}
use Rattle.kc_symbol_lines.specs.declared.contexts.Enclosing.{Enclosing}
use Rattle.kc_symbol_lines.specs.checker.OwnLines.{EnclosingLists, position_at, located_if, parts_in, dependency_parts, prompts_in}

-- the lists of some enclosing conditions
abbrev pub lists_of : Enclosing → EnclosingLists
lists_of a = record { dependencies = a.dependencies.items; visibles = a.visibles.items }

abbrev pub as_choice_part : LocatedExpr → LocatedExpr
as_choice_part p = record { expr = p.expr; at = p.at; of_choice = true }

-- the parts of the condition that a choice is shown, from those of its first prompt; without one it is `off`
abbrev pub shown_parts : (off : ℕ) → Position → Option (List LocatedExpr) → List LocatedExpr
shown_parts off at None = located_if at (Some off)
shown_parts off at (Some parts) = map as_choice_part parts

-- the conditions inside a menu of a file with these lines
abbrev pub inside_menu : EnclosingLists → ℕ → List Line → EnclosingLists
inside_menu a file ls = record { dependencies = dependency_parts a file ls; visibles = a.visibles ++ parts_in Visibles file ls }

-- those inside a choice that the outer conditions don't go through
abbrev pub inside_choice : (off : ℕ) → EnclosingLists → (file line : ℕ) → List Line → EnclosingLists
inside_choice off a file line ls = record { dependencies = shown_parts off (position_at file line) (slice_get (prompts_in a file ls ls) 0); visibles = [] }

-- those inside the block that a statement opens; `through`: the outer conditions go through choices
abbrev pub inside_head : (through : Bool) → (off : ℕ) → GroupHead → EnclosingLists → (file line : ℕ) → List Line → EnclosingLists
inside_head through off Choice a file line ls = if through then inside_menu a file ls else inside_choice off a file line ls
inside_head through off (Menu t) a file line ls = inside_menu a file ls
inside_head through off (Condition e) a file line ls = record { dependencies = a.dependencies ++ located_if (position_at file line) (Some e); visibles = a.visibles }
inside_head through off h a file line ls = a

-- the lines of the group with a number
abbrev pub lines_at : List Group → List Line → ℕ → List Line
lines_at groups lines i = slice_range lines (group_at groups i).attributes (attributes_end groups lines i)

abbrev pub inside_group : (through : Bool) → (off : ℕ) → List Group → List Line → ℕ → EnclosingLists → EnclosingLists
inside_group through off groups lines i a =
    inside_head through off (group_at groups i).head a (group_at groups i).file (group_at groups i).line (lines_at groups lines i)

-- those inside blocks that the groups with these numbers open, innermost first
abbrev pub inside_blocks : (through : Bool) → (off : ℕ) → List Group → List Line → List ℕ → EnclosingLists
inside_blocks through off groups lines [] = record { dependencies = []; visibles = [] }
inside_blocks through off groups lines (i ∷ outer) = inside_group through off groups lines i (inside_blocks through off groups lines outer)
