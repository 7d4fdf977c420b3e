-- First prompts, and the conditions inside a block that a group opens.
use Rattle.std.specs.Prelude.{◌≡◌, ℕ, ◌<◌, Bool, true, false, List, [], ◌∷◌, Option, Some, None, if◌then◌else◌}
use Rattle.kc_tokens.specs.declared.language.Language.{Language}
use Rattle.kc_expr.specs.between.Arena.{Exprs, Represents}
use Rattle.kc_expr.specs.Expr.{Expr}
use Rattle.kc_parser.specs.declared.listing.Line.{Line as CodeLine}
use Rattle.kc_parser.specs.declared.listing.GroupHead.{GroupHead as CodeHead}
use Rattle.kc_parser.specs.declared.listing.GroupHead.TheVariants as codes
use Rattle.kc_tree_model.specs.Blocks.{Group, opening, side_of}
use Rattle.kc_tree_model.specs.between.Attributes.{is_prompt}
use Rattle.kc_conditions.specs.between.Walks.{RepresentsEnclosing}
use Rattle.kc_conditions.specs.declared.conditions.EnclosingConditions.{EnclosingConditions}

-- the number of the condition of the first prompt among attribute lines with their conditions; `None` without a prompt
abbrev pub first_prompt : List CodeLine → List ℕ → Option ℕ
first_prompt [] cs = None
first_prompt (l ∷ ls) [] = None
first_prompt (l ∷ ls) (c ∷ cs) = if is_prompt l.attribute then Some c else first_prompt ls cs

-- an optional expression number represents an optional prompt condition; without a prompt both are `None`
abbrev pub RepresentsPrompt : Exprs → Option ℕ → Option Expr → Type 0
RepresentsPrompt exprs None None = Unit {0}
RepresentsPrompt exprs (Some i) (Some e) = Represents exprs i e
RepresentsPrompt exprs p e = ⊥

-- whether a statement ends a block or is the end of a sourced file
abbrev pub is_end : CodeHead → Bool
is_end (codes.Ends b) = true
is_end codes.FileEnd = true
is_end w = false

-- the expression number of an `if` statement is below the number of nodes; holds for any other statement
abbrev pub GroupHeadNodesExist : ℕ → CodeHead → Type 0
GroupHeadNodesExist nodes (codes.Condition id) = id < nodes
GroupHeadNodesExist nodes w = Unit {0}

-- the optional conditions are those inside the block that a group opens; `None` means that it opens none
abbrev pub RepresentsInside : Language → Exprs → List (List ℕ) → ℕ → Group → List Group → Option EnclosingConditions → Type 0
RepresentsInside language exprs texts y m opened None = (side_of m.head ≡ opening → ⊥)
RepresentsInside language exprs texts y m opened (Some a) = (side_of m.head ≡ opening) × RepresentsEnclosing language exprs texts y a (m ∷ opened)
