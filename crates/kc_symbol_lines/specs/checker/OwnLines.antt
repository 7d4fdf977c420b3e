-- What is on the attribute lines of a group, as the code has it.
use Rattle.std.specs.Prelude.{ℕ, Bool, false, is_some, List, [], ◌∷◌, ◌++◌, Option, Some, None, if◌then◌else◌}
use Rattle.kc_parser.specs.declared.listing.Line.{Line}
use Rattle.kc_tree_model.specs.declared.statement.Conjuncts.{Conjuncts}
use Rattle.kc_tree_model.specs.declared.statement.Conjuncts.TheVariants.{Dependencies}
use Rattle.kc_symbol_lines.specs.declared.own_lines.Given.{Given}
use Rattle.kc_symbol_lines.specs.declared.own_lines.Given.TheVariants as given
use Rattle.kc_symbol_lines.specs.declared.located.Position.{Position}
use Rattle.kc_symbol_lines.specs.declared.located.LocatedExpr.{LocatedExpr}
use Rattle.kc_tree_model.specs.between.Attributes.{conjunct_given, is_range}
use Rattle.kc_tree_model.specs.Statements.{default_of, prompt_of}
use Rattle.kc_statements.specs.between.StatementViews.{ReadAttribute}

abbrev pub position_at : (file line : ℕ) → Position
position_at file line = record { file = file; line = line }

-- an expression of a line, if there is one
abbrev pub located_if : Position → Option ℕ → List LocatedExpr
located_if at None = []
located_if at (Some e) = record { expr = e; at = at; of_choice = false } ∷ []

-- the conditions of the `depends on`, or of the `visible if`, among lines of a file
abbrev pub parts_in : Conjuncts → ℕ → List Line → List LocatedExpr
parts_in which file [] = []
parts_in which file (l ∷ ls) = located_if (position_at file l.number) (conjunct_given which l.attribute) ++ parts_in which file ls

-- whether an attribute is a default, or a range
abbrev pub is_given : Given → ReadAttribute → Bool
is_given given.Default a = is_some (default_of a)
is_given given.Range a = is_range a

-- the places of defaults, or of ranges
abbrev pub places_in : Given → ℕ → List Line → List Position
places_in given file [] = []
places_in given file (l ∷ ls) = (if is_given given l.attribute then position_at file l.number ∷ [] else []) ++ places_in given file ls

-- the enclosing dependencies and `visible if`s, outermost first
pub record EnclosingLists : Type 0 where
  pub dependencies : List LocatedExpr
  pub visibles : List LocatedExpr

-- the dependencies of an entry with these lines
abbrev pub dependency_parts : EnclosingLists → ℕ → List Line → List LocatedExpr
dependency_parts a file ls = a.dependencies ++ parts_in Dependencies file ls

-- what is needed for its prompt on a line with this `if`
abbrev pub prompt_parts : EnclosingLists → ℕ → List Line → ℕ → Option ℕ → List LocatedExpr
prompt_parts a file ls line c = dependency_parts a file ls ++ (a.visibles ++ located_if (position_at file line) c)

-- what is needed for a line, if it is a prompt
abbrev pub prompt_at : EnclosingLists → ℕ → List Line → ℕ → Option (Option ℕ) → List (List LocatedExpr)
prompt_at a file ls line None = []
prompt_at a file ls line (Some c) = prompt_parts a file ls line c ∷ []

-- for each prompt among some of its lines
abbrev pub prompts_in : EnclosingLists → ℕ → List Line → List Line → List (List LocatedExpr)
prompts_in a file all [] = []
prompts_in a file all (l ∷ ls) = prompt_at a file all l.number (prompt_of l.attribute) ++ prompts_in a file all ls
