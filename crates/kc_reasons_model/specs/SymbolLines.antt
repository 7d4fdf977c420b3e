-- The lines of a symbol's conditions, defaults, ranges, selects and implies, in the order in which the tree has these.
use Rattle.std.specs.Prelude.{ℕ, List, [], map, filter_map, flat_map, Option, Some, None, option_map, bytes_eq, if◌then◌else◌}
use Rattle.kc_tokens.specs.declared.language.Language.{Language}
use Rattle.kc_expr.specs.Lookup.{index_of_name}
use Rattle.kc_expr.specs.Expr.{Expr}
use Rattle.kc_tree_model.specs.Statements.{Attribute, default_of, range_of, select_of, imply_of}
use Rattle.kc_tree_model.specs.declared.statement.TargetAttribute.{TargetAttribute}
use Rattle.kc_tree_model.specs.Blocks.{Group, Line, Position, defined_name}
use Rattle.kc_tree_model.specs.Conditions.{GroupInContext}
use Rattle.kc_tree_model.specs.Contents.{Contents, definitions_of, choice_of_symbol, own_dependencies}
use Rattle.kc_reasons_model.specs.Places.{LocatedExpr, located_context_of, located_prompts, located_dependencies}

-- the parts of the condition of each prompt and of each definition's dependency, and the places of defaults, ranges, selects and
-- implies
pub record SymbolLines : Type 0 where
  pub prompts : List (List LocatedExpr)
  pub direct : List (List LocatedExpr)
  pub defaults : List Position
  pub ranges : List Position
  pub selectors : List Position
  pub impliers : List Position

-- the place of an attribute of a group
abbrev pub position_of : Group → Line → Position
position_of g l = record { file = g.at.file; line = l.number }

-- the places of those attributes of a group of which a function gives a value, in their order
abbrev pub attribute_positions : {A : Type 0} → (Attribute → Option A) → Group → List Position
attribute_positions f g = filter_map (λ (l : Line). option_map (λ a. position_of g l) (f l.attribute)) g.attributes

-- the target of a `select` or `imply`, if it is the symbol with this name
abbrev pub target_named : List ℕ → Option (TargetAttribute Expr (List ℕ)) → Option (TargetAttribute Expr (List ℕ))
target_named name None = None
target_named name (Some a) = if bytes_eq a.name name then Some a else None

-- the places of a group's `select`s or `imply`s of this name; of a group that defines no symbol of the tree there are none
abbrev pub target_positions : (Attribute → Option (TargetAttribute Expr (List ℕ))) → Contents → List ℕ → GroupInContext → List Position
target_positions f c name p = elim (defined_name p.group) [
  | None ↦ []
  | Some by ↦ elim (index_of_name by c.names) [ None ↦ [] | Some s ↦ attribute_positions (λ a. target_named name (f a)) p.group ]
]

-- the lines of the symbol with this name, in a tree of this language
abbrev pub lines_of_symbol : Language → Contents → List ℕ → SymbolLines
lines_of_symbol language c name =
    let own = definitions_of c name in
    record {
      prompts = flat_map (λ (p : GroupInContext). located_prompts (located_context_of language p) p.group) own;
      direct = own_dependencies (choice_of_symbol c name) (map (λ (p : GroupInContext). located_dependencies (located_context_of language p) p.group) own);
      defaults = flat_map (λ (p : GroupInContext). attribute_positions default_of p.group) own;
      ranges = flat_map (λ (p : GroupInContext). attribute_positions range_of p.group) own;
      selectors = flat_map (target_positions select_of c name) c.places;
      impliers = flat_map (target_positions imply_of c name) c.places;
    }
