-- The lines of a symbol's definitions, as the code has them.
use Rattle.std.specs.Prelude.{◌≡◌, ℕ, Bool, List, [], ◌∷◌, ◌++◌, map, flat_map, Option}
use Rattle.kc_expr.specs.between.Arena.{Exprs}
use Rattle.kc_tree_model.specs.Blocks.{Group as ModelGroup}
use Rattle.kc_builder.specs.between.TreeLines.{HasLines}
use Rattle.kc_builder.specs.declared.tree_lines.TreeLines.{TreeLines}
use Rattle.kc_checks.specs.between.Summaries.{group_at}
use Rattle.kc_parser.specs.declared.listing.Line.{Line}
use Rattle.kc_symbol_lines.specs.declared.own_lines.Given.TheVariants.{Default, Range}
use Rattle.kc_symbol_lines.specs.declared.located.Position.{Position}
use Rattle.kc_symbol_lines.specs.declared.located.LocatedExpr.{LocatedExpr}
use Rattle.kc_symbol_lines.specs.declared.symbol.DefinitionLines.{DefinitionLines}
use Rattle.kc_symbol_lines.specs.checker.Blocks.{HasBlocks, open_numbers}
use Rattle.kc_symbol_lines.specs.checker.Contexts.{inside_blocks, lines_at}
use Rattle.kc_symbol_lines.specs.checker.Lists.{each_items}
use Rattle.kc_symbol_lines.specs.checker.OwnLines.{EnclosingLists, dependency_parts, prompts_in, places_in}

-- lines represent some groups that were read, and these are the blocks around each group
pub record IsBlocked (lines : TreeLines) (blocks : List (Option ℕ)) : Type 0 where
  pub exprs : Exprs
  pub read : List ModelGroup
  pub has : HasLines exprs lines read
  pub around : HasBlocks blocks read

-- `new` is `old` with the lines of a definition in a file, with these lines and under these conditions
pub record HasEntry (a : EnclosingLists) (file : ℕ) (ls : List Line) (old new : DefinitionLines) : Type 0 where
  pub prompts : each_items new.prompts.items ≡ each_items old.prompts.items ++ prompts_in a file ls ls
  pub direct : each_items new.direct.items ≡ each_items old.direct.items ++ dependency_parts a file ls ∷ []
  pub defaults : new.defaults.items ≡ old.defaults.items ++ places_in Default file ls
  pub ranges : new.ranges.items ≡ old.ranges.items ++ places_in Range file ls

-- what is on the lines of the group with a number
abbrev pub around_group : (through : Bool) → TreeLines → List ModelGroup → ℕ → EnclosingLists
around_group through lines read i = inside_blocks through lines.no lines.groups.items lines.lines.items (open_numbers read i)

abbrev pub prompts_at : (through : Bool) → TreeLines → List ModelGroup → ℕ → List (List LocatedExpr)
prompts_at through lines read i =
    prompts_in (around_group through lines read i) (group_at lines.groups.items i).file (lines_at lines.groups.items lines.lines.items i) (lines_at lines.groups.items lines.lines.items i)

abbrev pub dependency_at : (through : Bool) → TreeLines → List ModelGroup → ℕ → List LocatedExpr
dependency_at through lines read i =
    dependency_parts (around_group through lines read i) (group_at lines.groups.items i).file (lines_at lines.groups.items lines.lines.items i)

abbrev pub defaults_at : TreeLines → ℕ → List Position
defaults_at lines i = places_in Default (group_at lines.groups.items i).file (lines_at lines.groups.items lines.lines.items i)

abbrev pub ranges_at : TreeLines → ℕ → List Position
ranges_at lines i = places_in Range (group_at lines.groups.items i).file (lines_at lines.groups.items lines.lines.items i)

-- the lines of the definitions that the groups with these numbers are
pub record AreDefinitionLines (through : Bool) (lines : TreeLines) (read : List ModelGroup) (numbers : List ℕ) (found : DefinitionLines) : Type 0 where
  pub prompts : each_items found.prompts.items ≡ flat_map (prompts_at through lines read) numbers
  pub direct : each_items found.direct.items ≡ map (dependency_at through lines read) numbers
  pub defaults : found.defaults.items ≡ flat_map (defaults_at lines) numbers
  pub ranges : found.ranges.items ≡ flat_map (ranges_at lines) numbers
