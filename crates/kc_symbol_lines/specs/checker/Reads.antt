-- Lines that were read.
use Rattle.std.specs.Prelude.{List}
use Rattle.kc_expr.specs.between.Arena.{Exprs}
use Rattle.kc_tree_model.specs.Blocks.{Group}
use Rattle.kc_builder.specs.between.TreeLines.{HasLines}
use Rattle.kc_builder.specs.declared.tree_lines.TreeLines.{TreeLines}

-- lines represent some groups that were read
pub record IsRead (lines : TreeLines) : Type 0 where
  pub exprs : Exprs
  pub read : List Group
  pub has : HasLines exprs lines read
