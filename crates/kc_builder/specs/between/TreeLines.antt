-- What the lines of a tree represent.
use Rattle.std.specs.Prelude.{◌≡◌, ℕ, ◌<◌, ◌^◌, List, [], length, reverse, All}
use Rattle.kc_value.specs.declared.tri.Tri.TheVariants.{N}
use Rattle.kc_expr.specs.Expr.{alone, constant}
use Rattle.kc_expr.specs.between.Arena.{Exprs, Represents}
use Rattle.kc_tree_model.specs.Blocks.{Group}
use Rattle.kc_tree_model.specs.Contents.{tree_of_groups}
use Rattle.kc_tree_model.specs.Limits.{names_defined}
use Rattle.kc_tree_model.specs.ReadingRelation.{IsWholeReading}
use Rattle.kc_tree_model.specs.TreeFaults.{tree_faults}
use Rattle.kc_tree_model.specs.TreeFiles.{Files}
use Rattle.kc_tree_model.specs.TreesOfFiles.{origin_of}
use Rattle.kc_parser.specs.between.ListingView.{RepresentsGroups, LineNodesExist}
use Rattle.kc_tree.specs.TreeModel.{TreeModel}
use Rattle.kc_builder.specs.declared.tree_lines.TreeLines.{TreeLines}

-- the lines represent the groups that were read (the newest first), fewer than 2^32, in this arena
pub record HasLines (exprs : Exprs) (lines : TreeLines) (read : List Group) : Type 0 where
  pub texts : List (List ℕ)
  pub held : All (LineNodesExist exprs) lines.lines.items
  pub groups_are : RepresentsGroups exprs (names_defined read) texts lines.lines.items (length lines.lines.items) (reverse lines.groups.items) read
  pub few : length lines.groups.items < 2 ^ 32
  pub no_is : Represents exprs lines.no (alone (constant N))

-- the tree and the lines of these files: those of one reading without a fault
pub record IsTreeWithLines (files : Files) (root : List ℕ) (t : TreeModel) (lines : TreeLines) : Type 0 where
  pub groups : List Group
  pub whole : IsWholeReading (origin_of files root) groups
  pub faultless : tree_faults files.language groups ≡ []
  pub tree_is : t.tree ≡ tree_of_groups files.language groups
  pub lines_are : HasLines t.exprs lines groups
