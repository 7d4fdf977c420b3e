-- The nested tree of what was read, and the walk down it.
use Rattle.std.specs.Prelude.{◌≡◌, ℕ, Bool, true, false, List, [], ◌∷◌, ◌++◌, reverse, Option, None}
use Rattle.kc_tree_model.specs.Statements.{Head, block_of_head}
use Rattle.kc_tree_model.specs.declared.statement.Head.TheVariants.{Source as source, Ends as ends}
use Rattle.kc_tree_model.specs.declared.keyword.Block.{Block}
use Rattle.kc_tree_model.specs.Blocks.{Group, GroupHead, of_head, file_end, side_of, inside, is_some_block}
use Rattle.kc_tree_model.specs.TreeFiles.{Files}
use Rattle.kc_tree_model.specs.TreeReading.{reading}
use Rattle.kc_tree_model.specs.Conditions.{GroupInContext, group_in_context, groups_in_context}

-- A nested tree: a list of entries and blocks ("Menu structure"). A block has the group that opens it, the items inside it and
-- the group that ends it; a file that is read in place of its `source` is a block too.
pub data Items : Type 0 where
  none : Items
  entry : (group : Group) (rest : Items) → Items
  block : (begin : Group) (within : Items) (end : Group) (rest : Items) → Items

-- the groups of a nested tree, in reading order
abbrev pub listing : Items → List Group
listing none = []
listing (entry g rest) = g ∷ listing rest
listing (block g within e rest) = g ∷ (listing within ++ e ∷ listing rest)

-- whether a group is the end statement of this block: `endmenu` of a menu, `endif` of an `if`, `endchoice` of a choice
abbrev pub ends_block : Option Block → GroupHead → Bool
ends_block b (of_head (ends c)) = is_some_block c b
ends_block b w = false

-- whether a group is the end of a sourced file
abbrev pub is_file_end : GroupHead → Bool
is_file_end file_end = true
is_file_end (of_head h) = false

-- whether a group ends the block that this statement opens; a `source` has its block ended by the end of its file
abbrev pub ends_head : Head → GroupHead → Bool
ends_head (source path) e = is_file_end e
ends_head h e = ends_block (block_of_head h) e

-- whether the second of two groups ends the block that the first opens, by their beginnings
abbrev pub is_ended_by : GroupHead → GroupHead → Bool
is_ended_by (of_head h) e = ends_head h e
is_ended_by file_end e = false

-- a nested tree is well formed: its entries neither open nor close blocks, and the end of each block matches its beginning
abbrev pub IsNested : Items → Type 0
IsNested none = Unit {0}
IsNested (entry g rest) = (side_of g.head ≡ inside) × IsNested rest
IsNested (block g within e rest) = (is_ended_by g.head e.head ≡ true) × IsNested within × IsNested rest

-- the groups of a nested tree in reading order, each with its open blocks, by which `context` gives its conditions; the first list has the blocks above the
-- tree, innermost first
abbrev pub walk : List Group → Items → List GroupInContext
walk path none = []
walk path (entry g rest) = group_in_context path g ∷ walk path rest
walk path (block g within e rest) = group_in_context path g ∷ (walk (g ∷ path) within ++ group_in_context (g ∷ path) e ∷ walk path rest)

-- the groups read (newest first) are the `listing` of this nested tree and of no other, and `walk` gives each group its open
-- blocks, and so its conditions
pub record IsTreeOf (read : List Group) (t : Items) : Type 0 where
  pub nested : IsNested t
  pub listed : listing t ≡ reverse read
  pub only : (u : Items) → IsNested u → listing u ≡ reverse read → u ≡ t
  pub walked : groups_in_context read ≡ walk [] t

-- if these files are read without a fault, the groups read are the listing of exactly one nested tree
abbrev pub IsReadAsOneTree : Files → List ℕ → Type 0
IsReadAsOneTree files root = (reading files root).fault ≡ None → (t : Items) × IsTreeOf (reading files root).read t
