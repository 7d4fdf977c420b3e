-- The statements read so far, newest first, and the blocks that are open after them.
use Rattle.std.specs.Prelude.{ℕ, zero, suc, Bool, false, not, List, [], ◌∷◌, Option, Some, None, option_map}
use Rattle.std.specs.List.{list_any}
use Rattle.kc_tree_model.specs.Statements.{Head, Attribute, block_of_head, name_of_head, path_of_head, same_block}
use Rattle.kc_tree_model.specs.declared.statement.Head.TheVariants.{Choice as choice, Menu as menu, Condition as condition, Source as source, Ends as ends}
use Rattle.kc_tree_model.specs.declared.keyword.Block.{Block}
use Rattle.kc_tree_model.specs.declared.keyword.Block.TheVariants as blocks

-- The beginning of a group: a statement that is no attribute, or the end of a sourced file. Such a file is a block, which its
-- `source` opens and its end closes.
pub data GroupHead : Type 0 where
  of_head : Head → GroupHead
  file_end : GroupHead

-- an attribute of an entry, and the number of its line in its file, from 1
pub record Line : Type 0 where
  pub number : ℕ
  pub attribute : Attribute

-- a place in a tree: the number of a file, from 0, and of a line in it, from 1
pub record Position : Type 0 where
  pub file : ℕ
  pub line : ℕ

-- a statement or the end of a sourced file, its number among all groups in reading order, from 0, its place, and the attributes
-- that follow it
pub record Group : Type 0 where
  pub number : ℕ
  pub at : Position
  pub head : GroupHead
  pub attributes : List Line

-- whether a statement opens a block, closes one, or does neither
pub data Side : Type 0 where
  opening : Side
  closing : Side
  inside : Side

-- whether a statement opens or closes a block: `choice`, `menu`, `if` and `source` open one, ends close it ("Menu structure")
abbrev pub side_of_head : Head → Side
side_of_head choice = opening
side_of_head (menu title) = opening
side_of_head (condition e) = opening
side_of_head (source path) = opening
side_of_head (ends b) = closing
side_of_head h = inside

-- whether a group opens a block, closes one, or does neither; the end of a sourced file closes it
abbrev pub side_of : GroupHead → Side
side_of (of_head h) = side_of_head h
side_of file_end = closing

-- The groups whose blocks are open after these groups (newest first), innermost first, without those that `n` later ends close.
-- Ends of all sorts are counted alike, since an end that doesn't match its block is the fault `StrayEnd` and makes no group.
abbrev pub open_blocks : ℕ → List Group → List Group
open_blocks n [] = []
open_blocks n (g ∷ before) = elim (side_of g.head) [
  | opening ↦ elim n [ zero ↦ g ∷ open_blocks 0 before | suc m ↦ open_blocks m before ]
  | closing ↦ open_blocks (suc n) before
  | inside ↦ open_blocks n before
]

-- a function of statements, applied to a group's statement; None at the end of a sourced file
abbrev pub from_head : {A : Type 0} → (Head → Option A) → GroupHead → Option A
from_head f (of_head h) = f h
from_head f file_end = None

-- the menu, `if` or choice that a group opens, or None if it opens no block or a sourced file
abbrev pub opened_block : Group → Option Block
opened_block g = from_head block_of_head g.head

-- the name of the symbol that a group defines, if it is a `config`
abbrev pub defined_name : Group → Option (List ℕ)
defined_name g = from_head name_of_head g.head

-- the path of the file that a group sources, if it is a `source`
abbrev pub sourced_path : Group → Option (List ℕ)
sourced_path g = from_head path_of_head g.head

-- whether there is a block, and it is of this sort
abbrev pub is_some_block : Block → Option Block → Bool
is_some_block b None = false
is_some_block b (Some c) = same_block b c

-- whether a group opens a choice
abbrev pub opens_choice : Group → Bool
opens_choice g = is_some_block blocks.Choice (opened_block g)

-- whether a choice is open after these groups, in the file that is being read or in one that sources it
abbrev pub in_choice : List Group → Bool
in_choice read = list_any opens_choice (open_blocks 0 read)

-- the first of these open blocks and its sort, or None if there is none or it is a sourced file
abbrev pub innermost_of : List Group → Option (Group × Block)
innermost_of [] = None
innermost_of (g ∷ outer) = option_map (λ b. (g, b)) (opened_block g)

-- the innermost block that is open after these groups in the file that is being read, if there is one
abbrev pub innermost : List Group → Option (Group × Block)
innermost read = innermost_of (open_blocks 0 read)

-- whether an end of this block, after these groups, doesn't match the innermost open block of its file
abbrev pub is_stray : List Group → Block → Bool
is_stray read b = not (is_some_block b (option_map (λ (o : Group × Block). o.1) (innermost read)))
