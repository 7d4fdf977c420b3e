-- The blocks that are open at each group, as the code has them.
use Rattle.std.specs.Prelude.{◌≡◌, ℕ, ◌+◌, ◌<◌, List, [], ◌∷◌, length, map, Option, Some, None, option_and_then, slice_get, unwrap_or, IfSome}
use Rattle.kc_parser.specs.declared.listing.GroupHead.{GroupHead}
use Rattle.kc_parser.specs.declared.listing.GroupHead.TheVariants.{Choice, Menu, Condition, Source, Ends, FileEnd}
use Rattle.kc_tree_model.specs.Blocks.{Group, open_blocks}
use Rattle.kc_checks.specs.between.Summaries.{read_before}

-- the innermost block around the group with a number; `None` past the end
abbrev pub block_at : List (Option ℕ) → ℕ → Option ℕ
block_at blocks i = unwrap_or (slice_get blocks i) None

abbrev pub outer_block : List (Option ℕ) → Option ℕ → Option ℕ
outer_block blocks None = None
outer_block blocks (Some b) = block_at blocks b

-- the innermost block after a statement with this number, from that before it
abbrev pub block_after : List (Option ℕ) → Option ℕ → GroupHead → ℕ → Option ℕ
block_after blocks block Choice n = Some n
block_after blocks block (Menu t) n = Some n
block_after blocks block (Condition e) n = Some n
block_after blocks block (Source t) n = Some n
block_after blocks block (Ends b) n = outer_block blocks block
block_after blocks block FileEnd n = outer_block blocks block
block_after blocks block h n = block

-- these are the numbers of a block and of those around it, innermost first; each is below the one before it
abbrev pub IsChain : List (Option ℕ) → Option ℕ → List ℕ → Type 0
IsChain blocks None [] = Unit {0}
IsChain blocks (Some b) (n ∷ outer) = (b ≡ n) × (n < length blocks) × IfSome (block_at blocks n) (λ k. k < n) × IsChain blocks (block_at blocks n) outer
IsChain blocks block numbers = ⊥

-- the numbers of the groups whose blocks are open before group `i`, innermost first
abbrev pub open_numbers : List Group → ℕ → List ℕ
open_numbers read i = map (λ (g : Group). g.number) (open_blocks 0 (read_before i read))

-- the blocks around each of the first `count` groups that were read
pub record HasBlocksTo (count : ℕ) (blocks : List (Option ℕ)) (read : List Group) : Type 0 where
  pub many : length blocks ≡ count
  pub chains : (i : ℕ) → i < count → IsChain blocks (block_at blocks i) (open_numbers read i)

-- and around each group
abbrev pub HasBlocks : List (Option ℕ) → List Group → Type 0
HasBlocks blocks read = HasBlocksTo (length read) blocks read
