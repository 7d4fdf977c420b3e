-- Tests of the open blocks and files.
use Rattle.std.specs.Prelude.{ℕ, ◌-◌, Bool, true, false, List, length, slice_get, bytes_eq, Option, Some, None}
use Rattle.kc_tree_model.specs.declared.keyword.Block.{Block}
use Rattle.kc_tree_model.specs.declared.keyword.Block.TheVariants as blocks
use Rattle.kc_parser.specs.declared.state.OpenBlock.{OpenBlock}
use Rattle.kc_parser.specs.declared.state.OpenBlock.TheVariants as opens

-- whether an element of the reader's stack is an open block, not a sourced file
abbrev pub is_block : OpenBlock → Bool
is_block (opens.Block b l choice) = true
is_block (opens.Source t choice) = false

-- whether an element of the reader's stack is a sourced file, not an open block
abbrev pub is_file : OpenBlock → Bool
is_file (opens.Block b l choice) = false
is_file (opens.Source t choice) = true

-- whether an element of the reader's stack is an open choice
abbrev pub is_choice : OpenBlock → Bool
is_choice (opens.Block blocks.Choice l choice) = true
is_choice o = false

-- whether an optional text is present and equals this path
abbrev pub is_text_at : List ℕ → Option (List ℕ) → Bool
is_text_at path None = false
is_text_at path (Some text) = bytes_eq text path

-- whether an element of the reader's stack is a sourced file with this path; the element has the path's index among these texts
abbrev pub is_file_of : List (List ℕ) → List ℕ → OpenBlock → Bool
is_file_of texts path (opens.Block b l choice) = false
is_file_of texts path (opens.Source t choice) = is_text_at path (slice_get texts t)

-- the block, with its line, in an element of the reader's stack; None if the element is a file or there is no element
abbrev pub block_at : Option OpenBlock → Option (Block × ℕ)
block_at None = None
block_at (Some (opens.Block b l choice)) = Some (b, l)
block_at (Some (opens.Source t choice)) = None

-- the block, with its line, that is innermost on the reader's stack; None if a file is innermost or the stack is empty
abbrev pub block_kept : List OpenBlock → Option (Block × ℕ)
block_kept opened = block_at (slice_get opened (length opened - 1))

-- the number of the choice that the statements in an open block or file are in; `None` outside choices
abbrev pub choice_in : OpenBlock → Option ℕ
choice_in (opens.Block b l choice) = choice
choice_in (opens.Source t choice) = choice

-- the same for an element of the reader's stack, if there is one
abbrev pub choice_at : Option OpenBlock → Option ℕ
choice_at None = None
choice_at (Some o) = choice_in o

-- the number of the choice that a statement is in, by the block or file that is innermost on the reader's stack
abbrev pub choice_kept : List OpenBlock → Option ℕ
choice_kept opened = choice_at (slice_get opened (length opened - 1))
