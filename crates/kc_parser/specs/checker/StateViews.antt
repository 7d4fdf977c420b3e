-- The counts and the open blocks of a reading, as the definitions have them.
use Rattle.std.specs.Prelude.{◌≡◌, ℕ, List, [], ◌∷◌, length, map, reverse, filter, slice_get, sum_by, Option, Some, None, if◌then◌else◌}
use Rattle.kc_tree_model.specs.TreeFiles.{file_at, index_of_file}
use Rattle.kc_tree_model.specs.Blocks.{Group, GroupHead, Position, open_blocks, opened_block, sourced_path, opens_choice}
use Rattle.kc_tree_model.specs.Limits.{FileSource, names_defined, files_read, size_in}
use Rattle.kc_tree_model.specs.TreeReading.{bytes_or_none}
use Rattle.kc_parser.specs.declared.state.OpenBlock.{OpenBlock}
use Rattle.kc_parser.specs.declared.state.OpenBlock.TheVariants as opens
use Rattle.kc_parser.specs.declared.state.ReaderState.{ReaderState}
use Rattle.kc_parser.specs.declared.state.SourceFiles.{SourceFiles}
use Rattle.kc_parser.specs.declared.listing.Listing.{Listing}
use Rattle.kc_parser.specs.declared.listing.GroupHead.{GroupHead as CodeHead}
use Rattle.kc_parser.specs.between.EnclosingChoices.{begins_choice, choices_opened, choices_opened_after}
use Rattle.kc_parser.specs.between.ListingView.{RepresentsListing, RepresentsHead}
use Rattle.kc_parser.specs.checker.OpenBlockViews.{choice_in}

-- an open block or sourced file on the reader's stack represents the group that opened it
abbrev pub RepresentsOpenBlock : List (List ℕ) → OpenBlock → Group → Type 0
RepresentsOpenBlock texts (opens.Block b line choice) g = (opened_block g ≡ Some b) × (g.at.line ≡ line) × (sourced_path g ≡ None)
RepresentsOpenBlock texts (opens.Source t choice) g = (path : List ℕ) × (slice_get texts t ≡ Some path) × (opened_block g ≡ None) × (sourced_path g ≡ Some path)

-- the open blocks and sourced files on the reader's stack, the innermost first, represent the groups that opened them
abbrev pub RepresentsOpenBlocks : List (List ℕ) → List OpenBlock → List Group → Type 0
RepresentsOpenBlocks texts [] [] = Unit {0}
RepresentsOpenBlocks texts (o ∷ os) (g ∷ gs) = RepresentsOpenBlock texts o g × RepresentsOpenBlocks texts os gs
RepresentsOpenBlocks texts os gs = ⊥

-- the files that a reader of the code reads, as a `FileSource` of the model; an absent file may count as an empty one
unfoldable pub file_source_of : SourceFiles → FileSource
file_source_of f = record { language = f.texts.now.language; bytes = λ path. if f.absent_is_empty then Some (bytes_or_none f.texts.now path) else file_at f.texts.now path; number = index_of_file f.texts.now; root = f.root.now }

-- the reader's stack and its counts of choices, files and bytes are those of the groups that were read
pub record IsCounted (r : FileSource) (texts : List (List ℕ)) (opened : List OpenBlock) (choices files bytes : ℕ) (read : List Group) : Type 0 where
  pub stack : RepresentsOpenBlocks texts (reverse opened) (open_blocks 0 read)
  pub choices_are : choices ≡ length (filter opens_choice read)
  pub files_are : files ≡ length (files_read r read)
  pub bytes_are : bytes ≡ sum_by (size_in r) (files_read r read)

-- the place in a tree with this file number and this line number
abbrev pub at_line : ℕ → ℕ → Position
at_line file line = record { file = file; line = line }

-- the head of a group in a listing represents the head of a group in the model, after the groups that were read before it
abbrev pub IsMeant : Listing → List Group → CodeHead → GroupHead → Type 0
IsMeant l before what m = RepresentsHead l.names.arena (names_defined before) l.texts.items what m

-- for each block or file that is open after the groups of a listing, innermost first, the number of the choice that it is or is in
abbrev pub open_choices : Listing → List (Option ℕ)
open_choices l = choices_opened (reverse l.groups.items)

-- the same after one more statement
abbrev pub open_choices_after : CodeHead → Listing → List (Option ℕ)
open_choices_after what l = choices_opened_after what (length (filter begins_choice (reverse l.groups.items))) (open_choices l)

-- the reader's state represents the groups that were read: by its listing, its stack with the choices there, and its counts
pub record IsDescribed (r : FileSource) (p : ReaderState) (read : List Group) : Type 0 where
  pub shows : RepresentsListing p.listing read
  pub counted : IsCounted r p.listing.texts.items p.stack.items p.choices p.files p.bytes read
  pub enclosed : map choice_in (reverse p.stack.items) ≡ open_choices p.listing

-- the reader's state represents the groups that were read from a file source: by its listing, its stack and its counts
unfoldable pub Describes : FileSource → ReaderState → List Group → Type 0
Describes r p read = IsDescribed r p read
