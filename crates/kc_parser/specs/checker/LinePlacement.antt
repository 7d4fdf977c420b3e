-- Where lines are allowed, by their keywords.
use Rattle.std.specs.Prelude.{◌-◌, Bool, true, false, not, ◌==◌, List, length, filter_map, slice_get, Option, Some, None, if◌then◌else◌}
use Rattle.kc_tokens.specs.Token.{Lexeme}
use Rattle.kc_tokens.specs.declared.language.Language.{Language}
use Rattle.kc_tree_model.specs.declared.fault.TreeKind.{TreeKind}
use Rattle.kc_tree_model.specs.declared.fault.TreeKind.TheVariants.{LeftOut, Misplaced, StrayEnd}
use Rattle.kc_tree_model.specs.declared.keyword.Keyword.{Keyword}
use Rattle.kc_tree_model.specs.Blocks.{Group, in_choice, open_blocks, opened_block, is_stray}
use Rattle.kc_tree_model.specs.Placement.{is_allowed, is_left_out, is_stray_end, open_entry_allows}
use Rattle.kc_tree_model.specs.declared.keyword.Keyword.TheVariants as words
use Rattle.kc_tree_model.specs.declared.keyword.Block.{Block}
use Rattle.kc_tree_model.specs.declared.keyword.OpenEntry.{OpenEntry}
use Rattle.kc_tree_model.specs.declared.keyword.OpenEntry.TheVariants as entries
use Rattle.kc_parser.specs.declared.listing.Group.{Group as CodeGroup}
use Rattle.kc_parser.specs.declared.listing.GroupHead.{GroupHead as CodeHead}
use Rattle.kc_parser.specs.declared.listing.GroupHead.TheVariants as codes
use Rattle.kc_parser.specs.declared.placement.AllowedPlace.{AllowedPlace}
use Rattle.kc_parser.specs.declared.placement.AllowedPlace.TheVariants as places

-- the place where a line with this keyword is allowed
abbrev pub place_of_keyword : Keyword → AllowedPlace
place_of_keyword words.Config = places.Anywhere
place_of_keyword words.If = places.Anywhere
place_of_keyword words.Comment = places.Anywhere
place_of_keyword words.Source = places.Anywhere
place_of_keyword (words.End b) = places.Anywhere
place_of_keyword words.Choice = places.OutsideChoices
place_of_keyword words.Menu = places.OutsideChoices
place_of_keyword words.Mainmenu = places.OutsideBlocks
place_of_keyword k = places.InEntry

-- whether a line with this keyword, which needs this place, is allowed after the groups that were read
abbrev pub is_allowed_here : List Group → AllowedPlace → Keyword → Bool
is_allowed_here before places.Anywhere k = true
is_allowed_here before places.OutsideChoices k = not (in_choice before)
is_allowed_here before places.OutsideBlocks k = length (filter_map opened_block (open_blocks 0 before)) == 0
is_allowed_here before places.InEntry k = open_entry_allows before k

-- the block that a line with this keyword ends; None if it ends none
abbrev pub block_ended : Keyword → Option Block
block_ended (words.End b) = Some b
block_ended k = None

-- whether an end of this block, after these groups, doesn't match the innermost open block of its file; false for None
abbrev pub is_stray_block : List Group → Option Block → Bool
is_stray_block before None = false
is_stray_block before (Some b) = is_stray before b

-- the entry that a group of the listing opens for the attributes after it; None if it opens none
abbrev pub entry_opened : CodeHead → Option OpenEntry
entry_opened (codes.Config s) = Some entries.Config
entry_opened codes.Choice = Some entries.Choice
entry_opened (codes.Menu t) = Some entries.Menu
entry_opened (codes.Comment t) = Some entries.Comment
entry_opened w = None

-- the entry that a group of the listing, if there is one, opens for the attributes after it; None if it opens none
abbrev pub entry_of_group : Option CodeGroup → Option OpenEntry
entry_of_group None = None
entry_of_group (Some g) = entry_opened g.head

-- the entry that the last of these groups opens for the attributes after it; None if it opens none or there are no groups
abbrev pub entry_kept : List CodeGroup → Option OpenEntry
entry_kept groups = entry_of_group (slice_get groups (length groups - 1))

-- the fault of a line, by its keyword and the tokens after it, that comes before the faults of the statement's form:
-- the statement is left out of the language, is misplaced, or ends no open block
abbrev pub fault_before : Language → List Group → Keyword → List Lexeme → Option TreeKind
fault_before language read k ts = if is_left_out language read k ts then Some LeftOut else if not (is_allowed read k) then Some Misplaced else if is_stray_end read k then Some StrayEnd else None
