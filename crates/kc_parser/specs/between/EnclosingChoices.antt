-- The choices that enclose the statements of a listing.
use Rattle.std.specs.Prelude.{◌≡◌, ℕ, Bool, true, false, List, [], ◌∷◌, drop, length, filter, Option, Some, None}
use Rattle.kc_parser.specs.declared.listing.Group.{Group}
use Rattle.kc_parser.specs.declared.listing.GroupHead.{GroupHead}
use Rattle.kc_parser.specs.declared.listing.GroupHead.TheVariants as codes

-- whether a statement is a `choice`
abbrev pub is_choice_code : GroupHead → Bool
is_choice_code codes.Choice = true
is_choice_code w = false

-- whether a group begins a choice
abbrev pub begins_choice : Group → Bool
begins_choice g = is_choice_code g.head

-- the number of the choice that the innermost open block is or is in, from the list of these numbers for all open blocks,
-- innermost first; `None` if the block is in no choice or no block is open
abbrev pub innermost_choice : List (Option ℕ) → Option ℕ
innermost_choice [] = None
innermost_choice (o ∷ os) = o

-- for each block open after a statement, innermost first, the number of the choice that the block is or is in, from the same list
-- before the statement and the number of choices before it
abbrev pub choices_opened_after : GroupHead → ℕ → List (Option ℕ) → List (Option ℕ)
choices_opened_after codes.Choice n os = Some n ∷ os
choices_opened_after (codes.Menu t) n os = innermost_choice os ∷ os
choices_opened_after (codes.Condition e) n os = innermost_choice os ∷ os
choices_opened_after (codes.Source t) n os = innermost_choice os ∷ os
choices_opened_after (codes.Ends b) n os = drop 1 os
choices_opened_after codes.FileEnd n os = drop 1 os
choices_opened_after w n os = os

-- for each block open after these groups, which are newest first, the number of the choice that the block is or is in, innermost
-- first
abbrev pub choices_opened : List Group → List (Option ℕ)
choices_opened [] = []
choices_opened (g ∷ before) = choices_opened_after g.head (length (filter begins_choice before)) (choices_opened before)

-- each of these groups, which are newest first, has the number of the choice that encloses it, and none outside choices
abbrev pub HaveChoices : List Group → Type 0
HaveChoices [] = Unit {0}
HaveChoices (g ∷ before) = (g.choice ≡ innermost_choice (choices_opened before)) × HaveChoices before
