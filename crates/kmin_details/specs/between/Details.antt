-- The details of messages, as their text and names.
use Rattle.std.specs.Prelude.{ℕ, List, [], ◌∷◌, Some, None, map, option_map}
use Rattle.std.specs.Borrow.{Bor}
use Rattle.kmin_report.specs.StandardError.{Detail as LineDetail}
use Rattle.kmin_details.specs.declared.details.Detail.{Detail}
use Rattle.kmin_details.specs.declared.details.Detail.TheVariants.{Nothing, Unknown, Value, Missing, Unread, Words, Expansion, First, Limit, Cycle}
use Rattle.kmin_details.specs.Texts.{unknown_text, value_text, missing_text, unreadable_text, expansion_text, first_place_text, limit_text, cycle_text}
use Rattle.kmin_faults.specs.between.Steps.{step_of}

-- the text for a detail, as long as it is; the message has it by `shown`
abbrev pub detail_text : Detail → List ℕ
detail_text Nothing = []
detail_text (Unknown name near) = unknown_text name.now (option_map (λ (other : Bor (List ℕ)). other.now) near)
detail_text (Value name value) = value_text name.now value.now
detail_text (Missing path why) = missing_text path.now why
detail_text (Unread why) = unreadable_text why
detail_text (Words words) = words.now
detail_text (Expansion text) = expansion_text text.now
detail_text (First path line) = first_place_text path.now line
detail_text (Limit limit) = limit_text limit
detail_text (Cycle steps) = cycle_text (map step_of steps.now)

-- the names of symbols and choices in that text, in its order: of a cycle those at which its steps begin
abbrev pub detail_names : Detail → List (List ℕ)
detail_names (Unknown name None) = name.now ∷ []
detail_names (Unknown name (Some near)) = name.now ∷ near.now ∷ []
detail_names (Value name value) = name.now ∷ []
detail_names (Cycle steps) = map (λ step. step.name.now) steps.now
detail_names other = []

-- the detail where no words of the file may be shown: of its words the name of a symbol alone, and of a path only why it can't be
-- read
abbrev pub without_words : Detail → Detail
without_words (Unknown name near) = Unknown name None
without_words (Value name value) = Unknown name None
without_words (Missing path why) = Unread why
without_words (Words words) = Nothing
without_words (Expansion text) = Nothing
without_words other = other

-- the text of a detail, and the names in it
abbrev pub line_detail : Detail → LineDetail
line_detail detail = record { text = detail_text detail; names = detail_names detail }
