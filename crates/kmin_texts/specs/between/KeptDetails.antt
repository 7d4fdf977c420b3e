-- Details of messages that borrow nothing.
use Rattle.std.specs.Prelude.{◌≡◌, ◌⊎◌, ℕ, Bool, true, Some, None, Ok, Err, string_bytes}
use Rattle.kmin_report.specs.StandardError.{Detail}
use Rattle.kmin_texts.specs.KnownLines.{KnownFile}
use Rattle.kmin_texts.specs.LineDetails.{has_macro, no_detail, words}
use Rattle.kmin_texts.specs.NumberedLines.{line_at}
use Rattle.kmin_details.specs.Texts.{first_place_text, limit_text, missing_text, unreadable_text}
use Rattle.kmin_texts.specs.declared.kept_details.KeptDetail.{KeptDetail}
use Rattle.kmin_texts.specs.declared.kept_details.KeptDetail.TheVariants.{Nothing, Words, Missing, Unread, First, Limit}

-- the text of a detail, and the names in it
abbrev pub kept_detail : KeptDetail → Detail
kept_detail Nothing = no_detail
kept_detail (Words text) = words (string_bytes text)
kept_detail (Missing path why) = words (missing_text path.items why)
kept_detail (Unread why) = words (unreadable_text why)
kept_detail (First path line) = words (first_place_text path.items line)
kept_detail (Limit limit) = words (limit_text limit)

-- the same where no words of the line may be shown: of a path only why it can't be read
abbrev pub hidden_kept : KeptDetail → Detail
hidden_kept (Missing path why) = words (unreadable_text why)
hidden_kept (Unread why) = words (unreadable_text why)
hidden_kept detail = no_detail

-- a detail has no text, or passes a test
abbrev pub MayBe : (Detail → Bool) → Detail → Type 0
MayBe test detail = (detail ≡ no_detail) ⊎ (test detail ≡ true)

-- the line of a file with a number has a macro, as far as the file is known
abbrev pub HasMacroAt : KnownFile → (number : ℕ) → Type 0
HasMacroAt None number = Unit {0}
HasMacroAt (Some (Err why)) number = ⊥
HasMacroAt (Some (Ok bytes)) number = has_macro (line_at bytes number) ≡ true
