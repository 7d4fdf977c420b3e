-- The first bytes between two quotes as the code writes them, and the items that follow, as `kc_macros_model` defines them.
use Rattle.std.specs.Prelude.{ℕ, Bool, true, ◌==◌, ◌||◌, List}
use Rattle.std.specs.List.{list_any}
use Rattle.kc_macros_model.specs.Programs.{Place, Program, returns, ◌>>=◌}
use Rattle.kc_macros_model.specs.References.{Item, items}
use Rattle.kc_macros_model.specs.Variables.{Bindings}
use Rattle.kc_macros_model.specs.WrittenTokens.{WrittenQuotedText, WrittenToken, joined_quoted_texts, written_items, token_of_quoted_text}
use Rattle.kc_macro_lines.specs.declared.token_values.QuotedText.{QuotedText}
use Rattle.kc_macros.specs.checker.PartialValues.{value_if_known}

-- a `QuotedText` of the code (bytes written between two quotes, and their meaning) as one of `kc_macros_model`
abbrev pub quoted_text_view : QuotedText → WrittenQuotedText
quoted_text_view b = record { bytes = b.bytes.items; meaning = value_if_known b.known b.meaning.items }

-- whether a text has a `$` or a `\`
abbrev pub has_dollar_or_backslash : List ℕ → Bool
has_dollar_or_backslash text = list_any (λ c. c == 36 || (c == 92)) text

-- the program that writes the remaining items between two quotes, and appends them to the bytes written before them
abbrev pub quoted_text_left : Place → Bindings → (quote : ℕ) → WrittenQuotedText → List Item → Program WrittenQuotedText
quoted_text_left at b quote so_far is = written_items at b quote is >>= λ rest. returns (joined_quoted_texts so_far rest)

-- the program that writes a quoted token, given its quote and the bytes between its quotes
abbrev pub quoted_written : Place → Bindings → (quote : ℕ) → List ℕ → Program WrittenToken
quoted_written at b quote s = written_items at b quote (items true 0 s) >>= λ body. returns (token_of_quoted_text quote body)
