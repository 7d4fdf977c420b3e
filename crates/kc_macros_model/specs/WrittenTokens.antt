-- How each token of a line is written once its macro references have values.
use Rattle.std.specs.Prelude.{ℕ, Bool, true, false, not, ◌&&◌, ◌||◌, ◌==◌, List, [], ◌∷◌, ◌++◌, flat_map, Some, None, codes, bytes_eq, if◌then◌else◌}
use Rattle.std.specs.List.{list_all, list_any}
use Rattle.kc_tokens.specs.Token.{is_word_byte}
use Rattle.kc_tree_model.specs.Keywords.{keywords}
use Rattle.kc_tree_model.specs.declared.keyword.Keyword.{Keyword}
use Rattle.kc_macros_model.specs.declared.token_sort.TokenSort.{TokenSort}
use Rattle.kc_macros_model.specs.declared.token_sort.TokenSort.TheVariants.{Trivia, Word, Quoted, Other, Unknown}
use Rattle.kc_macros_model.specs.declared.fault.MacroKind.TheVariants.{Unterminated}
use Rattle.kc_macros_model.specs.Programs.{Place, Program, returns, ◌>>=◌}
use Rattle.kc_macros_model.specs.References.{Item, byte, escaped, reference, unterminated, item_bytes, items, is_reference, is_plain_dollar}
use Rattle.kc_macros_model.specs.Variables.{Value, joined_values, Bindings}
use Rattle.kc_macros_model.specs.Expansion.{fault, text_value}
use Rattle.kc_macros_model.specs.LineTokens.{LineToken, trivia, run, quoted, other, broken}

-- whether tokens of a sort are trivia: white, comments and tokens whose value is empty
abbrev pub is_trivia_sort : TokenSort → Bool
is_trivia_sort Trivia = true
is_trivia_sort _ = false

-- whether tokens of a sort depend on a question without an answer
abbrev pub is_unknown_sort : TokenSort → Bool
is_unknown_sort Unknown = true
is_unknown_sort _ = false

-- whether tokens of a sort are words
abbrev pub is_word_sort : TokenSort → Bool
is_word_sort Word = true
is_word_sort _ = false

-- whether tokens of a sort may be paths: words, quoted tokens, and unknown ones, which may become either
abbrev pub is_path_sort : TokenSort → Bool
is_path_sort Word = true
is_path_sort Quoted = true
is_path_sort Unknown = true
is_path_sort _ = false

-- words with a meaning inside a Kconfig statement that aren't in the table of keywords
abbrev pub inner_keywords : List (List ℕ)
inner_keywords = codes "on" ∷ codes "env" ∷ codes "defconfig_list" ∷ codes "allnoconfig_y" ∷ []

-- whether a word has a meaning in the Kconfig language
abbrev pub is_keyword : List ℕ → Bool
is_keyword s = list_any (λ (e : List ℕ × Keyword). bytes_eq e.0 s) keywords || list_any (bytes_eq s) inner_keywords

-- whether a byte of a value needs no quotes: a letter, a digit, `_` or `-`
abbrev pub is_bare_byte : ℕ → Bool
is_bare_byte c = is_word_byte c && not (c == 46 || (c == 47))

-- a text with a backslash before each backslash, each `$` and each byte `quote`
abbrev pub escaped_text : (quote : ℕ) → List ℕ → List ℕ
escaped_text quote s = flat_map (λ c. if c == 92 || (c == 36) || (c == quote) then 92 ∷ c ∷ [] else c ∷ []) s

-- a text between two bytes `quote`, with the backslashes that it needs
abbrev pub in_quotes_of : (quote : ℕ) → List ℕ → List ℕ
in_quotes_of quote s = quote ∷ (escaped_text quote s ++ quote ∷ [])

-- a token of an expanded line: its sort, its bytes, and the text that it means to the reader of the line
pub record WrittenToken : Type 0 where
  pub sort : TokenSort
  pub bytes : List ℕ
  pub meaning : Value

-- a written token of this sort, with these bytes and this known meaning
abbrev pub written_as : TokenSort → List ℕ → List ℕ → WrittenToken
written_as sort bytes meaning = record { sort = sort; bytes = bytes; meaning = Some meaning }

-- the written token of a text to which a run expands: a space if empty, a word if it needs no quotes, else in quotes
abbrev pub token_of_text : List ℕ → WrittenToken
token_of_text [] = written_as Trivia (32 ∷ []) []
token_of_text (c ∷ s) =
    if list_all is_bare_byte (c ∷ s) && not (is_keyword (c ∷ s)) then written_as Word (c ∷ s) (c ∷ s)
    else written_as Quoted (in_quotes_of 34 (c ∷ s)) (c ∷ s)

-- the written token of the value to which a run of word bytes and macro references expands, which may be unknown
abbrev pub token_of_value : Value → WrittenToken
token_of_value None = record { sort = Unknown; bytes = []; meaning = None }
token_of_value (Some text) = token_of_text text

-- written bytes between the quotes of a token, and the text that they mean
pub record WrittenQuotedText : Type 0 where
  pub bytes : List ℕ
  pub meaning : Value

-- the quoted text of a token: these bytes between its quotes, and the known text that they mean
abbrev pub quoted_text_of : List ℕ → List ℕ → WrittenQuotedText
quoted_text_of bytes meaning = record { bytes = bytes; meaning = Some meaning }

-- the value of a macro reference as written between quotes, with the backslashes that it needs
abbrev pub quoted_text_of_value : (quote : ℕ) → Value → WrittenQuotedText
quoted_text_of_value quote None = record { bytes = []; meaning = None }
quoted_text_of_value quote (Some text) = quoted_text_of (escaped_text quote text) text

-- written bytes between quotes followed by others, with their joined meaning
abbrev pub joined_quoted_texts : WrittenQuotedText → WrittenQuotedText → WrittenQuotedText
joined_quoted_texts a b = record { bytes = a.bytes ++ b.bytes; meaning = joined_values a.meaning b.meaning }

-- an item between quotes as it is written: a macro reference becomes its value, a `$` that begins no reference is escaped
abbrev pub written_item : Place → Bindings → (quote : ℕ) → Item → Program WrittenQuotedText
written_item at b quote (byte c) = returns (quoted_text_of (if c == 36 then 92 ∷ c ∷ [] else c ∷ []) (c ∷ []))
written_item at b quote (escaped c) = returns (quoted_text_of (92 ∷ c ∷ []) (c ∷ []))
written_item at b quote (reference inside) = text_value at b (item_bytes (reference inside)) >>= λ v. returns (quoted_text_of_value quote v)
written_item at b quote (unterminated rest) = fault at Unterminated []

-- the items between the quotes of a token as they are written, one after the other
abbrev pub written_items : Place → Bindings → (quote : ℕ) → List Item → Program WrittenQuotedText
written_items at b quote [] = returns (quoted_text_of [] [])
written_items at b quote (i ∷ is) = written_item at b quote i >>= λ first. written_items at b quote is >>= λ rest. returns (joined_quoted_texts first rest)

-- written bytes between quotes as a token, with its quotes
abbrev pub token_of_quoted_text : (quote : ℕ) → WrittenQuotedText → WrittenToken
token_of_quoted_text quote body = record { sort = Quoted; bytes = quote ∷ (body.bytes ++ quote ∷ []); meaning = body.meaning }

-- the value of a run of word bytes, macro references and `$`; a run without `$` is its own value
abbrev pub run_value : Place → Bindings → List ℕ → Program Value
run_value at b s = elim (list_any (λ c. c == 36) s) [ true ↦ text_value at b s | false ↦ returns (Some s) ]

-- a run as it is written: its value as one token; a run with a `$` that begins no macro reference stays, for the reader to refuse
abbrev pub written_run : Place → Bindings → List ℕ → Program WrittenToken
written_run at b s =
    elim (list_any is_plain_dollar (items false 0 s)) [
      | true ↦ returns (written_as Other s [])
      | false ↦ elim (list_any is_reference (items false 0 s)) [ true ↦ text_value at b s >>= λ v. returns (token_of_value v) | false ↦ returns (written_as Word s s) ]
    ]

-- a token of a logical line as it is written once its macro references have values
abbrev pub written_token : Place → Bindings → LineToken → Program WrittenToken
written_token at b (trivia s) = returns (written_as Trivia s [])
written_token at b (run s) = written_run at b s
written_token at b (quoted quote s) = written_items at b quote (items true 0 s) >>= λ body. returns (token_of_quoted_text quote body)
written_token at b (other s) = returns (written_as Other s [])
written_token at b (broken s) = fault at Unterminated []
