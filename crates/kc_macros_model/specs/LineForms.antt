-- Forms of lines that plain Kconfig lacks, by the tokens of the line.
use Rattle.std.specs.Prelude.{ℕ, zero, suc, Bool, false, not, ◌&&◌, ◌||◌, List, [], ◌∷◌, ◌++◌, filter, flat_map, codes, bytes_eq, if◌then◌else◌}
use Rattle.std.specs.List.{list_any}
use Rattle.kc_tree_model.specs.Limits.{is_in_list}
use Rattle.kc_macros_model.specs.Variables.{Value}
use Rattle.kc_macros_model.specs.declared.token_sort.TokenSort.TheVariants.{Quoted}
use Rattle.kc_macros_model.specs.WrittenTokens.{is_word_sort, is_path_sort, WrittenToken, written_as, in_quotes_of}
use Rattle.kc_macros_model.specs.Assignments.{is_trivia, is_unknown}

-- the sort of a `source` line: whether its path begins in the folder of its file, and whether its files may be missing
pub record SourceSort : Type 0 where
  pub relative : Bool
  pub optional : Bool

-- the form of a line: unchanged; its second token is a prompt without quotes; replaced by a text; naming a choice; sourcing files
pub data LineForm : Type 0 where
  plain : LineForm
  bare_prompt : List ℕ → LineForm
  replaced_by : List ℕ → LineForm
  named_choice : List ℕ → LineForm
  sources : SourceSort → Value → LineForm

-- the keywords after which a prompt or a title comes
abbrev pub prompt_words : List (List ℕ)
prompt_words = codes "bool" ∷ codes "tristate" ∷ codes "string" ∷ codes "hex" ∷ codes "int" ∷ codes "prompt" ∷ codes "menu" ∷ codes "comment" ∷ codes "mainmenu" ∷ []

-- the keywords of `source` lines, after which the path of files to be read comes
abbrev pub source_words : List (List ℕ)
source_words = codes "source" ∷ codes "rsource" ∷ codes "osource" ∷ codes "orsource" ∷ []

-- the keywords after which a help text begins on the next line
abbrev pub help_words : List (List ℕ)
help_words = codes "help" ∷ codes "---help---" ∷ []

-- the sort of `source` line that a keyword means: `rsource` and `orsource` are relative, `osource` and `orsource` optional
abbrev pub sort_of_source : List ℕ → SourceSort
sort_of_source word = record { relative = is_in_list word (codes "rsource" ∷ codes "orsource" ∷ []); optional = is_in_list word (codes "osource" ∷ codes "orsource" ∷ []) }

-- whether a written token is a word
abbrev pub is_word : WrittenToken → Bool
is_word t = is_word_sort t.sort

-- whether a written token may be a path: a word, a quoted token, or an unknown one, which may become either
abbrev pub is_path : WrittenToken → Bool
is_path t = is_path_sort t.sort

-- whether a written token may be a prompt without quotes: a word other than `if` and `on`
abbrev pub is_bare_prompt : WrittenToken → Bool
is_bare_prompt t = is_word t && not (is_in_list t.bytes (codes "if" ∷ codes "on" ∷ []))

-- the form of a line of two written tokens, of which the first is this word
abbrev pub form_of_two_words : List ℕ → WrittenToken → LineForm
form_of_two_words word t =
    if is_in_list word source_words && is_path t then sources (sort_of_source word) t.meaning
    else if bytes_eq word (codes "choice") && is_word t then named_choice t.bytes
    else if bytes_eq word (codes "option") && bytes_eq t.bytes (codes "defconfig_list") then replaced_by (codes "depends on n")
    else if bytes_eq word (codes "option") && bytes_eq t.bytes (codes "allnoconfig_y") then replaced_by []
    else plain

-- the form of a line by its first word, its second token and the tokens after that
abbrev pub form_of_first_word : List ℕ → WrittenToken → List WrittenToken → LineForm
form_of_first_word word t rest =
    if is_in_list word prompt_words && is_bare_prompt t then bare_prompt t.bytes
    else elim rest [ [] ↦ form_of_two_words word t | u ∷ us ↦ plain ]

-- the form of a line, given its written tokens without trivia (white, comments and tokens with an empty value)
abbrev pub form_of : List WrittenToken → LineForm
form_of [] = plain
form_of (t ∷ []) = plain
form_of (t ∷ u ∷ rest) = if is_word t then form_of_first_word t.bytes u rest else plain

-- the written significant tokens of a line: no white, no comments and no tokens with an empty value
abbrev pub without_trivia : List WrittenToken → List WrittenToken
without_trivia ts = filter (λ t. not (is_trivia t)) ts

-- whether a help text follows a line, given its written tokens without trivia (white, comments and tokens with an empty value): the
-- only one is `help` or `---help---`
abbrev pub is_help_line : List WrittenToken → Bool
is_help_line [] = false
is_help_line (t ∷ []) = is_word t && is_in_list t.bytes help_words
is_help_line (t ∷ u ∷ rest) = false

-- whether the form of a line isn't known: it begins with a `source` or help keyword, and a later token is unknown
abbrev pub is_undecided : List WrittenToken → Bool
is_undecided [] = false
is_undecided (t ∷ rest) = is_word t && (is_in_list t.bytes source_words || is_in_list t.bytes help_words) && list_any is_unknown rest

-- the written tokens of a line with another token in place of the n-th, counted from 0 without trivia (white, comments and tokens
-- with an empty value)
abbrev pub with_nth_token : ℕ → WrittenToken → List WrittenToken → List WrittenToken
with_nth_token n new [] = []
with_nth_token n new (t ∷ ts) = if is_trivia t then t ∷ with_nth_token n new ts else elim n [ zero ↦ new ∷ ts | suc m ↦ t ∷ with_nth_token m new ts ]

-- the bytes of a line, given its written tokens
abbrev pub line_bytes : List WrittenToken → List ℕ
line_bytes ts = flat_map (λ (t : WrittenToken). t.bytes) ts

-- the bytes of a line whose tokens are replaced by a text, but for white, comments and empty tokens at its front, which stay
abbrev pub with_replacement : List ℕ → List WrittenToken → List ℕ
with_replacement new [] = new
with_replacement new (t ∷ ts) = if is_trivia t then t.bytes ++ with_replacement new ts else new

-- a text as a written token in double quotes
abbrev pub quoted_text_token : List ℕ → WrittenToken
quoted_text_token s = written_as Quoted (in_quotes_of 34 s) s
