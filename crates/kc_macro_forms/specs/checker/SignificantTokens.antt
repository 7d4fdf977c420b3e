-- The significant tokens of a line.
use Rattle.std.specs.Prelude.{ℕ, suc, Bool, true, false, ◌&&◌, ◌||◌, List, [], ◌∷◌, if◌then◌else◌}
use Rattle.kc_tree_model.specs.Limits.{is_in_list}
use Rattle.kc_macros_model.specs.WrittenTokens.{WrittenToken}
use Rattle.kc_macros_model.specs.Assignments.{is_trivia}
use Rattle.kc_macros_model.specs.LineForms.{LineForm, plain, bare_prompt, prompt_words, source_words, help_words, is_bare_prompt, form_of_two_words, without_trivia}
use Rattle.kc_macro_forms.specs.declared.written_tokens.WrittenToken.{WrittenToken as CodeToken}
use Rattle.kc_macro_forms.specs.between.WrittenTokens.{token_of, tokens_of}

-- how many tokens of trivia (white, comments and tokens with an empty value) come before the first other token of a line
abbrev pub trivia_count : List CodeToken → ℕ
trivia_count [] = 0
trivia_count (t ∷ ts) = if is_trivia (token_of t) then suc (trivia_count ts) else 0

-- the written tokens of a line of the code that are no trivia, as those of `kc_macros_model`
abbrev pub significant_tokens : List CodeToken → List WrittenToken
significant_tokens ts = without_trivia (tokens_of ts)

-- whether a line is empty, by its tokens that are no trivia
abbrev pub is_empty_line : List WrittenToken → Bool
is_empty_line [] = true
is_empty_line (t ∷ ts) = false

-- the form of a line by its first word, its second token, and whether the line has no third token
abbrev pub form_of_words : List ℕ → WrittenToken → (alone : Bool) → LineForm
form_of_words word t alone =
    if is_in_list word prompt_words && is_bare_prompt t then bare_prompt t.bytes
    else if alone then form_of_two_words word t
    else plain

-- whether a word begins a `source` line or a help text
abbrev pub is_decisive_word : List ℕ → Bool
is_decisive_word word = is_in_list word source_words || is_in_list word help_words
