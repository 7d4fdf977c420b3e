-- Lines on which the expansion doesn't act, and trees of such lines.
use Rattle.std.specs.Prelude.{◌≡◌, ℕ, zero, suc, ◌+◌, Bool, true, false, not, ◌&&◌, ◌||◌, ◌==◌, nat_lt, List, [], ◌∷◌, ◌++◌, length, drop, map, is_some, is_none, Option, Some, None, bytes_eq, codes, if◌then◌else◌}
use Rattle.std.specs.List.{All, list_all, list_any}
use Rattle.std.specs.Str.{is_utf8}
use Rattle.kc_tree_model.specs.LogicalLines.{PhysicalLine, split_at_newlines, without_return, joined_bytes, continuation_count, begins_help}
use Rattle.kc_macros_model.specs.declared.fault.MacroKind.{MacroKind}
use Rattle.kc_macros_model.specs.declared.fault.MacroKind.TheVariants.{MissingFile, SourceLoop, TooDeep, TooMany}
use Rattle.kc_value.specs.declared.limits.TheConstants.{MAX_TEXT_BYTES}
use Rattle.kc_macros_model.specs.Programs.{Fault, Answer}
use Rattle.kc_macros_model.specs.References.{Item, byte, escaped, reference, unterminated, items, is_reference, is_plain_dollar}
use Rattle.kc_macros_model.specs.LineTokens.{LineToken, trivia, run, quoted, other, broken, line_tokens}
use Rattle.kc_macros_model.specs.declared.token_sort.TokenSort.TheVariants.{Trivia, Word, Quoted, Other}
use Rattle.kc_macros_model.specs.WrittenTokens.{WrittenToken, written_as}
use Rattle.kc_macros_model.specs.Assignments.{assignment_to}
use Rattle.kc_macros_model.specs.EnvironmentLines.{environment_asked}
use Rattle.kc_macros_model.specs.LineForms.{LineForm, plain, bare_prompt, replaced_by, named_choice, sources, form_of, without_trivia, is_word, is_path, is_help_line}
use Rattle.kc_macros_model.specs.PathPatterns.{is_pattern}
use Rattle.kc_macros_model.specs.ReadingStates.{ExpandedFile, ReadingState, progress, written_line}
use Rattle.kc_macros_model.specs.TreeExpansion.{SourceReader, line_written, lines_read, help_after}
use Rattle.kc_macros_model.specs.Programs.{Place, returns}
use Rattle.kc_macros_model.specs.Worlds.{World, returned, failed, Outcome, expansion}

-- whether an item between quotes is a byte other than `$`, or a backslash with the byte after it
abbrev pub is_kept_item : Item → Bool
is_kept_item (byte c) = not (c == 36)
is_kept_item (escaped c) = true
is_kept_item (reference inside) = false
is_kept_item (unterminated rest) = false

-- whether a token of a logical line has nothing to expand: no reference, and in quotes no `$` without a backslash; a run with a
-- `$` that begins no reference is left to the reader
abbrev pub is_kept_token : LineToken → Bool
is_kept_token (trivia s) = true
is_kept_token (run s) = list_any is_plain_dollar (items false 0 s) || not (list_any is_reference (items false 0 s))
is_kept_token (quoted quote s) = list_all is_kept_item (items true 0 s)
is_kept_token (other s) = true
is_kept_token (broken s) = false

-- whether a text has a `$`
abbrev pub has_dollar : List ℕ → Bool
has_dollar s = list_any (λ c. c == 36) s

-- the tokens of a line without `$` have nothing to expand
abbrev pub LinesWithoutDollars : Type 0
LinesWithoutDollars = (text : List ℕ) → has_dollar text ≡ false → list_all is_kept_token (line_tokens 0 text) ≡ true

-- the text that the items between quotes mean, macro references left out
abbrev pub text_of_items : List Item → List ℕ
text_of_items [] = []
text_of_items (byte c ∷ is) = c ∷ text_of_items is
text_of_items (escaped c ∷ is) = c ∷ text_of_items is
text_of_items (reference inside ∷ is) = text_of_items is
text_of_items (unterminated rest ∷ is) = text_of_items is

-- the written token, with its own bytes, of a token that has nothing to expand
abbrev pub token_as_it_is : LineToken → WrittenToken
token_as_it_is (trivia s) = written_as Trivia s []
token_as_it_is (run s) = if list_any is_plain_dollar (items false 0 s) then written_as Other s [] else written_as Word s s
token_as_it_is (quoted quote s) = written_as Quoted (quote ∷ (s ++ quote ∷ [])) (text_of_items (items true 0 s))
token_as_it_is (other s) = written_as Other s []
token_as_it_is (broken s) = written_as Other s []

-- whether a line's first token that is neither white nor a comment is the name of an assignment
abbrev pub is_assignment : List LineToken → Bool
is_assignment [] = false
is_assignment (trivia s ∷ ts) = is_assignment ts
is_assignment (t ∷ ts) = is_some (assignment_to t ts)

-- the written tokens of a line that has nothing to expand, without white, comments and tokens with an empty value
abbrev pub tokens_as_they_are : List ℕ → List WrittenToken
tokens_as_they_are text = without_trivia (map token_as_it_is (line_tokens 0 text))

-- whether a line of this form stays as it is
abbrev pub is_plain_form : LineForm → Bool
is_plain_form f = elim f [ plain ↦ true | bare_prompt text ↦ false | replaced_by text ↦ false | named_choice name ↦ false | sources sort path ↦ false ]

-- the path of a line `source PATH`, given its tokens without white, comments and empty tokens; `None` for any other line
abbrev pub plain_path : List WrittenToken → Option (List ℕ)
plain_path [] = None
plain_path (t ∷ []) = None
plain_path (t ∷ u ∷ []) = if is_word t && (bytes_eq t.bytes (codes "source") && is_path u) then u.meaning else None
plain_path (t ∷ u ∷ v ∷ rest) = None

-- whether a path is known, has no `*`, `?` or `[`, and is in the set `paths`
abbrev pub is_one_of : (paths : List ℕ → Bool) → Option (List ℕ) → Bool
is_one_of paths None = false
is_one_of paths (Some path) = not (is_pattern path) && (not (list_any (λ c. c == 91) path) && paths path)

-- whether a logical line is copied, since the reader refuses it: it is too long or isn't UTF-8
abbrev pub is_copied : List ℕ → Bool
is_copied text = nat_lt MAX_TEXT_BYTES (length text) || not (is_utf8 text)

-- whether a logical line is plain: it is copied since the reader refuses it, or it asks no variable as `option env="X"` does, has
-- nothing to expand, assigns nothing, and isn't rewritten, unless it is a `source` of a file in the set `paths`
abbrev pub is_plain_line : (paths : List ℕ → Bool) → List ℕ → Bool
is_plain_line paths text =
    is_copied text || (is_none (environment_asked text) && (list_all is_kept_token (line_tokens 0 text) && (not (is_assignment (line_tokens 0 text))
    && (is_plain_form (form_of (tokens_as_they_are text)) || is_one_of paths (plain_path (tokens_as_they_are text))))))

-- whether a help text follows a plain line
abbrev pub is_before_help : List ℕ → Bool
is_before_help text = if is_copied text then begins_help text else is_help_line (tokens_as_they_are text)

-- the texts of the logical lines of physical lines, without help texts; the first `skip` physical lines belong to an earlier line
abbrev pub logical_texts : (skip : ℕ) → List PhysicalLine → List (List ℕ)
logical_texts skip [] = []
logical_texts (suc skip) (l ∷ ls) = logical_texts skip ls
logical_texts zero (l ∷ ls) =
    let more = continuation_count (map without_return (l ∷ ls)) in
    let text = joined_bytes (map without_return (l ∷ ls)) in
    text ∷ logical_texts (more + help_after (is_before_help text) (drop more ls)) ls

-- the empty set of paths, which has no path
abbrev pub no_paths : List ℕ → Bool
no_paths path = false

-- a plain line (nothing in it is expanded, assigned or rewritten) that sources nothing is written as it is
abbrev pub PlainLinesStay : Type 0
PlainLinesStay = (sub : SourceReader) (at : Place) (continued : Bool) (text : List ℕ) (s : ReadingState)
    → is_plain_line no_paths text ≡ true → line_written sub at continued text s ≡ returns (written_line text (is_before_help text) s)

-- a file of plain lines that source nothing keeps its bytes, asks no question, reports no notice, and defines no variable
abbrev pub PlainFilesStay : Type 0
PlainFilesStay = (sub : SourceReader) (file bytes : List ℕ) (s : ReadingState)
    → list_all (is_plain_line no_paths) (logical_texts 0 (split_at_newlines bytes)) ≡ true
    → lines_read sub file 0 1 (split_at_newlines bytes) s ≡ returns (progress bytes s)

-- a set of paths has the first file of a tree; each readable file of the set has plain lines and sources only files of the set
pub record IsPlainTree (w : World) (paths : List ℕ → Bool) (root : List ℕ) : Type 0 where
  pub first : paths root ≡ true
  pub files : (path bytes : List ℕ) → paths path ≡ true → w.bytes path ≡ Some bytes
      → list_all (is_plain_line paths) (logical_texts 0 (split_at_newlines bytes)) ≡ true

-- whether a kind of fault is one of sourcing files: a missing file, a loop, too deep or too many files
abbrev pub is_fault_of_sources : MacroKind → Bool
is_fault_of_sources k = elim k [ MissingFile ↦ true | SourceLoop ↦ true | TooDeep ↦ true | TooMany ↦ true | _ ↦ false ]

-- an expanded file has the bytes that the world has for its path, and its path as its key
pub record IsOwnFile (w : World) (f : ExpandedFile) : Type 0 where
  pub key : f.key ≡ f.path
  pub text : w.bytes f.path ≡ Some f.text

-- an outcome has no notices and questions, and is a list of files with their own bytes or a fault of sourcing files
pub record IsOwnOutcome (w : World) (o : Outcome (List ExpandedFile)) : Type 0 where
  pub notices : o.notices ≡ []
  pub questions : o.questions ≡ []
  pub files : (files : List ExpandedFile) → o.ending ≡ returned files → All (IsOwnFile w) files
  pub faults : (f : Fault) → o.ending ≡ failed f → is_fault_of_sources f.kind ≡ true

-- the expansion of a tree of plain lines keeps the bytes of its files or fails at a `source` line, whatever the answers
abbrev pub PlainTreesStay : Type 0
PlainTreesStay = (w : World) (paths : List ℕ → Bool) (root : List ℕ) (answer : List ℕ → Option Answer) → IsPlainTree w paths root
    → IsOwnOutcome w (expansion w root) × (expansion (record w { answer = answer }) root ≡ expansion w root)
