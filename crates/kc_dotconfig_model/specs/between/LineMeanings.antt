-- The meaning of a line as a function, `None` if it is malformed. `ConfigLines` has it as a relation.
use Rattle.std.specs.Prelude.{ℕ, Bool, true, false, not, List, [], ◌∷◌, ◌++◌, Option, Some, None, is_some, length, nat_lt, ◌==◌, slice_get, codes, bytes_eq, option_map, if◌then◌else◌}
use Rattle.std.specs.Option.{option_and_then}
use Rattle.std.specs.List.{find}
use Rattle.kc_value.specs.declared.tri.Tri.{Tri}
use Rattle.kc_value.specs.declared.value.Kind.{Kind}
use Rattle.kc_value.specs.declared.value.Kind.TheVariants.{Bool as Boolean, Tristate, Text, Int, Hex}
use Rattle.kc_tokens.specs.Token.{is_white_byte}
use Rattle.kc_tree_model.specs.Trees.{Tree, Symbol}
use Rattle.kc_tree_model.specs.TreeLookup.{symbol_named, unit_of}
use Rattle.kc_value.specs.Tri.{is_y}
use Rattle.kc_value.specs.Number.{number_of_text}
use Rattle.kc_rules_model.specs.declared.values.UserValue.TheVariants.{Tri as TriUser, Text as TextUser}
use Rattle.kc_rules_model.specs.Rule.{member_user}
use Rattle.kc_tokens.specs.declared.language.Language.{Language}
use Rattle.kc_dotconfig_model.specs.declared.notice.NoticeKind.TheVariants.{UnknownSymbol, NotOfType}
use Rattle.kc_dotconfig_model.specs.declared.format.Strings.{Strings}
use Rattle.kc_dotconfig_model.specs.declared.format.Strings.TheVariants.{Escaped, Raw}
use Rattle.kc_dotconfig_model.specs.Formats.{FileFormat}
use Rattle.kc_dotconfig_model.specs.ConfigLines.{LineMeaning, assigns, notice, silent, tri_of_text, unchosen_meaning, text_meaning, unset_meaning}
use Rattle.kc_tree_model.specs.LogicalLines.{without_white_end}
use Rattle.kc_dotconfig_model.specs.ConfigFiles.{file_lines}

-- the empty text if no bytes are left after the closing quote of a string, and None otherwise
abbrev pub ended : List ℕ → Option (List ℕ)
ended [] = Some []
ended (c ∷ rest) = None

-- the text from a place after an opening quote up to the closing one, without its escapes; the first argument is
-- whether a `\` comes just before the place; None unless a closing quote is the last byte
abbrev pub unquoted_rest : Bool → List ℕ → Option (List ℕ)
unquoted_rest escaped [] = None
unquoted_rest true (c ∷ rest) = option_map (λ text. c ∷ text) (unquoted_rest false rest)
unquoted_rest false (c ∷ rest) = if c == 34
    then ended rest
    else (if c == 92 then unquoted_rest true rest else option_map (λ text. c ∷ text) (unquoted_rest false rest))

-- the text of an escaped string, without its quotes and escapes; None if the bytes aren't such a string
abbrev pub unquoted : List ℕ → Option (List ℕ)
unquoted [] = None
unquoted (c ∷ rest) = if c == 34 then unquoted_rest false rest else None

-- the bytes before a quote that is the last byte; None if the last byte isn't a quote
abbrev pub before_quote : List ℕ → Option (List ℕ)
before_quote [] = None
before_quote (c ∷ []) = if c == 34 then Some [] else None
before_quote (c ∷ d ∷ rest) = option_map (λ text. c ∷ text) (before_quote (d ∷ rest))

-- the text of a raw string, which is all bytes between a quote at the beginning and one at the end; None if the bytes
-- aren't such a string
abbrev pub raw_text : List ℕ → Option (List ℕ)
raw_text [] = None
raw_text (c ∷ rest) = if c == 34 then before_quote rest else None

-- the text of a string after `=`, by the form of strings; None if the bytes aren't a string in that form
abbrev pub string_text : Strings → List ℕ → Option (List ℕ)
string_text Escaped text = unquoted text
string_text Raw text = raw_text text

-- the meaning of a line for a bool or tristate, by the tree's language, its unit, its number, its choice (None outside choices) and the tristate after
-- `=` (None if the text there isn't a tristate)
abbrev pub tri_meaning : Language → ℕ → ℕ → Option ℕ → Option Tri → LineMeaning
tri_meaning language u s choice None = notice NotOfType
tri_meaning language u s None (Some t) = assigns u (TriUser t)
tri_meaning language u s (Some c) (Some t) = if is_y t then assigns u (member_user language s) else unchosen_meaning language u s

-- the meaning of a line for a string symbol, by the tree's language, the form of strings, the symbol's unit, what follows `=`, and
-- the text that this spells (None if it isn't a string)
abbrev pub string_meaning : Language → Strings → ℕ → List ℕ → Option (List ℕ) → LineMeaning
string_meaning language strings u spelling None = notice NotOfType
string_meaning language strings u spelling (Some text) = text_meaning language strings u spelling text

-- the meaning of a text after `=` that is no int or hex: it assigns nothing if it is empty, and gives a notice otherwise
abbrev pub without_number : List ℕ → LineMeaning
without_number [] = silent
without_number (b ∷ text) = notice NotOfType

-- the meaning of the text after `=` for an int or hex of this unit and this type
abbrev pub number_meaning : ℕ → Kind → List ℕ → LineMeaning
number_meaning u kind text = if is_some (number_of_text kind text)
    then assigns u (TextUser text)
    else without_number text

-- the meaning of the text after `=`, by the tree's language and the form of strings, and by the type,
-- unit, number and choice of its symbol
abbrev pub meaning_of_kind : Language → Strings → Kind → ℕ → ℕ → Option ℕ → List ℕ → LineMeaning
meaning_of_kind language strings Boolean u s choice text = tri_meaning language u s choice (tri_of_text Boolean text)
meaning_of_kind language strings Tristate u s choice text = tri_meaning language u s choice (tri_of_text Tristate text)
meaning_of_kind language strings Text u s choice text = string_meaning language strings u text (string_text strings text)
meaning_of_kind language strings Int u s choice text = number_meaning u Int text
meaning_of_kind language strings Hex u s choice text = number_meaning u Hex text

-- the meaning of the text after `=` for the symbol of this number
abbrev pub value_meaning : Strings → Tree → ℕ → Symbol → List ℕ → LineMeaning
value_meaning strings tree s symbol text = meaning_of_kind tree.language strings symbol.kind (unit_of tree s) s symbol.choice text

-- the rest of a text (the second list) after a front (the first); None if the text doesn't begin with the front
abbrev pub after_front : List ℕ → List ℕ → Option (List ℕ)
after_front [] text = Some text
after_front (a ∷ front) [] = None
after_front (a ∷ front) (b ∷ text) = if a == b then after_front front text else None

-- the parts of a text before and after the first occurrence of a byte; None if the byte doesn't occur
abbrev pub split_at_byte : ℕ → List ℕ → Option (List ℕ × List ℕ)
split_at_byte b [] = None
split_at_byte b (c ∷ text) = if c == b then Some ([], text) else option_map (λ parts. (c ∷ parts.0, parts.1)) (split_at_byte b text)

-- a name and the text after it; None if the name is empty
abbrev pub if_named : List ℕ × List ℕ → Option (List ℕ × List ℕ)
if_named parts = if nat_lt 0 (length parts.0) then Some parts else None

-- the name before the first occurrence of a byte, and the text after the byte; None if the byte doesn't occur or the
-- name is empty
abbrev pub named_before : ℕ → List ℕ → Option (List ℕ × List ℕ)
named_before b text = option_and_then if_named (split_at_byte b text)

-- whether a byte is there, and is `#`
abbrev pub is_hash : Option ℕ → Bool
is_hash None = false
is_hash (Some b) = b == 35

-- whether the first byte of a line that isn't white is `#`
abbrev pub begins_with_hash : List ℕ → Bool
begins_with_hash line = is_hash (find (λ b. not (is_white_byte b)) line)

-- the name and the text of a line `CONFIG_NAME=text`, with this prefix; None for any other line
abbrev pub value_parts : List ℕ → List ℕ → Option (List ℕ × List ℕ)
value_parts prefix line = if begins_with_hash line then None else option_and_then (named_before 61) (after_front prefix line)

-- from a name and the text after it: the name, if the text is `is not set`; None otherwise
abbrev pub if_not_set : List ℕ × List ℕ → Option (List ℕ)
if_not_set parts = if bytes_eq parts.1 (codes "is not set") then Some parts.0 else None

-- the name of a line `# CONFIG_NAME is not set`, with this prefix; None for any other line
abbrev pub unset_name : List ℕ → List ℕ → Option (List ℕ)
unset_name prefix line =
    option_and_then if_not_set (option_and_then (named_before 32) (after_front (codes "# " ++ prefix) line))

-- the meaning that the function gives for a symbol and its number, for a line that names the symbol; a notice if there is none
abbrev pub of_symbol_at : (ℕ → Symbol → LineMeaning) → ℕ → Option Symbol → LineMeaning
of_symbol_at say s None = notice UnknownSymbol
of_symbol_at say s (Some symbol) = say s symbol

-- the meaning that the function gives for the symbol of this number, for a line that names it; a notice if there is no such
-- symbol
abbrev pub of_named : Tree → (ℕ → Symbol → LineMeaning) → Option ℕ → LineMeaning
of_named tree say None = notice UnknownSymbol
of_named tree say (Some s) = of_symbol_at say s (slice_get tree.symbols s)

-- the meaning of a line that names no symbol: an empty line or a comment assigns nothing; None for a malformed line
abbrev pub of_other : List ℕ → Option LineMeaning
of_other [] = Some silent
of_other (b ∷ line) = if begins_with_hash (b ∷ line) then Some silent else None

-- the meaning of a line that isn't of the form `CONFIG_NAME=text`, given its name if it is `# CONFIG_NAME is not set` and None if
-- not; the meaning is None if the line is malformed
abbrev pub of_unset : Tree → List ℕ → Option (List ℕ) → Option LineMeaning
of_unset tree line None = of_other line
of_unset tree line (Some name) =
    Some (of_named tree (λ s symbol. unset_meaning tree s symbol symbol.choice) (symbol_named tree name))

-- the meaning of a line, given its name and text if it has the form `CONFIG_NAME=text` and None if not; the meaning is None if
-- the line is malformed
abbrev pub of_value : FileFormat → Tree → List ℕ → Option (List ℕ × List ℕ) → Option LineMeaning
of_value format tree line None = of_unset tree line (unset_name format.prefix line)
of_value format tree line (Some parts) =
    Some (of_named tree (λ s symbol. value_meaning format.strings tree s symbol parts.1) (symbol_named tree parts.0))

-- the meaning of a line that has no white bytes at its end; None if it is malformed
unfoldable pub line_meaning : FileFormat → Tree → List ℕ → Option LineMeaning
line_meaning format tree line = of_value format tree line (value_parts format.prefix line)

-- a line's meaning in front of the meanings of the lines after it; None if any of the lines is malformed
abbrev pub with_rest : Option LineMeaning → Option (List LineMeaning) → Option (List LineMeaning)
with_rest (Some meaning) (Some meanings) = Some (meaning ∷ meanings)
with_rest _ _ = None

-- the meanings of lines, in order; None if any of them is malformed
abbrev pub meanings_of_lines : FileFormat → Tree → List (List ℕ) → Option (List LineMeaning)
meanings_of_lines format tree [] = Some []
meanings_of_lines format tree (line ∷ lines) =
    with_rest (line_meaning format tree (without_white_end line)) (meanings_of_lines format tree lines)

-- the meanings of the lines of a configuration file, in order; None if any of them is malformed
abbrev pub file_meanings : FileFormat → Tree → List ℕ → Option (List LineMeaning)
file_meanings format tree bytes = meanings_of_lines format tree (file_lines bytes)
