-- The meaning of a line of a configuration file. Each file has a format: a prefix, such as `CONFIG_` or none, and a form of
-- strings.
use Rattle.std.specs.Prelude.{◌≡◌, ◌≢◌, ℕ, ◌-◌, ◌<◌, Bool, true, false, not, ◌&&◌, nat_lt, List, [], ◌∷◌, ◌++◌, Option, Some, None, is_some, length, take, slice_get, codes, bytes_eq, if◌then◌else◌}
use Rattle.std.specs.List.{find}
use Rattle.kc_value.specs.declared.tri.Tri.{Tri}
use Rattle.kc_value.specs.declared.tri.Tri.TheVariants.{N, M, Y}
use Rattle.kc_value.specs.declared.value.Kind.{Kind}
use Rattle.kc_value.specs.declared.value.Kind.TheVariants.{Bool as Boolean, Tristate, Text, Int, Hex}
use Rattle.kc_tokens.specs.Token.{is_white_byte}
use Rattle.kc_tree_model.specs.Trees.{Tree, Symbol}
use Rattle.kc_tree_model.specs.TreeLookup.{symbol_named, unit_of}
use Rattle.kc_value.specs.Kinds.{is_tri_kind}
use Rattle.kc_value.specs.Number.{number_of_text}
use Rattle.kc_rules_model.specs.declared.values.UserValue.{UserValue}
use Rattle.kc_rules_model.specs.declared.values.UserValue.TheVariants.{Tri as TriUser, Text as TextUser, Lines as LinesUser}
use Rattle.kc_rules_model.specs.Rule.{member_user}
use Rattle.kc_tokens.specs.declared.language.Language.{Language}
use Rattle.kc_tokens.specs.declared.language.Language.TheVariants.{Strict, Linux}
use Rattle.kc_tokens.specs.Languages.{is_linux_6_12}
use Rattle.kc_dotconfig_model.specs.declared.format.Strings.{Strings}
use Rattle.kc_dotconfig_model.specs.declared.format.Strings.TheVariants.{Escaped, Raw}
use Rattle.kc_dotconfig_model.specs.Formats.{FileFormat, IsStringSpelling, has_other_escape}
use Rattle.kc_dotconfig_model.specs.declared.notice.NoticeKind.{NoticeKind}
use Rattle.kc_dotconfig_model.specs.declared.notice.NoticeKind.TheVariants.{UnknownSymbol, NotOfType}
use Rattle.kc_value.specs.Lines.{has_no_byte}
use Rattle.kc_tree_model.specs.LogicalLines.{without_white_end}

-- what a line of a configuration file means: it assigns a user value to a unit, it assigns a text and gives the notice Escape, it gives
-- a member of a choice, whose unit is `unit`, another value than `y`, which assigns nothing, it gives another notice, or it does none of
-- these
pub data LineMeaning : Type 0 where
  assigns : (unit : ℕ) (user : UserValue) → LineMeaning
  assigns_escaped : (unit : ℕ) (text : List ℕ) → LineMeaning
  unchosen : (unit member : ℕ) → LineMeaning
  notice : NoticeKind → LineMeaning
  silent : LineMeaning

-- the tristate that a text means: `y` or `n` for a bool, `y`, `m` or `n` for a tristate; None for any other text or type
abbrev pub tri_of_text : Kind → List ℕ → Option Tri
tri_of_text Boolean text = if bytes_eq text (codes "y")
    then Some Y
    else (if bytes_eq text (codes "n") then Some N else None)
tri_of_text Tristate text = if bytes_eq text (codes "y")
    then Some Y
    else (if bytes_eq text (codes "m") then Some M else (if bytes_eq text (codes "n") then Some N else None))
tri_of_text _ text = None

-- the meaning of a line that gives the member s of a choice, whose unit is u, another value than `y`: under the rules of Linux
-- 6.12 it assigns `n` to the member, before it assigns nothing
abbrev pub unchosen_meaning : Language → ℕ → ℕ → LineMeaning
unchosen_meaning language u s = if is_linux_6_12 language
    then assigns u (LinesUser (record { member = s; is_y = false } ∷ []))
    else unchosen u s

-- whether the spelling of a string has the notice Escape: in the languages of Linux, where strings are escaped, one with a `\` before
-- another byte than `"` and `\`
abbrev pub has_escape_notice : Language → Strings → List ℕ → Bool
has_escape_notice Strict strings spelling = false
has_escape_notice (Linux version) Raw spelling = false
has_escape_notice (Linux version) Escaped spelling = has_other_escape false spelling

-- the meaning of a line that assigns a text, written in this spelling, to the unit `u`
abbrev pub text_meaning : Language → Strings → ℕ → (spelling text : List ℕ) → LineMeaning
text_meaning language strings u spelling text = if has_escape_notice language strings spelling
    then assigns_escaped u text
    else assigns u (TextUser text)

-- the text after `=` has this meaning, by the type of the symbol and the form of strings; an empty int or hex assigns nothing and
-- gives no notice
pub data ValueMeans (strings : Strings) (tree : Tree) (s : ℕ) (symbol : Symbol) : List ℕ → LineMeaning → Type 0 where
  tri : (text : List ℕ) (t : Tri) → symbol.choice ≡ None → tri_of_text symbol.kind text ≡ Some t
      → ValueMeans strings tree s symbol text (assigns (unit_of tree s) (TriUser t))
  chosen : (c : ℕ) (text : List ℕ) → symbol.choice ≡ Some c → tri_of_text symbol.kind text ≡ Some Y
      → ValueMeans strings tree s symbol text (assigns (unit_of tree s) (member_user tree.language s))
  not_chosen : (c : ℕ) (text : List ℕ) (t : Tri) → symbol.choice ≡ Some c → tri_of_text symbol.kind text ≡ Some t
      → t ≢ Y → ValueMeans strings tree s symbol text (unchosen_meaning tree.language (unit_of tree s) s)
  quoted : (text means : List ℕ) → symbol.kind ≡ Text → IsStringSpelling strings text means
      → ValueMeans strings tree s symbol text (text_meaning tree.language strings (unit_of tree s) text means)
  number : (text : List ℕ) → is_some (number_of_text symbol.kind text) ≡ true
      → ValueMeans strings tree s symbol text (assigns (unit_of tree s) (TextUser text))
  no_int : symbol.kind ≡ Int → ValueMeans strings tree s symbol [] silent
  no_hex : symbol.kind ≡ Hex → ValueMeans strings tree s symbol [] silent
  no_tri : (text : List ℕ) → is_tri_kind symbol.kind ≡ true → tri_of_text symbol.kind text ≡ None
      → ValueMeans strings tree s symbol text (notice NotOfType)
  no_text : (text : List ℕ) → symbol.kind ≡ Text → ((means : List ℕ) → IsStringSpelling strings text means → ⊥)
      → ValueMeans strings tree s symbol text (notice NotOfType)
  no_number : (b : ℕ) (text : List ℕ) → is_tri_kind symbol.kind ≡ false → symbol.kind ≢ Text
      → number_of_text symbol.kind (b ∷ text) ≡ None → ValueMeans strings tree s symbol (b ∷ text) (notice NotOfType)

-- the meaning of a line `# CONFIG_NAME is not set`: it assigns `n` to a bool or tristate outside choices, under the rules of
-- Linux 6.12 also to a member of a choice, and nothing to any other symbol
abbrev pub unset_meaning : Tree → ℕ → Symbol → Option ℕ → LineMeaning
unset_meaning tree s symbol None = if is_tri_kind symbol.kind then assigns (unit_of tree s) (TriUser N) else silent
unset_meaning tree s symbol (Some c) = unchosen_meaning tree.language (unit_of tree s) s

-- the line is `# CONFIG_NAME is not set`, with this prefix and this name
abbrev pub IsUnsetLine : List ℕ → List ℕ → List ℕ → Type 0
IsUnsetLine prefix line name = (0 < length name) × (has_no_byte 32 name ≡ true)
    × (line ≡ codes "# " ++ (prefix ++ (name ++ codes " is not set")))

-- whether a text is this name, of one byte or more and without a space, and ` is not set` after it
abbrev pub is_name_not_set : (name text : List ℕ) → Bool
is_name_not_set name text = nat_lt 0 (length name) && has_no_byte 32 name && bytes_eq text (name ++ codes " is not set")

-- whether `# ` and this text are an unset line where names have no prefix
abbrev pub is_unset_text : List ℕ → Bool
is_unset_text text = is_name_not_set (take (length text - length (codes " is not set")) text) text

-- the first byte of the line that isn't white is `#`
abbrev pub BeginsWithHash : List ℕ → Type 0
BeginsWithHash line = find (λ b. not (is_white_byte b)) line ≡ Some 35

-- the line is `CONFIG_NAME=text`, with this prefix, this name and this text, and isn't a comment, as without a prefix `# A=y` is
abbrev pub IsValueLine : List ℕ → List ℕ → List ℕ → List ℕ → Type 0
IsValueLine prefix line name text = (0 < length name) × (has_no_byte 61 name ≡ true)
    × (line ≡ prefix ++ (name ++ (61 ∷ text))) × (BeginsWithHash line → ⊥)

-- The meaning of a line without trailing white space (Kconfiglib's `load_config`). Each line has at most one
-- meaning, and a line without one is malformed.
pub data Means (format : FileFormat) (tree : Tree) : List ℕ → LineMeaning → Type 0 where
  value : (line name text : List ℕ) (s : ℕ) (symbol : Symbol) (meaning : LineMeaning) → IsValueLine format.prefix line name text
      → symbol_named tree name ≡ Some s → slice_get tree.symbols s ≡ Some symbol → ValueMeans format.strings tree s symbol text meaning
      → Means format tree line meaning
  unset : (line name : List ℕ) (s : ℕ) (symbol : Symbol) → IsUnsetLine format.prefix line name
      → symbol_named tree name ≡ Some s → slice_get tree.symbols s ≡ Some symbol
      → Means format tree line (unset_meaning tree s symbol symbol.choice)
  unknown_value : (line name text : List ℕ) → IsValueLine format.prefix line name text → symbol_named tree name ≡ None
      → Means format tree line (notice UnknownSymbol)
  unknown_unset : (line name : List ℕ) → IsUnsetLine format.prefix line name → symbol_named tree name ≡ None
      → Means format tree line (notice UnknownSymbol)
  empty : Means format tree [] silent
  comment : (line : List ℕ) → BeginsWithHash line
      → ((name : List ℕ) → IsUnsetLine format.prefix line name → ⊥) → Means format tree line silent

-- the line, without the white bytes at its end, has no meaning
abbrev pub IsMalformed : FileFormat → Tree → List ℕ → Type 0
IsMalformed format tree line = (meaning : LineMeaning) → Means format tree (without_white_end line) meaning → ⊥
