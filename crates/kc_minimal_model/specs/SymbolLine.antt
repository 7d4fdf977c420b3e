-- The one line of a symbol's value.
use Rattle.std.specs.Prelude.{ℕ, ◌&&◌, List, [], ◌∷◌, ◌++◌, Option, Some, codes, slice_get, if◌then◌else◌}
use Rattle.kc_value.specs.declared.value.Kind.{Kind}
use Rattle.kc_value.specs.declared.value.Kind.TheVariants.{Text}
use Rattle.kc_expr.specs.Expr.{SymbolValue}
use Rattle.kc_tree_model.specs.Trees.{Tree, Symbol}
use Rattle.kc_rules_model.specs.declared.values.UnitValue.{UnitValue}
use Rattle.kc_value.specs.Tri.{is_n}
use Rattle.kc_value.specs.Kinds.{is_tri_kind}
use Rattle.kc_rules_model.specs.SymbolValues.{value_of_symbol}
use Rattle.kc_dotconfig_model.specs.declared.format.Strings.{Strings}
use Rattle.kc_dotconfig_model.specs.Formats.{FileFormat, string_spelling}

-- the spelling of a value's text after `=`: a string in quotes, in the file's form of strings; any other text as it is
abbrev pub spelled : Strings → Kind → List ℕ → List ℕ
spelled strings Text text = string_spelling strings text
spelled strings _ text = text

-- the line `CONFIG_NAME=value`, with the prefix of the file (Kconfiglib's `config_string`)
abbrev pub value_line : List ℕ → List ℕ → List ℕ → List ℕ
value_line prefix name text = prefix ++ (name ++ (61 ∷ text))

-- the line `# CONFIG_NAME is not set`, with the prefix of the file
abbrev pub unset_line : List ℕ → List ℕ → List ℕ
unset_line prefix name = codes "# " ++ (prefix ++ (name ++ codes " is not set"))

-- the line of a symbol's value, without its newline: `# CONFIG_NAME is not set` for `n` of a bool or tristate, and
-- `CONFIG_NAME=value` otherwise
abbrev pub line_with : FileFormat → List ℕ → SymbolValue → List ℕ
line_with format name seen = if is_tri_kind seen.kind && is_n seen.tri
    then unset_line format.prefix name
    else value_line format.prefix name (spelled format.strings seen.kind seen.text)

-- the line of a symbol with this value, without its newline; empty if there is no symbol or no value
abbrev pub line_of_value : FileFormat → Option Symbol → Option SymbolValue → List ℕ
line_of_value format (Some symbol) (Some seen) = line_with format symbol.name seen
line_of_value format _ _ = []

-- the line of a symbol in a configuration file, without its newline; empty if there is no such symbol
unfoldable pub symbol_line : FileFormat → Tree → List UnitValue → ℕ → List ℕ
symbol_line format tree values s = line_of_value format (slice_get tree.symbols s) (value_of_symbol tree values s)

-- the line of a symbol in a configuration file, with its newline
abbrev pub ended_line : FileFormat → Tree → List UnitValue → ℕ → List ℕ
ended_line format tree values s = symbol_line format tree values s ++ 10 ∷ []
