-- The units that a unit depends on.
use Rattle.std.specs.Prelude.{ℕ, List, [], ◌∷◌, ◌++◌, Option, Some, None, length, map, ◌==◌, slice_get, filter, if◌then◌else◌}
use Rattle.std.specs.List.{list_any, filter_map, flat_map, range_with_len}
use Rattle.std.specs.Option.{option_map}
use Rattle.kc_expr.specs.Expr.{Expr, modules}
use Rattle.kc_expr.specs.ExpressionNames.{operand_names, names_in}
use Rattle.kc_tree_model.specs.Trees.{Tree, Symbol, Choice, Default, Range, ReverseDependency, MemberDefault}
use Rattle.kc_tree_model.specs.declared.ids.Unit.{Unit as TreeUnit}
use Rattle.kc_tree_model.specs.declared.ids.Unit.TheVariants.{Symbol as of_symbol, Choice as of_choice}
use Rattle.kc_tree_model.specs.TreeLookup.{unit_of, symbol_named}
use Rattle.kc_value.specs.Kinds.{is_tristate}
use Rattle.kc_tokens.specs.Languages.{is_linux_6_12}

-- the units of the symbols with these names; a name that no symbol has is left out
abbrev pub units_named : Tree → List (List ℕ) → List ℕ
units_named tree names = filter_map (λ name. option_map (unit_of tree) (symbol_named tree name)) names

-- the units on which a symbol depends through the selects or implies that name it: those of the symbols that have them, and of
-- the symbols in their conditions
abbrev pub units_of_reverse_dependencies : Tree → List ReverseDependency → List ℕ
units_of_reverse_dependencies tree fs = map (λ (f : ReverseDependency). unit_of tree f.by) fs
    ++ units_named tree (flat_map (λ (f : ReverseDependency). names_in f.condition) fs)

-- the units on which a symbol depends: those that its prompts, defaults, ranges and direct dependencies name, those of the
-- selects and implies that name it, and for a tristate that of `MODULES`; in any order, maybe repeated
abbrev pub needed_by_symbol : Tree → Symbol → List ℕ
needed_by_symbol tree symbol =
    units_named tree
    (flat_map names_in symbol.prompts
    ++ flat_map (λ (d : Default). names_in d.value ++ names_in d.condition) symbol.defaults
    ++ flat_map (λ (r : Range). operand_names r.low ++ operand_names r.high ++ names_in r.condition) symbol.ranges
    ++ flat_map names_in symbol.direct
    ++ (if is_tristate symbol.kind then modules ∷ [] else []))
    ++ units_of_reverse_dependencies tree symbol.selectors ++ units_of_reverse_dependencies tree symbol.impliers

-- the names in the condition of a choice's prompt; none without a prompt
abbrev pub names_in_prompt : Option Expr → List (List ℕ)
names_in_prompt None = []
names_in_prompt (Some e) = names_in e

-- the names in the conditions of a symbol's prompts; none without a symbol
abbrev pub names_in_prompts : Option Symbol → List (List ℕ)
names_in_prompts None = []
names_in_prompts (Some symbol) = flat_map names_in symbol.prompts

-- the names in the conditions of a choice member's prompts, by the member's number among the symbols
abbrev pub names_in_member_prompts : Tree → ℕ → List (List ℕ)
names_in_member_prompts tree s = names_in_prompts (slice_get tree.symbols s)

-- the names in the condition on which a choice is shown; under the rules of Linux 6.12 none, since that counts for nothing
abbrev pub names_in_shown : Tree → Choice → List (List ℕ)
names_in_shown tree choice = if is_linux_6_12 tree.language then [] else names_in_prompt choice.prompt

-- the units on which a choice depends: those that its prompt, where it counts, its defaults' conditions, and the prompts of its
-- members and of its defaults' members name; in any order, maybe repeated
abbrev pub needed_by_choice : Tree → Choice → List ℕ
needed_by_choice tree choice =
    units_named tree (names_in_shown tree choice ++ flat_map (λ (d : MemberDefault). names_in d.condition ++ names_in_member_prompts tree d.member) choice.defaults ++ flat_map (names_in_member_prompts tree) choice.members)

-- the units on which a symbol depends; none without a symbol
abbrev pub needed_by_symbol_at : Tree → Option Symbol → List ℕ
needed_by_symbol_at tree None = []
needed_by_symbol_at tree (Some symbol) = needed_by_symbol tree symbol

-- the units on which a choice depends; none without a choice
abbrev pub needed_by_choice_at : Tree → Option Choice → List ℕ
needed_by_choice_at tree None = []
needed_by_choice_at tree (Some choice) = needed_by_choice tree choice

-- the units on which a unit depends, in any order, maybe repeated; none without a unit
abbrev pub needed_by : Tree → Option TreeUnit → List ℕ
needed_by tree None = []
needed_by tree (Some (of_symbol s)) = needed_by_symbol_at tree (slice_get tree.symbols s)
needed_by tree (Some (of_choice c)) = needed_by_choice_at tree (slice_get tree.choices c)

-- the numbers of the units on which unit u depends, ascending, each once
unfoldable pub dependencies : Tree → ℕ → List ℕ
dependencies tree u =
    filter (λ d. list_any (λ e. e == d) (needed_by tree (slice_get tree.units u))) (range_with_len 0 (length tree.units))
