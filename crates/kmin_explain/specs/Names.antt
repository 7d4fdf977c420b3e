-- The symbols that the names of `explain` mean.
use Rattle.std.specs.Prelude.{ℕ, Bool, not, ◌==◌, List, [], ◌∷◌, ◌++◌, filter_map, Option, is_some, find, if◌then◌else◌}
use Rattle.std.specs.Option.{option_or, option_and_then}
use Rattle.std.specs.List.{list_any, slice_split}
use Rattle.kc_tree_model.specs.Trees.{Tree}
use Rattle.kc_tree_model.specs.TreeLookup.{symbol_named}
use Rattle.kc_dotconfig_model.specs.between.LineMeanings.{after_front}

-- the names of a list with a comma between each two
abbrev pub names_in : List ℕ → List (List ℕ)
names_in list = slice_split (λ b. b == 44) list

-- the symbol that a name means: the one with this name, else with the name without the prefix
abbrev pub symbol_meant : Tree → (prefix name : List ℕ) → Option ℕ
symbol_meant tree prefix name = option_or (symbol_named tree name) (option_and_then (symbol_named tree) (after_front prefix name))

-- whether a name means no symbol
abbrev pub is_unknown : Tree → (prefix name : List ℕ) → Bool
is_unknown tree prefix name = not (is_some (symbol_meant tree prefix name))

-- the first of some names that means none
abbrev pub unknown_in : Tree → (prefix : List ℕ) → List (List ℕ) → Option (List ℕ)
unknown_in tree prefix names = find (is_unknown tree prefix) names

-- numbers with one more, if it isn't among them
abbrev pub with_number : List ℕ → ℕ → List ℕ
with_number found s = if list_any (λ t. t == s) found then found else found ++ s ∷ []

-- numbers, then those of a list, each once, in order of first sight
abbrev pub each_once_after : (found : List ℕ) → List ℕ → List ℕ
each_once_after found [] = found
each_once_after found (s ∷ rest) = each_once_after (with_number found s) rest

abbrev pub each_once : List ℕ → List ℕ
each_once numbers = each_once_after [] numbers

-- the symbols that the names of a list mean, each once, in order of first sight
abbrev pub symbols_named : Tree → (prefix : List ℕ) → List (List ℕ) → List ℕ
symbols_named tree prefix names = each_once (filter_map (symbol_meant tree prefix) names)
