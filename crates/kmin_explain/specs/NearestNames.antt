-- The name that is nearest to an unknown one.
use Rattle.std.specs.Prelude.{ℕ, List, map, Option, unwrap_or}
use Rattle.kc_tree_model.specs.Trees.{Tree, Symbol}
use Rattle.kc_dotconfig_model.specs.between.LineMeanings.{after_front}
use Rattle.kmin_details.specs.NearNames.{nearest}

-- the name of a symbol that is nearest to a name, without the prefix if it has it
abbrev pub nearest_name : Tree → (prefix name : List ℕ) → Option (List ℕ)
nearest_name tree prefix name = nearest (unwrap_or (after_front prefix name) name) (map (λ (symbol : Symbol). symbol.name) tree.symbols)
