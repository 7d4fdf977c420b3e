-- The symbols with which `explain --deep` goes on.
use Rattle.std.specs.Prelude.{◌≡◌, ℕ, false, List, [], ◌++◌, flat_map, filter_map, option_map, unwrap_or, slice_get}
use Rattle.kc_expr.specs.Expr.{Environment}
use Rattle.kc_tree_model.specs.Trees.{Tree}
use Rattle.kc_tree_model.specs.TreeLookup.{symbol_named}
use Rattle.kc_rules_model.specs.SymbolValues.{environment}
use Rattle.kc_reasons_model.specs.Blame.{blamed}
use Rattle.kc_reasons_model.specs.Conjuncts.{Part}
use Rattle.kc_reasons_model.specs.PlainReasons.{PlainReasons}
use Rattle.kmin_explain.specs.Names.{each_once}
use Rattle.kmin_explain.specs.Explanations.{SourcesModel, reasons_of}

-- the symbols whose values keep a part below what is wanted of it
abbrev pub blamed_of : Tree → Environment → Part → List ℕ
blamed_of tree names p = filter_map (symbol_named tree) (blamed names false p.wanted p.expr)

-- the symbols whose values keep alternatives of parts too low
abbrev pub blamed_in : Tree → Environment → List (List Part) → List ℕ
blamed_in tree names alternatives = flat_map (λ ps. flat_map (blamed_of tree names) ps) alternatives

-- those to go on with from a symbol with these reasons: what its prompts need, and what is unmet
abbrev pub next_by : SourcesModel → PlainReasons → List ℕ
next_by g r = blamed_in g.tree (environment g.tree g.values) r.needs ++ blamed_in g.tree (environment g.tree g.values) r.unmet

-- and from symbol s
abbrev pub next_of : SourcesModel → ℕ → List ℕ
next_of g s = unwrap_or (option_map (λ symbol. next_by g (reasons_of g s symbol)) (slice_get g.tree.symbols s)) []

-- These are the symbols that are explained with `--deep`, in their order: the named ones, then those to go on with from each of
-- these symbols in turn, each once. There is just one such list.
abbrev pub AreDeep : SourcesModel → (named : List ℕ) → (symbols : List ℕ) → Type 0
AreDeep g named symbols = symbols ≡ each_once (named ++ flat_map (next_of g) symbols)
