-- The line of a symbol that a tree has.
use Rattle.kc_minimal.proofs.Common.{◌≡◌, ℕ, List, Option, Some, None, ap, ◌∙◌, slice_get, option_map, Tree, UnitValue, value_of_symbol, FileFormat}
use Rattle.kc_expr.specs.Expr.{SymbolValue}
use Rattle.kc_tree_model.specs.Trees.{Symbol}
use Rattle.kc_minimal_model.specs.SymbolLine.{line_with, line_of_value, symbol_line}

by_symbol : (format : FileFormat) (o : Option Symbol) (q : Option SymbolValue) (name : List ℕ) (seen : SymbolValue)
    → option_map (λ (t : Symbol). t.name) o ≡ Some name → q ≡ Some seen → line_of_value format o q ≡ line_with format name seen
by_symbol format None q name seen en es = cc
by_symbol format (Some symbol) q name seen en es =
    let same : symbol.name ≡ name = cc in
    ap (line_of_value format (Some symbol)) es ∙ ap (λ n. line_with format n seen) same

pub line_of : (format : FileFormat) (tree : Tree) (values : List UnitValue) (s : ℕ) (name : List ℕ) (seen : SymbolValue)
    → option_map (λ (t : Symbol). t.name) (slice_get tree.symbols s) ≡ Some name → value_of_symbol tree values s ≡ Some seen
    → symbol_line format tree values s ≡ line_with format name seen
unfolding symbol_line
line_of format tree values s name seen en es = by_symbol format (slice_get tree.symbols s) (value_of_symbol tree values s) name seen en es
