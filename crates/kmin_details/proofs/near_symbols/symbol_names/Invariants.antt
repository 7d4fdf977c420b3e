use Rattle.std.proofs.Common.{◌≡◌, ℕ, List, take, map}
use Rattle.std.specs.Borrow.{Bor}
use Rattle.kc_tree_model.specs.Trees.{Symbol}
use Rattle.kmin_details.proofs.near_symbols.symbol_names.Given as goal

abbrev pub invariant-loop-number : goal.invariant-loop-number
invariant-loop-number l =
    map (λ (name : Bor (List ℕ)). name.now) l.names.items ≡ map (λ (symbol : Symbol). symbol.name) (take l.number l.tree.tree.symbols)
