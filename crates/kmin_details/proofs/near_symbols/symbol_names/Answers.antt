use Rattle.std.proofs.Common.{ℕ, List}
use Rattle.std.specs.Borrow.{Bor}
use Rattle.kc_tree_model.specs.Trees.{Symbol}
use Rattle.kmin_details.proofs.SymbolNames.{images_pushed}
use Rattle.kmin_details.proofs.near_symbols.symbol_names.Goals as goal

pub loop-number-preserved : goal.loop-number-preserved
loop-number-preserved c =
    images_pushed (λ (symbol : Symbol). symbol.name) (λ (name : Bor (List ℕ)). name.now) c.args.tree.now.tree.symbols c.loop-number.number
    c.loop-number.names.items c.push.new.self.items c.name.result c.loop-number.invariant (rw c.at.ensures at c.name.ensures.value)
    c.in_ok-push.ensures.items
