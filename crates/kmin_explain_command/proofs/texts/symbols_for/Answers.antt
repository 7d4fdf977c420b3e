use Rattle.kmin_explain_command.proofs.Common.{ℕ, ◌<◌, List, length, All, sym, subst, ◌∙◌, ap, arith, range_with_len, IfOk-weaker}
use Rattle.kmin_explain.proofs.EachOnce.{range_below}
use Rattle.kmin_explain_command.proofs.texts.symbols_for.Goals as goal

pub returns-in-None-clause-there : goal.returns-in-None-clause-there
returns-in-None-clause-there c =
    let n = length c.args.tree.now.tree.symbols in
    IfOk-weaker c.every_symbol.result _ _ (λ symbols is. subst (λ (xs : List ℕ). All (λ (s : ℕ). s < n) xs)
    (sym (is ∙ ap (range_with_len 0) c.symbol_count.ensures)) (range_below 0 n n (omega arith))) c.every_symbol.ensures
