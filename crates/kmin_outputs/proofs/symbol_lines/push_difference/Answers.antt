use Rattle.kmin_outputs.proofs.Common.{◌≡◌, ℕ, List, ◌++◌, Option, Some, ap, sym, ◌∙◌, subst, arith, common_steps, tree_of_settled, SymbolValue, value_of_symbol, spelled}
use Rattle.std.specs.Prelude.{OnOk}
use Rattle.kc_tree.specs.TreeModel.{TreeModel}
use Rattle.kmin_outputs.specs.Outputs.{compared_line}
use Rattle.kmin_report.specs.Reports.{name_at}
use Rattle.kmin_outputs.specs.between.Lines.{line_of_values}
use Rattle.kmin_outputs.proofs.symbol_lines.push_difference.Goals as goal

pub spelled_value-requires : goal.spelled_value-requires
spelled_value-requires c = grind (arith, common_steps)

pub spelled_value-requires-2 : goal.spelled_value-requires-2
spelled_value-requires-2 c = grind (arith, common_steps)

pub returns : goal.returns
returns c =
    let tree = tree_of_settled c.args.settled.now in
    let form = c.args.form in
    let strings = c.args.strings in
    let s = c.args.s in
    let name = name_at tree s in
    let left = c.in_ok-before.ensures in
    let right = c.in_ok-after.ensures in
    subst (λ (line : List ℕ). OnOk c.push_compared_line.result (c.push_compared_line.new.out.items ≡ c.args.out.now.items ++ line))
    (ap (λ (n : List ℕ). compared_line form n c.deref.result.now c.deref-2.result.now) (c.name_of.ensures ∙ ap (λ (t : TreeModel). name_at t.tree s) c.tree-tree.ensures.tree)
    ∙ ap (λ (l : List ℕ). compared_line form name l c.deref-2.result.now) (c.deref.ensures.value ∙ left.2)
    ∙ ap (λ (r : List ℕ). compared_line form name (spelled strings left.0.kind left.0.text) r) (c.deref-2.ensures.value ∙ right.2)
    ∙ sym (ap (λ (l : Option SymbolValue). line_of_values form strings name l (value_of_symbol tree c.args.right.now s)) left.1
    ∙ ap (λ (r : Option SymbolValue). line_of_values form strings name (Some left.0) r) right.1))
    c.push_compared_line.ensures
