use Rattle.kmin_explain.proofs.Common.{sym, subst, ◌∙◌, ap, TreeModel, tree_model_of}
use Rattle.std.specs.Prelude.{IfOk}
use Rattle.kc_symbol_lines.specs.between.Indexes.{IsReadTree, IsIndex}
use Rattle.kc_symbol_lines.specs.between.LinesView.{AreHeld}
use Rattle.kmin_explain.proofs.SymbolTexts.{name_defined, lines_found}
use Rattle.kmin_explain.proofs.symbol_reasons.lines_of.Goals as goal

pub lines_of-requires-clause-read : goal.lines_of-requires-clause-read
lines_of-requires-clause-read c =
    let same = c.tree-tree.ensures.tree ∙ ap tree_model_of c.settled.ensures in
    subst (λ (t : TreeModel). IsReadTree t c.args.by.now.lines.now) (sym same) c.requires.read.read

pub lines_of-requires-clause-index : goal.lines_of-requires-clause-index
lines_of-requires-clause-index c =
    let same = c.tree-tree.ensures.tree ∙ ap tree_model_of c.settled.ensures in
    subst (λ (t : TreeModel). IsIndex t c.args.by.now.lines.now c.args.by.now.index.now) (sym same) c.requires.read.index

pub returns-clause-lines : goal.returns-clause-lines
returns-clause-lines c = λ read meanings symbol are at.
    let same = c.tree-tree.ensures.tree ∙ ap tree_model_of c.settled.ensures in
    let m = tree_model_of c.args.by.now.config.now.system in
    lines_found c.lines_of.result c.args.by.now.lines.now c.args.s c.tree-tree.result.now m same c.lines_of.ensures.ok read symbol.name are.tree_is are.has
    (name_defined m read c.args.s symbol are.tree_is at)

pub returns-clause-prompts : goal.returns-clause-prompts
returns-clause-prompts c =
    let same = c.tree-tree.ensures.tree ∙ ap tree_model_of c.settled.ensures in
    subst (λ (t : TreeModel). IfOk c.lines_of.result (λ l. AreHeld t.exprs l.prompts.items)) same c.lines_of.ensures.prompts

pub returns-clause-direct : goal.returns-clause-direct
returns-clause-direct c =
    let same = c.tree-tree.ensures.tree ∙ ap tree_model_of c.settled.ensures in
    subst (λ (t : TreeModel). IfOk c.lines_of.result (λ l. AreHeld t.exprs l.direct.items)) same c.lines_of.ensures.direct
