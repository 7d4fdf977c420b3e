use Rattle.kc_dependencies.proofs.Common.{◌||◌, ap, sym, ◌∙◌, arith, elements, on_ok_weaker, passes_some_name}
use Rattle.kc_dependencies.proofs.Needs.{prompts_mention}
use Rattle.kc_dependencies.proofs.names.SymMentionsNames.push_names.Goals as goal

pub returns-clause-names : goal.returns-clause-names
returns-clause-names c =
    λ p. on_ok_weaker c.push_all.result (λ e. e ∙ ap (λ t. passes_some_name c.args.tree.now.exprs p c.args.found.now.names.items || t)
    (sym (prompts_mention c.args.tree.now.exprs p c.args.tree.now.tree c.args.self.now c.symbol.result c.symbol.ensures.symbol))) (c.push_all.ensures.names p)

pub push_all-requires-clause-fits : goal.push_all-requires-clause-fits
push_all-requires-clause-fits c = grind (arith, elements)
