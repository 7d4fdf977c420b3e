use Rattle.kc_dependencies.proofs.Common.{◌||◌, ◌∙◌, ap, arith, common_steps, on_ok_weaker, passes_some_name, in_prompt}
use Rattle.kc_dependencies.proofs.Pushes.{two_pushed}
use Rattle.kc_dependencies.proofs.names.ChoiceMentionsNames.push_names.Goals as goal

pub returns-clause-names : goal.returns-clause-names
returns-clause-names c =
    λ p. on_ok_weaker c.push_all-2.result (λ e. two_pushed _ _ _ _ _
    (two_pushed _ _ _ _ _ (c.in_ok-push_prompt.ensures.names p ∙ ap (λ o. passes_some_name c.args.tree.now.exprs p c.args.found.now.names.items
    || in_prompt c.args.tree.now.exprs p o) c.counted_prompt.ensures) (c.in_ok-push_all.ensures.names p)) e) (c.push_all-2.ensures.names p)

pub push_all-requires-clause-fits : goal.push_all-requires-clause-fits
push_all-requires-clause-fits c = c.requires.fits.defaults

pub push_all-requires-2-clause-fits : goal.push_all-requires-2-clause-fits
push_all-requires-2-clause-fits c = c.requires.fits.members

pub push_prompt-requires-clause-fits : goal.push_prompt-requires-clause-fits
push_prompt-requires-clause-fits c = grind (arith, common_steps)
