use Rattle.std.proofs.lemmas.Result.{on_ok_weaker}
use Rattle.kc_dependencies.proofs.Pushes.{two_pushed}
use Rattle.kc_dependencies.proofs.names.SymbolMentionsNames.push_names.Goals as goal

pub returns-clause-names : goal.returns-clause-names
returns-clause-names c = λ p. on_ok_weaker c.push_all-6.result
    (λ e. two_pushed _ _ _ _ _ (two_pushed _ _ _ _ _ (two_pushed _ _ _ _ _
    (two_pushed _ _ _ _ _ (two_pushed _ _ _ _ _ (c.in_ok-push_all.ensures.names p) (c.in_ok-push_all-2.ensures.names p))
    (c.in_ok-push_all-3.ensures.names p)) (c.in_ok-push_all-4.ensures.names p)) (c.in_ok-push_all-5.ensures.names p)) e)
    (c.push_all-6.ensures.names p)

pub push_all-requires-clause-fits : goal.push_all-requires-clause-fits
push_all-requires-clause-fits c = c.requires.fits.prompts

pub push_all-requires-2-clause-fits : goal.push_all-requires-2-clause-fits
push_all-requires-2-clause-fits c = c.requires.fits.defaults

pub push_all-requires-3-clause-fits : goal.push_all-requires-3-clause-fits
push_all-requires-3-clause-fits c = c.requires.fits.ranges

pub push_all-requires-4-clause-fits : goal.push_all-requires-4-clause-fits
push_all-requires-4-clause-fits c = c.requires.fits.direct

pub push_all-requires-5-clause-fits : goal.push_all-requires-5-clause-fits
push_all-requires-5-clause-fits c = c.requires.fits.selectors

pub push_all-requires-6-clause-fits : goal.push_all-requires-6-clause-fits
push_all-requires-6-clause-fits c = c.requires.fits.impliers
