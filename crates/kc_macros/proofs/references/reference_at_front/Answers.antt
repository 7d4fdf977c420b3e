use Rattle.std.proofs.Common.{sym}
use Rattle.kc_macros.proofs.PieceLemmas.{front_cut, front_uncut, front_whole, front_fits}
use Rattle.kc_macros.proofs.references.reference_at_front.Goals as goal

pub returns-in-Some-clause-reference : goal.returns-in-Some-clause-reference
returns-in-Some-clause-reference c = λ q. front_cut c.args.text.now c.in-Some.n c.requires.begins (sym c.in-Some.ensures.value) q

pub returns-in-None-clause-unterminated : goal.returns-in-None-clause-unterminated
returns-in-None-clause-unterminated c = λ q. front_uncut c.args.text.now c.requires.begins (sym c.in-None.ensures.value) q

pub returns-in-Some-clause-front : goal.returns-in-Some-clause-front
returns-in-Some-clause-front c = front_whole c.args.text.now c.in-Some.n c.requires.begins (sym c.in-Some.ensures.value)

pub returns-in-Some-clause-fits : goal.returns-in-Some-clause-fits
returns-in-Some-clause-fits c = front_fits c.args.text.now c.in-Some.n c.requires.begins (sym c.in-Some.ensures.value)
