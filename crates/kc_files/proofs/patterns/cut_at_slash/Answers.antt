use Rattle.kc_files.proofs.Common.{arith, common_steps}
use Rattle.kc_files.proofs.PatternLemmas.{is_cut, last_piece}
use Rattle.kc_files.proofs.patterns.cut_at_slash.Goals as goal

pub returns-in-Some-clause-some : goal.returns-in-Some-clause-some
returns-in-Some-clause-some c = is_cut c.args.path.now c.in-Some.at _ _ c.in-Some.ensures.some.0 c.in-Some.ensures.some.1 c.in-Some.ensures.some.2
    (grind (arith, common_steps)) (grind (arith, common_steps))

pub returns-in-None-clause-none : goal.returns-in-None-clause-none
returns-in-None-clause-none c = last_piece c.args.path.now c.in-None.ensures.none
