use Rattle.kc_checks.proofs.Common.{arith, common_steps, names_defined, RepresentsListing, IsSummedTo}
use Rattle.kc_checks.proofs.GroupPlaces.{count_is}
use Rattle.kc_checks.proofs.SummarySteps.{all_summed}
use Rattle.kc_checks.proofs.summary.Summary.new.Goals as goal

pub returns-clause-summary : goal.returns-clause-summary
unfolding RepresentsListing IsSummedTo
returns-clause-summary c = λ read h.
    let l = c.args.listing.now in
    let n = count_is l.names.arena (names_defined read) l.texts.items l.lines.items l.groups.items read h.groups_are in
    all_summed read c.loop-i.i c.loop-i.summary (omega arith) (c.loop-i.invariant read h)

pub returns-clause-few : goal.returns-clause-few
returns-clause-few c = grind (arith, common_steps)
