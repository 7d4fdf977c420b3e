use Rattle.kc_macros.proofs.Common.{sym, subst, arith, RunState, place_of, ends, Runs, returned, spent}
use Rattle.kc_macros.proofs.EventLemmas.{spends_too_much, spends_enough}
use Rattle.kc_macros.proofs.events.spend.Goals as goal

pub returns-then-left-work : goal.returns-then-left-work
returns-then-left-work c = spends_too_much c.args.run.now (place_of c.args.at) c.args.work (omega arith) c.fault.result c.fault.ensures

pub returns : goal.returns
returns c = subst (λ (t : RunState). Runs c.args.run.now t (spent (place_of c.args.at) c.args.work) (ends (returned (tt {0})))) (sym c.take_work.ensures.state)
    (spends_enough c.args.run.now (place_of c.args.at) c.args.work (omega arith))
