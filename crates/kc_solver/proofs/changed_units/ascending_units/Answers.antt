use Rattle.kc_solver.proofs.Common.{◌≡◌, ◌++◌, ◌∷◌, [], take, sym, ap, ◌∙◌, arith, take_more, take_all, logged_units}
use Rattle.kc_solver.proofs.Revisions.{logged_more}
use Rattle.kc_solver.proofs.UnitOrder.{sorted_once}
use Rattle.kc_solver.proofs.changed_units.ascending_units.Goals as goal

pub loop-u-preserved : goal.loop-u-preserved
loop-u-preserved g c =
    let i = c.loop-u.u-index in
    let log = c.args.log.now in
    let entry = c.loop-u-item.result in
    record {
      within = omega arith;
      units =
          c.in_ok-push.ensures.items ∙ ap (λ xs. xs ++ entry.0 ∷ []) c.loop-u.invariant.units ∙ sym (logged_more (take i log) entry.0 entry.1)
          ∙ ap (λ e. logged_units (take i log ++ e ∷ [])) c.loop-u-item.is ∙ ap logged_units (sym (take_more log i entry c.loop-u-test.true));
    }

pub returns-clause-ascending : goal.returns-clause-ascending
returns-clause-ascending g c =
    let all : c.loop-u.units.items ≡ logged_units c.args.log.now = c.loop-u.invariant.units
    ∙ ap logged_units (take_all c.loop-u.u-index c.args.log.now (omega arith)) in
    (sorted_once (logged_units c.args.log.now) c.sort_unstable.new.self.items (rw all at c.sort_unstable.ensures.permutation) c.sort_unstable.ensures.sorted
    c.requires.once).0

pub returns-clause-same : goal.returns-clause-same
returns-clause-same g c =
    let all : c.loop-u.units.items ≡ logged_units c.args.log.now = c.loop-u.invariant.units
    ∙ ap logged_units (take_all c.loop-u.u-index c.args.log.now (omega arith)) in
    (sorted_once (logged_units c.args.log.now) c.sort_unstable.new.self.items (rw all at c.sort_unstable.ensures.permutation) c.sort_unstable.ensures.sorted
    c.requires.once).1
