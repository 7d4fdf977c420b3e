use Rattle.kc_solver.proofs.Common.{◌↔◌, ℕ, refl, ◌∙◌, ap, arith, Contains, slice_get-get_or, logged_units, is_pending, IsEliminated}
use Rattle.kc_solver.proofs.UserChanges.{changed_inside}
use Rattle.kc_solver.proofs.ErrorExits.{no_success, no_value}
use Rattle.kc_solver.proofs.Lists.{decided}
use Rattle.kc_solver.proofs.Sets.{emptied}
use Rattle.kc_solver.proofs.Undo.{undoes_none}
use Rattle.kc_solver.proofs.Records.{recorded_none, recorded_more, recorded_each}
use Rattle.kc_solver.proofs.Revisions.{begun_with, revised_one, room, ended}
use Rattle.kc_solver.proofs.revision.revise.Goals as goal

pub loop-place-init : goal.loop-place-init
loop-place-init g c =
    let begun = begun_with _ _ _ _ _ _ c.requires.plan.ordered c.requires.plan.places_are (g.met.S.System.frame c.args.plan.now.system.now)
    (decided _ g.met.S.System.equal_values) _ c.requires.users.1 (is_pending c.args.pending.now) c.args.values.now
    (logged_units c.args.log.now.items) (ap logged_units c.requires.nothing) c.requires.fits.0 c.requires.places in
    record {
      fits = c.requires.fits;
      undo = undoes_none c.args.log.now.items c.args.values.now c.requires.nothing;
      steps = omega (arith, g.met.S.System.counts c.args.meter.now);
      size = refl;
      revising = begun.0;
      recorded = recorded_none (g.S.System.recorded c.args.meter.now) begun.0.done begun.1;
    }

pub revise_unit-requires-clause-unit : goal.revise_unit-requires-clause-unit
revise_unit-requires-clause-unit g c =
    let place = c.in-Some.place in
    let least = c.in-Some.ensures.takes in
    c.requires.plan.ordered.units place _ (slice_get-get_or c.args.plan.now.order.now place 0 (c.loop-place.invariant.revising.ahead place least.member).1)

pub revise_unit-requires-clause-plan : goal.revise_unit-requires-clause-plan
revise_unit-requires-clause-plan g c = c.requires.plan

pub revise_unit-requires-clause-users : goal.revise_unit-requires-clause-users
revise_unit-requires-clause-users g c = c.requires.users

pub revise_unit-requires-clause-values : goal.revise_unit-requires-clause-values
revise_unit-requires-clause-values g c = c.loop-place.invariant.fits

pub revise_unit-requires-clause-size : goal.revise_unit-requires-clause-size
revise_unit-requires-clause-size g c = c.pop_first.ensures.size ∙ c.loop-place.invariant.size ∙ c.requires.size

pub overflow_add-evaluated : goal.overflow_add-evaluated
overflow_add-evaluated g c =
    let more = room _ _ _ _ _ _ c.requires.plan.ordered c.requires.plan.places_are (g.met.S.System.frame c.args.plan.now.system.now)
    (decided _ g.met.S.System.equal_values) _ c.requires.users.1 _ _ _ _ _ _ c.in-Some.place c.in-Some.ensures.takes.member c.loop-place.invariant.revising in
    let places = c.args.plan.now.places in
    omega (arith, more, places.ok.0, places.small, c.requires.plan.places_are.one_each)

pub loop-place-smaller : goal.loop-place-smaller
loop-place-smaller g c =
    let more = room _ _ _ _ _ _ c.requires.plan.ordered c.requires.plan.places_are (g.met.S.System.frame c.args.plan.now.system.now)
    (decided _ g.met.S.System.equal_values) _ c.requires.users.1 _ _ _ _ _ _ c.in-Some.place c.in-Some.ensures.takes.member c.loop-place.invariant.revising in
    omega (arith, more)

pub loop-place-preserved : goal.loop-place-preserved
loop-place-preserved g c =
    let place = c.in-Some.place in
    let was = c.loop-place.invariant in
    let now = c.in_ok-revise_unit.ensures in
    let least = c.in-Some.ensures.takes in
    let at = slice_get-get_or c.args.plan.now.order.now place 0 (was.revising.ahead place least.member).1 in
    let revised = revised_one _ _ _ _ _ _ c.requires.plan.ordered c.requires.plan.places_are (g.met.S.System.frame c.args.plan.now.system.now)
    (decided _ g.met.S.System.equal_values) _ c.requires.users.1 _ _ _ _ _ (is_pending c.pop_first.new.self) _ c.loop-place.log.items _ _ place _
    least.member least.least least.gone least.others at now.revises was.revising in
    record {
      fits = now.fits;
      undo = now.undo c.args.values.now was.undo;
      steps = omega (arith, now.step, was.steps);
      size = now.size ∙ c.pop_first.ensures.size ∙ was.size;
      revising = revised.0;
      recorded = recorded_more (g.S.System.recorded c.args.meter.now) (g.S.System.recorded c.loop-place.meter) (g.S.System.recorded c.revise_unit.new.meter)
          was.revising.done _ revised.0.done revised.1 was.recorded now.records;
    }

pub returns : goal.returns
returns g c =
    let end = ended _ _ _ _ _ _ c.requires.plan.ordered c.requires.plan.places_are (g.met.S.System.frame c.args.plan.now.system.now)
    (decided _ g.met.S.System.equal_values) _ c.requires.users.1 _ _ _ _ _ _ c.requires.fits.0 (emptied _ (λ k. (c.in_default.ensures.takes k).0))
    c.requires.holds c.loop-place.invariant.revising in
    record {
      solves = end.0;
      evaluated = end.1;
      recorded = recorded_each _ _ _ _ _ _ end.1 end.2 c.loop-place.invariant.recorded;
      size = c.pop_first.ensures.size ∙ c.loop-place.invariant.size;
      done = λ k. (c.in_default.ensures.takes k).1;
      fits = c.loop-place.invariant.fits;
      undo = c.loop-place.invariant.undo;
      steps = c.loop-place.invariant.steps;
      changed =
          (let logged = c.loop-place.invariant.revising.logs in
          let units = c.in_ok-changed.changed.items in
          let same : (u : ℕ) → Contains units u ↔ IsEliminated (logged_units c.loop-place.log.items) u = rw c.as_slice.ensures.value
          at c.in_ok-changed.ensures.same in
          record {
            ascending = c.in_ok-changed.ensures.ascending;
            each = λ u h ne. (same u).1 (logged.each u ne);
            only = λ u has.
                let there = (same u).0 has in
                let ne = logged.only there.0 u there.1 in (
                  changed_inside (g.S.Graph.size c.args.plan.now.system.now) c.args.values.now c.loop-place.values u c.requires.fits.0
                      c.loop-place.invariant.fits.0 ne,
                  ne,
                );
          });
    }

pub ascending_units-requires : goal.ascending_units-requires
ascending_units-requires g c = record { once = rw c.as_slice.ensures.value c.loop-place.invariant.revising.logs.once }

pub returns-in_err-changed : goal.returns-in_err-changed
returns-in_err-changed g c = record {
  size = c.pop_first.ensures.size ∙ c.loop-place.invariant.size;
  done = no_success c.from_residual-in_err-changed.result _ _ c.from_residual-in_err-changed.ensures.1;
  solves = no_success c.from_residual-in_err-changed.result _ _ c.from_residual-in_err-changed.ensures.1;
  fits = no_success c.from_residual-in_err-changed.result _ _ c.from_residual-in_err-changed.ensures.1;
  undo = c.loop-place.invariant.undo;
  changed = no_value c.from_residual-in_err-changed.result _ _ c.from_residual-in_err-changed.ensures.1;
  evaluated = no_value c.from_residual-in_err-changed.result _ _ c.from_residual-in_err-changed.ensures.1;
  steps = no_value c.from_residual-in_err-changed.result _ _ c.from_residual-in_err-changed.ensures.1;
  recorded = no_success c.from_residual-in_err-changed.result _ _ c.from_residual-in_err-changed.ensures.1;
}

pub bounds-order-place : goal.bounds-order-place
bounds-order-place g c = (c.loop-place.invariant.revising.ahead c.in-Some.place c.in-Some.ensures.takes.member).1

pub returns-in_err-revise_unit : goal.returns-in_err-revise_unit
returns-in_err-revise_unit g c = record {
  size = c.revise_unit.ensures.size ∙ c.pop_first.ensures.size ∙ c.loop-place.invariant.size;
  done = no_success c.from_residual.result _ _ c.from_residual.ensures.1;
  solves = no_success c.from_residual.result _ _ c.from_residual.ensures.1;
  fits = no_success c.from_residual.result _ _ c.from_residual.ensures.1;
  undo = c.revise_unit.ensures.undo c.args.values.now c.loop-place.invariant.undo;
  changed = no_value c.from_residual.result _ _ c.from_residual.ensures.1;
  evaluated = no_value c.from_residual.result _ _ c.from_residual.ensures.1;
  steps = no_value c.from_residual.result _ _ c.from_residual.ensures.1;
  recorded = no_success c.from_residual.result _ _ c.from_residual.ensures.1;
}
