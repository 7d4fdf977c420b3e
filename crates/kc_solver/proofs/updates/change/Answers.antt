use Rattle.std.proofs.Common.{refl, sym, ◌∙◌, arith}
use Rattle.kc_solver.proofs.Lists.{decided}
use Rattle.kc_solver.proofs.Records.{recorded_same}
use Rattle.kc_solver.proofs.UserChanges.{place_inside, changed_fits, count_same, one_place, within, due_touched, still_holds}
use Rattle.kc_solver.proofs.updates.change.Goals as goal

pub write_changes-requires-clause-units : goal.write_changes-requires-clause-units
write_changes-requires-clause-units g c = λ k u x e. omega (arith, (c.requires.changes k u x e).0, c.requires.users.0)

pub write_changes-requires-clause-once : goal.write_changes-requires-clause-once
write_changes-requires-clause-once g c = one_place _ _ _ _ c.requires.plan.ordered c.requires.plan.places_are

pub write_changes-requires-clause-within : goal.write_changes-requires-clause-within
write_changes-requires-clause-within g c = λ w p e.
    omega (arith, place_inside _ _ _ _ c.requires.plan.ordered c.requires.plan.places_are w p e, c.requires.size)

pub write_changes-requires-clause-nothing : goal.write_changes-requires-clause-nothing
write_changes-requires-clause-nothing g c = c.new-users_log.ensures.items

pub write_changes-requires-clause-places : goal.write_changes-requires-clause-places
write_changes-requires-clause-places g c = c.requires.plan.places_are.one_each ∙ sym c.requires.users.0

pub write_changes-requires-clause-none : goal.write_changes-requires-clause-none
write_changes-requires-clause-none g c = c.requires.none

pub revise-requires-clause-users : goal.revise-requires-clause-users
revise-requires-clause-users g c = rw c.in-Ok.ensures.users (changed_fits _ _ _ _ c.requires.changes c.requires.users)

pub revise-requires-clause-places : goal.revise-requires-clause-places
revise-requires-clause-places g c = within _ _ _ _ c.requires.plan.ordered c.requires.plan.places_are _ _ _ c.in-Ok.ensures.lists

pub revise-requires-clause-holds : goal.revise-requires-clause-holds
revise-requires-clause-holds g c = still_holds _ _ _ _ c.requires.plan.ordered c.requires.plan.places_are _ _ _ c.in-Ok.ensures.lists _
    (decided _ g.met.S.System.equal_users) _ c.requires.solves

pub revise-requires-clause-nothing : goal.revise-requires-clause-nothing
revise-requires-clause-nothing g c = c.new-values_log.ensures.items

pub revise-requires-clause-plan : goal.revise-requires-clause-plan
revise-requires-clause-plan g c = c.requires.plan

pub revise-requires-clause-fits : goal.revise-requires-clause-fits
revise-requires-clause-fits g c = c.requires.fits

pub revise-requires-clause-size : goal.revise-requires-clause-size
revise-requires-clause-size g c = c.write_changes.ensures.size ∙ c.requires.size

pub returns-in-Ok-revise : goal.returns-in-Ok-revise
returns-in-Ok-revise g c =
    let touched = due_touched _ _ _ _ c.requires.plan.ordered c.requires.plan.places_are _ _ _ c.in-Ok.ensures.lists c.args.values.now c.revise.new.values in
    record {
      evaluated = count_same _ _ _ _ touched c.in-Ok-revise.ensures.evaluated;
      recorded = recorded_same _ _ _ _ _ touched c.in-Ok-revise.ensures.recorded;
      fits_users = rw c.in-Ok.ensures.users (changed_fits _ _ _ _ c.requires.changes c.requires.users);
      none = c.in-Ok-revise.ensures.done;
      size = c.revise.ensures.size ∙ c.write_changes.ensures.size;
      users = c.in-Ok.ensures.users;
      fits_values = c.in-Ok-revise.ensures.fits;
      solves = c.in-Ok-revise.ensures.solves;
      changed = c.in-Ok-revise.ensures.changed;
      steps = c.in-Ok-revise.ensures.steps;
      err_users = tt;
      err_values = tt;
    }

pub restore_logged-requires : goal.restore_logged-requires
restore_logged-requires g c = record { units = λ k u a e. omega (arith, c.write_changes.ensures.undo.units k u a e, c.write_changes.ensures.undo.one_each) }

pub returns-in-Err : goal.returns-in-Err
returns-in-Err g c = record {
  none = c.in-Err.ensures.err;
  size = c.write_changes.ensures.size;
  users = tt;
  fits_users = rw (c.restore_logged.ensures.restored, c.write_changes.ensures.undo.back) c.requires.users;
  fits_values = c.requires.fits;
  solves = rw (c.restore_logged.ensures.restored, c.write_changes.ensures.undo.back) c.requires.solves;
  changed = tt;
  evaluated = tt;
  steps = tt;
  recorded = tt;
  err_users = c.restore_logged.ensures.restored ∙ c.write_changes.ensures.undo.back;
  err_values = refl;
}

pub restore_logged-requires-in-Err-revise : goal.restore_logged-requires-in-Err-revise
restore_logged-requires-in-Err-revise g c =
    record { units = λ k u a e. omega (arith, c.revise.ensures.undo.units k u a e, c.revise.ensures.undo.one_each) }

pub restore_logged-requires-in-Err-revise-2 : goal.restore_logged-requires-in-Err-revise-2
restore_logged-requires-in-Err-revise-2 g c =
    record { units = λ k u a e. omega (arith, c.write_changes.ensures.undo.units k u a e, c.write_changes.ensures.undo.one_each) }

pub returns : goal.returns
returns g c =
    let values = c.restore_logged-in-Err-revise.ensures.restored ∙ c.revise.ensures.undo.back in
    let users = c.restore_logged-in-Err-revise-2.ensures.restored ∙ c.write_changes.ensures.undo.back in
    record {
      none = c.clear.ensures.none;
      size = c.clear.ensures.size ∙ c.revise.ensures.size ∙ c.write_changes.ensures.size;
      users = tt;
      fits_users = rw users c.requires.users;
      fits_values = rw values c.requires.fits;
      solves = rw (values, users) c.requires.solves;
      changed = tt;
      evaluated = tt;
      steps = tt;
      recorded = tt;
      err_users = users;
      err_values = values;
    }
