use Rattle.std.proofs.Common.{refl, ap, sym, ◌∙◌, length, arith, slice_get}
use Rattle.kc_solver.proofs.updates.write_changes.Goals as goal

pub write_users-requires-clause-units : goal.write_users-requires-clause-units
write_users-requires-clause-units g c = c.requires.units

pub returns-in_err-write_users-clause-undo : goal.returns-in_err-write_users-clause-undo
returns-in_err-write_users-clause-undo g c = c.in_err-write_users.ensures.undo

pub mark_changed-requires-clause-none : goal.mark_changed-requires-clause-none
mark_changed-requires-clause-none g c = c.requires.none

pub mark_changed-requires-clause-within : goal.mark_changed-requires-clause-within
mark_changed-requires-clause-within g c = rw c.deref-2.ensures.value c.requires.within

pub mark_changed-requires-clause-places : goal.mark_changed-requires-clause-places
mark_changed-requires-clause-places g c = omega (arith, ap length c.deref-2.ensures.value, c.requires.places, c.write_users.auto.users)

pub mark_changed-requires-clause-once : goal.mark_changed-requires-clause-once
mark_changed-requires-clause-once g c = rw c.deref-2.ensures.value c.requires.once

pub mark_changed-requires-clause-units : goal.mark_changed-requires-clause-units
mark_changed-requires-clause-units g c = λ k u x e.
    let undo = c.in_ok-write_users.ensures.undo in
    omega (arith, undo.units k u x (sym (ap (λ log. slice_get log k) c.deref.ensures.value) ∙ e), undo.one_each)

pub returns-clause-users : goal.returns-clause-users
returns-clause-users g c = c.in_ok-write_users.ensures.users

pub returns-clause-undo : goal.returns-clause-undo
returns-clause-undo g c = c.write_users.ensures.undo

pub write_users-requires-clause-nothing : goal.write_users-requires-clause-nothing
write_users-requires-clause-nothing g c = c.requires.nothing

pub returns-in_err-write_users-clause-size : goal.returns-in_err-write_users-clause-size
returns-in_err-write_users-clause-size g c = refl

pub returns-clause-lists : goal.returns-clause-lists
returns-clause-lists g c =
    let lists = c.mark_changed.ensures.lists in
    rw (c.deref-2.ensures.value, c.deref.ensures.value, c.in_ok-write_users.ensures.undo.back) at lists

pub returns-clause-err : goal.returns-clause-err
returns-clause-err g c = tt
