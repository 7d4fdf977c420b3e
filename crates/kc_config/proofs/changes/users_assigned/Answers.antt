use Rattle.std.proofs.Common.{slice_set}
use Rattle.kc_config.proofs.Common.{◌++◌, ◌∷◌, [], List, Option, None, Some, replicate, take, sym, ap, ◌∙◌, arith, common_steps, elements, take_more, length-set, changed_users, UserValue, changes_of}
use Rattle.kc_config.proofs.UserValueUnits.{assigned_push}
use Rattle.kc_config.proofs.changes.users_assigned.Goals as goal

pub loop-unit-preserved : goal.loop-unit-preserved
loop-unit-preserved c =
    let i = c.loop-unit.unit-index in
    let assigns = c.args.assigns.now in
    let a = c.loop-unit-item.result in
    let was = c.loop-unit.invariant in
    let blank : List (Option UserValue) = replicate c.args.size None in
    let more = take_more assigns i a c.loop-unit-test.true in
    record {
      within = omega arith;
      size = length-set c.loop-unit.users.items a.0 (Some c.in_ok-copy.copy) ∙ was.size;
      users =
          ap (λ us. slice_set us a.0 (Some c.in_ok-copy.copy)) was.users
          ∙ ap (λ x. slice_set (changed_users (changes_of (take i assigns)) blank) a.0 (Some x)) c.in_ok-copy.ensures
          ∙ sym (assigned_push (take i assigns) a blank)
          ∙ ap (λ x. changed_users (changes_of (take i assigns ++ x ∷ [])) blank) c.loop-unit-item.is
          ∙ ap (λ es. changed_users (changes_of es) blank) (sym more);
    }

pub loop-unit-init : goal.loop-unit-init
loop-unit-init c = grind (arith, common_steps)

pub returns : goal.returns
returns c = grind (arith, common_steps)

pub index_mut-requires : goal.index_mut-requires
index_mut-requires c = grind (arith, elements)
