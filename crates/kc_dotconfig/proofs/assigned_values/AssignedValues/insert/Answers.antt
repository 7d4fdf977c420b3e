use Rattle.kc_dotconfig.proofs.Common.{◌≡◌, [], inr, sym, subst, arith, common_steps, IsAscending, AreBelow}
use Rattle.kc_dotconfig.proofs.AscendingUnits.{none_of, rises_more, pushed_is}
use Rattle.kc_dotconfig.proofs.assigned_values.AssignedValues.insert.Goals as goal

pub invariant_of-self-then-is_above : goal.invariant_of-self-then-is_above
invariant_of-self-then-is_above c =
    let none : c.self.inside.mapped.entries ≡ [] = none_of c.self.inside.mapped.entries (c.is_empty.ensures.0 c.if-not-is_empty.false) in
    let below : AreBelow c.args.unit c.self.inside.listed.items = subst (AreBelow c.args.unit) c.deref.ensures.value
    (c.is_above.ensures.below c.if-is_above.true) in
    (subst IsAscending (sym c.in_ok-push.ensures.items) (rises_more c.self.inside.listed.items c.args.unit c.args.user c.self.invariant.0 below), inr none)

pub returns-then-is_above : goal.returns-then-is_above
returns-then-is_above c =
    let none : c.self.inside.mapped.entries ≡ [] = none_of c.self.inside.mapped.entries (c.is_empty.ensures.0 c.if-not-is_empty.false) in
    let below : AreBelow c.args.unit c.self.inside.listed.items = subst (AreBelow c.args.unit) c.deref.ensures.value
    (c.is_above.ensures.below c.if-is_above.true) in
    pushed_is c.self.inside.listed.items c.push.new.self.items c.self.inside.mapped.entries c.args.self.now c.args.unit c.args.user c.in_ok-push.ensures.items
    none below c.self.view_is

pub invariant_of-self : goal.invariant_of-self
invariant_of-self c = grind (arith, common_steps)

pub returns : goal.returns
returns c = grind (arith, common_steps)

pub is_above-requires : goal.is_above-requires
is_above-requires c = grind (arith, common_steps)

pub invariant_of-self-in_err-push : goal.invariant_of-self-in_err-push
invariant_of-self-in_err-push c = grind (arith, common_steps)

pub invariant_of-self-in_err-self-inside : goal.invariant_of-self-in_err-self-inside
invariant_of-self-in_err-self-inside c = grind (arith, common_steps)

pub map_of-requires : goal.map_of-requires
map_of-requires c = grind (arith, common_steps)

pub invariant_of-self-2 : goal.invariant_of-self-2
invariant_of-self-2 c = grind (arith, common_steps)

pub returns-then-not-is_empty : goal.returns-then-not-is_empty
returns-then-not-is_empty c = grind (arith, common_steps)
