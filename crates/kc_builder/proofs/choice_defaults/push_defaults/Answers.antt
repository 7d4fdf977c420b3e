use Rattle.kc_builder.proofs.Common.{◌++◌, get_or, ap, ◌∙◌, arith, elements, own_key, member_default_row}
use Rattle.kc_builder.proofs.ItemSteps.{all_rest, rest_more, rest_done, item_given, own_keys_are}
use Rattle.kc_builder.proofs.choice_defaults.push_defaults.Goals as goal

pub loop-i-init : goal.loop-i-init
loop-i-init c = all_rest _ _ c.args.found.now c.args.own.lines.now c.args.own.conditions.now

pub loop-i-preserved : goal.loop-i-preserved
loop-i-preserved c =
    let row = member_default_row c.args.own.names.now in
    let ls = c.args.own.lines.now in
    let cs = c.args.own.conditions.now in
    let e = c.member_default-item.ensures.value ∙ ap (λ l. row l c.index-conditions-i.result) c.index-lines-i.is
    ∙ ap (row (get_or ls c.loop-i.i c.index-lines-i.result)) c.index-conditions-i.is in
    rest_more (own_key c.args.choice row) row c.args.found.now c.loop-i.found _ ls cs c.loop-i.i c.index-conditions-i.result c.index-lines-i.result
    c.loop-i-test.true c.args.own.many c.loop-i.invariant
    (item_given row c.args.choice _ _ _ _ c.member_default-item.result e c.in_ok-push_optional.ensures.keys c.in_ok-push_optional.ensures.items)

pub returns-clause-items : goal.returns-clause-items
returns-clause-items c = (rest_done _ _ c.args.found.now c.loop-i.found c.args.own.lines.now c.args.own.conditions.now c.loop-i.i (omega arith) c.loop-i.invariant).items

pub returns-clause-keys : goal.returns-clause-keys
returns-clause-keys c =
    let all = rest_done _ _ c.args.found.now c.loop-i.found c.args.own.lines.now c.args.own.conditions.now c.loop-i.i (omega arith) c.loop-i.invariant in
    all.keys ∙ ap (λ ks. c.args.found.now.keys.items ++ ks)
    (own_keys_are c.args.choice (member_default_row c.args.own.names.now) c.args.own.lines.now c.args.own.conditions.now)

pub member_default-item-requires : goal.member_default-item-requires
member_default-item-requires c = record { held = grind (arith, elements) }
