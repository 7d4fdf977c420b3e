use Rattle.kc_builder.proofs.Common.{arith, no_group}
use Rattle.std.proofs.lemmas.List.{get_or_read}
use Rattle.kc_conditions.specs.between.GroupConditions.{no_conditions}
use Rattle.kc_builder.proofs.GroupPartSteps.{has_conditions, one_for_each, same_given}
use Rattle.kc_builder.proofs.group_parts.GroupParts.push_group.Goals as goal

pub bounds-groups-i : goal.bounds-groups-i
bounds-groups-i c = has_conditions c.args.listing.now c.args.groups.now c.args.conditions.now c.requires.walked c.args.i c.requires.here

pub offset_bounds-groups-i : goal.offset_bounds-groups-i
offset_bounds-groups-i c =
    let there = has_conditions c.args.listing.now c.args.groups.now c.args.conditions.now c.requires.walked c.args.i c.requires.here in omega arith

pub conditions_of-given-requires-clause-here : goal.conditions_of-given-requires-clause-here
conditions_of-given-requires-clause-here c =
    has_conditions c.args.listing.now c.args.groups.now c.args.conditions.now c.requires.walked c.args.i c.requires.here

pub invariant_of-own : goal.invariant_of-own
invariant_of-own c = record {
  many = one_for_each c.args.listing.now c.args.groups.now c.args.conditions.now c.requires.walked c.args.i c.requires.here c.lines_of-lines.result.now
      c.conditions_of-given.result.now c.lines_of-lines.ensures.lines c.conditions_of-given.ensures.value;
}

pub push_row-requires : goal.push_row-requires
push_row-requires c = record {
  many = one_for_each c.args.listing.now c.args.groups.now c.args.conditions.now c.requires.walked c.args.i c.requires.here c.lines_of-lines.result.now
      c.conditions_of-given.result.now c.lines_of-lines.ensures.lines c.conditions_of-given.ensures.value;
}

pub returns : goal.returns
returns c =
    let l = c.args.listing.now in
    let there = has_conditions l c.args.groups.now c.args.conditions.now c.requires.walked c.args.i c.requires.here in
    let group = get_or_read l.groups.items _ _ c.requires.here c.index-group.ensures no_group in
    let own = get_or_read c.args.groups.now _ _ there c.index-groups-i.is no_conditions in
    record {
      ok = same_given l.names c.index-group.result.now _ c.lines_of-lines.result.now _ c.conditions_of-given.result.now _ c.index-groups-i.result _ c.args.choices
          c.args.self.now _ group c.lines_of-lines.ensures.lines c.conditions_of-given.ensures.value own (record {
            attributes = c.in_ok-push_attributes.ensures;
            rows = c.in_ok-push_row.ensures;
            default_keys = c.in_ok-push_group_defaults.ensures.keys;
            defaults = c.in_ok-push_group_defaults.ensures.items;
            entries = c.in_ok-push_entry.ensures;
          });
    }
