use Rattle.kc_builder.proofs.GroupPartSteps.{represented_by}
use Rattle.kc_builder.proofs.group_parts.GroupParts.push_checked.Goals as goal

pub next_fault-requires-clause-shown : goal.next_fault-requires-clause-shown
next_fault-requires-clause-shown c =
    let w = c.args.walked.now in
    represented_by w.language w.listing w.groups.items w.conditions.items c.requires.walked.0 c.requires.walked.1

pub push_group-requires-clause-walked : goal.push_group-requires-clause-walked
push_group-requires-clause-walked c =
    rw (c.as_slice-groups.ensures.value, c.as_slice-conditions.ensures.value) (c.args.walked.now.language, c.requires.walked.0, c.requires.walked.1)
