use Rattle.kc_minimal.proofs.Common.{rules, arith, common_steps, tree_of_settled, profile_of, file_format, ended_line, has_line}
use Rattle.kc_minimal.proofs.RangeLines.{line_more}
use Rattle.kc_minimal.proofs.minimal.minimal_lines.Goals as goal

pub loop-number-preserved : goal.loop-number-preserved
loop-number-preserved c =
    let settled = c.args.settled.now in
    let line = ended_line (file_format c.args.format.now) (tree_of_settled settled) c.args.values.now in
    line_more (has_line (profile_of settled) (tree_of_settled settled) c.args.values.now) line c.loop-number.number c.loop-number.text.items _
    c.loop-number.invariant (rw c.at-s.ensures at c.in_ok-push_if_kept.ensures.ok)

pub returns : goal.returns
returns c = search rules

pub push_if_kept-requires-clause-symbol : goal.push_if_kept-requires-clause-symbol
push_if_kept-requires-clause-symbol c = grind (arith, common_steps)
