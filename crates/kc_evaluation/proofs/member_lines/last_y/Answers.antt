use Rattle.std.proofs.Common.{◌-◌}
use Rattle.std.proofs.lemmas.Bool.{and_from}
use Rattle.kc_evaluation.proofs.Common.{◌≡◌, ◌+◌, drop, sym, ap, ◌∙◌, arith, last_y, is_visible_member, valuation_tree, valuation_values}
use Rattle.kc_evaluation.proofs.AssignedMembers.{last_at}
use Rattle.kc_evaluation.proofs.member_lines.last_y.Goals as goal

pub returns-then-is_seen : goal.returns-then-is_seen
returns-then-is_seen c = record {
  value = let seen = is_visible_member (valuation_tree c.args.under.now) (valuation_values c.args.under.now) in
      let line = c.index-lines-i.result in
      let next : (c.loop-i.i - 1) + 1 ≡ c.loop-i.i = omega arith in
      sym (last_at seen c.args.lines.now (c.loop-i.i - 1) line (omega arith) c.index-lines-i.is
      (and_from line.is_y (seen line.member) c.if-line.true (sym c.is_seen.ensures ∙ c.if-is_seen.true))
      (ap (λ n. last_y seen (drop n c.args.lines.now)) next ∙ c.loop-i.invariant));
}
