use Rattle.std.proofs.Common.{◌≡◌, suc, ◌-◌, true, drop, sym, ◌∙◌, ap, arith}
use Rattle.kc_rules_model.specs.MemberLines.{last_y}
use Rattle.kc_config.proofs.MissedMembers.{last_found}
use Rattle.kc_config.proofs.missed_assignments.last_member.Goals as goal

pub returns-then-line : goal.returns-then-line
returns-then-line c =
    let next : suc (c.loop-i.i - 1) ≡ c.loop-i.i = omega arith in
    sym (last_found c.args.lines.now (c.loop-i.i - 1) c.index-lines-i.result (omega arith) c.index-lines-i.is c.if-line.true
    (ap (λ k. last_y (λ m. true) (drop k c.args.lines.now)) next ∙ c.loop-i.invariant))
