use Rattle.std.proofs.Common.{◌≡◌, ◌+◌, ◌-◌, drop, sym, ap, ◌∙◌, eq-eqb, arith}
use Rattle.kc_dotconfig_model.specs.OtherChoices.{last_line}
use Rattle.kc_minimal.proofs.ChoiceGroups.{last_at}
use Rattle.kc_minimal.proofs.choice_places.last_line.Goals as goal

pub returns-then-number : goal.returns-then-number
returns-then-number c =
    let line = c.index-lines-i.result in
    let next : (c.loop-i.i - 1) + 1 ≡ c.loop-i.i = omega arith in
    sym (last_at c.args.s c.args.lines.now (c.loop-i.i - 1) line (omega arith) c.index-lines-i.is
    (eq-eqb line.1.given.member c.args.s (sym c.number.ensures ∙ c.if-number.true ∙ c.number-in-loop-i.ensures))
    (ap (λ n. last_line c.args.s (drop n c.args.lines.now)) next ∙ c.loop-i.invariant))
