use Rattle.kc_symbol_lines.proofs.Common.{◌≡◌, length, arith, is_linux_6_12, prompts_at, dependency_at, defaults_at, ranges_at}
use Rattle.kc_symbol_lines.proofs.EntrySteps.{more_flat, more_mapped, done_flat, done_mapped}
use Rattle.kc_symbol_lines.proofs.symbol.definition_lines.Goals as goal

pub loop-number-preserved : goal.loop-number-preserved
loop-number-preserved c =
    let ns = c.args.numbers.now in
    let k = c.loop-number.number-index in
    let through = is_linux_6_12 c.args.language in
    let i = c.loop-number.invariant in
    record {
      prompts = λ exprs read h b. more_flat (prompts_at through c.args.lines.now read) ns k _ _ _ c.loop-number-test.true (i.prompts exprs read h b)
          (c.in_ok-push_group.ensures exprs read h b).prompts;
      direct = λ exprs read h b. more_mapped (dependency_at through c.args.lines.now read) ns k _ _ _ c.loop-number-test.true (i.direct exprs read h b)
          (c.in_ok-push_group.ensures exprs read h b).direct;
      defaults = λ exprs read h b. more_flat (defaults_at c.args.lines.now) ns k _ _ _ c.loop-number-test.true (i.defaults exprs read h b)
          (c.in_ok-push_group.ensures exprs read h b).defaults;
      ranges = λ exprs read h b. more_flat (ranges_at c.args.lines.now) ns k _ _ _ c.loop-number-test.true (i.ranges exprs read h b)
          (c.in_ok-push_group.ensures exprs read h b).ranges;
    }

pub returns : goal.returns
returns c =
    let ns = c.args.numbers.now in
    let k = c.loop-number.number-index in
    let through = is_linux_6_12 c.args.language in
    let i = c.loop-number.invariant in
    let all : k ≡ length ns = omega (arith, c.loop-number-test.false, c.loop-number.auto.number-index-end) in
    record {
      ok = λ exprs read h b. record {
        prompts = done_flat (prompts_at through c.args.lines.now read) ns k _ _ all (i.prompts exprs read h b);
        direct = done_mapped (dependency_at through c.args.lines.now read) ns k _ _ all (i.direct exprs read h b);
        defaults = done_flat (defaults_at c.args.lines.now) ns k _ _ all (i.defaults exprs read h b);
        ranges = done_flat (ranges_at c.args.lines.now) ns k _ _ all (i.ranges exprs read h b);
      };
    }
