use Rattle.std.proofs.Common.{◌≡◌, ◌-◌, ◌<◌, ◌≤◌, ◌∙◌, length, take, drop, ap, arith, length-drop, rules}
use Rattle.std.proofs.lemmas.Grind.{common_steps, elements}
use Rattle.kc_output.proofs.WrittenParts.{appends_part, no_failure, rest_from}
use Rattle.kc_output.proofs.output.write_out.Goals as goal

pub loop-written-preserved : goal.loop-written-preserved
loop-written-preserved g c =
    let w = c.loop-written.written in
    let text = c.args.text.now in
    let rest = take (length text - w) (drop w text) in
    let e : rest ≡ drop w text = rest_from w text in
    let n : c.in-Ok.count ≤ length rest = c.in-Ok.ensures.bound in
    let some : 0 < c.in-Ok.count = omega (arith, c.in-Ok.count-test.1) in
    record {
      within = (let i = c.loop-written.invariant.within in let l = ap length e in omega (arith, length-drop w text));
      took = appends_part _ _ _ text rest w c.in-Ok.count e c.loop-written.invariant.took c.in-Ok.ensures.bytes;
      unfailed = no_failure _ c.in-Ok.count rest _ some c.in-Ok.ensures.failures ∙ c.loop-written.invariant.unfailed;
    }

pub loop-written-init : goal.loop-written-init
loop-written-init g c = search rules

pub returns-in-Ok-eq0-clause-unfailed : goal.returns-in-Ok-eq0-clause-unfailed
returns-in-Ok-eq0-clause-unfailed g c = grind (arith, elements)

pub returns-in-Err-clause-part : goal.returns-in-Err-clause-part
returns-in-Err-clause-part g c = grind (arith, common_steps)

pub returns-in-Ok-eq0-clause-failed : goal.returns-in-Ok-eq0-clause-failed
returns-in-Ok-eq0-clause-failed g c = grind (arith, elements)

pub returns-in-Err-clause-once : goal.returns-in-Err-clause-once
returns-in-Err-clause-once g c = grind (arith, common_steps)

pub returns-in-Ok-eq0-clause-whole : goal.returns-in-Ok-eq0-clause-whole
returns-in-Ok-eq0-clause-whole g c = grind (arith, elements)

pub returns-in-Ok-eq0-clause-once : goal.returns-in-Ok-eq0-clause-once
returns-in-Ok-eq0-clause-once g c = grind (arith, elements)

pub returns-in-Err-clause-unfailed : goal.returns-in-Err-clause-unfailed
returns-in-Err-clause-unfailed g c = grind (arith, common_steps)

pub returns-clause-whole : goal.returns-clause-whole
returns-clause-whole g c = grind (arith, common_steps)

pub returns-in-Err-clause-whole : goal.returns-in-Err-clause-whole
returns-in-Err-clause-whole g c = grind (arith, common_steps)

pub returns-in-Ok-eq0-clause-part : goal.returns-in-Ok-eq0-clause-part
returns-in-Ok-eq0-clause-part g c = grind (arith, common_steps)

pub returns-in-Err-clause-failed : goal.returns-in-Err-clause-failed
returns-in-Err-clause-failed g c = grind (arith, common_steps)
