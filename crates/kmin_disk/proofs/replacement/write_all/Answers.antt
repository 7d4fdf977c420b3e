use Rattle.std.proofs.Common.{rules, ◌≡◌, ◌-◌, ◌<◌, ◌≤◌, ◌∙◌, List, ℕ, length, take, drop, ap, subst, arith, length-drop}
use Rattle.kmin_disk.specs.NewFiles.{Takes}
use Rattle.kmin_disk.proofs.Drafts.{takes_next, failures_after_write-some, rest_from}
use Rattle.kmin_disk.proofs.replacement.write_all.Goals as goal

pub loop-written-preserved : goal.loop-written-preserved
loop-written-preserved g c =
    let n = c.loop-written.written in
    let text = c.args.bytes.now in
    let rest = take (length text - n) (drop n text) in
    let is_rest : rest ≡ drop n text = rest_from n text in
    let count = c.in-Ok.count in
    let fits : count ≤ length rest = c.in-Ok.ensures.bound in
    let some : 0 < count = omega (arith, c.in-Ok.count-test.1) in
    let next = subst (λ (r : List ℕ). Takes (g.D.WriteDisk.draft c.loop-written.new) (g.D.WriteDisk.draft c.write_some.new.new) (take count r)) is_rest
    c.in-Ok.ensures.taken in
    record {
      within = (let within = c.loop-written.invariant.within in let e = ap length is_rest in omega (arith, length-drop n text));
      takes = takes_next _ _ _ text n count c.loop-written.invariant.takes next;
      state = c.in-Ok.ensures.same ∙ c.loop-written.invariant.state;
      failures = c.in-Ok.ensures.failures ∙ (failures_after_write-some _ count rest some ∙ c.loop-written.invariant.failures);
    }

pub returns-in-Err : goal.returns-in-Err
returns-in-Err g c = search rules

pub returns-in-Ok-eq0 : goal.returns-in-Ok-eq0
returns-in-Ok-eq0 g c = search rules
