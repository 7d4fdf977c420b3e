use Rattle.std.proofs.Common.{◌∙◌, ◌≤◌, ◌<◌, ◌-◌, ℕ, List, arith, length, length-drop, take, drop, subst, ap, IfSome}
use Rattle.std.specs.Io.KnownBytes.{Consumes}
use Rattle.kmin_disk.proofs.ReadTexts.{consumes_next}
use Rattle.kmin_disk.proofs.Drafts.{rest_from}
use Rattle.kmin_disk.proofs.comparison.reads_as.Goals as goal

pub loop-agreed-preserved : goal.loop-agreed-preserved
loop-agreed-preserved g c =
    let n = c.loop-agreed.agreed in
    let text = c.args.bytes.now in
    let rest = take (length text - n) (drop n text) in
    let count = c.in-Some.count in
    let some = subst (λ agreed. IfSome agreed (λ k. (0 < k) × (k ≤ length rest))) c.in-Some.is c.in_ok-count.ensures.count in
    let before = g.S.Source.left c.loop-agreed.source in
    let after = g.S.Source.left c.read_expected.new.source in
    let gave = subst (λ agreed. IfSome agreed (λ k. Consumes before after (take k rest))) c.in-Some.is c.in_ok-count.ensures.equal in
    let next = subst (λ (r : List ℕ). Consumes before after (take count r)) (rest_from n text) gave in
    record {
      reads = consumes_next _ _ _ text n count c.loop-agreed.invariant.reads next;
      within = (let fits : count ≤ length rest = some.1 in
          let within = c.loop-agreed.invariant.within in let e = ap length (rest_from n text) in omega (arith, length-drop n text));
      unfailed = c.in_ok-count.ensures.failures ∙ c.loop-agreed.invariant.unfailed;
    }
