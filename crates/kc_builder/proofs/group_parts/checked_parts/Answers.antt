use Rattle.kc_builder.proofs.Common.{◌≡◌, ◌⊎◌, Err, IfErr, Some, rules, subst, sym, arith, slice_get, no_memory, tree_faults}
use Rattle.kc_checks.proofs.FaultSearch.{checked_all}
use Rattle.kc_builder.proofs.AssemblySteps.{faultless_of}
use Rattle.kc_builder.proofs.GroupPartSteps.{all_parts, no_parts, parts_more, represented_by, ArePartsTo}
use Rattle.kc_builder.proofs.group_parts.checked_parts.Goals as goal

pub started-requires-clause-shown : goal.started-requires-clause-shown
started-requires-clause-shown c =
    let w = c.args.walked.now in
    represented_by w.language w.listing w.groups.items w.conditions.items c.requires.walked.0 c.requires.walked.1

pub loop-i-init : goal.loop-i-init
loop-i-init c =
    let w = c.args.walked.now in
    record {
      before = c.in-Ok.ensures.checks w.language;
      parts = λ read k. subst (λ n. ArePartsTo w.language w.listing w.groups.items w.conditions.items read k 0 n c.in-Ok.state.1) (sym c.in-Ok.ensures.choices)
          (no_parts w.language w.listing w.groups.items w.conditions.items read k c.in-Ok.state.1 c.in-Ok.ensures.parts);
    }

pub loop-i-preserved : goal.loop-i-preserved
loop-i-preserved c =
    let w = c.args.walked.now in
    let e = c.in_ok-push_checked.ensures in
    record {
      before = e.after;
      parts = λ read k. parts_more w.language w.listing w.groups.items w.conditions.items read k c.loop-i.i c.loop-i.checks.choices _ c.loop-i.parts _
          (omega arith) (c.loop-i.invariant.before.counted read k.shows) e.choices e.group (c.loop-i.invariant.parts read k);
    }

pub returns-in_err-push_checked-clause-fault : goal.returns-in_err-push_checked-clause-fault
returns-in_err-push_checked-clause-fault c = λ read h.
    let fault = c.in_err-push_checked.field-0.0 in
    let returned : c.from_residual.result ≡ Err fault = search rules in
    subst (λ r. IfErr r (λ f. (f ≡ no_memory) ⊎ (Some f ≡ slice_get (tree_faults c.args.walked.now.language read) 0))) (sym returned)
    (c.in_err-push_checked.ensures.fault read h)

pub returns : goal.returns
returns c =
    let w = c.args.walked.now in
    let faultless = checked_all w.language w.listing c.loop-i.i c.loop-i.checks (omega arith) (omega arith) c.loop-i.invariant.before in
    record {
      faultless = faultless;
      parts = λ read k. all_parts w.language w.listing w.groups.items w.conditions.items read k c.loop-i.i c.loop-i.checks.choices c.loop-i.parts (omega arith)
          (c.loop-i.invariant.before.counted read k.shows) (faultless_of w.language read (faultless read k.shows)) (c.loop-i.invariant.parts read k);
      fault = λ read h. tt;
    }
