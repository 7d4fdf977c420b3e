use Rattle.kc_checks.proofs.Common.{◌≡◌, ◌||◌, Some, sym, ap, ◌∙◌, arith, common_steps, is_some, TreeFault, contents_of, prompt_of, attribute_faults, attribute_in}
use Rattle.kc_statements.proofs.AttributeViews.{is_prompt_same}
use Rattle.kc_checks.proofs.FaultKinds.{left_more, left_reported, left_none}
use Rattle.kc_checks.proofs.attribute_checks.first_symbol_fault.Goals as goal
use Rattle.kc_checks.proofs.attribute_checks.first_symbol_fault.Goals.{then-prompted, else-prompted}

pub returns-in-Some : goal.returns-in-Some
returns-in-Some c = record {
  fault = λ read g name h m f.
      let e = c.args.listing.now.names.arena in
      let l = c.index-lines-i.result in
      let faults = attribute_faults (contents_of read) name c.args.kind in
      let reported = left_reported e g faults c.loop-i.prompted c.args.lines.now c.loop-i.i l c.in-Some.kind (omega arith) c.index-lines-i.is
      (c.in-Some.ensures.fault read name h m) in
      ap Some (c.at_line.ensures ∙ ap (λ n. let t : TreeFault = record { file = Some n; line = l.number; kind = c.in-Some.kind } in t) (sym f))
      ∙ sym (c.loop-i.invariant read g name h m f ∙ reported);
}

pub loop-i-preserved : goal.loop-i-preserved
loop-i-preserved c = λ read g name h m f.
    let e = c.args.listing.now.names.arena in
    let l = c.index-lines-i.result in
    let prompts = is_some (prompt_of (attribute_in e l.attribute)) in
    let prompted : c.if-prompted.prompted ≡ (c.loop-i.prompted || prompts) =
    elim c.if-prompted.branch [
      | then-prompted w ↦ w.prompted-is ∙ w.if-prompted.true ∙ sym (ap (λ b. b || prompts) w.if-prompted.true)
      | else-prompted w ↦ w.prompted-is ∙ w.is_prompt-prompted.ensures ∙ is_prompt_same e l.attribute ∙ sym (ap (λ b. b || prompts) w.if-prompted.false)
    ] in
    c.loop-i.invariant read g name h m f
    ∙ left_more e g (attribute_faults (contents_of read) name c.args.kind) c.loop-i.prompted c.if-prompted.prompted c.args.lines.now c.loop-i.i l (omega arith)
    c.index-lines-i.is (c.in_default.ensures.fault read name h m) prompted

pub returns : goal.returns
returns c =
    record {
      fault = λ read g name h m f. sym (c.loop-i.invariant read g name h m f
          ∙ left_none c.args.listing.now.names.arena g (attribute_faults (contents_of read) name c.args.kind) c.loop-i.prompted c.args.lines.now c.loop-i.i
          (omega arith));
    }

pub symbol_attribute_fault-fault-requires-clause-symbols : goal.symbol_attribute_fault-fault-requires-clause-symbols
symbol_attribute_fault-fault-requires-clause-symbols c = grind (arith, common_steps)

pub symbol_attribute_fault-fault-requires-clause-held : goal.symbol_attribute_fault-fault-requires-clause-held
symbol_attribute_fault-fault-requires-clause-held c = grind (arith, common_steps)
