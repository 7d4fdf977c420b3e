use Rattle.kc_macros.proofs.Common.{◌∙◌, ◌-◌, false, [], ◌∷◌, Some, length, take, drop, sym, ap, arith, rules, at_drop_all, returned, variable_of, pieces_left, reference, items, call_value, named_value, piece_values, ends, end_of, end_of_stop, texts_of_slices, values_left, paid, frame_items}
use Rattle.kc_macros.proofs.Common.{frame_place, frame_bindings, frame_names, frame_expander, frame_item, frame_value}
use Rattle.kc_macros.specs.declared.variable.Variable.TheVariants.{Recursive}
use Rattle.kc_macros.specs.checker.PartialValues.{items_from}
use Rattle.kc_macros.proofs.RunLemmas.{runs_out, passes_on, then_runs, stops_early}
use Rattle.kc_macros.proofs.ProgramLemmas.{runs_same, leads_same, leads_then, steps_stopped}
use Rattle.kc_macros.proofs.NameLemmas.{no_element}
use Rattle.kc_macros.proofs.CallLemmas.{pieces_at_first, argument_meant, first_and_rest, piece_front, piece_stopped, piece_found, pieces_found}
use Rattle.kc_macros.proofs.ExpansionLemmas.{fails_so, returns_so, begins_all, ends_all, item_after, item_stopped, item_step, item_short}
use Rattle.kc_macros.proofs.text_values.+expansion.Goals as goal

pub call_value-returns-then-is_empty : goal.call_value-returns-then-is_empty
call_value-returns-then-is_empty t c =
    let f = c.args.frame.now in
    fails_so c.args.run.now _ _ c.fault.result (ap (call_value (frame_expander f) (frame_place f) (frame_bindings f) (frame_names f))
    (no_element c.args.values.now (search rules))) c.fault.ensures

pub call_value-returns-in-None : goal.call_value-returns-in-None
call_value-returns-in-None t c =
    let f = c.args.frame.now in
    let vs = c.args.values.now in
    returns_so c.args.run.now _ _ (ap (call_value (frame_expander f) (frame_place f) (frame_bindings f) (frame_names f))
    (first_and_rest vs c.index-values-0.result (search rules) c.index-values-0.is ∙ ap (λ v. v ∷ take (length vs - 1) (drop 1 vs)) c.in-None.is))

pub piece_values-pieces-init : goal.piece_values-pieces-init
piece_values-pieces-init t c =
    let f = c.args.frame.now in
    leads_same c.args.run.now _ _ (pieces_at_first (frame_value f) (texts_of_slices c.args.pieces.now)
    ∙ ap (λ vs. pieces_left (frame_value f) vs (texts_of_slices c.args.pieces.now)) (sym c.new-values.ensures.items))

pub piece_values-returns-in_err-value : goal.piece_values-returns-in_err-value
piece_values-returns-in_err-value t c =
    let f = c.args.frame.now in
    passes_on _ _ _ _ c.in_err-value.field-0.0 _ c.from_residual.ensures.1
    (piece_stopped (frame_value f) c.args.run.now c.pieces.run (piece_values (frame_value f) (texts_of_slices c.args.pieces.now)) c.pieces.values.items
    c.expanded.new.run _ _ c.in_err-value.field-0.0 (piece_front (frame_value f) c.args.run.now c.pieces.run
    (piece_values (frame_value f) (texts_of_slices c.args.pieces.now)) c.pieces.values.items c.args.pieces.now c.pieces.piece-index
    (record { ref_ptr = (0, 0); now = [] }) (omega arith) c.pieces.invariant) c.in_err-value.ensures)

pub piece_values-returns-in_err-push : goal.piece_values-returns-in_err-push
piece_values-returns-in_err-push t c =
    let f = c.args.frame.now in
    runs_out _ _ _ _ _ c.from_residual-in_err-push.ensures.1

pub piece_values-pieces-preserved : goal.piece_values-pieces-preserved
piece_values-pieces-preserved t c =
    let f = c.args.frame.now in
    piece_found (frame_value f) c.args.run.now c.pieces.run
    (piece_values (frame_value f) (texts_of_slices c.args.pieces.now)) c.pieces.values.items c.expanded.new.run
    _ _ c.in_ok-value.value _ c.in_ok-push.ensures.items (piece_front (frame_value f) c.args.run.now c.pieces.run
    (piece_values (frame_value f) (texts_of_slices c.args.pieces.now)) c.pieces.values.items c.args.pieces.now c.pieces.piece-index
    (record { ref_ptr = (0, 0); now = [] }) (omega arith) c.pieces.invariant) c.in_ok-value.ensures

pub piece_values-returns : goal.piece_values-returns
piece_values-returns t c =
    let f = c.args.frame.now in
    pieces_found (frame_value f) c.args.run.now c.pieces.run _ c.pieces.values.items _
    (at_drop_all texts_of_slices c.args.pieces.now c.pieces.piece-index (omega arith)) c.pieces.invariant

pub text_items-items-init : goal.text_items-items-init
text_items-items-init t c =
    let f = c.args.frame.now in
    record {
      within = omega (arith, ap length c.empty_value-out.ensures.bytes);
      left = begins_all (frame_place f) (frame_item f) c.args.run.now c.empty_value-out.result.known c.empty_value-out.result.bytes.items
          (items false 0 c.args.text.now) c.empty_value-out.ensures.known c.empty_value-out.ensures.bytes;
    }

pub push_reference-returns-in_err-value-clause-steps : goal.push_reference-returns-in_err-value-clause-steps
push_reference-returns-in_err-value-clause-steps t c = λ is.
    let f = c.args.frame.now in
    steps_stopped _ _ _ _ c.in_err-value.field-0.0 _ c.from_residual.ensures.1
    (item_stopped (frame_place f) (frame_item f) c.args.run.now c.args.out.now.known c.args.out.now.bytes.items (reference c.args.inside.now) is
    c.reference_value.new.run c.in_err-value.field-0.0 c.in_err-value.ensures)

pub push_reference-returns-clause-steps : goal.push_reference-returns-clause-steps
push_reference-returns-clause-steps t c = λ is.
    let f = c.args.frame.now in
    item_step (frame_place f) (frame_item f) c.args.run.now c.args.out.now.known c.args.out.now.bytes.items (reference c.args.inside.now) is
    c.reference_value.new.run c.in_ok-value.value c.push_value.new.out.known c.push_value.new.out.bytes.items c.push_value.result c.in_ok-value.ensures
    c.push_value.ensures.small c.push_value.ensures.known c.push_value.ensures.bytes c.push_value.ensures.err

pub push_reference-returns-clause-small : goal.push_reference-returns-clause-small
push_reference-returns-clause-small t c =
    let f = c.args.frame.now in
    item_short (frame_place f) (frame_item f) c.args.run.now c.args.out.now.known c.args.out.now.bytes.items (reference c.args.inside.now) []
    c.in_ok-value.value c.push_value.new.out.bytes.items c.push_value.result c.push_value.ensures.small c.push_value.ensures.bytes

pub text_items-returns : goal.text_items-returns
text_items-returns t c =
    let f = c.args.frame.now in
    let o = c.next_reference.new.out in
    ends_all (frame_place f) (frame_item f) c.items.run o.known o.bytes.items c.args.run.now _ (items_from c.in_ok-inside.field-0) _
    (ap items_from c.in_default.is) c.value_if_known.ensures (leads_then c.args.run.now c.items.run c.items.run (frame_items f c.args.text.now)
    (values_left (frame_place f) (frame_item f) c.items.out.known c.items.out.bytes.items (items false 0 c.items.rest.now))
    (values_left (frame_place f) (frame_item f) o.known o.bytes.items (items_from c.in_ok-inside.field-0))
    c.items.invariant.left (c.in_ok-inside.ensures.steps c.items.run))

pub text_items-returns-in_err-inside : goal.text_items-returns-in_err-inside
text_items-returns-in_err-inside t c =
    passes_on _ _ _ _ c.in_err-inside.field-0.0 _ c.from_residual.ensures.1
    (c.items.invariant.left.leads c.items.run (end_of_stop c.in_err-inside.field-0.0) (c.in_err-inside.ensures.steps c.items.run))

pub text_items-returns-in_err-push_reference : goal.text_items-returns-in_err-push_reference
text_items-returns-in_err-push_reference t c =
    let f = c.args.frame.now in
    let o = c.next_reference.new.out in
    let u = c.push_reference.new.run in
    let stop = c.in_err-push_reference.field-0.0 in
    passes_on _ _ _ _ stop _ c.from_residual-in_err-push_reference.ensures.1
    (c.items.invariant.left.leads u (end_of_stop stop) ((c.in_ok-inside.ensures.steps c.items.run).leads u (end_of_stop stop)
    (runs_same c.items.run u (values_left (frame_place f) (frame_item f) o.known o.bytes.items (items_from c.in_ok-inside.field-0))
    (values_left (frame_place f) (frame_item f) o.known o.bytes.items (items_from (Some (c.in-Some.inside, c.in-Some.after)))) (end_of_stop stop)
    (ap (λ r. values_left (frame_place f) (frame_item f) o.known o.bytes.items (items_from r)) c.in-Some.is)
    (c.in_err-push_reference.ensures.steps (items false 0 c.in-Some.after.now)))))

pub text_items-items-preserved : goal.text_items-items-preserved
text_items-items-preserved t c =
    let f = c.args.frame.now in
    let o = c.next_reference.new.out in
    record {
      within = c.in_ok-push_reference.ensures.small;
      left = item_after (frame_place f) (frame_item f) c.args.run.now c.items.run c.push_reference.new.run (frame_items f c.args.text.now)
          (values_left (frame_place f) (frame_item f) c.items.out.known c.items.out.bytes.items (items false 0 c.items.rest.now)) o.known o.bytes.items
          (items_from c.in_ok-inside.field-0) (items_from (Some (c.in-Some.inside, c.in-Some.after)))
          (values_left (frame_place f) (frame_item f) c.push_reference.new.out.known c.push_reference.new.out.bytes.items (items false 0 c.in-Some.after.now))
          (ap items_from c.in-Some.is) c.items.invariant.left (c.in_ok-inside.ensures.steps c.items.run)
          (c.in_ok-push_reference.ensures.steps (items false 0 c.in-Some.after.now));
    }

pub expanded-returns-in_err-inner : goal.expanded-returns-in_err-inner
expanded-returns-in_err-inner t c = passes_on _ _ _ _ c.in_err-inner.field-0.0 _ c.from_residual.ensures.1 c.in_err-inner.ensures.steps

pub expanded-returns-in_err-value : goal.expanded-returns-in_err-value
expanded-returns-in_err-value t c =
    let i = c.in_ok-inner.inner in
    let stop = c.in_err-value.field-0.0 in
    passes_on _ _ _ _ stop _ c.from_residual-in_err-value.ensures.1
    (c.in_ok-inner.ensures.steps.leads c.text_items.new.run (end_of_stop stop)
    (stops_early c.inner_frame.new.run c.text_items.new.run (frame_items i c.args.text.now) (paid (frame_place i)) stop c.in_err-value.ensures))

pub expanded-returns : goal.expanded-returns
expanded-returns t c =
    let i = c.in_ok-inner.inner in
    c.in_ok-inner.ensures.steps.leads c.paid_value.new.run (end_of (λ v. v) c.paid_value.result)
    (then_runs c.inner_frame.new.run c.text_items.new.run (frame_items i c.args.text.now) (paid (frame_place i)) c.in_ok-value.value
    c.paid_value.new.run (end_of (λ v. v) c.paid_value.result) c.in_ok-value.ensures c.paid_value.ensures)

pub named_value-returns-in-Some-Simple : goal.named_value-returns-in-Some-Simple
named_value-returns-in-Some-Simple t c =
    let f = c.args.frame.now in
    let s = c.args.run.now in
    runs_same s s (named_value (frame_expander f) (frame_place f) (frame_names f) c.args.name.now c.args.args.now (frame_bindings f c.args.name.now)) _
    (end_of (λ v. v) c.copied_value.result)
    (ap (named_value (frame_expander f) (frame_place f) (frame_names f) c.args.name.now c.args.args.now)
    (sym c.in-Some-Simple.ensures ∙ ap (λ v. Some (variable_of v)) c.in-Some-Simple.field-0-is)) (c.copied_value.ensures s)

pub named_value-returns-in_err-names-in-Some-Recursive : goal.named_value-returns-in_err-names-in-Some-Recursive
named_value-returns-in_err-names-in-Some-Recursive t c =
    let f = c.args.frame.now in
    let s = c.args.run.now in
    let stop = c.in_err-names-in-Some-Recursive.field-0.0 in
    let value = named_value (frame_expander f) (frame_place f) (frame_names f) c.args.name.now c.args.args.now in
    passes_on _ _ _ _ stop _ c.from_residual.ensures.1
    (runs_same s s (value (frame_bindings f c.args.name.now)) (value (Some (variable_of (Recursive c.in-Some-Recursive.text)))) (end_of_stop stop)
    (ap value (sym c.in-Some-Recursive.ensures ∙ ap (λ v. Some (variable_of v)) c.in-Some-Recursive.field-0-is))
    (c.in_err-names-in-Some-Recursive.ensures (frame_expander f) s c.in-Some-Recursive.text))

pub named_value-returns-in_ok-names-in-Some-Recursive : goal.named_value-returns-in_ok-names-in-Some-Recursive
named_value-returns-in_ok-names-in-Some-Recursive t c =
    let f = c.args.frame.now in
    let s = c.args.run.now in
    let u = c.expanded.new.run in
    let e = end_of (λ v. v) c.expanded.result in
    let value = named_value (frame_expander f) (frame_place f) (frame_names f) c.args.name.now c.args.args.now in
    let expander = frame_expander f (texts_of_slices c.in_ok-names-in-Some-Recursive.names.items) c.args.args.now in
    runs_same s u (value (frame_bindings f c.args.name.now)) (value (Some (variable_of (Recursive c.in-Some-Recursive.text)))) e
    (ap value (sym c.in-Some-Recursive.ensures ∙ ap (λ v. Some (variable_of v)) c.in-Some-Recursive.field-0-is))
    ((c.in_ok-names-in-Some-Recursive.ensures (frame_expander f) s c.in-Some-Recursive.text).leads u e
    (runs_same s u (expander c.in-Some-Recursive.text)
    (frame_expander f (texts_of_slices c.as_slice.result.now) c.args.args.now c.as_slice-in-Some-Recursive.result.now) e
    (ap expander (sym c.as_slice-in-Some-Recursive.ensures) ∙ ap (λ ns. frame_expander f (texts_of_slices ns) c.args.args.now c.as_slice-in-Some-Recursive.result.now) (sym c.as_slice.ensures.value))
    c.expanded.ensures))

pub reference_value-returns-in-Some : goal.reference_value-returns-in-Some
reference_value-returns-in-Some t c =
    let f = c.args.frame.now in
    let s = c.args.run.now in
    runs_same s s (frame_item f (reference c.args.inside.now)) _ (end_of (λ v. v) c.copied_value.result)
    (argument_meant (frame_expander f) (frame_place f) (frame_bindings f) (frame_names f) f.args.now c.args.inside.now _
    (sym c.in-Some.ensures)) (c.copied_value.ensures s)

pub reference_value-reference_pieces-requires : goal.reference_value-reference_pieces-requires
reference_value-reference_pieces-requires t c = record { no_argument = sym c.in_default.ensures }

pub reference_value-returns-in_err-pieces : goal.reference_value-returns-in_err-pieces
reference_value-returns-in_err-pieces t c =
    passes_on _ _ _ _ c.in_err-pieces.field-0.0 _ c.from_residual.ensures.1 (c.in_err-pieces.ensures c.args.run.now)

pub reference_value-returns-in_err-values : goal.reference_value-returns-in_err-values
reference_value-returns-in_err-values t c =
    let f = c.args.frame.now in
    let stop = c.in_err-values.field-0.0 in
    let s = c.args.run.now in
    let u = c.piece_values.new.run in
    passes_on _ _ _ _ stop _ c.from_residual-in_err-values.ensures.1 ((c.in_ok-pieces.ensures s).leads u (end_of_stop stop)
    (stops_early s u (piece_values (frame_value f) (texts_of_slices c.in_ok-pieces.pieces.items))
    (call_value (frame_expander f) (frame_place f) (frame_bindings f) (frame_names f)) stop
    (runs_same s u (piece_values (frame_value f) (texts_of_slices c.in_ok-pieces.pieces.items))
    (piece_values (frame_value f) (texts_of_slices c.as_slice.result.now)) (end_of_stop stop)
    (ap (λ ps. piece_values (frame_value f) (texts_of_slices ps)) (sym c.as_slice.ensures.value)) c.in_err-values.ensures)))

pub reference_value-returns : goal.reference_value-returns
reference_value-returns t c =
    let f = c.args.frame.now in
    let s = c.args.run.now in
    let u = c.piece_values.new.run in
    let v = c.call_value.new.run in
    let vs = c.in_ok-values.values.items in
    let e = end_of (λ x. x) c.call_value.result in
    let call = call_value (frame_expander f) (frame_place f) (frame_bindings f) (frame_names f) in
    (c.in_ok-pieces.ensures s).leads v e
    (then_runs s u (piece_values (frame_value f) (texts_of_slices c.in_ok-pieces.pieces.items)) call vs v e
    (runs_same s u (piece_values (frame_value f) (texts_of_slices c.in_ok-pieces.pieces.items))
    (piece_values (frame_value f) (texts_of_slices c.as_slice.result.now)) (ends (returned vs))
    (ap (λ ps. piece_values (frame_value f) (texts_of_slices ps)) (sym c.as_slice.ensures.value)) c.in_ok-values.ensures)
    (runs_same u v (call vs) (call c.as_slice-2.result.now) e (ap call (sym c.as_slice-2.ensures.value)) c.call_value.ensures))
