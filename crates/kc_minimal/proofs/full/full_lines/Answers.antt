use Rattle.kc_minimal.proofs.Common.{◌≡◌, ◌<◌, ◌≤◌, ◌+◌, ◌∙◌, false, length, drop, replicate, refl, ap, subst, arith, IfOk-from_err, tree_of_settled, tree_model_of, file_format, Draft, IsDraft}
use Rattle.std.proofs.Math.ListN.{drop_of_length-le}
use Rattle.std.proofs.lemmas.List.{length-replicate}
use Rattle.kc_tree.specs.between.Views.{entry_view}
use Rattle.kc_minimal.proofs.DraftSteps.{next_left, begun, written}
use Rattle.kc_minimal.proofs.full.full_lines.Goals as goal

pub loop-i-preserved : goal.loop-i-preserved
loop-i-preserved c =
    let held = tree_model_of c.args.settled.now in
    let tree = tree_of_settled c.args.settled.now in
    let entry = entry_view held.exprs c.entry.result in
    let next = next_left tree.entries c.loop-i.i entry (rw c.tree-tree.ensures.tree at c.entry.ensures.entry) in
    record {
      marks = c.push_entry.ensures.marks ∙ c.loop-i.invariant.marks;
      draft = c.in_ok-push_entry.ensures.goes (drop (c.loop-i.i + 1) tree.entries)
          (subst (λ l. IsDraft (file_format c.args.format.now) tree c.args.values.now l c.loop-i.draft) next c.loop-i.invariant.draft);
    }

pub loop-i-init : goal.loop-i-init
loop-i-init c =
    let tree = tree_of_settled c.args.settled.now in
    let draft : Draft = record { text = c.new.result; defined = c.in_ok-defined.defined; gap = false } in
    let count : c.symbol_count.result ≡ length tree.symbols = c.symbol_count.ensures ∙ ap (λ t. length t.tree.symbols) c.tree-tree.ensures.tree in
    let unmarked : draft.defined.items ≡ replicate (length tree.symbols) false = c.in_ok-defined.ensures.items_if_clones_equal (λ y e. e)
    ∙ ap (λ n. replicate n false) count in
    record {
      marks = ap length unmarked ∙ length-replicate (length tree.symbols) false;
      draft = begun (file_format c.args.format.now) tree c.args.values.now draft c.new.ensures.items unmarked refl;
    }

pub entry-requires : goal.entry-requires
entry-requires c = record { there = subst (λ n. c.loop-i.i < n) c.entry_count-i-end.ensures c.loop-i-test.true }

pub push_entry-requires-clause-entry : goal.push_entry-requires-clause-entry
push_entry-requires-clause-entry c = rw c.tree-tree.ensures.tree at c.entry.ensures.fits

pub push_entry-requires-clause-marks : goal.push_entry-requires-clause-marks
push_entry-requires-clause-marks c = c.loop-i.invariant.marks

pub returns-in_err-defined : goal.returns-in_err-defined
returns-in_err-defined c = IfOk-from_err c.from_residual.result _ c.from_residual.ensures.0

pub returns-in_err-push_entry : goal.returns-in_err-push_entry
returns-in_err-push_entry c = IfOk-from_err c.from_residual-in_err-push_entry.result _ c.from_residual-in_err-push_entry.ensures.0

pub returns : goal.returns
returns c =
    let tree = tree_of_settled c.args.settled.now in
    let count : c.entry_count-i-end.result ≡ length tree.entries = c.entry_count-i-end.ensures ∙ ap (λ t. length t.tree.entries) c.tree-tree.ensures.tree in
    let over : length tree.entries ≤ c.loop-i.i = omega (arith, c.loop-i-test.false, count) in
    written (file_format c.args.format.now) tree c.args.values.now c.loop-i.draft (drop c.loop-i.i tree.entries) (drop_of_length-le tree.entries over)
    c.loop-i.invariant.draft
