use Rattle.std.proofs.Common.{◌∙◌, sym, arith}
use Rattle.kc_macros.proofs.PieceLemmas.{inside_here, inside_later, inside_never}
use Rattle.kc_macros.proofs.references.inside_length.Goals as goal

pub bytes-preserved : goal.bytes-preserved
bytes-preserved c = record {
  few = let h = c.open_after-depth.ensures.few in let few = c.bytes.invariant.few in omega arith;
  same = rw c.open_after-depth.ensures.value (inside_later c.args.text.now c.bytes.i c.bytes.depth (omega arith)
      (sym c.is_outside.ensures ∙ c.if-is_outside.false) c.bytes.invariant.same);
}

pub returns-then-is_outside-clause-value : goal.returns-then-is_outside-clause-value
returns-then-is_outside-clause-value c = sym (inside_here c.args.text.now c.bytes.i c.bytes.depth (omega arith)
    (sym c.is_outside.ensures ∙ c.if-is_outside.true) c.bytes.invariant.same)

pub returns-clause-value : goal.returns-clause-value
returns-clause-value c = sym (inside_never c.args.text.now c.bytes.i c.bytes.depth (omega arith) c.bytes.invariant.same)
