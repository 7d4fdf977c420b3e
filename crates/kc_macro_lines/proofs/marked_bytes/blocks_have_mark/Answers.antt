use Rattle.std.proofs.Common.{◌-◌, length, sym, ◌∙◌, arith}
use Rattle.kc_macro_lines.proofs.MarkLemmas.{block_passed, block_found, last_block}
use Rattle.kc_macro_lines.proofs.marked_bytes.blocks_have_mark.Goals as goal

pub returns-then-block_has_mark : goal.returns-then-block_has_mark
returns-then-block_has_mark c = sym (block_found c.args.text.now c.loop-at.at (sym c.block_has_mark.ensures ∙ c.if-block_has_mark.true))

pub loop-at-preserved : goal.loop-at-preserved
loop-at-preserved c = record {
  none = block_passed c.args.text.now c.loop-at.at c.loop-at.invariant.none (sym c.block_has_mark.ensures ∙ c.if-block_has_mark.false);
  within = omega arith;
}

pub returns : goal.returns
returns c =
    c.block_has_mark-2.ensures
    ∙ last_block c.args.text.now c.loop-at.at (length c.args.text.now - 16) (omega arith) (omega arith) c.loop-at.invariant.none
