use Rattle.kc_symbol_lines.proofs.Common.{◌≡◌, ◌<◌, length, ap, sym, ◌∙◌, subst, arith, get_or_read, RepresentsHead, names_defined, no_group, group_at, shown_at, count_is, HasBlocksTo, block_after, CodeGroup}
use Rattle.kc_symbol_lines.proofs.BlockLaws.{walked_more}
use Rattle.kc_symbol_lines.proofs.blocks.innermost_blocks.Goals as goal

pub loop-i-preserved : goal.loop-i-preserved
loop-i-preserved c = λ exprs read h.
    let lines = c.args.lines.now in
    let within : c.loop-i.i < length lines.groups.items = omega (arith, c.loop-i-test.true, c.len-i-end.ensures) in
    let s = shown_at exprs (names_defined read) h.texts lines.lines.items lines.groups.items read h.groups_are c.loop-i.i within in
    let own : c.index.result.now ≡ group_at lines.groups.items c.loop-i.i = get_or_read lines.groups.items _ _ within c.index.ensures no_group in
    let head = subst (λ (g : CodeGroup). RepresentsHead exprs (names_defined read) h.texts g.head s.group.head) (sym own) s.shown.head in
    walked_more c.loop-i.i c.loop-i.blocks.items c.loop-i.block read s.group (c.loop-i.invariant exprs read h) s.shown.number_is s.now
    exprs (names_defined read) h.texts c.index.result.now.head c.push.new.self.items c.block_after-block.result head c.in_ok-push.ensures.items
    (c.block_after-block.ensures ∙ ap (λ bs. block_after bs c.loop-i.block c.index.result.now.head c.loop-i.i) c.deref.ensures.value)

pub returns : goal.returns
returns c = record {
  ok = λ exprs read h.
      let lines = c.args.lines.now in
      let n = count_is exprs (names_defined read) h.texts lines.lines.items lines.groups.items read h.groups_are in
      let i : c.loop-i.i ≡ _ = omega (arith, n, c.loop-i-test.false, c.loop-i.auto.i-end, c.len-i-end.ensures) in
      subst (λ k. HasBlocksTo k c.loop-i.blocks.items read) i (c.loop-i.invariant exprs read h).before;
}
