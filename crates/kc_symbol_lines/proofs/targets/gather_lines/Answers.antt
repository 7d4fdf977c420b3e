use Rattle.kc_symbol_lines.proofs.Common.{◌≡◌, ◌<◌, length, ap, sym, ◌∙◌, arith, get_or_read, names_defined, no_group, group_at, count_is, CodeGroup}
use Rattle.kc_parser.specs.declared.listing.GroupHead.TheVariants as codes
use Rattle.kc_symbol_lines.proofs.TargetLaws.{gathered_definition, gathered_other, gathered_whole}
use Rattle.kc_symbol_lines.proofs.targets.gather_lines.Goals as goal
use Rattle.kc_symbol_lines.proofs.targets.gather_lines.Goals.{in-Config+in_ok-push_definition, in_default}

pub loop-i-preserved : goal.loop-i-preserved
loop-i-preserved c = λ read tree_is h.
    let t = c.args.tree.now in
    let lines = c.args.lines.now in
    let within : c.loop-i.i < length lines.groups.items = omega (arith, c.loop-i-test.true, c.len-i-end.ensures) in
    let own : c.index.result.now ≡ group_at lines.groups.items c.loop-i.i = get_or_read lines.groups.items _ _ within c.index.ensures no_group in
    let group = ap (λ (g : CodeGroup). g.head) own in
    elim c.match-index.branch [
      | in-Config+in_ok-push_definition w ↦ (
          let again : w.index-in-Config.result.now ≡ group_at lines.groups.items c.loop-i.i = get_or_read lines.groups.items _ _ within w.index-in-Config.ensures no_group in
          let more = rw (w.lines_at-own.ensures.value, again) at w.in_ok-push_definition.ensures in
          rw w.found-is (gathered_definition t lines read tree_is h c.loop-i.i w.in-Config.s c.loop-i.found w.push_definition.new.found within
          (sym group ∙ w.in-Config.is) (c.loop-i.invariant read tree_is h) more)
          )
      | in_default w ↦ rw w.found-is (gathered_other t lines read h c.loop-i.i c.loop-i.found within (λ s a. w.in_default.not-Config s (group ∙ a))
          (c.loop-i.invariant read tree_is h))
    ]

pub returns : goal.returns
returns c = record {
  ok = λ read tree_is h.
      let lines = c.args.lines.now in
      let n = count_is c.args.tree.now.exprs (names_defined read) h.texts lines.lines.items lines.groups.items read h.groups_are in
      gathered_whole read c.loop-i.i c.loop-i.found (omega (arith, n, c.loop-i-test.false, c.loop-i.auto.i-end, c.len-i-end.ensures)) (c.loop-i.invariant read tree_is h);
}
