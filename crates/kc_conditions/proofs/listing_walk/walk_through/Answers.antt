use Rattle.kc_conditions.proofs.Common.{◌≡◌, ◌-◌, length, get_or, drop, map, ap, sym, subst, ◌∙◌, arith, common_steps, All, slice_range, get_or_read, LineNodesExist, RepresentsHead, line_in, GroupHeadNodesExist, read_before, HasWalked, grows_on}
use Rattle.std.proofs.lemmas.List.Elements.{All-take, All-drop}
use Rattle.kc_parser.specs.declared.listing.Group.{Group as CodeGroup}
use Rattle.kc_parser.proofs.ListingGrowth.{lines_held}
use Rattle.kc_checks.specs.between.Summaries.{no_group, group_at, attributes_end}
use Rattle.kc_checks.proofs.GroupPlaces.{shown_at, count_is, none_before, all_before}
use Rattle.kc_conditions.proofs.WalkSteps.{what_on, what_held, lines_kept}
use Rattle.kc_conditions.proofs.listing_walk.walk_through.Goals as goal

pub loop-i-init : goal.loop-i-init
loop-i-init c = record {
  grows = c.in_ok-walk.ensures.grows;
  walked = λ names texts read h. subst (HasWalked c.args.language texts c.in_ok-walk.walk) (sym (none_before read)) (c.in_ok-walk.ensures.walked c.args.language texts);
}

pub lines_at-requires-clause-rising : goal.lines_at-requires-clause-rising
lines_at-requires-clause-rising c =
    let k = c.requires.shown in
    (shown_at c.args.arena k.0 k.1 c.args.lines.now c.args.groups.now k.2 k.3 c.loop-i.i c.loop-i-test.true).rising

pub lines_at-requires-clause-within : goal.lines_at-requires-clause-within
lines_at-requires-clause-within c =
    let k = c.requires.shown in
    (shown_at c.args.arena k.0 k.1 c.args.lines.now c.args.groups.now k.2 k.3 c.loop-i.i c.loop-i-test.true).within

pub visit-requires-clause-walked : goal.visit-requires-clause-walked
visit-requires-clause-walked c =
    let k = c.requires.shown in
    (k.1, read_before c.loop-i.i k.2, c.loop-i.invariant.walked k.0 k.1 k.2 k.3)

pub visit-requires-clause-head : goal.visit-requires-clause-head
visit-requires-clause-head c =
    let k = c.requires.shown in
    let s = shown_at c.args.arena k.0 k.1 c.args.lines.now c.args.groups.now k.2 k.3 c.loop-i.i c.loop-i-test.true in
    let own : get_or c.args.groups.now c.loop-i.i c.index-groups-i.result ≡ group_at c.args.groups.now c.loop-i.i = sym c.index-groups-i.is
    ∙ get_or_read c.args.groups.now _ _ c.loop-i-test.true c.index-groups-i.is no_group in
    subst (λ (g : CodeGroup). GroupHeadNodesExist (length c.loop-i.walk.arena.nodes) g.head) (sym own)
    (what_held c.loop-i.walk.arena k.0 k.1 _ _ (what_on c.args.arena c.loop-i.walk.arena k.0 k.1 _ _ c.loop-i.invariant.grows s.shown.head))

pub visit-requires-clause-lines : goal.visit-requires-clause-lines
visit-requires-clause-lines c =
    let begin = (group_at c.args.groups.now c.loop-i.i).attributes in
    let end = attributes_end c.args.groups.now c.args.lines.now c.loop-i.i in
    subst (All (LineNodesExist c.loop-i.walk.arena)) (sym c.lines_at.ensures.value)
    (lines_held c.args.arena c.loop-i.walk.arena c.loop-i.invariant.grows (slice_range c.args.lines.now begin end)
    (All-take (LineNodesExist c.args.arena) (end - begin) (drop begin c.args.lines.now)
    (All-drop (LineNodesExist c.args.arena) begin c.args.lines.now c.requires.held)))

pub loop-i-preserved : goal.loop-i-preserved
loop-i-preserved c = record {
  grows = grows_on c.args.arena c.loop-i.walk.arena c.visit.new.self.arena c.loop-i.invariant.grows c.visit.ensures.grows;
  walked = λ names texts read h.
      let begin = (group_at c.args.groups.now c.loop-i.i).attributes in
      let end = attributes_end c.args.groups.now c.args.lines.now c.loop-i.i in
      let s = shown_at c.args.arena names texts c.args.lines.now c.args.groups.now read h c.loop-i.i c.loop-i-test.true in
      let own : get_or c.args.groups.now c.loop-i.i c.index-groups-i.result ≡ group_at c.args.groups.now c.loop-i.i = sym c.index-groups-i.is
      ∙ get_or_read c.args.groups.now _ _ c.loop-i-test.true c.index-groups-i.is no_group in
      let what = subst (λ (g : CodeGroup). RepresentsHead c.loop-i.walk.arena names texts g.head s.group.head) (sym own)
      (what_on c.args.arena c.loop-i.walk.arena names texts _ _ c.loop-i.invariant.grows s.shown.head) in
      let kept = lines_kept c.args.arena c.loop-i.walk.arena (slice_range c.args.lines.now begin end) c.loop-i.invariant.grows
      (All-take (LineNodesExist c.args.arena) (end - begin) (drop begin c.args.lines.now)
      (All-drop (LineNodesExist c.args.arena) begin c.args.lines.now c.requires.held)) in
      let same_attributes : s.group.attributes ≡ map (line_in c.loop-i.walk.arena) c.lines_at.result.now = s.shown.attributes ∙ sym kept
      ∙ ap (map (line_in c.loop-i.walk.arena)) (sym c.lines_at.ensures.value) in
      subst (HasWalked c.args.language texts c.visit.new.self) (sym s.now) (c.in_ok-visit.ensures.walked names texts (read_before c.loop-i.i read) s.group
      (c.loop-i.invariant.walked names texts read h) what same_attributes);
}

pub returns-clause-walked : goal.returns-clause-walked
returns-clause-walked c = λ names texts read h.
    let n = count_is c.args.arena names texts c.args.lines.now c.args.groups.now read h in
    let i : c.loop-i.i ≡ length read = omega (arith, n, c.loop-i-test.false, c.loop-i.auto.i-end) in
    subst (HasWalked c.args.language texts c.loop-i.walk) (ap (λ k. read_before k read) i ∙ all_before read) (c.loop-i.invariant.walked names texts read h)

pub returns-clause-grows : goal.returns-clause-grows
returns-clause-grows c = grind (arith, common_steps)

pub bounds-groups-i : goal.bounds-groups-i
bounds-groups-i c = grind (arith, common_steps)

pub lines_at-requires-clause-here : goal.lines_at-requires-clause-here
lines_at-requires-clause-here c = grind (arith, common_steps)
