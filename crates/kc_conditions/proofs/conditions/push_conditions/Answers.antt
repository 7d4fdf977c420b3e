use Rattle.kc_conditions.proofs.Common.{◌≡◌, ◌<◌, ℕ, List, get_or, subst, sym, ap, arith, length, length-append, [], ◌∷◌, common_steps, take_all, AreAppended, grows_on, Exprs, Grows, grows_same, LineNodesExist, AttributeNodesExist, attribute_held, represents_on, All, CodeLine}
use Rattle.kc_conditions.proofs.Growth.{joined_on, after_more, none_after, there_on}
use Rattle.kc_conditions.proofs.conditions.push_conditions.Goals as goal

line_held : (old mid : Exprs) (lines : List CodeLine) (k : ℕ) (d : CodeLine) → Grows old mid → All (LineNodesExist old) lines → k < length lines
    → d ≡ get_or lines k d → AttributeNodesExist mid d.attribute
line_held old mid lines k d g held h e =
    subst (λ (l : CodeLine). AttributeNodesExist mid l.attribute) (sym e) (attribute_held old mid (get_or lines k d).attribute g (held k d h))

pub loop-line-init : goal.loop-line-init
loop-line-init c = record {
  grows = grows_same c.args.arena.now;
  appended = λ ds vs own j y. none_after c.args.arena.now c.args.conditions.now.items ds vs;
  longer = omega arith;
}

pub condition_of-requires-clause-dependencies : goal.condition_of-requires-clause-dependencies
condition_of-requires-clause-dependencies c =
    there_on c.args.arena.now c.loop-line.arena c.loop-line.invariant.grows c.args.entry.now.dependencies c.requires.dependencies

pub condition_of-requires-clause-shown : goal.condition_of-requires-clause-shown
condition_of-requires-clause-shown c = there_on c.args.arena.now c.loop-line.arena c.loop-line.invariant.grows c.args.entry.now.shown c.requires.shown

pub condition_of-requires-clause-held : goal.condition_of-requires-clause-held
condition_of-requires-clause-held c =
    line_held c.args.arena.now c.loop-line.arena c.args.lines.now c.loop-line.line-index c.line-item.result c.loop-line.invariant.grows c.requires.held
    c.loop-line-test.true c.line-item.is

pub loop-line-preserved : goal.loop-line-preserved
loop-line-preserved c =
    let old = c.args.arena.now in
    let mid = c.loop-line.arena in
    let new = c.condition_of.new.arena in
    let inv = c.loop-line.invariant in
    record {
      grows = grows_on old mid new inv.grows c.condition_of.ensures.grows;
      appended = λ ds vs own j y.
          rw c.in_ok-push.ensures.items (after_more old mid new c.args.conditions.now.items c.loop-line.conditions.items ds vs c.args.lines.now
          c.loop-line.line-index c.in_ok-condition.condition c.line-item.result
          inv.grows c.condition_of.ensures.grows c.requires.held c.loop-line-test.true c.line-item.is (inv.appended ds vs own j y)
          (c.in_ok-condition.ensures.represents ds vs own (joined_on old mid inv.grows c.args.entry.now ds vs own j)
          (represents_on old mid c.args.yes _ inv.grows y)));
      longer = omega (arith, ap length c.in_ok-push.ensures.items, length-append c.loop-line.conditions.items (c.in_ok-condition.condition ∷ []), inv.longer);
    }

pub returns-clause-appended : goal.returns-clause-appended
returns-clause-appended c = λ ds vs own j y.
    subst (λ ls. AreAppended c.args.arena.now c.loop-line.arena c.args.conditions.now.items c.loop-line.conditions.items ds vs ls)
    (take_all c.loop-line.line-index c.args.lines.now c.loop-line-test.false) (c.loop-line.invariant.appended ds vs own j y)

pub returns-in_err-condition-clause-grows : goal.returns-in_err-condition-clause-grows
returns-in_err-condition-clause-grows c =
    grows_on c.args.arena.now c.loop-line.arena c.condition_of.new.arena c.loop-line.invariant.grows c.condition_of.ensures.grows

pub returns-in_err-push-clause-grows : goal.returns-in_err-push-clause-grows
returns-in_err-push-clause-grows c =
    grows_on c.args.arena.now c.loop-line.arena c.condition_of.new.arena c.loop-line.invariant.grows c.condition_of.ensures.grows

pub returns-clause-grows : goal.returns-clause-grows
returns-clause-grows c = c.loop-line.invariant.grows

pub returns-clause-longer : goal.returns-clause-longer
returns-clause-longer c = grind (arith, common_steps)
