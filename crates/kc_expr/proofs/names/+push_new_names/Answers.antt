use Rattle.kc_expr.proofs.Common.{refl, node_expr, ◌<◌, ◌||◌, length, ap, sym, ◌∙◌, arith, common_steps, on_ok_weaker, mentions, passes_some_name, exprs_in, kept_through}
use Rattle.kc_expr.proofs.StoreLemmas.{node_of, fits_at, of_part, part_below}
use Rattle.kc_expr.proofs.VisitLemmas.{mentions_joined, some_pushed, walk_visited, walk_one, walk_two}
use Rattle.kc_expr.proofs.names.+push_new_names.Goals as goal

pub returns-in-Alone-clause-walked : goal.returns-in-Alone-clause-walked
returns-in-Alone-clause-walked t c =
    let exprs = exprs_in c.args.store.now in
    let there : c.args.index < length c.args.walk.now = omega (arith, c.requires.room, c.requires.there) in
    let e = node_of c.args.store.now c.down.at _ _ c.requires.sound (omega arith) c.node.ensures.value c.in-Alone.is in
    rw c.mark.ensures.marked (on_ok_weaker c.push_name.result (λ w. walk_visited exprs c.args.index c.args.walk.now c.args.found.now.items c.down.at c.down.walk
    c.down.found.items there c.down.invariant.walking c.push_name.new.found.items
    (λ p. some_pushed exprs p c.down.found.items c.push_name.new.found.items _ w ∙ ap (λ x. passes_some_name exprs p c.down.found.items || mentions p x)
    (sym e))) c.push_name.ensures.words)

pub returns-in-Related-clause-walked : goal.returns-in-Related-clause-walked
returns-in-Related-clause-walked t c =
    let exprs = exprs_in c.args.store.now in
    let there : c.args.index < length c.args.walk.now = omega (arith, c.requires.room, c.requires.there) in
    let e = node_of c.args.store.now c.down.at _ _ c.requires.sound (omega arith) c.node.ensures.value c.in-Related.is in
    rw c.mark.ensures.marked (on_ok_weaker c.push_sides.result (λ w. walk_visited exprs c.args.index c.args.walk.now c.args.found.now.items c.down.at c.down.walk
    c.down.found.items there c.down.invariant.walking c.push_sides.new.found.items
    (λ p. some_pushed exprs p c.down.found.items c.push_sides.new.found.items _ w ∙ ap (λ x. passes_some_name exprs p c.down.found.items || mentions p x)
    (sym e))) c.push_sides.ensures.words)

pub returns-in-Alone-clause-held : goal.returns-in-Alone-clause-held
returns-in-Alone-clause-held t c = on_ok_weaker c.push_name.result (λ h all. h (c.down.invariant.held all)) c.push_name.ensures.held

pub returns-in-Related-clause-held : goal.returns-in-Related-clause-held
returns-in-Related-clause-held t c = on_ok_weaker c.push_sides.result (λ h all. h (c.down.invariant.held all)) c.push_sides.ensures.held

pub down-preserved : goal.down-preserved
down-preserved t c =
    let there : c.args.index < length c.args.walk.now = omega (arith, c.requires.room, c.requires.there) in
    let below = part_below c.args.store.now c.down.at c.in-Negated.part _ c.requires.sound (omega arith) c.node.ensures.value c.in-Negated.is in
    record {
      walking = rw c.mark.ensures.marked (walk_one (exprs_in c.args.store.now) c.args.index c.args.walk.now c.args.found.now.items c.down.at c.down.walk
          c.down.found.items there c.down.invariant.walking c.in-Negated.part below
          (λ p. of_part c.args.store.now c.down.at c.in-Negated.part _ c.requires.sound (omega arith) c.node.ensures.value (mentions p) (λ e. refl) (λ e. refl) c.in-Negated.is));
      held = c.down.invariant.held;
      kept = c.down.invariant.kept;
    }

pub down-preserved-in-Joined-1 : goal.down-preserved-in-Joined-1
down-preserved-in-Joined-1 t c =
    let there : c.args.index < length c.args.walk.now = omega (arith, c.requires.room, c.requires.there) in
    let e = node_of c.args.store.now c.down.at _ _ c.requires.sound (omega arith) c.node.ensures.value c.in-Joined.is in
    let f = fits_at c.args.store.now c.down.at _ _ c.requires.sound (omega arith) c.node.ensures.value c.in-Joined.is in
    record {
      walking = walk_two (exprs_in c.args.store.now) c.args.index c.args.walk.now c.args.found.now.items c.down.at c.down.walk c.down.found.items there
          c.down.invariant.walking c.in-Joined.left c.in-Joined.right c.push_new_names.new.walk c.push_new_names.new.found.items f.0 f.1
          (λ p. ap (mentions p) e ∙ mentions_joined p c.in-Joined.field-0 (node_expr (exprs_in c.args.store.now) c.in-Joined.left) (node_expr (exprs_in c.args.store.now) c.in-Joined.right)) (rw c.mark.ensures.marked at c.in_ok-push_new_names-in-Joined.ensures.walked);
      held = λ all. c.in_ok-push_new_names-in-Joined.ensures.held (c.down.invariant.held all);
      kept = kept_through c.args.found.now.items c.down.found.items _ c.down.invariant.kept c.in_ok-push_new_names-in-Joined.ensures.kept;
    }

pub mark-requires : goal.mark-requires
mark-requires t c = omega arith

pub down-init : goal.down-init
down-init t c = grind (arith, common_steps)

pub node-requires : goal.node-requires
node-requires t c = omega arith

pub returns-in-Alone-clause-kept : goal.returns-in-Alone-clause-kept
returns-in-Alone-clause-kept t c = grind (arith, common_steps)

pub returns-then-contains-clause-held : goal.returns-then-contains-clause-held
returns-then-contains-clause-held t c = grind (arith, common_steps)

pub push_name-requires : goal.push_name-requires
push_name-requires t c = grind (arith, common_steps)

pub returns-in-Related-clause-kept : goal.returns-in-Related-clause-kept
returns-in-Related-clause-kept t c = grind (arith, common_steps)

pub returns-in_err-push_new_names-in-Joined-clause-kept : goal.returns-in_err-push_new_names-in-Joined-clause-kept
returns-in_err-push_new_names-in-Joined-clause-kept t c = grind (arith, common_steps)

pub down-smaller : goal.down-smaller
down-smaller t c = grind (arith, common_steps)

pub push_new_names-requires : goal.push_new_names-requires
push_new_names-requires t c = grind (arith, common_steps)

pub down-smaller-in-Joined-1 : goal.down-smaller-in-Joined-1
down-smaller-in-Joined-1 t c = grind (arith, common_steps)
