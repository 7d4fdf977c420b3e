use Rattle.kc_minimal.proofs.Common.{rules, ◌≡◌, ap, sym, ◌∙◌, map, filter_map, tree_of_settled, place_of, by_group}
use Rattle.std.proofs.lemmas.List.{map-id}
use Rattle.std.proofs.lemmas.Iterator.Consumers.{YieldsList-end}
use Rattle.std.proofs.lemmas.Iterator.Adapters.{YieldsList-from_vec}
use Rattle.kc_minimal.proofs.RangeLines.{found_next}
use Rattle.kc_minimal.proofs.choice_places.group_places.Goals as goal

pub loop-u-preserved : goal.loop-u-preserved
loop-u-preserved c =
    let own : c.deref.result.now ≡ c.in-Some.group.items = search rules in
    found_next place_of (by_group (tree_of_settled c.args.settled.now) c.args.values.now) c.loop-u.yielded (c.in-Some.u, c.in-Some.group)
    c.loop-u.found.items c.push_place.new.found.items c.loop-u.invariant (rw own at (rw c.in_ok-line.ensures.value at c.in_ok-push_place.ensures))

pub returns : goal.returns
returns c =
    let end = YieldsList-end (YieldsList-from_vec {s = c.into_iter-u-iterator.result} c.args.groups.items (search rules) (search rules))
    c.loop-u.yielded c.loop-u.u-iterator c.loop-u.yielded_by c.next.result c.next.new.self c.in-None.is c.next.ensures.steps in
    let all : c.loop-u.yielded ≡ c.args.groups.items = sym (map-id c.loop-u.yielded) ∙ end.0 in
    c.loop-u.invariant ∙ ap (λ es. map place_of (filter_map (by_group (tree_of_settled c.args.settled.now) c.args.values.now) es)) all
