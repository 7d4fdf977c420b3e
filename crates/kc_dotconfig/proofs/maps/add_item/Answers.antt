use Rattle.kc_dotconfig.proofs.Common.{rules, ◌≡◌, None, lookup, is_at, nat_cmp}
use Rattle.std.proofs.lemmas.Result.{on_ok_weaker}
use Rattle.kc_dotconfig.proofs.Groups.{items_put}
use Rattle.kc_dotconfig.proofs.maps.add_item.Goals as goal

pub returns : goal.returns
returns g c =
    let same = c.get_mut.follows.holds-at-none in
    let none : lookup (is_at (nat_cmp c.args.key)) c.args.groups.now.entries ≡ None = search rules in
    on_ok_weaker c.put.result
    (λ put. items_put _ c.args.groups.now.entries c.put.new.map.entries c.args.key c.in_ok-items.items c.args.item (rw same at put) c.in_ok-items.ensures none)
    c.put.ensures
