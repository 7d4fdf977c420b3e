use Rattle.kmin_faults.proofs.Common.{◌≡◌, ◌&&◌, ◌<◌, ◌∙◌, arith, length, sym, group_at, defines, is_typed}
use Rattle.kmin_faults.proofs.FoundPlaces.{find_next}
use Rattle.kmin_faults.proofs.first_places.first_typed.Goals as goal

pub loop-number-preserved : goal.loop-number-preserved
loop-number-preserved c =
    let listing = c.args.listing.now in
    let count : c.len-number-end.result ≡ length listing.groups.items = c.len-number-end.ensures ∙ listing.groups.ok.0 in
    let within : c.loop-number.number < length listing.groups.items = omega (arith, c.loop-number-test.true, count) in
    find_next (λ i. defines c.args.symbol (group_at listing.groups.items i) && is_typed listing i) c.loop-number.number (length listing.groups.items)
    within (sym c.is_typed_definition.ensures.value ∙ c.if-is_typed_definition.false)
    ∙ c.loop-number.invariant
