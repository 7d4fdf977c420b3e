use Rattle.kmin_faults.proofs.Common.{◌≡◌, ◌-◌, ◌&&◌, length, find, range_with_len, group_at, defines, is_typed}
use Rattle.kmin_faults.proofs.first_places.first_typed.Given as goal

abbrev pub invariant-loop-number : goal.invariant-loop-number
invariant-loop-number l =
    find (λ i. defines l.symbol (group_at l.listing.groups.items i) && is_typed l.listing i) (range_with_len l.number (length l.listing.groups.items - l.number))
    ≡ find (λ i. defines l.symbol (group_at l.listing.groups.items i) && is_typed l.listing i) (range_with_len 0 (length l.listing.groups.items))
