use Rattle.kc_builder.proofs.Common.{◌≡◌, ◌++◌, drop, rows_of_symbols}
use Rattle.kc_builder.proofs.rows.symbol_rows.Given as goal

abbrev pub invariant-loop-s : goal.invariant-loop-s
invariant-loop-s l =
    l.rows.items ++ rows_of_symbols l.listing.groups.items (drop l.s l.names) (drop l.s l.symbols) ≡ rows_of_symbols l.listing.groups.items l.names l.symbols
