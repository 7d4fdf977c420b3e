use Rattle.kc_macros.proofs.Common.{◌≡◌, ◌++◌, length, pieces, texts_of_slices}
use Rattle.kc_macros.proofs.references.pieces.Given as goal

-- the pieces of the reference are those found so far and the pieces of `rest`
abbrev pub invariant-pieces : goal.invariant-pieces
invariant-pieces l = pieces 0 l.fn.inside ≡ texts_of_slices l.pieces.items ++ pieces 0 l.rest

abbrev pub decreases-pieces : goal.decreases-pieces
decreases-pieces l = length l.rest
