use Rattle.kc_conditions.proofs.Common.{ℕ, List, length, reverse, Grows, Group, read_before, HasWalked}
use Rattle.kc_parser.specs.between.ListingView.{RepresentsGroups}
use Rattle.kc_conditions.proofs.listing_walk.walk_through.Given as goal

abbrev pub invariant-loop-i : goal.invariant-loop-i
invariant-loop-i l = record {
  grows : Grows l.fn.arena l.walk.arena;
  walked : (names texts : List (List ℕ)) (read : List Group) → RepresentsGroups l.fn.arena names texts l.lines (length l.lines) (reverse l.groups) read
      → HasWalked l.fn.language texts l.walk (read_before l.i read);
}
