use Rattle.std.proofs.Common.{◌≡◌, ◌+◌, ◌*◌, ◌++◌, false, length, take, drop, get_or, sym}
use Rattle.kc_solver.proofs.PlaceSets.{HasWritten, has_written, takes_least, none_below}
use Rattle.kc_solver.proofs.place_sets.PlaceSet.pop_first.Goals.{After-write_place}
use Rattle.kc_solver.proofs.place_sets.PlaceSet.pop_first.Goals as goal

pub returns-then-index-eq0-clause-takes : goal.returns-then-index-eq0-clause-takes
returns-then-index-eq0-clause-takes c =
    let set = c.args.self.now in
    let top : get_or set.words.items 0 0 ≡ 0 = sym (rw c.if-index-eq0.true at c.index.ensures) in
    λ k. (
      none_below set.first set.words.items set.tree.levels_are top (64 * set.first + k),
      none_below set.first set.words.items set.tree.levels_are top
          (64 * set.first + k),
    )

written : (c : After-write_place) → (let set = c.args.self.now in let new = c.write_place.new.words in
    HasWritten set.levels set.first set.size set.words.items (take set.words.len (new ++ drop (length new) set.words.items)) c.least-bit.result false)
written c =
    let set = c.args.self.now in
    has_written _ _ _ _ _ _ _ _ set.tree (sym set.words.ok.0) (rw (← set.tree.starts) at c.least-bit.ensures.place)
    ((rw c.deref_mut.ensures.value at c.write_place.ensures.written) set.first)

pub invariant_of-self : goal.invariant_of-self
invariant_of-self c = record { tree = (written (goal.at.invariant_of-self c).After-write_place).tree }

pub returns-clause-takes : goal.returns-clause-takes
returns-clause-takes c = takes_least _ _ _ _ _ _ (rw (← c.args.self.now.tree.starts) at c.least-bit.ensures.place)
    (rw c.deref.ensures.value at c.least-bit.ensures.has) (rw (c.deref.ensures.value, ← c.args.self.now.tree.starts) at c.least-bit.ensures.least)
    (written (goal.at.returns-clause-takes c).After-write_place)
