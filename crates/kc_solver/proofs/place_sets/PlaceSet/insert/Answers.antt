use Rattle.std.proofs.Common.{◌+◌, ◌*◌, true, take, ◌++◌, length, drop, sym, arith}
use Rattle.kc_solver.proofs.PlaceSets.{HasWritten, has_written}
use Rattle.kc_solver.proofs.place_sets.PlaceSet.insert.Goals.{After-write_place}
use Rattle.kc_solver.proofs.place_sets.PlaceSet.insert.Goals as goal

written : (c : After-write_place) → (let set = c.args.self.now in let new = c.write_place.new.words in
    HasWritten set.levels set.first set.size set.words.items (take set.words.len (new ++ drop (length new) set.words.items))
    (64 * set.first + c.args.place) true)
written c =
    let set = c.args.self.now in
    has_written _ _ _ _ _ _ _ _ set.tree (sym set.words.ok.0) (omega arith) ((rw c.deref_mut.ensures.value at c.write_place.ensures.written) set.first)

pub invariant_of-self : goal.invariant_of-self
invariant_of-self c = record { tree = (written (goal.at.invariant_of-self c).After-write_place).tree }

pub returns-clause-here : goal.returns-clause-here
returns-clause-here c = (written (goal.at.returns-clause-here c).After-write_place).here

pub returns-clause-others : goal.returns-clause-others
returns-clause-others c = λ k ne. (written (goal.at.returns-clause-others c).After-write_place).others k (λ e. ne (omega (arith, e)))
