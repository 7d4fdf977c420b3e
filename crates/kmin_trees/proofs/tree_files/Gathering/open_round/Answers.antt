use Rattle.kmin_trees.proofs.Common.{◌≤◌, length, map, sym, subst, arith, rules, ◌≢◌, string_bytes, common_steps, Files, OutOfMemory, LacksOnlyMissing}
use Rattle.kmin_trees.proofs.Gatherings.{gathers_none}
use Rattle.kmin_trees.proofs.MissingFiles.{not_more, lacks_by_tried, lacks_by_fault}
use Rattle.kmin_trees.proofs.tree_files.Gathering.open_round.Goals as goal

pub returns-in_ok-insert_all-in-Ok-clause-missing : goal.returns-in_ok-insert_all-in-Ok-clause-missing
returns-in_ok-insert_all-in-Ok-clause-missing g c =
    let known = g.F.Files.surroundings c.args.files.now in
    let root = c.args.self.now.root.now in
    let first = c.args.self.now.first.now in
    let before = g.F.Files.failures c.args.files.now in
    let after = g.F.Files.failures c.insert_all.new.files in
    let put = c.in_ok-insert_all-in-Ok.ensures.inserted in
    λ full.
    let le : length c.insert_all.new.self.texts.list ≤ length c.args.self.now.texts.list =
    omega (arith, not_more _ _ full, c.len-count.ensures.len, c.len.ensures.len) in
    subst (λ (t : Files). LacksOnlyMissing known.content root first t before after) (sym (put.same le))
    (lacks_by_tried known.content root first c.args.self.now.texts (map string_bytes c.in-Ok.paths.items) before after c.in-Ok.ensures.paths
    (rw c.deref.ensures.value at (put.tried le)))

pub returns-in-Err-2-clause-missing : goal.returns-in-Err-2-clause-missing
returns-in-Err-2-clause-missing g c =
    let other : c.in-Err.fault.kind ≢ OutOfMemory = first_of (search rules, grind (arith, common_steps)) in
    λ _. lacks_by_fault (g.F.Files.surroundings c.args.files.now).content c.args.self.now.root.now c.args.self.now.first.now c.args.self.now.texts _ _
    c.in-Err.fault c.in-Err.ensures.fault other

pub returns-in-Err-2-clause-gathered : goal.returns-in-Err-2-clause-gathered
returns-in-Err-2-clause-gathered g c = gathers_none _ _ _ c.requires.below

pub returns-in-Err-clause-gathered : goal.returns-in-Err-clause-gathered
returns-in-Err-clause-gathered g c = gathers_none _ _ _ c.requires.below
