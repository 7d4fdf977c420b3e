use Rattle.kmin_trees.proofs.Common.{◌≡◌, ◌∙◌, arith, common_steps, elements, path_below, OpensAs}
use Rattle.kmin_trees.proofs.TextGrowth.{front_read}
use Rattle.kmin_trees.proofs.MissingFiles.{unopened, closed_missing}
use Rattle.kmin_trees.proofs.tree_files.read_below.Goals as goal

pub returns-in-Some-clause-bytes : goal.returns-in-Some-clause-bytes
returns-in-Some-clause-bytes g c =
    let at : c.deref.result.now ≡ path_below c.args.root.now c.args.path.now = c.deref.ensures ∙ c.in_ok-place.ensures in
    let opens : OpensAs ((g.F.Files.surroundings c.args.files.now).content (path_below c.args.root.now c.args.path.now)) _ = rw at at c.in-Some.ensures.opens in
    front_read ((g.F.Files.surroundings c.args.files.now).content (path_below c.args.root.now c.args.path.now)) _ _ c.read_front-found.result opens c.read_front-found.ensures.bytes

pub returns-in_err-place-clause-bytes : goal.returns-in_err-place-clause-bytes
returns-in_err-place-clause-bytes g c = grind (arith, elements)

pub returns-clause-bytes : goal.returns-clause-bytes
returns-clause-bytes g c = grind (arith, common_steps)

pub returns-in-Some-clause-missing : goal.returns-in-Some-clause-missing
returns-in-Some-clause-missing g c =
    let before = g.F.Files.failures c.args.files.now in
    let opened = g.F.Files.failures c.reader_if_there.new.self in
    closed_missing _ _ _ before opened (g.F.Files.failures c.close.new.self) c.read_front-found.result c.in-Some.ensures.unread c.read_front-found.ensures.failed
    (omega (arith, c.reader_if_there.ensures.uncounted)) c.close.ensures.failed c.close.ensures.rising

pub returns-clause-missing : goal.returns-clause-missing
returns-clause-missing g c =
    let at : c.deref.result.now ≡ path_below c.args.root.now c.args.path.now = c.deref.ensures ∙ c.in_ok-place.ensures in
    let opens : OpensAs ((g.F.Files.surroundings c.args.files.now).content (path_below c.args.root.now c.args.path.now)) _ = rw at at c.in-None.ensures.opens in
    unopened _ _ _ opens
