use Rattle.kc_solver.proofs.Lists.{decided}
use Rattle.kc_solver.proofs.Least.{least_gives, cut_gives}
use Rattle.kc_solver.proofs.least_assignments.kept_units.Goals as goal

pub returns-clause-least : goal.returns-clause-least
returns-clause-least g c =
    let system = c.args.system.now in
    least_gives (g.S.Graph.size system) (g.S.Graph.dependencies system) (g.S.System.rule system) (g.S.System.fits_user system) c.args.order.now c.requires.order
    (g.met.S.System.frame system)
    (decided _ g.met.S.System.equal_values) (g.S.System.as_user system) (g.met.S.System.restore system)

pub returns-clause-cut : goal.returns-clause-cut
returns-clause-cut g c =
    let system = c.args.system.now in
    cut_gives (g.S.Graph.size system) (g.S.Graph.dependencies system) (g.S.System.rule system) (g.S.System.fits_user system) c.args.order.now c.requires.order
    (g.met.S.System.frame system)
    (decided _ g.met.S.System.equal_values)
