use Rattle.std.proofs.Common.{ap, sym, ◌∙◌}
use Rattle.kmin_lines.specs.Lines.{lines_of, without_one}
use Rattle.kmin_lines.proofs.Counted.{there, not_there}
use Rattle.kmin_lines.proofs.LeftOver.{listed, passed, all_listed}
use Rattle.kmin_lines.proofs.PieceLemmas.{first_line}
use Rattle.kmin_lines.proofs.lacking.lacking_lines.Goals as goal

pub loop-piece-preserved-in_ok-push : goal.loop-piece-preserved-in_ok-push
loop-piece-preserved-in_ok-push c =
    let inv = c.loop-piece.invariant in
    let others = inv.0 in
    let line = c.trim_carriage_return-line.result in
    let after = c.in-Some.after.now in
    let cut = first_line c.loop-piece.rest.now _ line.now after c.in-Some.ensures.piece c.trim_carriage_return-line.ensures in
    let took = c.in_ok-take.ensures others inv.1 in (
      without_one line.now others,
      took.1,
      listed c.loop-piece.lacking.items c.push.new.self.items line (lines_of c.loop-piece.rest.now) (lines_of after) others _ c.in_ok-push.ensures.items cut
          (not_there _ (sym c.if-not-branch.true ∙ took.0)) inv.2,
    )

pub loop-piece-preserved : goal.loop-piece-preserved
loop-piece-preserved c =
    let inv = c.loop-piece.invariant in
    let others = inv.0 in
    let line = c.trim_carriage_return-line.result.now in
    let after = c.in-Some.after.now in
    let cut = first_line c.loop-piece.rest.now _ line after c.in-Some.ensures.piece c.trim_carriage_return-line.ensures in
    let took = c.in_ok-take.ensures others inv.1 in (
      without_one line others,
      took.1,
      passed _ line (lines_of c.loop-piece.rest.now) (lines_of after) others _ cut (there _ (sym c.if-not-branch.false ∙ took.0)) inv.2,
    )

pub returns : goal.returns
returns c = all_listed _ (lines_of c.loop-piece.rest.now) c.loop-piece.invariant.0 _ (ap lines_of c.in_default.ensures.none) c.loop-piece.invariant.2
