use Rattle.kmin_texts.proofs.fault_details.tree_detail.Goals as goal

pub returns : goal.returns
returns g c =
    c.tree_line_detail.ensures.given (g.L.LineFiles.known.tree c.args.wording.now.root.now c.args.path.now) c.args.line c.in_ok-reread.ensures
