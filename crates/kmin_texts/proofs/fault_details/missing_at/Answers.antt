use Rattle.kmin_texts.proofs.fault_details.missing_at.Goals as goal

pub returns : goal.returns
returns g c =
    c.missing_detail.ensures (g.L.LineFiles.known.tree c.args.wording.now.root.now c.args.file.now) c.args.line c.in_ok-reread.ensures
