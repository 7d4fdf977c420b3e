use Rattle.kmin_texts.proofs.FaultSteps.{shown_copy, hidden_copy, alone_shown, alone_hidden}
use Rattle.kmin_texts.proofs.fault_details.why_detail.Goals as goal

pub returns-in_ok-from_slice-in-Some : goal.returns-in_ok-from_slice-in-Some
returns-in_ok-from_slice-in-Some g c =
    let known = g.L.LineFiles.known.tree c.args.wording.now.root.now c.args.path.now in record {
      shown = shown_copy known c.args.path.now _ c.in_ok-why.field-0 c.in-Some.why c.in-Some.is c.in_ok-why.ensures c.in_ok-from_slice-in-Some.ensures.items;
      hidden = hidden_copy known c.args.path.now c.args.path.now c.in_ok-why.field-0 c.in-Some.why c.in-Some.is c.in_ok-why.ensures;
    }

pub returns-in-None : goal.returns-in-None
returns-in-None g c = record {
  shown = alone_shown (g.L.LineFiles.known.tree c.args.wording.now.root.now c.args.path.now) c.args.path.now c.in_ok-why.field-0 c.path_detail.result c.in-None.is c.in_ok-why.ensures c.path_detail.ensures.shown;
  hidden = alone_hidden (g.L.LineFiles.known.tree c.args.wording.now.root.now c.args.path.now) c.args.path.now c.path_detail.result c.path_detail.ensures.hidden;
}
