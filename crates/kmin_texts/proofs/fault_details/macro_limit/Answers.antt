use Rattle.std.proofs.lemmas.Bool.{ne_eqb}
use Rattle.kmin_texts.proofs.Common.{fault_of, TooMany, is_given, is_of_macro_fault, never, on_expanded_line, line_at, kept_detail}
use Rattle.kmin_texts.proofs.OwnDetails.{may_also}
use Rattle.kmin_texts.proofs.FaultSteps.{of_expanded}
use Rattle.kmin_texts.proofs.fault_details.macro_limit.Goals as goal

pub returns : goal.returns
returns g c =
    let fault = fault_of c.args.fault.now in
    let known_of = g.L.LineFiles.known.tree c.args.wording.now.root.now in
    let detail = kept_detail c.expansion_detail.result in
    may_also (is_given (known_of fault.at.file) (λ bytes. on_expanded_line (line_at bytes fault.at.line)) never) (is_of_macro_fault c.args.wording.now.language known_of fault TooMany)
    detail (of_expanded c.args.wording.now.language known_of fault detail (ne_eqb fault.at.line 0 c.if-fault-eq0.false))
    (c.expansion_detail.ensures (known_of fault.at.file) fault.at.line (rw c.as_slice.ensures at c.in_ok-reread.ensures))
