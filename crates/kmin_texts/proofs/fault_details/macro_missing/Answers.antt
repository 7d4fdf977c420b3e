use Rattle.kmin_texts.proofs.Common.{inr, IfOk-weaker, fault_of, is_given, is_of_missing, sourced_on, unread, line_at, kept_detail}
use Rattle.kmin_texts.proofs.OwnDetails.{may_also}
use Rattle.kmin_texts.proofs.FaultSteps.{of_macro, of_missing}
use Rattle.kmin_texts.proofs.fault_details.macro_missing.Goals as goal

pub returns-in-Some : goal.returns-in-Some
returns-in-Some g c =
    let at = (fault_of c.args.fault.now).at in
    let known_of = g.L.LineFiles.known.tree c.args.wording.now.root.now in
    let known = known_of at.file in
    IfOk-weaker c.why_detail.result _ _
    (λ detail e. inr (of_macro c.args.wording.now.language known_of known at.file at.line (kept_detail detail)
    (c.in-Some.ensures.has_macro known at.line (rw c.as_slice-file.ensures at c.in_ok-reread.ensures)))) c.why_detail.ensures.shown

pub returns : goal.returns
returns g c =
    let at = (fault_of c.args.fault.now).at in
    let known_of = g.L.LineFiles.known.tree c.args.wording.now.root.now in
    let known = known_of at.file in
    IfOk-weaker c.missing_detail.result _ _
    (λ detail m. may_also (is_given known (λ bytes. sourced_on known_of c.args.wording.now.language at.file (line_at bytes at.line)) unread)
    (is_of_missing c.args.wording.now.language known_of known at.file at.line) (kept_detail detail) (of_missing c.args.wording.now.language known_of known at.file at.line (kept_detail detail)) m)
    (rw c.as_slice-file.ensures at (c.missing_detail.ensures known at.line (rw c.as_slice-file.ensures at c.in_ok-reread.ensures)))
