use Rattle.kc_macros.proofs.Common.{◌≡◌, ◌∙◌, ◌∷◌, ◌++◌, [], Some, ap, Place, Notice, reported, RunState, place_of}
use Rattle.kc_macros.proofs.RunLemmas.{runs_out, returns_as}
use Rattle.kc_macros.proofs.EventLemmas.{reports}
use Rattle.kc_macros.proofs.events.report.Goals as goal

pub returns-in_err-copied : goal.returns-in_err-copied
returns-in_err-copied c = runs_out _ _ _ _ _ c.from_residual.ensures.1

pub returns-in_err-copied-2 : goal.returns-in_err-copied-2
returns-in_err-copied-2 c = runs_out _ _ _ _ _ c.from_residual-in_err-copied-2.ensures.1

pub returns-in_err-push_notice : goal.returns-in_err-push_notice
returns-in_err-push_notice c = runs_out _ _ _ _ _ c.from_residual-in_err-push_notice.ensures.1

pub returns : goal.returns
returns c =
    let s = c.args.run.now in
    let n : Notice = record { at = place_of c.args.at; kind = c.args.kind; text = c.args.text.now } in
    let t : RunState = record s { notices = s.notices ++ n ∷ [] } in
    let copied = ap (λ f. let p : Place = record { file = f; line = c.args.at.line } in
    let m : Notice = record { at = p; kind = c.args.kind; text = c.in_ok-copied-2.field-0 } in m) c.in_ok-copied.ensures
    ∙ ap (λ x. let m : Notice = record { at = place_of c.args.at; kind = c.args.kind; text = x } in m) c.in_ok-copied-2.ensures in
    let pushed : c.push_notice.new.self ≡ t = c.in_ok-push_notice.ensures ∙ ap (λ m. let u : RunState = record s { notices = s.notices ++ m ∷ [] } in
    u) copied in
    let empty : c.from_vec.result ≡ [] = c.from_vec.ensures ∙ c.new.ensures.items in
    returns_as s t c.push_notice.new.self (reported (place_of c.args.at) c.args.kind c.args.text.now) (Some []) (Some c.from_vec.result)
    pushed (ap Some empty) (reports s (place_of c.args.at) c.args.kind c.args.text.now)
