use Rattle.kc_macros.proofs.Common.{sym, ◌∙◌, ap, place_of, texts_of_slices}
use Rattle.kc_macros.proofs.ProgramLemmas.{steps_out, leads_same}
use Rattle.kc_macros.proofs.CallLemmas.{is_recursive, is_not_recursive}
use Rattle.kc_macros.proofs.ExpansionLemmas.{fails_so}
use Rattle.kc_macros.proofs.steps.names_within.Goals as goal

pub returns-then-is_recursion : goal.returns-then-is_recursion
returns-then-is_recursion c = λ sub s t.
    fails_so s _ _ c.fault.result (is_recursive sub (place_of c.args.at) (texts_of_slices c.args.names.now) c.args.name.now c.args.args.now t
    (sym c.is_recursion.ensures ∙ c.if-is_recursion.true)) c.fault.ensures

pub returns-in_err-with_innermost : goal.returns-in_err-with_innermost
returns-in_err-with_innermost c = λ sub s t. steps_out _ _ _ _ _ c.from_residual.ensures.1

pub returns : goal.returns
returns c = λ sub s t.
    leads_same s _ _ (is_not_recursive sub (place_of c.args.at) (texts_of_slices c.args.names.now) c.args.name.now c.args.args.now t
    (sym c.is_recursion.ensures ∙ c.if-is_recursion.false) ∙ ap (λ ns. sub ns c.args.args.now t) (sym c.in_ok-with_innermost.ensures))
