use Rattle.kc_macros.proofs.Common.{◌≡◌, ◌∙◌, Some, sym, ap, length, built_in_value, place_of, arity_of}
use Rattle.kc_macros_model.specs.Programs.{returns as returns_value}
use Rattle.kc_macros.proofs.RunLemmas.{runs_out}
use Rattle.kc_macros.proofs.ExpansionLemmas.{fails_so, returns_so}
use Rattle.kc_macros.proofs.NameLemmas.{wrong_count, file_named, line_named}
use Rattle.kc_macros.proofs.names.built_in_value.Goals as goal

pub returns-then-args-arity : goal.returns-then-args-arity
returns-then-args-arity c = fails_so c.args.run.now _ _ c.fault.result
    (wrong_count (place_of c.args.at) c.args.name.now c.args.function c.args.args.now (λ e. c.if-args-arity.true (e ∙ sym c.arity.ensures)))
    c.fault.ensures

pub returns-in_err-copied-in-Filename : goal.returns-in_err-copied-in-Filename
returns-in_err-copied-in-Filename c = runs_out _ _ _ _ _ c.from_residual.ensures.1

pub returns-in_err-decimal_text-in-Lineno : goal.returns-in_err-decimal_text-in-Lineno
returns-in_err-decimal_text-in-Lineno c = runs_out _ _ _ _ _ c.from_residual-in_err-decimal_text-in-Lineno.ensures.1

pub returns-in_ok-copied-in-Filename : goal.returns-in_ok-copied-in-Filename
returns-in_ok-copied-in-Filename c =
    let arity : length c.args.args.now ≡ arity_of c.args.function = c.if-args-arity.false ∙ c.arity.ensures in
    returns_so c.args.run.now _ _ (ap (λ f. built_in_value (place_of c.args.at) c.args.name.now f c.args.args.now) c.in-Filename.is
    ∙ file_named (place_of c.args.at) c.args.name.now c.args.args.now (arity ∙ ap arity_of c.in-Filename.is)
    ∙ ap (λ v. returns_value (Some v)) (sym c.in_ok-copied-in-Filename.ensures))

pub returns-in_ok-decimal_text-in-Lineno : goal.returns-in_ok-decimal_text-in-Lineno
returns-in_ok-decimal_text-in-Lineno c =
    let arity : length c.args.args.now ≡ arity_of c.args.function = c.if-args-arity.false ∙ c.arity.ensures in
    returns_so c.args.run.now _ _ (ap (λ f. built_in_value (place_of c.args.at) c.args.name.now f c.args.args.now) c.in-Lineno.is
    ∙ line_named (place_of c.args.at) c.args.name.now c.args.args.now (arity ∙ ap arity_of c.in-Lineno.is)
    ∙ ap (λ v. returns_value (Some v)) (sym c.in_ok-decimal_text-in-Lineno.ensures))
