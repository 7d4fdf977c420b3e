use Rattle.std.proofs.Common.{◌∙◌, sym, ap, refl, cond, false}
use Rattle.std.specs.List.{list_any}
use Rattle.kc_macros_model.specs.Assignments.{is_unknown}
use Rattle.kc_macro_forms.specs.between.WrittenTokens.{token_of}
use Rattle.kc_macro_forms.specs.checker.SignificantTokens.{significant_tokens}
use Rattle.kc_macro_forms.proofs.SignificantTokenLemmas.{undecided_is, unknown_significant}
use Rattle.kc_macro_forms.proofs.forms.is_undecided.Goals as goal

pub returns-then-is_decisive : goal.returns-then-is_decisive
returns-then-is_decisive c =
    ap (λ d. cond d c.has_unknown.result false) (sym c.if-is_decisive.true)
    ∙ undecided_is (significant_tokens c.args.tokens.now) (token_of c.in-Some.first.now) (significant_tokens c.in-Some.after.now) c.is_decisive.result c.has_unknown.result
    c.in-Some.ensures.some c.is_decisive.ensures (c.has_unknown.ensures ∙ unknown_significant c.in-Some.after.now)

pub returns-else-is_decisive : goal.returns-else-is_decisive
returns-else-is_decisive c =
    let unknown = list_any is_unknown (significant_tokens c.in-Some.after.now) in
    c.if-is_decisive.false ∙ ap (λ d. cond d unknown false) (sym c.if-is_decisive.false)
    ∙ undecided_is (significant_tokens c.args.tokens.now) (token_of c.in-Some.first.now) (significant_tokens c.in-Some.after.now) c.is_decisive.result unknown
    c.in-Some.ensures.some c.is_decisive.ensures refl
