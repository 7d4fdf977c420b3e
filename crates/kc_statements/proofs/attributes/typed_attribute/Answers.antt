use Rattle.kc_statements.proofs.Common.{length, inl, inr, ◌∙◌, ap, err_from_is_err_and, typed_prompt, lexemes_of, type_line}
use Rattle.kc_statements.proofs.FormLemmas.{there, none_there}
use Rattle.kc_statements.proofs.AttributeLemmas.{type_is}
use Rattle.kc_statements.proofs.ArenaGrowth.{grows_none}
use Rattle.kc_statements.proofs.attributes.typed_attribute.Goals as goal

pub returns-clause-gives : goal.returns-clause-gives
returns-clause-gives c =
    let some = there (length c.args.tokens.now) c.is_empty.result c.is_empty.ensures c.if-is_empty.false in
    type_is c.args.kind c.args.tokens.now some ∙ c.in_ok-prompt.ensures.gives (typed_prompt c.args.kind)

pub returns-in_err-prompt-clause-gives : goal.returns-in_err-prompt-clause-gives
returns-in_err-prompt-clause-gives c =
    let p = err_from_is_err_and c.from_residual.result c.from_residual.ensures.1 in
    let some = there (length c.args.tokens.now) c.is_empty.result c.is_empty.ensures c.if-is_empty.false in
    rw (p.1, p.2) (elim (c.in_err-prompt.ensures.gives (typed_prompt c.args.kind)) [
      | inl m ↦ inl m
      | inr e ↦ inr (type_is c.args.kind c.args.tokens.now some ∙ e)
    ])

pub returns-then-is_empty-clause-grows : goal.returns-then-is_empty-clause-grows
returns-then-is_empty-clause-grows c = grows_none c.args.arena.now

pub returns-then-is_empty-clause-gives : goal.returns-then-is_empty-clause-gives
returns-then-is_empty-clause-gives c =
    ap (λ ts. type_line c.args.kind (lexemes_of ts)) (none_there c.args.tokens.now c.is_empty.result c.is_empty.ensures c.if-is_empty.true)
