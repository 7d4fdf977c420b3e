use Rattle.kc_statements.proofs.ArenaGrowth.{grows_on, grows_none}
use Rattle.kc_statements.proofs.Common.{inl, inr, refl, sym, ◌∙◌, length, arith, common_steps, elements, err_from_is_err_and}
use Rattle.kc_statements.proofs.FormLemmas.{there}
use Rattle.kc_statements.proofs.GrownArenas.{if_held}
use Rattle.kc_statements.proofs.LineLemmas.{target_line_is, target_refused, target_other}
use Rattle.kc_statements.proofs.attributes.target_attribute.Goals as goal

pub returns-in-Ok-clause-grows : goal.returns-in-Ok-clause-grows
returns-in-Ok-clause-grows c = grows_on c.args.arena.now c.optional_if.new.arena c.intern.new.self c.optional_if.ensures.grows c.intern.ensures.grows

pub returns-in-Err-clause-grows : goal.returns-in-Err-clause-grows
returns-in-Err-clause-grows c = grows_on c.args.arena.now c.optional_if.new.arena c.intern.new.self c.optional_if.ensures.grows c.intern.ensures.grows

pub returns-then-is_empty-clause-grows : goal.returns-then-is_empty-clause-grows
returns-then-is_empty-clause-grows c = grows_none c.args.arena.now

pub returns-then-not-is_name-clause-grows : goal.returns-then-not-is_name-clause-grows
returns-then-not-is_name-clause-grows c = grows_none c.args.arena.now

pub returns-then-not-is_name-clause-gives : goal.returns-then-not-is_name-clause-gives
returns-then-not-is_name-clause-gives c =
    let some = there (length c.args.tokens.now) c.is_empty.result c.is_empty.ensures c.if-is_empty.false in
    λ f. inr (target_other f c.args.tokens.now some (sym c.is_name.ensures ∙ c.if-not-is_name.true))

pub returns-in_err-condition-clause-gives : goal.returns-in_err-condition-clause-gives
returns-in_err-condition-clause-gives c =
    let some = there (length c.args.tokens.now) c.is_empty.result c.is_empty.ensures c.if-is_empty.false in
    let p = err_from_is_err_and c.from_residual.result c.from_residual.ensures.1 in
    λ f. rw (p.1, p.2) (elim c.in_err-condition.ensures.gives [
      | inl m ↦ inl m
      | inr e ↦ inr (target_refused f c.args.tokens.now c.in_err-condition.field-0.0 some
          (sym c.is_name.ensures ∙ c.if-not-is_name.false) e)
    ])

pub returns-in-Err-clause-gives : goal.returns-in-Err-clause-gives
returns-in-Err-clause-gives c = λ f. inl refl

pub returns-in-Ok-clause-held : goal.returns-in-Ok-clause-held
returns-in-Ok-clause-held c =
    (c.in-Ok.ensures.within, if_held c.optional_if.new.arena c.intern.new.self c.in_ok-condition.condition c.intern.ensures.grows c.in_ok-condition.ensures.held)

pub returns-in-Ok-clause-gives : goal.returns-in-Ok-clause-gives
returns-in-Ok-clause-gives c =
    let some = there (length c.args.tokens.now) c.is_empty.result c.is_empty.ensures c.if-is_empty.false in
    λ f. target_line_is c.optional_if.new.arena c.intern.new.self f c.args.tokens.now c.in-Ok.name c.in_ok-condition.condition some
    (sym c.is_name.ensures ∙ c.if-not-is_name.false) c.intern.ensures.grows c.in_ok-condition.ensures.gives c.in_ok-condition.ensures.held c.in-Ok.ensures.name

pub returns-then-is_empty-clause-gives : goal.returns-then-is_empty-clause-gives
returns-then-is_empty-clause-gives c = grind (arith, common_steps)

pub optional_if-requires : goal.optional_if-requires
optional_if-requires c = grind (arith, common_steps)

pub bounds-tokens-0 : goal.bounds-tokens-0
bounds-tokens-0 c = grind (arith, elements)

pub bounds-tokens-0-2 : goal.bounds-tokens-0-2
bounds-tokens-0-2 c = grind (arith, common_steps)
