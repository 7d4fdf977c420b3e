use Rattle.kc_statements.proofs.Common.{inl, inr, sym, ap, ◌∙◌, Some, arith, common_steps, elements, err_from_is_err_and, if_in, operand_or_n}
use Rattle.kc_statements.proofs.ArenaGrowth.{grows_on, grows_none}
use Rattle.kc_statements.proofs.GrownArenas.{operand_held, operand_same}
use Rattle.kc_statements.proofs.RangeLemmas.{first_refused, second_refused, operands_given, operands_refused}
use Rattle.kc_statements.proofs.range.range_attribute.Goals as goal

pub returns-in_err-high-clause-grows : goal.returns-in_err-high-clause-grows
returns-in_err-high-clause-grows c = grows_on c.args.arena.now c.operand.new.arena c.operand-2.new.arena c.operand.ensures.grows c.operand-2.ensures.grows

pub returns-clause-grows : goal.returns-clause-grows
returns-clause-grows c =
    let high = c.operand-2.new.arena in
    let new = c.optional_if.new.arena in
    grows_on c.args.arena.now c.operand.new.arena new c.operand.ensures.grows
    (grows_on c.operand.new.arena high new c.operand-2.ensures.grows c.optional_if.ensures.grows)

pub returns-in_err-condition-clause-grows : goal.returns-in_err-condition-clause-grows
returns-in_err-condition-clause-grows c =
    let high = c.operand-2.new.arena in
    let new = c.optional_if.new.arena in
    grows_on c.args.arena.now c.operand.new.arena new c.operand.ensures.grows
    (grows_on c.operand.new.arena high new c.operand-2.ensures.grows c.optional_if.ensures.grows)

pub returns-clause-held : goal.returns-clause-held
returns-clause-held c =
    let high = c.operand-2.new.arena in
    let new = c.optional_if.new.arena in
    let g = c.optional_if.ensures.grows in (
      operand_held c.operand.new.arena new c.in_ok-low.low (grows_on c.operand.new.arena high new c.operand-2.ensures.grows g) c.in_ok-low.ensures.held,
      operand_held high
          new c.in_ok-high.high g c.in_ok-high.ensures.held,
      c.in_ok-condition.ensures.held,
    )

pub returns-then-not-is_operand-clause-gives : goal.returns-then-not-is_operand-clause-gives
returns-then-not-is_operand-clause-gives c = inr (first_refused c.args.tokens.now c.if-tokens-lt2.false (sym c.if-not-is_operand.ensures))

pub returns-then-not-is_operand-2-clause-gives : goal.returns-then-not-is_operand-2-clause-gives
returns-then-not-is_operand-2-clause-gives c = inr (second_refused c.args.tokens.now c.if-tokens-lt2.false (sym c.if-not-is_operand-2.ensures))

pub returns-in_err-low-clause-gives : goal.returns-in_err-low-clause-gives
returns-in_err-low-clause-gives c =
    let p = err_from_is_err_and c.from_residual.result c.from_residual.ensures.1 in rw (p.1, p.2) (inl c.in_err-low.ensures.memory)

pub returns-in_err-high-clause-gives : goal.returns-in_err-high-clause-gives
returns-in_err-high-clause-gives c =
    let p = err_from_is_err_and c.from_residual-in_err-high.result c.from_residual-in_err-high.ensures.1 in rw (p.1, p.2) (inl c.in_err-high.ensures.memory)

pub returns-clause-gives : goal.returns-clause-gives
returns-clause-gives c =
    let high = c.operand-2.new.arena in
    let new = c.optional_if.new.arena in
    let g = c.optional_if.ensures.grows in
    let low_same = operand_same c.operand.new.arena new c.in_ok-low.low (grows_on c.operand.new.arena high new c.operand-2.ensures.grows g) c.in_ok-low.ensures.held in
    let high_same = operand_same high new c.in_ok-high.high g c.in_ok-high.ensures.held in
    operands_given c.args.tokens.now (operand_or_n new c.in_ok-low.low) (operand_or_n new c.in_ok-high.high) (if_in new c.in_ok-condition.condition)
    c.if-tokens-lt2.false (c.in_ok-low.ensures.operand ∙ ap Some (sym low_same)) (c.in_ok-high.ensures.operand ∙ ap Some (sym high_same))
    c.in_ok-condition.ensures.gives

pub returns-in_err-condition-clause-gives : goal.returns-in_err-condition-clause-gives
returns-in_err-condition-clause-gives c =
    let p = err_from_is_err_and c.from_residual-in_err-condition.result c.from_residual-in_err-condition.ensures.1 in
    rw (p.1, p.2) (elim c.in_err-condition.ensures.gives [
      | inl m ↦ inl m
      | inr e ↦ inr (operands_refused c.args.tokens.now (operand_or_n c.operand.new.arena c.in_ok-low.low) (operand_or_n c.operand-2.new.arena c.in_ok-high.high)
          c.in_err-condition.field-0.0 c.if-tokens-lt2.false c.in_ok-low.ensures.operand c.in_ok-high.ensures.operand e)
    ])

pub returns-then-not-is_operand-clause-grows : goal.returns-then-not-is_operand-clause-grows
returns-then-not-is_operand-clause-grows c = grows_none c.args.arena.now

pub returns-then-not-is_operand-2-clause-grows : goal.returns-then-not-is_operand-2-clause-grows
returns-then-not-is_operand-2-clause-grows c = grows_none c.args.arena.now

pub bounds-tokens-1 : goal.bounds-tokens-1
bounds-tokens-1 c = omega arith

pub bounds-tokens-0-2 : goal.bounds-tokens-0-2
bounds-tokens-0-2 c = omega arith

pub returns-then-tokens-lt2-clause-grows : goal.returns-then-tokens-lt2-clause-grows
returns-then-tokens-lt2-clause-grows c = grind (arith, common_steps)

pub bounds-tokens-1-2 : goal.bounds-tokens-1-2
bounds-tokens-1-2 c = omega arith

pub returns-then-tokens-lt2-clause-gives : goal.returns-then-tokens-lt2-clause-gives
returns-then-tokens-lt2-clause-gives c = grind (arith, elements)

pub optional_if-requires : goal.optional_if-requires
optional_if-requires c = record { within = omega arith }
