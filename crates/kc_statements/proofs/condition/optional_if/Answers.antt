use Rattle.kc_statements.proofs.Common.{arith, inl, inr, sym, ◌∙◌, drop, ◌+◌, common_steps, err_from_is_err_and, lexemes_of, lexeme_of, slice_index_or}
use Rattle.kc_statements.proofs.FormLemmas.{front_piece, no_if, if_given, if_refused, some_token}
use Rattle.kc_statements.proofs.ArenaGrowth.{grows_none}
use Rattle.kc_statements.proofs.condition.optional_if.Goals as goal

pub returns-then-not-is_the_word-clause-gives : goal.returns-then-not-is_the_word-clause-gives
returns-then-not-is_the_word-clause-gives c =
    rw (front_piece c.args.tokens.now c.args.at some_token (omega arith))
    (inr (no_if (lexeme_of (slice_index_or c.args.tokens.now c.args.at some_token)) (drop (c.args.at + 1) (lexemes_of c.args.tokens.now))
    (sym c.is_the_word.ensures ∙ c.if-not-is_the_word.true)))

pub returns-clause-gives : goal.returns-clause-gives
returns-clause-gives c =
    rw (front_piece c.args.tokens.now c.args.at some_token (omega arith))
    (if_given (lexeme_of (slice_index_or c.args.tokens.now c.args.at some_token)) (drop (c.args.at + 1) (lexemes_of c.args.tokens.now)) _
    (sym c.is_the_word.ensures ∙ c.if-not-is_the_word.false) c.in_ok-last_condition.ensures.gives)

pub returns-in_err-last_condition-clause-gives : goal.returns-in_err-last_condition-clause-gives
returns-in_err-last_condition-clause-gives c =
    let p = err_from_is_err_and c.from_residual.result c.from_residual.ensures.1 in
    rw (p.1, p.2, front_piece c.args.tokens.now c.args.at some_token (omega arith)) (elim c.in_err-last_condition.ensures.gives [
      | inl m ↦ inl m
      | inr e ↦ inr (if_refused (lexeme_of (slice_index_or c.args.tokens.now c.args.at some_token)) (drop (c.args.at + 1) (lexemes_of c.args.tokens.now))
          c.in_err-last_condition.field-0.0 (sym c.is_the_word.ensures ∙ c.if-not-is_the_word.false) e)
    ])

pub returns-then-not-is_the_word-clause-grows : goal.returns-then-not-is_the_word-clause-grows
returns-then-not-is_the_word-clause-grows c = grows_none c.args.arena.now

pub returns-then-at-tokens-clause-grows : goal.returns-then-at-tokens-clause-grows
returns-then-at-tokens-clause-grows c = grows_none c.args.arena.now

pub returns-then-at-tokens-clause-gives : goal.returns-then-at-tokens-clause-gives
returns-then-at-tokens-clause-gives c = grind (arith, common_steps)

pub returns-clause-held : goal.returns-clause-held
returns-clause-held c = grind (arith, common_steps)
