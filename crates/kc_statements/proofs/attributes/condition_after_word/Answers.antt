use Rattle.kc_statements.proofs.Common.{inr, ap, sym, ◌∙◌, length, drop, arith, common_steps, elements, lexemes_of, node_expr, condition_line, last_condition, attribute}
use Rattle.kc_statements.proofs.FormLemmas.{along, given_on, none_there, there, stepped}
use Rattle.kc_statements.proofs.ArenaGrowth.{grows_none}
use Rattle.kc_statements.proofs.LineLemmas.{worded_is, worded_other}
use Rattle.kc_statements.proofs.attributes.condition_after_word.Goals as goal

pub returns-then-is_empty-clause-grows : goal.returns-then-is_empty-clause-grows
returns-then-is_empty-clause-grows c = grows_none c.args.arena.now

pub returns-then-not-is_the_word-clause-grows : goal.returns-then-not-is_the_word-clause-grows
returns-then-not-is_the_word-clause-grows c = grows_none c.args.arena.now

pub returns-then-is_empty-clause-gives : goal.returns-then-is_empty-clause-gives
returns-then-is_empty-clause-gives c =
    λ f. inr (ap (λ ts. condition_line c.args.word.now f (lexemes_of ts))
    (none_there c.args.tokens.now c.is_empty.result c.is_empty.ensures c.if-is_empty.true))

pub returns-then-not-is_the_word-clause-gives : goal.returns-then-not-is_the_word-clause-gives
returns-then-not-is_the_word-clause-gives c =
    let some = there (length c.args.tokens.now) c.is_empty.result c.is_empty.ensures c.if-is_empty.false in
    λ f. inr (worded_other c.args.word.now f c.args.tokens.now some (sym c.is_the_word.ensures ∙ c.if-not-is_the_word.true))

pub returns-clause-gives : goal.returns-clause-gives
returns-clause-gives c =
    let some = there (length c.args.tokens.now) c.is_empty.result c.is_empty.ensures c.if-is_empty.false in
    let e = c.last_condition.new.arena in
    let ps = drop 1 (lexemes_of c.args.tokens.now) in
    λ f. along (λ id. attribute (f (node_expr e id))) c.last_condition.result (condition_line c.args.word.now f (lexemes_of c.args.tokens.now))
    (stepped (λ x. attribute (f x)) (last_condition ps))
    (worded_is c.args.word.now f c.args.tokens.now some (sym c.is_the_word.ensures ∙ c.if-not-is_the_word.false))
    (given_on (node_expr e) (λ x. attribute (f x)) c.last_condition.result (last_condition ps) c.last_condition.ensures.gives)

pub bounds-tokens-0 : goal.bounds-tokens-0
bounds-tokens-0 c = grind (arith, common_steps)

pub returns-clause-held : goal.returns-clause-held
returns-clause-held c = grind (arith, common_steps)

pub returns-then-is_empty-clause-held : goal.returns-then-is_empty-clause-held
returns-then-is_empty-clause-held c = omega arith

pub returns-clause-grows : goal.returns-clause-grows
returns-clause-grows c = grind (arith, common_steps)

pub returns-then-not-is_the_word-clause-held : goal.returns-then-not-is_the_word-clause-held
returns-then-not-is_the_word-clause-held c = omega arith

pub last_condition-requires : goal.last_condition-requires
last_condition-requires c = record { within = grind (arith, elements) }
