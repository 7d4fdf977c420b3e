use Rattle.kc_statements.proofs.Common.{inr, sym, ◌∙◌, length, drop, arith, common_steps, elements, lexemes_of, prompt_line, optional_if, attribute, if_in}
use Rattle.kc_statements.proofs.FormLemmas.{along, given_on, there, stepped}
use Rattle.kc_statements.proofs.ArenaGrowth.{grows_none}
use Rattle.kc_statements.proofs.LineLemmas.{prompt_is, prompt_other}
use Rattle.kc_statements.proofs.attributes.prompt.Goals as goal

pub returns-then-is_empty-clause-grows : goal.returns-then-is_empty-clause-grows
returns-then-is_empty-clause-grows c = grows_none c.args.arena.now

pub returns-then-not-is_quoted-clause-grows : goal.returns-then-not-is_quoted-clause-grows
returns-then-not-is_quoted-clause-grows c = grows_none c.args.arena.now

pub returns-then-not-is_quoted-clause-gives : goal.returns-then-not-is_quoted-clause-gives
returns-then-not-is_quoted-clause-gives c =
    let some = there (length c.args.tokens.now) c.is_empty.result c.is_empty.ensures c.if-is_empty.false in
    λ f. inr (prompt_other f c.args.tokens.now some (sym c.is_quoted.ensures ∙ c.if-not-is_quoted.true))

pub returns-clause-gives : goal.returns-clause-gives
returns-clause-gives c =
    let some = there (length c.args.tokens.now) c.is_empty.result c.is_empty.ensures c.if-is_empty.false in
    let e = c.optional_if.new.arena in
    let ps = drop 1 (lexemes_of c.args.tokens.now) in
    λ f. along (λ d. attribute (f (if_in e d))) c.optional_if.result (prompt_line f (lexemes_of c.args.tokens.now))
    (stepped (λ x. attribute (f x)) (optional_if ps))
    (prompt_is f c.args.tokens.now some (sym c.is_quoted.ensures ∙ c.if-not-is_quoted.false))
    (given_on (if_in e) (λ x. attribute (f x)) c.optional_if.result (optional_if ps) c.optional_if.ensures.gives)

pub returns-then-is_empty-clause-gives : goal.returns-then-is_empty-clause-gives
returns-then-is_empty-clause-gives c = grind (arith, elements)

pub optional_if-requires : goal.optional_if-requires
optional_if-requires c = record { within = grind (arith, elements) }

pub bounds-tokens-0 : goal.bounds-tokens-0
bounds-tokens-0 c = grind (arith, common_steps)
