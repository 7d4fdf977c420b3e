use Rattle.kc_statements.proofs.Common.{arith, inl, inr, length-map, err_from_is_err_and, lexemes_of, lexeme_of, expr_complete, default_line}
use Rattle.kc_statements.proofs.AttributeLemmas.{extent_within, default_unread}
use Rattle.kc_statements.proofs.ArenaGrowth.{grows_on}
use Rattle.kc_statements.proofs.GrownArenas.{node_held}
use Rattle.kc_statements.proofs.ValueLemmas.{valued_reported, valued_refused}
use Rattle.kc_statements.proofs.FormLemmas.{unread}
use Rattle.kc_statements.proofs.attributes.default_attribute.Goals as goal

pub optional_if-requires : goal.optional_if-requires
optional_if-requires c =
    record { within = omega (arith, c.in-Ok.ensures.end, extent_within (lexemes_of c.args.tokens.now), length-map c.args.tokens.now lexeme_of) }

pub returns-clause-gives : goal.returns-clause-gives
returns-clause-gives c = λ f.
    let r = c.in-Ok.ensures.ok in
    let s = c.in_ok-condition.ensures in
    valued_reported c.parse_expr.new.self c.optional_if.new.arena f (lexemes_of c.args.tokens.now) c.in-Ok.read.0 c.in-Ok.read.1 c.in_ok-condition.condition
    r.expr s.grows (expr_complete _ r.expr r.in_grammar) r.represents c.in-Ok.ensures.end s.gives

pub returns-in_err-condition-clause-gives : goal.returns-in_err-condition-clause-gives
returns-in_err-condition-clause-gives c = λ f.
    let r = c.in-Ok.ensures.ok in
    let p = err_from_is_err_and c.from_residual.result c.from_residual.ensures.1 in
    rw (p.1, p.2) (elim c.in_err-condition.ensures.gives [
      | inl m ↦ inl m
      | inr e ↦ inr (valued_refused f (lexemes_of c.args.tokens.now) c.in-Ok.read.1 r.expr c.in_err-condition.field-0.0
          (expr_complete _ r.expr r.in_grammar) c.in-Ok.ensures.end e)
    ])

pub returns-clause-grows : goal.returns-clause-grows
returns-clause-grows c =
    grows_on c.args.arena.now c.parse_expr.new.self c.optional_if.new.arena c.parse_expr.ensures.grows c.optional_if.ensures.grows

pub returns-in_err-condition-clause-grows : goal.returns-in_err-condition-clause-grows
returns-in_err-condition-clause-grows c =
    grows_on c.args.arena.now c.parse_expr.new.self c.optional_if.new.arena c.parse_expr.ensures.grows c.optional_if.ensures.grows

pub returns-clause-held : goal.returns-clause-held
returns-clause-held c = (
  node_held c.parse_expr.new.self c.optional_if.new.arena c.in-Ok.read.0 c.optional_if.ensures.grows c.in-Ok.ensures.ok.represents.within,
  c.in_ok-condition.ensures.held,
)

pub returns-in-Err-clause-gives : goal.returns-in-Err-clause-gives
returns-in-Err-clause-gives c =
    λ f. unread (lexemes_of c.args.tokens.now) 0 c.in-Err.fault c.tree_kind_of.result (default_line f (lexemes_of c.args.tokens.now)) c.in-Err.ensures.fault
    c.tree_kind_of.ensures (default_unread f (lexemes_of c.args.tokens.now))
