use Rattle.kc_expr.proofs.Common.{ap, sym, ◌∙◌, relation_of}
use Rattle.kc_expr.proofs.TokenPlaces.{relation_at, no_relation}
use Rattle.kc_expr.proofs.parse.relation_at.Goals as goal

pub returns-in-Relation : goal.returns-in-Relation
returns-in-Relation c = sym (relation_at c.args.tokens.now c.args.at _ c.if-at-tokens.false ∙ ap relation_of c.in-Relation.is)

pub returns-in_default : goal.returns-in_default
returns-in_default c = sym (relation_at c.args.tokens.now c.args.at _ c.if-at-tokens.false ∙ no_relation _ c.in_default.not-Relation)
