use Rattle.kc_statements.proofs.Common.{rules, ap, sym, ◌∙◌, length, lexemes_of, is_glob_path}
use Rattle.kc_tree_model.specs.Keywords.{is_word_kind}
use Rattle.kc_tree_model.specs.Placement.{is_left_out}
use Rattle.kc_statements.proofs.FormLemmas.{there}
use Rattle.kc_statements.proofs.LineLemmas.{first_reported, first_none}
use Rattle.kc_statements.proofs.placement.is_left_out.Goals as goal

pub returns-in-Type-Tristate : goal.returns-in-Type-Tristate
returns-in-Type-Tristate c = search rules

pub returns-then-not-is_empty : goal.returns-then-not-is_empty
returns-then-not-is_empty c =
    let some = there (length c.args.tokens.now) c.is_empty.result c.is_empty.ensures c.if-not-is_empty.true in
    λ read q. c.is_word.ensures ∙ first_reported (λ t. is_word_kind t.kind) c.args.tokens.now some
    ∙ sym (ap (λ k. is_left_out c.args.language read k (lexemes_of c.args.tokens.now)) c.in-Choice.is)

pub returns-else-not-is_empty : goal.returns-else-not-is_empty
returns-else-not-is_empty c =
    λ read q. first_none (λ t. is_word_kind t.kind) c.args.tokens.now c.is_empty.result c.is_empty.ensures c.if-not-is_empty.false
    ∙ sym (ap (λ k. is_left_out c.args.language read k (lexemes_of c.args.tokens.now)) c.in-Choice.is)

pub returns-then-not-is_empty-2 : goal.returns-then-not-is_empty-2
returns-then-not-is_empty-2 c =
    let some = there (length c.args.tokens.now) c.is_empty-in-Source.result c.is_empty-in-Source.ensures c.if-not-is_empty-2.true in
    λ read q. c.is_glob_path.ensures ∙ first_reported is_glob_path c.args.tokens.now some
    ∙ sym (ap (λ k. is_left_out c.args.language read k (lexemes_of c.args.tokens.now)) c.in-Source.is)

pub returns-else-not-is_empty-2 : goal.returns-else-not-is_empty-2
returns-else-not-is_empty-2 c =
    λ read q. first_none is_glob_path c.args.tokens.now c.is_empty-in-Source.result c.is_empty-in-Source.ensures c.if-not-is_empty-2.false
    ∙ sym (ap (λ k. is_left_out c.args.language read k (lexemes_of c.args.tokens.now)) c.in-Source.is)
