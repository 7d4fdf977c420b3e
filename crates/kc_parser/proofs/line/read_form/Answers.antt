use Rattle.kc_parser.proofs.Common.{sym, ◌∙◌, inl, inr, lexemes_of}
use Rattle.kc_statements.specs.between.StatementViews.{statement_in}
use Rattle.kc_parser.specs.checker.StateViews.{Describes}
use Rattle.kc_parser.proofs.ReaderSteps.{shown_of}
use Rattle.kc_parser.proofs.StatementSteps.{shows_grown, statement_early, statement_malformed, source_given, next_given, help_given, limit_given}
use Rattle.kc_parser.proofs.line.read_form.Goals as goal

pub returns-in-Some : goal.returns-in-Some
returns-in-Some c =
    λ r before d. inr (
      statement_early c.args.language before c.args.keyword (lexemes_of c.args.tokens.now) c.in-Some.kind
          (sym (c.fault_before_form.ensures r before d) ∙ c.in-Some.is),
      shown_of r _ before d,
    )

pub returns-in-Err : goal.returns-in-Err
returns-in-Err c = λ r before d. elim c.in-Err.ensures.gives [
  | inl m ↦ inl m
  | inr e ↦ inr (
    statement_malformed c.args.language before c.args.keyword (lexemes_of c.args.tokens.now) c.in-Err.kind
        (sym (c.fault_before_form.ensures r before d) ∙ c.in_default.is) e,
    shows_grown c.args.read.now.listing c.statement_of.new.arena before c.in-Err.ensures.grows (shown_of r _ before d),
  )
]

pub returns-in-Ok-Some : goal.returns-in-Ok-Some
unfolding Describes
returns-in-Ok-Some c = λ r before d.
    source_given r c.args.at.file c.args.at.line c.args.language before c.args.keyword (lexemes_of c.args.tokens.now)
    (statement_in c.statement_of.new.arena c.in-Ok.statement)
    c.push_statement.new.self
    (sym (c.fault_before_form.ensures r before d) ∙ c.in_default.is) c.in-Ok.ensures.gives c.in-Ok-Some.path
    (rw c.in-Ok-Some.field-0-is at (c.in-Ok-Some.ensures.appends r before
    (record { shows = shows_grown c.args.read.now.listing c.statement_of.new.arena before c.in-Ok.ensures.grows d.shows; counted = d.counted; enclosed = d.enclosed })))

pub returns-in-Ok-None : goal.returns-in-Ok-None
unfolding Describes
returns-in-Ok-None c = λ r before d.
    help_given r c.args.at.file c.args.at.line c.args.language before c.args.keyword (lexemes_of c.args.tokens.now)
    (statement_in c.statement_of.new.arena c.in-Ok.statement)
    c.push_statement.new.self
    (sym (c.fault_before_form.ensures r before d) ∙ c.in_default.is) c.in-Ok.ensures.gives (sym c.is_help_keyword.ensures ∙ c.if-is_help_keyword.true)
    (rw c.in-Ok-None.field-0-is at (c.in-Ok-None.ensures.appends r before
    (record { shows = shows_grown c.args.read.now.listing c.statement_of.new.arena before c.in-Ok.ensures.grows d.shows; counted = d.counted; enclosed = d.enclosed })))

pub returns-in-Ok-None-2 : goal.returns-in-Ok-None-2
unfolding Describes
returns-in-Ok-None-2 c = λ r before d.
    next_given r c.args.at.file c.args.at.line c.args.language before c.args.keyword (lexemes_of c.args.tokens.now)
    (statement_in c.statement_of.new.arena c.in-Ok.statement)
    c.push_statement.new.self
    (sym (c.fault_before_form.ensures r before d) ∙ c.in_default.is) c.in-Ok.ensures.gives (sym c.is_help_keyword.ensures ∙ c.if-is_help_keyword.false)
    (rw c.in-Ok-None.field-0-is at (c.in-Ok-None.ensures.appends r before
    (record { shows = shows_grown c.args.read.now.listing c.statement_of.new.arena before c.in-Ok.ensures.grows d.shows; counted = d.counted; enclosed = d.enclosed })))

pub returns-in-Err-push_statement : goal.returns-in-Err-push_statement
unfolding Describes
returns-in-Err-push_statement c = λ r before d.
    limit_given r c.args.at.file c.args.at.line c.args.language before c.args.keyword (lexemes_of c.args.tokens.now)
    (statement_in c.statement_of.new.arena c.in-Ok.statement)
    c.push_statement.new.self
    (sym (c.fault_before_form.ensures r before d) ∙ c.in_default.is) c.in-Ok.ensures.gives c.in-Err-push_statement.kind
    (c.in-Err-push_statement.ensures.appends r before (record {
      shows = shows_grown c.args.read.now.listing c.statement_of.new.arena before
          c.in-Ok.ensures.grows d.shows;
      counted = d.counted;
      enclosed = d.enclosed;
    }))
