use Rattle.kc_parser.proofs.Common.{sym, ◌∙◌, inr, arith, common_steps, lexemes_of}
use Rattle.kc_tokens.specs.Token.{lexeme_of}
use Rattle.kc_parser.proofs.ReaderSteps.{shown_of}
use Rattle.kc_parser.proofs.StatementSteps.{word_unknown, given_by_word}
use Rattle.kc_parser.proofs.line.read_tokens.Goals as goal

pub returns-in_default-keyword_of : goal.returns-in_default-keyword_of
returns-in_default-keyword_of c = λ r before d. inr (
  rw c.in-Some.ensures.cases.0 (word_unknown c.args.language before (lexeme_of c.in-Some.first.now) (lexemes_of c.in-Some.rest.now)
      (sym c.keyword_of.ensures ∙ c.in_default-keyword_of.is)),
  shown_of r _ before d,
)

pub returns : goal.returns
returns c = λ r before d.
    rw c.in-Some.ensures.cases.0 (given_by_word r c.args.at.file c.args.at.line c.args.language before (lexeme_of c.in-Some.first.now) (lexemes_of c.in-Some.rest.now)
    c.in-Some-keyword_of.keyword _ c.read_form.result (sym c.keyword_of.ensures ∙ c.in-Some-keyword_of.is) (c.read_form.ensures r before d))

pub returns-in_default : goal.returns-in_default
returns-in_default c = grind (arith, common_steps)
