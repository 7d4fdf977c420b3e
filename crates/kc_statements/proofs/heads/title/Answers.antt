use Rattle.kc_statements.proofs.Common.{sym, ◌∙◌, quoted_text}
use Rattle.kc_statements.proofs.FormLemmas.{first_of}
use Rattle.kc_statements.proofs.TitleLemmas.{title_by, title_given, title_there}
use Rattle.kc_statements.proofs.heads.title.Goals as goal

pub returns : goal.returns
returns c = λ f.
    title_by f (quoted_text (first_of c.args.tokens.now).text.now) c.unquoted.result _
    (title_given f c.args.tokens.now (sym c.is_title.ensures ∙ c.if-not-is_title.false)) c.unquoted.ensures.ok c.unquoted.ensures.memory

pub bounds-tokens-0 : goal.bounds-tokens-0
bounds-tokens-0 c = title_there c.args.tokens.now (sym c.is_title.ensures ∙ c.if-not-is_title.false)
