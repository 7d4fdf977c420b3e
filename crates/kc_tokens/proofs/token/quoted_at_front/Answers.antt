use Rattle.std.proofs.Common.{sym}
use Rattle.kc_tokens.proofs.PlainQuotes.{plain_quoted, plain_reaches}
use Rattle.kc_tokens.proofs.token.quoted_at_front.Goals as goal

pub returns-in-Some-clause-lead : goal.returns-in-Some-clause-lead
returns-in-Some-clause-lead c = sym (plain_quoted c.args.bytes.now c.in-Some.place c.requires.quote c.in-Some.ensures c.args.language)

pub returns-in-Some-clause-reaches : goal.returns-in-Some-clause-reaches
returns-in-Some-clause-reaches c = plain_reaches c.args.bytes.now c.in-Some.place c.requires.quote c.in-Some.ensures
