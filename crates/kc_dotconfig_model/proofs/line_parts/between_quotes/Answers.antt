use Rattle.std.proofs.Common.{arith}
use Rattle.std.proofs.lemmas.Str.Pattern.{strip_prefix_char, strip_suffix_char}
use Rattle.kc_dotconfig_model.proofs.LineParts.{inner_is, no_inner, no_first_quote}
use Rattle.kc_dotconfig_model.proofs.line_parts.between_quotes.Goals as goal

pub returns-in_err-strip_prefix-clause-none : goal.returns-in_err-strip_prefix-clause-none
returns-in_err-strip_prefix-clause-none c =
    let first = strip_prefix_char 34 c.args.text.now c.strip_prefix.result c.strip_prefix.ensures.cases (omega arith) in
    no_first_quote c.args.text.now c.from_residual.result (rw c.in_err-strip_prefix.was at first)

pub returns-clause-some : goal.returns-clause-some
returns-clause-some c =
    let first = strip_prefix_char 34 c.args.text.now c.strip_prefix.result c.strip_prefix.ensures.cases (omega arith) in
    let rest = c.in_ok-strip_prefix.field-0.now in
    inner_is c.args.text.now rest c.strip_suffix.result (rw c.in_ok-strip_prefix.was at first)
    (strip_suffix_char 34 rest c.strip_suffix.result c.strip_suffix.ensures.cases (omega arith))

pub returns-clause-none : goal.returns-clause-none
returns-clause-none c =
    let first = strip_prefix_char 34 c.args.text.now c.strip_prefix.result c.strip_prefix.ensures.cases (omega arith) in
    let rest = c.in_ok-strip_prefix.field-0.now in
    no_inner c.args.text.now rest c.strip_suffix.result (rw c.in_ok-strip_prefix.was at first)
    (strip_suffix_char 34 rest c.strip_suffix.result c.strip_suffix.ensures.cases (omega arith))
