use Rattle.std.proofs.Common.{sym}
use Rattle.kc_macro_lines.proofs.TokenLemmas.{reference_length, unterminated_length, two_bytes}
use Rattle.kc_macro_lines.proofs.line_tokens.reference_length.Goals as goal

pub returns-in-Some-clause-value : goal.returns-in-Some-clause-value
returns-in-Some-clause-value c = λ q. reference_length q c.args.text.now c.requires.begins c.in-Some.n (sym c.in-Some.ensures.value) c.in-Some.ensures.within

pub returns-in-None-clause-value : goal.returns-in-None-clause-value
returns-in-None-clause-value c = λ q. unterminated_length q c.args.text.now c.requires.begins (sym c.in-None.ensures.value)
    (two_bytes c.args.text.now c.requires.begins)
