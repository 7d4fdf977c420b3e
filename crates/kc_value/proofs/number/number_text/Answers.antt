use Rattle.kc_value.proofs.Common.{◌≡◌, ap, ◌∙◌, Some, rules, arith, common_steps, string_bytes, number_of_text, number_spelling}
use Rattle.std.proofs.lemmas.Result.{IfOk-weaker}
use Rattle.kc_value.proofs.NumberSpelling.{spelling_read_back}
use Rattle.kc_value.proofs.number.number_text.Goals as goal

pub returns-in-Int-clause-reads_back : goal.returns-in-Int-clause-reads_back
returns-in-Int-clause-reads_back c =
    IfOk-weaker c.from_str.result (λ t. string_bytes t ≡ number_spelling c.args.kind c.args.value) (λ t. number_of_text c.args.kind (string_bytes t)
    ≡ Some c.args.value)
    (λ t e. ap (number_of_text c.args.kind) e ∙ spelling_read_back c.args.kind c.args.value c.requires.fits) (search rules)

pub returns-in-Hex-clause-reads_back : goal.returns-in-Hex-clause-reads_back
returns-in-Hex-clause-reads_back c =
    IfOk-weaker c.format-in-Hex.result (λ t. string_bytes t ≡ number_spelling c.args.kind c.args.value)
    (λ t. number_of_text c.args.kind (string_bytes t) ≡ Some c.args.value)
    (λ t e. ap (number_of_text c.args.kind) e ∙ spelling_read_back c.args.kind c.args.value c.requires.fits) (search rules)

pub returns-in-Int-clause-text : goal.returns-in-Int-clause-text
returns-in-Int-clause-text c = grind (arith, common_steps)

pub returns-in-Hex-clause-text : goal.returns-in-Hex-clause-text
returns-in-Hex-clause-text c = grind (arith, common_steps)

pub overflow_cast-value : goal.overflow_cast-value
overflow_cast-value c = grind (arith, common_steps)
