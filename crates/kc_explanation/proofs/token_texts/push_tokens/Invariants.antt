use Rattle.kc_explanation.proofs.Common.{◌≡◌, ◌++◌, drop, exprs_of, lexemes_of}
use Rattle.std.specs.Prelude.{flat_map}
use Rattle.kc_reasons_model.specs.Reasons.{valued_token}
use Rattle.kc_explanation.specs.Explained.{token_with_value}
use Rattle.kc_explanation.specs.checker.Contexts.{names_of}
use Rattle.kc_explanation.proofs.token_texts.push_tokens.Given as goal

abbrev pub invariant-loop-token : goal.invariant-loop-token
invariant-loop-token l =
    l.out.items ++ flat_map (λ t. token_with_value (valued_token l.by.strings (names_of l.by) t)) (lexemes_of (exprs_of l.by) (drop l.token-index l.tokens))
    ≡ l.fn.out.items ++ flat_map (λ t. token_with_value (valued_token l.by.strings (names_of l.by) t)) (lexemes_of (exprs_of l.by) l.tokens)
