use Rattle.std.proofs.Common.{◌≡◌, ◌++◌, drop}
use Rattle.kc_macros_model.specs.LineForms.{line_bytes}
use Rattle.kc_macro_forms.specs.between.WrittenTokens.{tokens_of}
use Rattle.kc_macro_forms.proofs.line_texts.push_tokens.Given as goal

-- the bytes of the first `i` tokens are appended, and those of the others are left
abbrev pub invariant-tokens : goal.invariant-tokens
invariant-tokens l = l.initial.out.items ++ line_bytes (tokens_of l.tokens) ≡ l.out.items ++ line_bytes (tokens_of (drop l.i l.tokens))
