use Rattle.std.proofs.Common.{◌≡◌, ◌++◌, take}
use Rattle.kc_macros_model.specs.WrittenTokens.{escaped_text}
use Rattle.kc_macro_forms.proofs.written_tokens.push_escaped.Given as goal

-- the first `i` bytes of the text are appended, with their backslashes
abbrev pub invariant-bytes : goal.invariant-bytes
invariant-bytes l = l.out.items ≡ l.initial.out.items ++ escaped_text l.quote (take l.i l.text)
