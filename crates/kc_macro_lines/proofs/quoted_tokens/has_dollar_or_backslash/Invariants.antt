use Rattle.kc_macro_lines.proofs.Common.{◌≡◌, take, has_dollar_or_backslash}
use Rattle.kc_macro_lines.proofs.quoted_tokens.has_dollar_or_backslash.Given as goal

-- `found` is whether a `$` or a `\` is among the bytes passed so far
abbrev pub invariant-loop-byte : goal.invariant-loop-byte
invariant-loop-byte l = l.found ≡ has_dollar_or_backslash (take l.byte-index l.text)
