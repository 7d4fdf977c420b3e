use Rattle.kc_dotconfig_model.proofs.Common.{◌≡◌, not, drop, is_white_byte}
use Rattle.std.specs.List.{find}
use Rattle.kc_dotconfig_model.proofs.line_parts.is_comment.Given as goal

-- the bytes of the line before the current one are white space
abbrev pub invariant-loop-byte : goal.invariant-loop-byte
invariant-loop-byte l = find (λ b. not (is_white_byte b)) l.fn.line ≡ find (λ b. not (is_white_byte b)) (drop l.byte-index l.fn.line)
