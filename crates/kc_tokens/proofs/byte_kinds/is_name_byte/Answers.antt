use Rattle.std.proofs.Common.{refl, ap, ◌∙◌, nat_lt, arith, zero-add}
use Rattle.kc_tokens.specs.declared.byte_kinds.TheConstants.{WORD_BYTES}
use Rattle.kc_tokens.specs.Token.{is_name_byte}
use Rattle.kc_tokens.proofs.ByteTables.{marks_all, entry_marks}
use Rattle.kc_tokens.proofs.byte_kinds.is_name_byte.Goals as goal

pub returns : goal.returns
unfolding marks_all
returns c = entry_marks (λ entry. nat_lt 47 entry) is_name_byte 0 WORD_BYTES refl c.args.byte (omega arith) ∙ ap is_name_byte (zero-add c.args.byte)
