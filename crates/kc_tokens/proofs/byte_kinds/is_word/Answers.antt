use Rattle.std.proofs.Common.{refl, ap, ◌∙◌, not, nat_eq, arith, zero-add}
use Rattle.kc_tokens.specs.declared.byte_kinds.TheConstants.{WORD_BYTES}
use Rattle.kc_tokens.specs.Token.{is_word_byte}
use Rattle.kc_tokens.proofs.ByteTables.{marks_all, entry_marks}
use Rattle.kc_tokens.proofs.byte_kinds.is_word.Goals as goal

pub returns : goal.returns
unfolding marks_all
returns c = entry_marks (λ entry. not (nat_eq entry 33)) is_word_byte 0 WORD_BYTES refl c.args.byte (omega arith) ∙ ap is_word_byte (zero-add c.args.byte)
