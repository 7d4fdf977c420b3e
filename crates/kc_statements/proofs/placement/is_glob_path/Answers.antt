use Rattle.kc_statements.proofs.Common.{sym, ap, ◌∙◌, list_any, lexeme_of}
use Rattle.kc_statements.proofs.GlobLemmas.{is_pattern_byte, glob_reported}
use Rattle.kc_statements.proofs.placement.is_glob_path.Goals as goal

pub returns-then-is_operand : goal.returns-then-is_operand
returns-then-is_operand c =
    c.has_glob_byte.ensures ∙ ap (list_any is_pattern_byte) c.as_bytes.ensures.value
    ∙ sym (glob_reported (lexeme_of c.args.token.now) (sym c.is_operand.ensures ∙ c.if-is_operand.true))
