use Rattle.kc_expr.proofs.Common.{length, arith, cut_read}
use Rattle.kc_tokens.proofs.CutLaws.{read_cut}
use Rattle.kc_expr.proofs.laws.tokens_are_the_language.Goals as goal

pub returns : goal.returns
returns c = λ language line ps. (read_cut language (length line) 0 line ps (omega arith), cut_read language 0 line ps)
