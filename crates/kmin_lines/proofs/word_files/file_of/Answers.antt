use Rattle.std.proofs.Common.{arith}
use Rattle.std.proofs.lemmas.Str.Pattern.{strip_prefix_char}
use Rattle.kmin_lines.proofs.Words.{file_is}
use Rattle.kmin_lines.proofs.word_files.file_of.Goals as goal

pub returns : goal.returns
returns c =
    file_is c.args.word.now c.strip_prefix.result
    (strip_prefix_char 64 c.args.word.now c.strip_prefix.result c.strip_prefix.ensures.cases (omega arith))
