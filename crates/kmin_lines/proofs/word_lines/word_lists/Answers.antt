use Rattle.std.proofs.Common.{rules}
use Rattle.kmin_lines.proofs.Words.{file_fails}
use Rattle.kmin_lines.proofs.word_lines.word_lists.Goals as goal

pub returns-in_err-words_in-clause-not_utf8 : goal.returns-in_err-words_in-clause-not_utf8
returns-in_err-words_in-clause-not_utf8 c = λ e.
    file_fails c.args.files.now c.loop-file.file-index c.file-item.result (search rules) c.file-item.is
    (rw c.deref.ensures.value at (c.in_err-words_in.ensures.not_utf8 (search rules)))
