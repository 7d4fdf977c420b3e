use Rattle.kc_answers.proofs.Common.{sym, arith, take_all, MAX_ANSWER_BYTES}
use Rattle.std.proofs.lemmas.List.{length-take-le}
use Rattle.kc_answers.proofs.answer_files.within_size.Goals as goal

pub slice_bounds-result-end : goal.slice_bounds-result-end
slice_bounds-result-end c = sym (length-take-le MAX_ANSWER_BYTES c.args.bytes.now (omega arith))

pub returns-else-bytes-gt-MAX_ANSWER_BYTES : goal.returns-else-bytes-gt-MAX_ANSWER_BYTES
returns-else-bytes-gt-MAX_ANSWER_BYTES c = sym (take_all MAX_ANSWER_BYTES c.args.bytes.now (omega arith))
