use Rattle.kmin_lines.proofs.Common.{◌≡◌, true, ◌++◌, length, list_all, is_utf8, words_in, texts_of}
use Rattle.kmin_lines.proofs.word_lines.words_in.Given as goal

abbrev pub invariant-loop-piece : goal.invariant-loop-piece
invariant-loop-piece l = record {
  whole : texts_of l.words.items ++ words_in l.rest ≡ words_in l.fn.file;
  utf8 : list_all is_utf8 (texts_of l.words.items) ≡ true;
}

abbrev pub decreases-loop-piece : goal.decreases-loop-piece
decreases-loop-piece l = length l.rest
