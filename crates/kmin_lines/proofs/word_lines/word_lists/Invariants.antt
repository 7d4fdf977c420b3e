use Rattle.kmin_lines.proofs.Common.{◌≡◌, true, map, take, are_utf8, words_in, files_view, lists_view}
use Rattle.kmin_lines.proofs.word_lines.word_lists.Given as goal

abbrev pub invariant-loop-file : goal.invariant-loop-file
invariant-loop-file l = record {
  words : lists_view l.lists.items ≡ map words_in (files_view (take l.file-index l.files));
  utf8 : are_utf8 (files_view (take l.file-index l.files)) ≡ true;
}
