use Rattle.kmin_lines.proofs.Common.{◌≡◌, ◌++◌, drop, with_lists, lists_view, texts_of}
use Rattle.kmin_lines.proofs.word_files.with_lists.Given as goal

-- `all` has the words that those before this one represent, by the first `used` lists
abbrev pub invariant-loop-place : goal.invariant-loop-place
invariant-loop-place l =
    texts_of l.all.items ++ with_lists (texts_of (drop l.place l.words)) (drop l.used (lists_view l.lists))
    ≡ with_lists (texts_of l.words) (lists_view l.lists)
