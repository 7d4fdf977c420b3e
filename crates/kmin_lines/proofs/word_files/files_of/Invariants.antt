use Rattle.kmin_lines.proofs.Common.{◌≡◌, ◌++◌, drop, files_of, texts_of}
use Rattle.kmin_lines.proofs.word_files.files_of.Given as goal

-- `paths` has the paths of the files of the words before this one
abbrev pub invariant-loop-word : goal.invariant-loop-word
invariant-loop-word l = texts_of l.paths.items ++ files_of (texts_of (drop l.word-index l.words)) ≡ files_of (texts_of l.words)
