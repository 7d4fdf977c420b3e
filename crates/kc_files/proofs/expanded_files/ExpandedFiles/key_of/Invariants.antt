use Rattle.kc_files.proofs.Common.{◌≡◌, ◌+◌, ◌-◌, length, free_key, key_of}
use Rattle.kc_files.proofs.expanded_files.ExpandedFiles.key_of.Given as goal

abbrev pub invariant-loop-number : goal.invariant-loop-number
invariant-loop-number l = free_key (length l.self + 3 - l.number) l.root l.self l.path l.text l.key.items l.number ≡ key_of l.root l.self l.path l.text
