use Rattle.kc_files.proofs.Common.{◌≡◌, ◌++◌, map, drop, filter, matches_name, items_of, texts_of}
use Rattle.kc_files.proofs.patterns.push_matching.Given as goal

abbrev pub invariant-loop-name : goal.invariant-loop-name
invariant-loop-name l = texts_of l.initial.paths ++ map (λ n. l.folder ++ n) (filter (matches_name l.piece) (items_of l.names))
    ≡ texts_of l.paths ++ map (λ n. l.folder ++ n) (filter (matches_name l.piece) (items_of (drop l.name-index l.names)))
