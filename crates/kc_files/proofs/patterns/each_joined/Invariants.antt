use Rattle.kc_files.proofs.Common.{◌≡◌, ◌++◌, map, drop, items_of, texts_of}
use Rattle.kc_files.proofs.patterns.each_joined.Given as goal

abbrev pub invariant-loop-front : goal.invariant-loop-front
invariant-loop-front l = map (λ t. t ++ l.back) (items_of l.fronts) ≡ texts_of l.texts ++ map (λ t. t ++ l.back) (items_of (drop l.front-index l.fronts))
