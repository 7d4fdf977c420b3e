use Rattle.std.proofs.Common.{◌≡◌, ℕ, List, map, take}
use Rattle.std.specs.List.{filter_map}
use Rattle.std.specs.Borrow.{Bor}
use Rattle.kmin_options.specs.Jobs.{definition_view}
use Rattle.kmin_options.specs.between.OptionValues.{definition_of}
use Rattle.kmin_options.proofs.expansion_words.definitions_among.Given as goal

-- `found` has the definitions of the texts before this one
abbrev pub invariant-loop-text : goal.invariant-loop-text
invariant-loop-text l = map definition_view l.found.items ≡ filter_map (λ (text : Bor (List ℕ)). definition_of text.now) (take l.text-index l.texts)
