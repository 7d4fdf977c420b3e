use Rattle.std.proofs.Common.{ℕ, List, arith, rules, sym, ap, ◌∙◌}
use Rattle.std.specs.List.{filter_map}
use Rattle.std.specs.Borrow.{Bor}
use Rattle.std.proofs.lemmas.List.{take_all}
use Rattle.kmin_options.specs.between.OptionValues as parsed
use Rattle.kmin_options.proofs.Lists.{filter_map_map, filter_map_some, filter_map_none}
use Rattle.kmin_options.proofs.expansion_words.definitions_among.Goals as goal
use Rattle.kmin_options.proofs.expansion_words.definitions_among.Goals.{in-Some+in_ok-push, in_default}

pub loop-text-preserved : goal.loop-text-preserved
loop-text-preserved c = elim c.match-definition_of.branch [
  | in-Some+in_ok-push w ↦ search (rules, filter_map_some)
  | in_default w ↦ search (rules, filter_map_none)
]

pub returns : goal.returns
returns c =
    c.loop-text.invariant ∙ ap (filter_map (λ (text : Bor (List ℕ)). parsed.definition_of text.now))
    (take_all c.loop-text.text-index c.args.texts.now (omega arith))
    ∙ sym (filter_map_map parsed.definition_of (λ (text : Bor (List ℕ)). text.now) c.args.texts.now)
