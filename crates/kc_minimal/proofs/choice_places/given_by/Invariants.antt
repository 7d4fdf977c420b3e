use Rattle.std.proofs.Common.{◌≡◌, take}
use Rattle.kc_dotconfig_model.specs.OtherChoices.{given_by}
use Rattle.kc_minimal.proofs.choice_places.given_by.Given as goal

abbrev pub invariant-loop-line : goal.invariant-loop-line
invariant-loop-line l = l.given.items ≡ given_by (take l.line-index l.lines)
