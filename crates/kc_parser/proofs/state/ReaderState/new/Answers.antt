use Rattle.std.proofs.Common.{refl}
use Rattle.kc_parser.proofs.RootSteps.{begun}
use Rattle.kc_parser.proofs.state.ReaderState.new.Goals as goal

pub returns : goal.returns
returns c = record { empty = λ r b. begun r _ c.new.ensures c.new-2.ensures.items refl refl b }
