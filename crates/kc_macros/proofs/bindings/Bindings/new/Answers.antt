use Rattle.kc_macros.proofs.Common.{ap, map, bindings_of, entry_of}
use Rattle.kc_macros.proofs.bindings.Bindings.new.Goals as goal

pub returns : goal.returns
returns c = ap (λ es. bindings_of (map entry_of es)) c.with_hasher.ensures.empty
