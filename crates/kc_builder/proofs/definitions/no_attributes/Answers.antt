use Rattle.std.proofs.Common.{rules}
use Rattle.kc_builder.proofs.definitions.no_attributes.Goals as goal

pub returns : goal.returns
returns c = search rules
