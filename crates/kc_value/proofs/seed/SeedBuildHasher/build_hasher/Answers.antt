use Rattle.std.proofs.Common.{rules}
use Rattle.kc_value.proofs.seed.SeedBuildHasher.build_hasher.Goals as goal

pub returns : goal.returns
returns c = search rules
