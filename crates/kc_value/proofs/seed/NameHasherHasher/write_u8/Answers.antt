use Rattle.std.proofs.Common.{refl}
use Rattle.kc_value.specs.NameHash.{coefficient, with_pieces}
use Rattle.kc_value.proofs.seed.NameHasherHasher.write_u8.Goals as goal

pub returns : goal.returns
unfolding coefficient with_pieces
returns c = rw c.with_coefficient-self.ensures refl
