-- Lines that source nothing.
use Rattle.std.proofs.Common.{◌≡◌, ℕ, ◌<◌, List, [], ◌∷◌, length, None, refl, arith}
use Rattle.kc_tokens.specs.Token.{lexemes_of}
use Rattle.kc_tokens.specs.declared.token.Token.{Token}
use Rattle.kmin_faults.specs.SourcedPaths.{path_of_tokens}

pub few_tokens : (file : List ℕ) (ts : List Token) → length ts < 2 → None ≡ path_of_tokens file (lexemes_of ts)
few_tokens file [] h = refl
few_tokens file (t ∷ []) h = refl
few_tokens file (t ∷ u ∷ ts) h = absurd (omega (arith, h))
