use Rattle.std.proofs.Common.{take, map, string_bytes}
use Rattle.kmin_texts.proofs.Spaced.{HasNames}
use Rattle.kmin_texts.proofs.joined_names.spaced.Given as goal

abbrev pub invariant-loop-name : goal.invariant-loop-name
invariant-loop-name l = HasNames (map string_bytes (take l.name-index l.names)) (string_bytes l.words) l.between
