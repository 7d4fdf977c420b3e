use Rattle.std.proofs.Common.{ap}
use Rattle.std.proofs.lemmas.Str.{utf8_lossy-IsUtf8}
use Rattle.json.specs.Json.{string}
use Rattle.kmin_records.proofs.laws.lossless_texts.Goals as goal

pub returns : goal.returns
returns c = λ bytes u. ap string (utf8_lossy-IsUtf8 bytes u)
