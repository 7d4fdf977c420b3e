use Rattle.std.proofs.Common.{arith}
use Rattle.kc_files.proofs.StoreLemmas.{read_matched}
use Rattle.kc_files.proofs.file_bytes.read_opened.Goals as goal

pub returns-clause-matched : goal.returns-clause-matched
returns-clause-matched g c =
    read_matched _ _ _ _ _ _ c.read_bytes-read.result c.requires.unread (omega arith) c.close.ensures.same.rising c.close.ensures.failed c.read_bytes-read.ensures
