use Rattle.std.proofs.lemmas.Result.{IfOk-weaker}
use Rattle.kmin_commands.proofs.CommandParts.{with_conflict, with_requirement}
use Rattle.kmin_commands.proofs.commands.dropping.Goals as goal

pub returns : goal.returns
returns c =
    let beside = with_requirement c.flag.result c.in_ok-dropping.dropping _ _ c.flag.ensures c.in_ok-dropping.ensures in
    IfOk-weaker c.conflicts_with.result _ _ (λ made adds. with_conflict c.in_ok-dropping.dropping made _ _ beside adds) c.conflicts_with.ensures
