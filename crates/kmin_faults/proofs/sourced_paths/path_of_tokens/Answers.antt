use Rattle.std.proofs.Common.{arith}
use Rattle.kmin_faults.proofs.TokenPaths.{few_tokens}
use Rattle.kmin_faults.proofs.sourced_paths.path_of_tokens.Goals as goal

pub returns-in_default : goal.returns-in_default
returns-in_default c = few_tokens c.args.file.now c.args.tokens.now (omega arith)
