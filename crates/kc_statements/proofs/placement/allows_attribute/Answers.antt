use Rattle.std.proofs.Common.{rules}
use Rattle.kc_statements.proofs.placement.allows_attribute.Goals as goal

pub returns-in-Depends-matches : goal.returns-in-Depends-matches
returns-in-Depends-matches c = search rules
