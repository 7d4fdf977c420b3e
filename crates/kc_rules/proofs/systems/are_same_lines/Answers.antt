use Rattle.std.proofs.Common.{sym, arith}
use Rattle.kc_rules.proofs.LineLists.{lengths_differ}
use Rattle.kc_rules.proofs.systems.are_same_lines.Goals as goal

pub returns-then-a-b : goal.returns-then-a-b
returns-then-a-b c = sym (lengths_differ c.args.a.now c.args.b.now (λ same. absurd (omega arith)))
