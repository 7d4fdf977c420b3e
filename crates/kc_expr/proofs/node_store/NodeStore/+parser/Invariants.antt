use Rattle.std.proofs.Common.{◌*◌}
use Rattle.kc_expr.proofs.Common.{ℕ, ◌+◌, ◌-◌, length, IsSound, Extends, HasNamesOf, lexemes_of}
use Rattle.kc_expr.proofs.ParseSteps.{IsChained}
use Rattle.kc_expr.specs.declared.node.Connective.{Connective}
use Rattle.kc_expr.specs.declared.node.Connective.TheVariants.{And, Or}
use Rattle.kc_expr.proofs.node_store.NodeStore.+parser.Given as goal

-- how many calls the reader of a part is away from that of a factor
abbrev pub part_steps : Connective → ℕ
part_steps And = 1
part_steps Or = 3

abbrev pub decreases-parse_factor : goal.decreases-parse_factor
decreases-parse_factor l = 5 * l.input.now.depth

abbrev pub decreases-parse_part : goal.decreases-parse_part
decreases-parse_part l = 5 * l.input.now.depth + part_steps l.connective

abbrev pub decreases-parse_joined : goal.decreases-parse_joined
decreases-parse_joined l = 5 * l.input.now.depth + part_steps l.connective + 1

abbrev pub invariant-parse_joined-parts : goal.invariant-parse_joined-parts
invariant-parse_joined-parts l = record {
  sound : IsSound l.self;
  extends : Extends l.fn.self l.self;
  names : HasNamesOf l.fn.self l.self l.left;
  chained : IsChained l.connective l.self (lexemes_of l.input.tokens.now) l.input.condition l.at l.input.depth l.left l.next;
}

abbrev pub decreases-parse_joined-parts : goal.decreases-parse_joined-parts
decreases-parse_joined-parts l = length l.input.tokens.now - l.next
