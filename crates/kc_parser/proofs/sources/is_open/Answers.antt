use Rattle.std.proofs.Common.{sym, ◌∙◌}
use Rattle.kc_parser.proofs.sources.is_open.Goals as goal

pub returns-then-eq : goal.returns-then-eq
returns-then-eq c = rw (sym c.eq.ensures ∙ c.if-eq.true) c.if-eq.true

pub returns-else-eq : goal.returns-else-eq
returns-else-eq c = rw (sym c.eq.ensures ∙ c.if-eq.false, ← c.deref.ensures.value, ← c.deref-else-eq.ensures.value) c.is_path_open.ensures
