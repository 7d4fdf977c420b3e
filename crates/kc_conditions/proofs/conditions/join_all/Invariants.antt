use Rattle.kc_conditions.proofs.Common.{◌<◌, ◌++◌, List, length, take, Grows, Expr, Conjoins, conjunct_views, IfSome}
use Rattle.kc_conditions.proofs.conditions.join_all.Given as goal

abbrev pub invariant-loop-line : goal.invariant-loop-line
invariant-loop-line l = record {
  grows : Grows l.fn.arena l.arena;
  there : IfSome l.joined (λ i. i < length l.arena.nodes);
  all : (es : List Expr) → Conjoins l.fn.arena l.fn.all es → Conjoins l.arena l.joined (es ++ conjunct_views l.which l.fn.arena (take l.line-index l.lines));
}
