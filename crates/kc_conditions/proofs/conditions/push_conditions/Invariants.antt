use Rattle.kc_conditions.proofs.Common.{◌≡◌, ◌+◌, [], List, length, take, Grows, Represents, Expr, conjunction_of, AreJoined, AreAppended}
use Rattle.kc_conditions.proofs.conditions.push_conditions.Given as goal

abbrev pub invariant-loop-line : goal.invariant-loop-line
invariant-loop-line l = record {
  grows : Grows l.fn.arena l.arena;
  appended : (ds vs own : List Expr) → AreJoined l.fn.arena l.entry ds vs own → Represents l.fn.arena l.yes (conjunction_of [])
      → AreAppended l.fn.arena l.arena l.fn.conditions.items l.conditions.items ds vs (take l.line-index l.lines);
  longer : length l.conditions.items ≡ length l.fn.conditions.items + l.line-index;
}
