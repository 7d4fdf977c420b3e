use Rattle.kc_dependencies.proofs.Common.{◌≡◌, ℕ, Bool, ◌||◌, List, take, list_any, passes_some_name}
use Rattle.kc_expr.specs.between.Visits.{HasFound}
use Rattle.kc_dependencies.proofs.names.push_all.Given as goal

abbrev pub invariant-loop-part : goal.invariant-loop-part
invariant-loop-part g l = record {
  names : (p : List ℕ → Bool)
      → passes_some_name l.tree.exprs p l.found.names.items ≡ (passes_some_name l.tree.exprs p l.initial.found.names.items || list_any (g.P.MentionsNames.passes l.tree p)
      (take l.part-index l.parts));
  found : HasFound l.tree.exprs l.found.visited l.found.names.items;
}
