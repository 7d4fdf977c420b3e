use Rattle.kc_expr.proofs.Common.{sym, ◌∙◌, bytes_eq-Decides}
use Rattle.kc_expr.proofs.node_store.NodeStore.has_at.Goals as goal

pub returns-then-eq : goal.returns-then-eq
returns-then-eq c = record {
  name = λ t. sym c.name-held.ensures.value ∙ (bytes_eq-Decides c.name-held.result.now c.args.name.now).0
      (sym c.eq-then-eq.ensures ∙ t);
}
