use Rattle.kc_expr.proofs.Common.{sym, ◌∙◌, string_bytes}
use Rattle.kc_expr.proofs.Places.{place-position}
use Rattle.kc_expr.proofs.node_store.NodeStore.find.Goals as goal

pub returns-in-Some : goal.returns-in-Some
returns-in-Some c = record {
  value = sym c.in-Some.is ∙ c.get_index_of.ensures.index
      ∙ sym (place-position string_bytes c.args.name.now c.args.self.now.names.keys);
}

pub returns-in-None : goal.returns-in-None
returns-in-None c = record {
  value = sym c.in-None.is ∙ c.get_index_of.ensures.index
      ∙ sym (place-position string_bytes c.args.name.now c.args.self.now.names.keys);
}
