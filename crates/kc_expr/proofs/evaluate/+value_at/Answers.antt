use Rattle.kc_expr.proofs.Common.{◌<◌, arith, length, ap, refl, sym, ◌∙◌, common_steps, value, environment_of, stored_names}
use Rattle.kc_value.specs.Tri.{tri_not}
use Rattle.kc_value.specs.Tri.{y_for_m}
use Rattle.kc_expr.proofs.NodeLemmas.{value_joined, chain_start, chain_more}
use Rattle.kc_expr.proofs.StoreLemmas.{node_of, fits_at}
use Rattle.kc_expr.proofs.evaluate.+value_at.Goals as goal

pub returns-in-Alone : goal.returns-in-Alone
returns-in-Alone g t c = record {
  value = rw (node_of c.args.store.now c.args.index _ _ c.requires.sound c.requires.there c.node.ensures.value c.in-Alone.is)
      c.leaf_value.ensures.value;
}

pub returns-in-Related : goal.returns-in-Related
returns-in-Related g t c =
    record {
      value = rw (node_of c.args.store.now c.args.index _ _ c.requires.sound c.requires.there c.node.ensures.value c.in-Related.is)
          c.related_value.ensures.value;
    }

pub returns-in-Negated : goal.returns-in-Negated
returns-in-Negated g t c =
    record {
      value = rw (node_of c.args.store.now c.args.index _ _ c.requires.sound c.requires.there c.node.ensures.value c.in-Negated.is)
          (c.not.ensures.value ∙ ap tri_not c.value_at.ensures.value);
    }

pub returns-in-Shown : goal.returns-in-Shown
returns-in-Shown g t c = record {
  value = rw (node_of c.args.store.now c.args.index _ _ c.requires.sound c.requires.there c.node.ensures.value c.in-Shown.is)
      (c.y_for_m.ensures ∙ ap y_for_m c.value_at-in-Shown.ensures.value);
}

pub chain-init : goal.chain-init
chain-init g t c =
    let e = node_of c.args.store.now c.args.index _ _ c.requires.sound c.requires.there c.node.ensures.value c.in-Joined.is in
    let f = fits_at c.args.store.now c.args.index _ _ c.requires.sound c.requires.there c.node.ensures.value c.in-Joined.is in
    let names = environment_of (stored_names c.args.store.now) (g.L.Lookup.symbol_values c.args.lookup.now) in
    record { below = f.0; chain = rw e (chain_start _ _ _ _ c.value_at-joined.ensures.value ∙ sym (value_joined c.in-Joined.connective names _ _)) }

pub chain-preserved : goal.chain-preserved
chain-preserved g t c =
    let there : c.chain.at < length c.args.store.now.nodes.items = omega arith in
    let e = node_of c.args.store.now c.chain.at _ _ c.requires.sound there refl c.in-Some.ensures.some in
    let f = fits_at c.args.store.now c.chain.at _ _ c.requires.sound there refl c.in-Some.ensures.some in
    let names = environment_of (stored_names c.args.store.now) (g.L.Lookup.symbol_values c.args.lookup.now) in
    record {
      below = omega (arith, f);
      chain = chain_more c.in-Joined.connective _ _ _ _ _ _ _ c.join-joined.ensures c.value_at-value.ensures.value
          (ap (value names) e ∙ value_joined c.in-Joined.connective names _ _) c.chain.invariant.chain;
    }

pub leaf_value-requires-clause-fits : goal.leaf_value-requires-clause-fits
leaf_value-requires-clause-fits g t c = grind (arith, common_steps)

pub value_at-requires : goal.value_at-requires
value_at-requires g t c = grind (arith, common_steps)

pub value_at-requires-in-Shown : goal.value_at-requires-in-Shown
value_at-requires-in-Shown g t c = grind (arith, common_steps)

pub related_value-requires-clause-right : goal.related_value-requires-clause-right
related_value-requires-clause-right g t c = grind (arith, common_steps)

pub related_value-requires-clause-distinct : goal.related_value-requires-clause-distinct
related_value-requires-clause-distinct g t c = grind (arith, common_steps)

pub related_value-requires-clause-left : goal.related_value-requires-clause-left
related_value-requires-clause-left g t c = grind (arith, common_steps)
