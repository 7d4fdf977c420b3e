use Rattle.kc_expr.proofs.Common.{◌-◌, arith, common_steps, string_bytes, length-map, stored_names}
use Rattle.kc_expr.proofs.Places.{place_of_held}
use Rattle.kc_expr.proofs.node_store.NodeStore.find_newest.Goals as goal

pub returns-then-has_at : goal.returns-then-has_at
returns-then-has_at c = record {
  place = place_of_held (stored_names c.args.self.now) (c.len-count.result - 1) c.args.name.now c.requires.sound.distinct
      (omega (arith, length-map c.args.self.now.names.keys string_bytes)) (c.has_at.ensures.name c.if-has_at.true);
}

pub returns-then-has_at-2 : goal.returns-then-has_at-2
returns-then-has_at-2 c = record {
  place = place_of_held (stored_names c.args.self.now) (c.len-count.result - 2) c.args.name.now c.requires.sound.distinct
      (omega (arith, length-map c.args.self.now.names.keys string_bytes)) (c.has_at-then-count-gt1.ensures.name c.if-has_at-2.true);
}

pub overflow_sub-result-then-has_at-2 : goal.overflow_sub-result-then-has_at-2
overflow_sub-result-then-has_at-2 c = omega arith

pub overflow_sub-result : goal.overflow_sub-result
overflow_sub-result c = omega arith

pub has_at-requires-then-count-gt1 : goal.has_at-requires-then-count-gt1
has_at-requires-then-count-gt1 c = grind (arith, common_steps)

pub has_at-requires : goal.has_at-requires
has_at-requires c = grind (arith, common_steps)
