use Rattle.kc_expr.proofs.Common.{rules, arith, common_steps}
use Rattle.kc_expr.proofs.StoreLemmas.{extends_on}
use Rattle.kc_expr.proofs.node_store.NodeStore.parse_word.Goals as goal

pub returns : goal.returns
returns c = record {
  sound = grind (arith, common_steps);
  extends = extends_on c.args.self.now c.word_leaf.new.self c.push_alone.new.self c.word_leaf.ensures.extends c.push_alone.ensures.extends;
  names = search rules;
  represents = grind (arith, common_steps);
  memory = grind (arith, common_steps);
}

pub returns-in_err-leaf : goal.returns-in_err-leaf
returns-in_err-leaf c = record {
  sound = grind (arith, common_steps);
  extends = grind (arith, common_steps);
  names = search rules;
  represents = search rules;
  memory = grind (arith, common_steps);
}

pub push_alone-requires : goal.push_alone-requires
push_alone-requires c = record {
  sound = grind (arith, common_steps);
  fits = grind (arith, common_steps);
}
