use Rattle.kc_expr.proofs.Common.{rules, Some, ap, sym, ◌∙◌, arith, common_steps, Word, Quoted}
use Rattle.kc_expr.proofs.LeafLemmas.{operand_at, no_operand_at}
use Rattle.kc_expr.proofs.node_store.NodeStore.leaf_at.Goals as goal

pub returns-in_ok-word_leaf-in-Word : goal.returns-in_ok-word_leaf-in-Word
returns-in_ok-word_leaf-in-Word c = record {
  sound = grind (arith, common_steps);
  extends = search rules;
  fits = grind (arith, common_steps);
  names = grind (arith, common_steps);
  operand = ap Some c.in_ok-word_leaf-in-Word.ensures.operand ∙ sym (operand_at c.args.tokens.now c.args.at _ Word c.if-at-tokens.false c.in-Word.is);
  memory = search rules;
}

pub returns-in_ok-quoted_leaf-in-Quoted : goal.returns-in_ok-quoted_leaf-in-Quoted
returns-in_ok-quoted_leaf-in-Quoted c = record {
  sound = grind (arith, common_steps);
  extends = search rules;
  fits = grind (arith, common_steps);
  names = grind (arith, common_steps);
  operand = ap Some c.in_ok-quoted_leaf-in-Quoted.ensures.operand ∙ sym (operand_at c.args.tokens.now c.args.at _ Quoted c.if-at-tokens.false c.in-Quoted.is);
  memory = search rules;
}

pub returns-in_default : goal.returns-in_default
returns-in_default c = record {
  sound = grind (arith, common_steps);
  extends = grind (arith, common_steps);
  fits = search rules;
  names = search rules;
  operand = sym (no_operand_at c.args.tokens.now c.args.at _ c.if-at-tokens.false c.in_default.not-Word c.in_default.not-Quoted);
  memory = search rules;
}

pub returns-then-at-tokens : goal.returns-then-at-tokens
returns-then-at-tokens c = record {
  sound = search rules;
  extends = grind (arith, common_steps);
  fits = search rules;
  names = search rules;
  operand = grind (arith, common_steps);
  memory = search rules;
}
