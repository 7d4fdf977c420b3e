use Rattle.kc_expr.proofs.Common.{rules, sym, ◌∙◌, inl, arith, common_steps, operand_of, stored_names, lexemes_of, err_from_is_err_and}
use Rattle.kc_expr.proofs.ParserNames.{read_alone, read_related}
use Rattle.kc_expr.proofs.ParseSteps.{relation_missing, relation_alone, relation_unfinished, relation_whole}
use Rattle.kc_expr.proofs.StoreLemmas.{operand_on, extends_on}
use Rattle.kc_expr.proofs.node_store.NodeStore.parse_relation.Goals as goal

pub returns-in_default : goal.returns-in_default
returns-in_default c = record {
  sound = c.leaf_at.ensures.sound;
  extends = c.leaf_at.ensures.extends;
  names = search rules;
  parses = relation_missing (operand_of (stored_names c.leaf_at.new.self) c.leaf_at.new.self.texts.items) _
      (lexemes_of c.args.input.now.tokens.now) c.args.at c.in_ok-left.ensures.operand _ c.in_default.is c.fault_at.ensures;
}

pub returns-in_default-relation_at : goal.returns-in_default-relation_at
returns-in_default-relation_at c = record {
  sound = c.push_alone.ensures.sound;
  extends = extends_on c.args.self.now c.leaf_at.new.self c.push_alone.new.self c.leaf_at.ensures.extends
      c.push_alone.ensures.extends;
  names = read_alone c.args.self.now c.push_alone.new.self _ c.leaf_at.new.self c.args.input.now.condition c.in-Some.left
      (rw c.in-Some.is at c.in_ok-left.ensures.names) c.in_ok-push_alone.ensures.names c.in_ok-push_alone.ensures.represents;
  parses = relation_alone (operand_of (stored_names c.leaf_at.new.self) c.leaf_at.new.self.texts.items) _ (lexemes_of c.args.input.now.tokens.now) c.args.at
      c.in_ok-left.ensures.operand _ c.in-Some.is
      c.push_alone.new.self c.args.input.now.condition _ (sym c.relation_at.ensures ∙ c.in_default-relation_at.is) c.in_ok-push_alone.ensures.represents;
}

pub returns-in_default-2 : goal.returns-in_default-2
returns-in_default-2 c = record {
  sound = c.leaf_at-2.ensures.sound;
  extends = extends_on c.args.self.now c.leaf_at.new.self c.leaf_at-2.new.self c.leaf_at.ensures.extends c.leaf_at-2.ensures.extends;
  names = omega arith;
  parses = relation_unfinished (operand_of (stored_names c.leaf_at.new.self) c.leaf_at.new.self.texts.items) _
      (lexemes_of c.args.input.now.tokens.now) c.args.at c.in_ok-left.ensures.operand _ c.in-Some.is
      _ (sym c.relation_at.ensures ∙ c.in-Some-relation_at.is) (operand_of (stored_names c.leaf_at-2.new.self) c.leaf_at-2.new.self.texts.items) _
      c.in_ok-right.ensures.operand _ c.in_default-2.is c.fault_at-in_default-2.ensures;
}

pub returns : goal.returns
returns c = record {
  sound = c.push.ensures.sound;
  extends = extends_on c.args.self.now c.leaf_at-2.new.self c.push.new.self
      (extends_on c.args.self.now c.leaf_at.new.self c.leaf_at-2.new.self c.leaf_at.ensures.extends c.leaf_at-2.ensures.extends) c.push.ensures.extends;
  names = read_related c.args.self.now c.push.new.self _ c.leaf_at.new.self c.leaf_at-2.new.self _ _ _ _ (rw c.in-Some.is at c.in_ok-left.ensures.names)
      (rw c.in-Some-2.is at c.in_ok-right.ensures.names) c.push.ensures.names
      (operand_on c.leaf_at.new.self c.leaf_at-2.new.self c.in-Some.left c.leaf_at-2.ensures.extends (rw c.in-Some.is at c.in_ok-left.ensures.fits))
      c.in_ok-push.ensures.represents;
  parses = relation_whole (operand_of (stored_names c.leaf_at.new.self) c.leaf_at.new.self.texts.items) _ (lexemes_of c.args.input.now.tokens.now) c.args.at
      c.in_ok-left.ensures.operand _ c.in-Some.is
      _ (sym c.relation_at.ensures ∙ c.in-Some-relation_at.is) (operand_of (stored_names c.leaf_at-2.new.self) c.leaf_at-2.new.self.texts.items) _
      c.in_ok-right.ensures.operand _ c.in-Some-2.is
      c.push.new.self c.args.input.now.condition _ _ (operand_on c.leaf_at.new.self c.leaf_at-2.new.self c.in-Some.left c.leaf_at-2.ensures.extends
      (rw c.in-Some.is at c.in_ok-left.ensures.fits)) c.in_ok-push.ensures.represents;
}

pub leaf_at-requires : goal.leaf_at-requires
leaf_at-requires c = record { sound = c.requires.sound }

pub returns-in_err-left : goal.returns-in_err-left
returns-in_err-left c = record {
  sound = c.leaf_at.ensures.sound;
  extends = c.leaf_at.ensures.extends;
  names = search rules;
  parses = (let p = err_from_is_err_and c.from_residual.result c.from_residual.ensures.1 in
      rw (p.1, p.2) (inl c.in_err-left.ensures.memory));
}

pub push_alone-requires : goal.push_alone-requires
push_alone-requires c = record {
  sound = c.leaf_at.ensures.sound;
  fits = rw c.in-Some.is at c.in_ok-left.ensures.fits;
}

pub returns-in_err-push_alone : goal.returns-in_err-push_alone
returns-in_err-push_alone c = record {
  sound = c.push_alone.ensures.sound;
  extends = extends_on c.args.self.now c.leaf_at.new.self c.push_alone.new.self c.leaf_at.ensures.extends
      c.push_alone.ensures.extends;
  names = search rules;
  parses = (let p = err_from_is_err_and c.from_residual-in_err-push_alone.result c.from_residual-in_err-push_alone.ensures.1 in
      rw (p.1, p.2) (inl c.in_err-push_alone.ensures.memory));
}

pub leaf_at-requires-2 : goal.leaf_at-requires-2
leaf_at-requires-2 c = record { sound = c.leaf_at.ensures.sound }

pub returns-in_err-right : goal.returns-in_err-right
returns-in_err-right c = record {
  sound = c.leaf_at-2.ensures.sound;
  extends = extends_on c.args.self.now c.leaf_at.new.self c.leaf_at-2.new.self c.leaf_at.ensures.extends c.leaf_at-2.ensures.extends;
  names = search rules;
  parses = (let p = err_from_is_err_and c.from_residual-in_err-right.result c.from_residual-in_err-right.ensures.1 in
      rw (p.1, p.2) (inl c.in_err-right.ensures.memory));
}

pub push-requires : goal.push-requires
push-requires c = record {
  sound = c.leaf_at-2.ensures.sound;
  fits = grind (arith, common_steps);
}

pub returns-in_err-push : goal.returns-in_err-push
returns-in_err-push c = record {
  sound = c.push.ensures.sound;
  extends = extends_on c.args.self.now c.leaf_at-2.new.self c.push.new.self
      (extends_on c.args.self.now c.leaf_at.new.self c.leaf_at-2.new.self c.leaf_at.ensures.extends c.leaf_at-2.ensures.extends) c.push.ensures.extends;
  names = search rules;
  parses = (let p = err_from_is_err_and c.from_residual-in_err-push.result c.from_residual-in_err-push.ensures.1 in
      rw (p.1, p.2) (inl c.in_err-push.ensures.memory));
}
