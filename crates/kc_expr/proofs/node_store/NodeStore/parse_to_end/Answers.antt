use Rattle.kc_expr.proofs.Common.{rules, ◌≡◌, Ok, drop, sym, ◌∙◌, arith, length-drop, common_steps, err_from_is_err_and, IfOk-weaker, length-map, alone, named, constant_or, lexemes_of, lexeme_of}
use Rattle.kc_expr.specs.checker.ParserResults.{read_all_tokens}
use Rattle.kc_expr.proofs.ParseSteps.{whole_refused, whole_too_long, whole_parsed}
use Rattle.kc_expr.proofs.ReaderSteps.{drop_one}
use Rattle.kc_expr.proofs.SingleWords.{word_whole}
use Rattle.kc_expr.proofs.node_store.NodeStore.parse_to_end.Goals as goal

pub returns-in_err-id : goal.returns-in_err-id
returns-in_err-id c = record {
  sound = search rules;
  extends = search rules;
  names = search rules;
  ok = search rules;
  fault = (let p = err_from_is_err_and c.from_residual.result c.from_residual.ensures.1 in
      rw (p.1, p.2) (whole_refused (lexemes_of c.args.tokens.now) c.args.condition c.args.at c.args.depth _ c.in_err-id.ensures.parses));
}

pub returns-then-next-tokens : goal.returns-then-next-tokens
returns-then-next-tokens c = record {
  sound = grind (arith, common_steps);
  extends = search rules;
  names = search rules;
  ok = search rules;
  fault = whole_too_long (lexemes_of c.args.tokens.now) c.args.condition c.args.at c.args.depth c.parse_joined.new.self _ _ c.in_ok-id.ensures.parses
      (omega (arith, length-drop c.in_ok-id.next (lexemes_of c.args.tokens.now), length-map c.args.tokens.now lexeme_of)) _ c.fault_at.ensures;
}

pub returns : goal.returns
returns c = record {
  sound = grind (arith, common_steps);
  extends = search rules;
  names = search rules;
  ok = whole_parsed (lexemes_of c.args.tokens.now) c.args.condition c.args.at c.args.depth c.parse_joined.new.self _ _ c.in_ok-id.ensures.parses
      (omega (arith, length-map c.args.tokens.now lexeme_of));
  fault = search rules;
}

pub returns-in-Some : goal.returns-in-Some
returns-in-Some c = record {
  sound = grind (arith, common_steps);
  extends = search rules;
  names = search rules;
  ok = (let e = c.in-Some.ensures in
      let reads : read_all_tokens c.args.depth (drop c.args.at (lexemes_of c.args.tokens.now)) ≡ Ok (alone (constant_or named c.in-Some.text.now)) =
      word_whole (drop c.args.at (lexemes_of c.args.tokens.now)) (constant_or named c.in-Some.text.now) e.kind e.operand
      (sym (drop_one c.args.at (lexemes_of c.args.tokens.now)) ∙ e.last) c.args.depth in
      IfOk-weaker c.parse_word.result _ _ (λ id s. record { expr = alone (constant_or named c.in-Some.text.now); reads = reads; represents = s })
      c.parse_word.ensures.represents);
  fault = grind (arith, common_steps);
}
