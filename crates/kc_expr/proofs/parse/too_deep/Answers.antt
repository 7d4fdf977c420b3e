use Rattle.kc_expr.proofs.Common.{ap, sym, ◌∙◌, drop, arith, common_steps, both_ways, Malformed, TooDeep, past_depth_limit, lexemes_of}
use Rattle.kc_expr.proofs.ReaderSteps.{drop_one, beyond_next, beyond_symbol, beyond_other}
use Rattle.kc_expr.proofs.TokenPlaces.{opened_within}
use Rattle.kc_expr.proofs.parse.too_deep.Goals as goal

pub loop-symbol-preserved : goal.loop-symbol-preserved
loop-symbol-preserved c =
    let opens = c.is_prefix_at.ensures.0 c.loop-symbol-test.true in
    record {
      within = opened_within c.args.tokens.now c.loop-symbol.symbol opens;
      same = ap past_depth_limit (drop_one c.loop-symbol.symbol (lexemes_of c.args.tokens.now))
          ∙ sym (beyond_next (drop c.loop-symbol.symbol (lexemes_of c.args.tokens.now)) opens) ∙ c.loop-symbol.invariant.same;
    }

pub returns-then-is_symbol_at : goal.returns-then-is_symbol_at
returns-then-is_symbol_at c =
    record {
      fault = (
        (TooDeep, drop c.loop-symbol.symbol (lexemes_of c.args.tokens.now)),
        sym c.loop-symbol.invariant.same
            ∙ beyond_symbol _ (c.is_symbol_at.ensures.0 c.if-is_symbol_at.true),
        c.fault_at.ensures,
      );
    }

pub returns-else-is_symbol_at : goal.returns-else-is_symbol_at
returns-else-is_symbol_at c = record {
  fault = (
    (Malformed, drop c.loop-symbol.symbol (lexemes_of c.args.tokens.now)),
    sym c.loop-symbol.invariant.same ∙ beyond_other _ (λ o. both_ways _ c.loop-symbol-test.false (c.is_prefix_at.ensures.1 o))
        (λ o. both_ways _ c.if-is_symbol_at.false (c.is_symbol_at.ensures.1 o)),
    c.fault_at-else-is_symbol_at.ensures,
  );
}

pub loop-symbol-smaller : goal.loop-symbol-smaller
loop-symbol-smaller c = grind (arith, common_steps)
