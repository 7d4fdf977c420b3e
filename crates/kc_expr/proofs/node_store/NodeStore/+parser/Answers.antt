use Rattle.kc_expr.proofs.Common.{◌≡◌, ℕ, ◌+◌, ◌-◌, ◌≤◌, List, length, drop, Some, inl, inr, arith, rules, common_steps, both_ways, length-map, err_from_is_err_and, TokenKind, first_kind, lexeme_of, lexemes_of}
use Rattle.kc_tokens.specs.declared.token.Token.{Token}
use Rattle.kc_expr.proofs.ParserNames.{read_negated, read_joined}
use Rattle.kc_expr.proofs.ParseSteps.{factor_is_operand, factor_beyond, not_fails, not_parsed, open_fails, open_unclosed, open_parsed, parses_by, kind_within, chain_first_fails, chain_begins, chain_fails, chain_goes_on, chain_ends}
use Rattle.kc_expr.proofs.StoreLemmas.{represents_later, represents_node, extends_on}
use Rattle.kc_expr.proofs.node_store.NodeStore.+parser.Goals as goal
use Rattle.kc_expr.proofs.node_store.NodeStore.+parser.Goals.{parse_factor-else-not-negated-via-then-not-negated+else-not-is_kind_at, parse_factor-else-not-negated-via-else-not-negated}

pub parse_joined-returns-in_err-left : goal.parse_joined-returns-in_err-left
parse_joined-returns-in_err-left t c =
    let p = err_from_is_err_and c.from_residual.result c.from_residual.ensures.1 in record {
      sound = c.parse_part.ensures.sound;
      extends = c.parse_part.ensures.extends;
      names = rw p.1 tt;
      parses = rw (p.1, p.2) (chain_first_fails c.args.connective
          (lexemes_of c.args.input.now.tokens.now) c.args.input.now.condition c.args.at c.args.input.now.depth _ c.in_err-left.ensures.parses);
    }

pub parse_joined-parts-init : goal.parse_joined-parts-init
parse_joined-parts-init t c = record {
  sound = c.parse_part.ensures.sound;
  extends = c.parse_part.ensures.extends;
  names = c.in_ok-left.ensures.names;
  chained = chain_begins c.args.connective
      (lexemes_of c.args.input.now.tokens.now) c.args.input.now.condition c.args.at c.args.input.now.depth c.parse_part.new.self _ _ c.in_ok-left.ensures.parses;
}

pub parse_joined-returns-in_err-right : goal.parse_joined-returns-in_err-right
parse_joined-returns-in_err-right t c =
    let p = err_from_is_err_and c.from_residual-in_err-right.result c.from_residual-in_err-right.ensures.1 in record {
      sound = c.parse_part-in-parts.ensures.sound;
      extends = extends_on c.args.self.now c.parts.self c.parse_part-in-parts.new.self c.parts.invariant.extends
          c.parse_part-in-parts.ensures.extends;
      names = rw p.1 tt;
      parses = rw (p.1, p.2) (chain_fails c.args.connective
          (lexemes_of c.args.input.now.tokens.now) c.args.input.now.condition c.args.at c.args.input.now.depth c.parts.self _ _ c.parts.invariant.chained
          (c.is_connective_at.ensures.0 c.parts-test.true) _ c.in_err-right.ensures.parses);
    }

pub parse_joined-push-requires : goal.parse_joined-push-requires
parse_joined-push-requires t c = record {
  fits = (let left = represents_later c.parts.self c.parse_part-in-parts.new.self c.parts.left _ c.parts.invariant.sound c.parse_part-in-parts.ensures.extends
      c.parts.invariant.chained.represents in (
        represents_node c.parse_part-in-parts.new.self c.parts.left _ left,
        represents_node c.parse_part-in-parts.new.self c.in_ok-right.right _ c.in_ok-right.ensures.parses.represents,
      ));
  sound = c.parse_part-in-parts.ensures.sound;
}

pub parse_joined-parts-preserved : goal.parse_joined-parts-preserved
parse_joined-parts-preserved t c = record {
  sound = c.push.ensures.sound;
  extends = extends_on c.args.self.now c.parse_part-in-parts.new.self c.push.new.self
      (extends_on c.args.self.now c.parts.self c.parse_part-in-parts.new.self c.parts.invariant.extends c.parse_part-in-parts.ensures.extends)
      c.push.ensures.extends;
  names = read_joined c.args.self.now c.push.new.self _ c.args.connective c.parts.self c.parse_part-in-parts.new.self c.parts.left c.in_ok-right.right _
      c.parts.invariant.names c.parts.invariant.sound c.parse_part-in-parts.ensures.extends c.parts.invariant.chained.represents c.in_ok-right.ensures.names
      c.push.ensures.names c.in_ok-left-2.ensures.represents;
  chained = chain_goes_on c.args.connective
      (lexemes_of c.args.input.now.tokens.now) c.args.input.now.condition c.args.at c.args.input.now.depth c.parts.self c.parse_part-in-parts.new.self c.push.new.self _ _ _ _ _
      c.parts.invariant.chained (c.is_connective_at.ensures.0 c.parts-test.true) c.parts.invariant.sound c.parse_part-in-parts.ensures.extends
      c.in_ok-right.ensures.parses c.in_ok-left-2.ensures.represents;
}

pub parse_joined-returns : goal.parse_joined-returns
parse_joined-returns t c = record {
  sound = c.parts.invariant.sound;
  extends = c.parts.invariant.extends;
  names = c.parts.invariant.names;
  parses = chain_ends c.args.connective (lexemes_of c.args.input.now.tokens.now) c.args.input.now.condition c.args.at c.args.input.now.depth c.parts.self _ _ c.parts.invariant.chained
      (λ k. both_ways _ c.parts-test.false (c.is_connective_at.ensures.1 k));
}

pub parse_factor-returns-then-not-is_kind_at : goal.parse_factor-returns-then-not-is_kind_at
parse_factor-returns-then-not-is_kind_at t c = record {
  sound = c.parse_relation.ensures.sound;
  extends = c.parse_relation.ensures.extends;
  names = c.parse_relation.ensures.names;
  parses = (let same = factor_is_operand (lexemes_of c.args.input.now.tokens.now) c.args.input.now.condition c.args.at c.args.input.now.depth
      (λ k. both_ways _ c.if-not-negated.true (c.is_kind_at-negated.ensures.1 k)) (λ k. both_ways _ c.if-not-is_kind_at.true (c.is_kind_at.ensures.1 k)) in
      parses_by c.parse_relation.new.self (lexemes_of c.args.input.now.tokens.now) c.args.input.now.condition c.args.at _ _ c.parse_relation.result same
      c.parse_relation.ensures.parses);
}

pub parse_factor-returns-then-input-eq0 : goal.parse_factor-returns-then-input-eq0
parse_factor-returns-then-input-eq0 t c = record {
  sound = c.requires.sound;
  extends = grind (arith, common_steps);
  names = omega arith;
  parses = factor_beyond (lexemes_of c.args.input.now.tokens.now) c.args.input.now.condition c.args.at c.args.input.now.depth _ c.if-input-eq0.true
      (elim c.else-not-negated.branch [
        | parse_factor-else-not-negated-via-then-not-negated+else-not-is_kind_at w ↦
            inr (w.is_kind_at.ensures.0 w.if-not-is_kind_at.false)
        | parse_factor-else-not-negated-via-else-not-negated w ↦
            inl (c.is_kind_at-negated.ensures.0 w.if-not-negated.false)
      ]) c.too_deep.ensures.fault;
}

pub parse_factor-returns-in_err-part : goal.parse_factor-returns-in_err-part
parse_factor-returns-in_err-part t c =
    let p = err_from_is_err_and c.from_residual.result c.from_residual.ensures.1 in record {
      sound = c.parse_factor.ensures.sound;
      extends = c.parse_factor.ensures.extends;
      names = rw p.1 tt;
      parses = rw (p.1, p.2) (not_fails (lexemes_of c.args.input.now.tokens.now) c.args.input.now.condition c.args.at c.args.input.now.depth (c.args.input.now.depth - 1) (omega arith)
          (c.is_kind_at-negated.ensures.0 c.if-negated.true) _ c.in_err-part.ensures.parses);
    }

pub parse_factor-push-requires : goal.parse_factor-push-requires
parse_factor-push-requires t c = record {
  fits = represents_node c.parse_factor.new.self c.in_ok-part.part _ c.in_ok-part.ensures.parses.represents;
  sound = c.parse_factor.ensures.sound;
}

pub parse_factor-returns-then-negated : goal.parse_factor-returns-then-negated
parse_factor-returns-then-negated t c = record {
  sound = c.push.ensures.sound;
  extends = extends_on c.args.self.now c.parse_factor.new.self c.push.new.self c.parse_factor.ensures.extends
      c.push.ensures.extends;
  names = read_negated c.args.self.now c.push.new.self _ c.parse_factor.new.self c.in_ok-part.part
      c.in_ok-part.ensures.names c.push.ensures.names c.in_ok-push.ensures.represents;
  parses = not_parsed (lexemes_of c.args.input.now.tokens.now) c.args.input.now.condition c.args.at c.args.input.now.depth (c.args.input.now.depth - 1) (omega arith)
      (c.is_kind_at-negated.ensures.0 c.if-negated.true) c.parse_factor.new.self c.push.new.self _ _ _ c.in_ok-part.ensures.parses c.in_ok-push.ensures.represents;
}

pub parse_factor-returns-in_err-id : goal.parse_factor-returns-in_err-id
parse_factor-returns-in_err-id t c =
    let p = err_from_is_err_and c.from_residual-in_err-id.result c.from_residual-in_err-id.ensures.1 in record {
      sound = c.parse_joined.ensures.sound;
      extends = c.parse_joined.ensures.extends;
      names = rw p.1 tt;
      parses = rw (p.1, p.2) (open_fails (lexemes_of c.args.input.now.tokens.now) c.args.input.now.condition c.args.at c.args.input.now.depth (c.args.input.now.depth - 1) (omega arith)
          (elim c.else-not-negated.branch [
            | parse_factor-else-not-negated-via-then-not-negated+else-not-is_kind_at w ↦
                w.is_kind_at.ensures.0 w.if-not-is_kind_at.false
            | parse_factor-else-not-negated-via-else-not-negated w ↦
                absurd (both_ways _ c.if-negated.false w.if-not-negated.false)
          ]) _ c.in_err-id.ensures.parses);
    }

pub parse_factor-returns-then-is_kind_at : goal.parse_factor-returns-then-is_kind_at
parse_factor-returns-then-is_kind_at t c = record {
  sound = c.parse_joined.ensures.sound;
  extends = c.parse_joined.ensures.extends;
  names = c.in_ok-id.ensures.names;
  parses = open_parsed (lexemes_of c.args.input.now.tokens.now) c.args.input.now.condition c.args.at c.args.input.now.depth (c.args.input.now.depth - 1) (omega arith)
      (elim c.else-not-negated.branch [
        | parse_factor-else-not-negated-via-then-not-negated+else-not-is_kind_at w ↦
            w.is_kind_at.ensures.0 w.if-not-is_kind_at.false
        | parse_factor-else-not-negated-via-else-not-negated w ↦
            absurd (both_ways _ c.if-negated.false w.if-not-negated.false)
      ]) c.parse_joined.new.self _ _ c.in_ok-id.ensures.parses
      (c.is_kind_at-2.ensures.0 c.if-is_kind_at.true);
}

pub parse_factor-returns-else-is_kind_at : goal.parse_factor-returns-else-is_kind_at
parse_factor-returns-else-is_kind_at t c = record {
  sound = c.parse_joined.ensures.sound;
  extends = c.parse_joined.ensures.extends;
  names = omega arith;
  parses = open_unclosed (lexemes_of c.args.input.now.tokens.now) c.args.input.now.condition c.args.at c.args.input.now.depth (c.args.input.now.depth - 1) (omega arith)
      (elim c.else-not-negated.branch [
        | parse_factor-else-not-negated-via-then-not-negated+else-not-is_kind_at w ↦
            w.is_kind_at.ensures.0 w.if-not-is_kind_at.false
        | parse_factor-else-not-negated-via-else-not-negated w ↦
            absurd (both_ways _ c.if-negated.false w.if-not-negated.false)
      ]) c.parse_joined.new.self _ _ c.in_ok-id.ensures.parses
      (λ k. both_ways _ c.if-is_kind_at.false (c.is_kind_at-2.ensures.1 k)) _ c.fault_at.ensures;
}

next_within : (all : List Token) (at : ℕ) (k : TokenKind) → first_kind (drop at (lexemes_of all)) ≡ Some k → at + 1 ≤ length all
next_within all at k e = omega (arith, kind_within (lexemes_of all) at k e, length-map all lexeme_of)

pub parse_joined-parse_part-requires-in-parts : goal.parse_joined-parse_part-requires-in-parts
parse_joined-parse_part-requires-in-parts t c =
    (search rules, (next_within c.args.input.now.tokens.now c.parts.next _ (c.is_connective_at.ensures.0 c.parts-test.true), c.parts.invariant.sound))

pub parse_joined-returns-in_err-left-2 : goal.parse_joined-returns-in_err-left-2
parse_joined-returns-in_err-left-2 t c =
    let p = err_from_is_err_and c.from_residual-in_err-left-2.result c.from_residual-in_err-left-2.ensures.1 in record {
      sound = c.push.ensures.sound;
      extends = extends_on c.args.self.now c.parse_part-in-parts.new.self c.push.new.self
          (extends_on c.args.self.now c.parts.self c.parse_part-in-parts.new.self c.parts.invariant.extends c.parse_part-in-parts.ensures.extends)
          c.push.ensures.extends;
      names = rw p.1 tt;
      parses = rw (p.1, p.2) (inl c.in_err-left-2.ensures.memory);
    }

pub parse_factor-parse_relation-requires : goal.parse_factor-parse_relation-requires
parse_factor-parse_relation-requires t c = record {
  within = c.requires.within;
  sound = c.requires.sound;
}

pub parse_factor-returns-in_err-push : goal.parse_factor-returns-in_err-push
parse_factor-returns-in_err-push t c =
    let p = err_from_is_err_and c.from_residual-in_err-push.result c.from_residual-in_err-push.ensures.1 in record {
      sound = c.push.ensures.sound;
      extends = extends_on c.args.self.now c.parse_factor.new.self c.push.new.self c.parse_factor.ensures.extends
          c.push.ensures.extends;
      names = rw p.1 tt;
      parses = rw (p.1, p.2) (inl c.in_err-push.ensures.memory);
    }

pub parse_joined-overflow_add-next : goal.parse_joined-overflow_add-next
parse_joined-overflow_add-next t c = grind (arith, common_steps)

pub parse_joined-parts-smaller : goal.parse_joined-parts-smaller
parse_joined-parts-smaller t c = grind (arith, common_steps)

pub parse_factor-overflow_add-result : goal.parse_factor-overflow_add-result
parse_factor-overflow_add-result t c = grind (arith, common_steps)

pub parse_joined-parse_part-requires : goal.parse_joined-parse_part-requires
parse_joined-parse_part-requires t c = grind (arith, common_steps)

pub parse_factor-parse_joined-requires : goal.parse_factor-parse_joined-requires
parse_factor-parse_joined-requires t c = grind (arith, common_steps)

pub parse_factor-too_deep-requires : goal.parse_factor-too_deep-requires
parse_factor-too_deep-requires t c = grind (arith, common_steps)

pub parse_factor-parse_factor-requires : goal.parse_factor-parse_factor-requires
parse_factor-parse_factor-requires t c = grind (arith, common_steps)
