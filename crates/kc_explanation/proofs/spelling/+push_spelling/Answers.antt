use Rattle.std.proofs.Common.{subst}
use Rattle.kc_explanation.proofs.Common.{◌≡◌, true, false, ap, sym, ◌∙◌, arith, on_ok_weaker, node_expr, is_enclosed, spelling_in_reverse}
use Rattle.kc_expr.specs.between.ExprParts.{expr_of_parts, ArePartsOf}
use Rattle.kc_explanation.proofs.SpellingLemmas.{in_whole, bare_both, bare_either, closed, past_operator, ended, ended_by_not, alone_token, relation_tokens}
use Rattle.kc_explanation.proofs.spelling.+push_spelling.Goals as goal

pub returns-then-is_enclosed-clause-tokens : goal.returns-then-is_enclosed-clause-tokens
returns-then-is_enclosed-clause-tokens t c =
    let arena = c.args.arena.now in
    let here : is_enclosed c.down.here (node_expr arena c.down.at) ≡ true = ap (is_enclosed c.down.here) c.parts-parts.ensures.expr ∙ sym (c.is_enclosed.ensures arena) ∙ c.if-is_enclosed.true in
    on_ok_weaker c.push_token-then-is_enclosed.result
    (λ w. closed _ _ _ _ _ _ _ (in_whole c.down.here (node_expr arena c.down.at) here) c.down.invariant.tokens (c.in_ok-push_token.ensures.tokens arena) c.in_ok-push_spelling.ensures.tokens w)
    (c.push_token-then-is_enclosed.ensures.tokens arena)

pub returns-then-is_enclosed-clause-held : goal.returns-then-is_enclosed-clause-held
returns-then-is_enclosed-clause-held t c =
    let arena = c.args.arena.now in
    on_ok_weaker c.push_token-then-is_enclosed.result
    (λ w h. w (c.in_ok-push_spelling.ensures.held (c.in_ok-push_token.ensures.held arena tt (c.down.invariant.held h))))
    (c.push_token-then-is_enclosed.ensures.held arena tt)

pub returns-in-Alone-clause-tokens : goal.returns-in-Alone-clause-tokens
returns-in-Alone-clause-tokens t c =
    let arena = c.args.arena.now in
    let e = c.parts-parts.ensures.expr ∙ ap (expr_of_parts arena) c.in-Alone.is in
    on_ok_weaker c.push_token-in-Alone.result
    (λ w. ended _ _ _ _ _ (alone_token c.down.here (node_expr arena c.down.at) _ e) c.down.invariant.tokens w)
    (c.push_token-in-Alone.ensures.tokens arena)

pub returns-in-Alone-clause-held : goal.returns-in-Alone-clause-held
returns-in-Alone-clause-held t c =
    let arena = c.args.arena.now in
    on_ok_weaker c.push_token-in-Alone.result (λ w h. w (c.down.invariant.held h)) (c.push_token-in-Alone.ensures.held arena (omega arith))

pub returns-in-Related-clause-tokens : goal.returns-in-Related-clause-tokens
returns-in-Related-clause-tokens t c =
    let arena = c.args.arena.now in
    let e = c.parts-parts.ensures.expr ∙ ap (expr_of_parts arena) c.in-Related.is in
    let open_here : is_enclosed c.down.here (node_expr arena c.down.at) ≡ false = ap (is_enclosed c.down.here) c.parts-parts.ensures.expr ∙ sym (c.is_enclosed.ensures arena) ∙ c.if-is_enclosed.false in
    on_ok_weaker c.push_relation.result
    (λ w. ended _ _ _ _ _ (relation_tokens c.down.here (node_expr arena c.down.at) c.in-Related.op _ _ e open_here) c.down.invariant.tokens w)
    (c.push_relation.ensures.tokens arena)

pub returns-in-Related-clause-held : goal.returns-in-Related-clause-held
returns-in-Related-clause-held t c =
    let arena = c.args.arena.now in
    on_ok_weaker c.push_relation.result (λ w h. w (c.down.invariant.held h)) (c.push_relation.ensures.held arena (omega arith))

pub returns-in-Negated-clause-tokens : goal.returns-in-Negated-clause-tokens
returns-in-Negated-clause-tokens t c =
    let arena = c.args.arena.now in
    let e = c.parts-parts.ensures.expr ∙ ap (expr_of_parts arena) c.in-Negated.is in
    on_ok_weaker c.push_token-in-Negated.result
    (λ w. ended_by_not _ _ _ _ _ _ (ap (spelling_in_reverse c.down.here) e) c.down.invariant.tokens c.in_ok-push_spelling-in-Negated.ensures.tokens w)
    (c.push_token-in-Negated.ensures.tokens arena)

pub returns-in-Negated-clause-held : goal.returns-in-Negated-clause-held
returns-in-Negated-clause-held t c =
    let arena = c.args.arena.now in
    on_ok_weaker c.push_token-in-Negated.result
    (λ w h. w (c.in_ok-push_spelling-in-Negated.ensures.held (c.down.invariant.held h)))
    (c.push_token-in-Negated.ensures.held arena tt)

pub down-preserved-in-Both : goal.down-preserved-in-Both
down-preserved-in-Both t c =
    let arena = c.args.arena.now in
    let e = c.parts-parts.ensures.expr ∙ ap (expr_of_parts arena) c.in-Both.is in
    let within = subst (ArePartsOf arena c.down.at) c.in-Both.is c.parts-parts.ensures.within in
    let open_here : is_enclosed c.down.here (node_expr arena c.down.at) ≡ false = ap (is_enclosed c.down.here) c.parts-parts.ensures.expr ∙ sym (c.is_enclosed.ensures arena) ∙ c.if-is_enclosed.false in
    record {
      order = omega (arith, within.0);
      below = omega (arith, within.0, c.down.invariant.below);
      tokens = past_operator _ _ _ _ _ _ _ _ (bare_both c.down.here (node_expr arena c.down.at) _ _ e open_here) c.down.invariant.tokens c.in_ok-push_spelling-in-Both.ensures.tokens (c.in_ok-push_token-in-Both.ensures.tokens arena);
      held = λ h. c.in_ok-push_token-in-Both.ensures.held arena tt (c.in_ok-push_spelling-in-Both.ensures.held (c.down.invariant.held h));
    }

pub down-preserved-in-Either : goal.down-preserved-in-Either
down-preserved-in-Either t c =
    let arena = c.args.arena.now in
    let e = c.parts-parts.ensures.expr ∙ ap (expr_of_parts arena) c.in-Either.is in
    let within = subst (ArePartsOf arena c.down.at) c.in-Either.is c.parts-parts.ensures.within in
    let open_here : is_enclosed c.down.here (node_expr arena c.down.at) ≡ false = ap (is_enclosed c.down.here) c.parts-parts.ensures.expr ∙ sym (c.is_enclosed.ensures arena) ∙ c.if-is_enclosed.false in
    record {
      order = omega (arith, within.0);
      below = omega (arith, within.0, c.down.invariant.below);
      tokens = past_operator _ _ _ _ _ _ _ _ (bare_either c.down.here (node_expr arena c.down.at) _ _ e open_here) c.down.invariant.tokens c.in_ok-push_spelling-in-Either.ensures.tokens (c.in_ok-push_token-in-Either.ensures.tokens arena);
      held = λ h. c.in_ok-push_token-in-Either.ensures.held arena tt (c.in_ok-push_spelling-in-Either.ensures.held (c.down.invariant.held h));
    }
