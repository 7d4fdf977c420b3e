use Rattle.kc_tokens.proofs.Common.{arith, refl, sym, length-drop, common_steps, take-length, with_front, lexemes_from, lexemes_of}
use Rattle.std.proofs.lemmas.Str.{IsCharBoundary-start}
use Rattle.kc_tokens.proofs.KeptLists.{kept_after}
use Rattle.kc_tokens.proofs.TokenSteps.{step_white, step_token_of, cut_after_token, rest_is, lexemes_more, text_is}
use Rattle.kc_tokens.proofs.token.scan_line.Goals as goal

pub loop-at-init : goal.loop-at-init
loop-at-init c = record { read = refl; kept = take-length c.args.found.now.items; cut = IsCharBoundary-start c.args.line.now c.utf8.line }

pub loop-at-preserved-in-White : goal.loop-at-preserved-in-White
loop-at-preserved-in-White c =
    let r = rest_is c.as_bytes-bytes.result.now c.args.line.now c.loop-at.at c.as_bytes-bytes.ensures.value in
    let e = rw r at c.in-White.ensures.lead in
    let b = rw r at c.in-White.ensures.reaches in
    record {
      read = step_white c.args.language c.args.line.now c.loop-at.at (lexemes_of c.loop-at.found.items)
          (with_front (lexemes_of c.args.found.now.items) (lexemes_from c.args.language 0 0 c.args.line.now))
          (omega (arith, c.as_bytes-bytes.ensures.len)) c.loop-at.invariant.read (sym e);
      kept = c.loop-at.invariant.kept;
      cut = cut_after_token c.args.line.now c.loop-at.at 1 c.utf8.line (omega arith)
          (omega (arith, length-drop c.loop-at.at c.args.line.now, c.as_bytes-bytes.ensures.len)) (omega (arith, c.as_bytes-bytes.ensures.len)) b;
    }

pub range-text-requires-clause-end_boundary : goal.range-text-requires-clause-end_boundary
range-text-requires-clause-end_boundary c =
    let r = rest_is c.as_bytes-bytes.result.now c.args.line.now c.loop-at.at c.as_bytes-bytes.ensures.value in
    let b = rw r at c.in-Token.ensures.reaches in
    cut_after_token c.args.line.now c.loop-at.at c.in-Token.len c.utf8.line b.0 b.1 (omega (arith, c.as_bytes-bytes.ensures.len)) b.2

pub loop-at-preserved : goal.loop-at-preserved
loop-at-preserved c =
    let r = rest_is c.as_bytes-bytes.result.now c.args.line.now c.loop-at.at c.as_bytes-bytes.ensures.value in
    let e = rw r at c.in-Token.ensures.lead in
    let b = rw r at c.in-Token.ensures.reaches in
    record {
      read = rw (
        c.in_ok-push-in-Token.ensures.items,
        lexemes_more,
        text_is c.args.line.now c.loop-at.at c.in-Token.len c.range-text.result.now
            c.range-text.ensures.value,
      ) (step_token_of c.args.language c.args.line.now c.loop-at.at (lexemes_of c.loop-at.found.items)
          (with_front (lexemes_of c.args.found.now.items) (lexemes_from c.args.language 0 0 c.args.line.now))
          (omega (arith, c.as_bytes-bytes.ensures.len)) c.loop-at.invariant.read c.in-Token.kind c.in-Token.len b.0 (sym e));
      kept = rw c.in_ok-push-in-Token.ensures.items (kept_after c.args.found.now.items c.loop-at.found.items _ c.loop-at.invariant.kept);
      cut = cut_after_token c.args.line.now c.loop-at.at c.in-Token.len c.utf8.line b.0 b.1 (omega (arith, c.as_bytes-bytes.ensures.len)) b.2;
    }

pub loop-at-smaller : goal.loop-at-smaller
loop-at-smaller c = grind (arith, common_steps)

pub overflow_add-end : goal.overflow_add-end
overflow_add-end c = grind (arith, common_steps)

pub returns-after-loop-at-clause-fault : goal.returns-after-loop-at-clause-fault
returns-after-loop-at-clause-fault c = omega arith

pub returns-in-Fault-clause-kept : goal.returns-in-Fault-clause-kept
returns-in-Fault-clause-kept c = grind (arith, common_steps)

pub range-text-requires-clause-start_le_end : goal.range-text-requires-clause-start_le_end
range-text-requires-clause-start_le_end c = grind (arith, common_steps)

pub overflow_add-at : goal.overflow_add-at
overflow_add-at c = omega arith

pub returns-after-loop-at-clause-kept : goal.returns-after-loop-at-clause-kept
returns-after-loop-at-clause-kept c = grind (arith, common_steps)

pub returns-in_err-push-in-Token-clause-kept : goal.returns-in_err-push-in-Token-clause-kept
returns-in_err-push-in-Token-clause-kept c = grind (arith, common_steps)

pub overflow_add-result : goal.overflow_add-result
overflow_add-result c = grind (arith, common_steps)

pub returns-in-Fault-clause-fault : goal.returns-in-Fault-clause-fault
returns-in-Fault-clause-fault c = grind (arith, common_steps)

pub returns-in-Comment-clause-fault : goal.returns-in-Comment-clause-fault
returns-in-Comment-clause-fault c = grind (arith, common_steps)

pub range-text-requires-clause-start_boundary : goal.range-text-requires-clause-start_boundary
range-text-requires-clause-start_boundary c = omega arith

pub loop-at-smaller-in-White : goal.loop-at-smaller-in-White
loop-at-smaller-in-White c = omega arith

pub returns-in-Fault-clause-tokens : goal.returns-in-Fault-clause-tokens
returns-in-Fault-clause-tokens c = omega arith

pub returns-in-Comment-clause-kept : goal.returns-in-Comment-clause-kept
returns-in-Comment-clause-kept c = grind (arith, common_steps)

pub returns-after-loop-at-clause-tokens : goal.returns-after-loop-at-clause-tokens
returns-after-loop-at-clause-tokens c = grind (arith, common_steps)

pub returns-in-Comment-clause-tokens : goal.returns-in-Comment-clause-tokens
returns-in-Comment-clause-tokens c = grind (arith, common_steps)
