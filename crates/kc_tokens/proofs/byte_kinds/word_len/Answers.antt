use Rattle.kc_tokens.proofs.Common.{◌≡◌, ℕ, ◌-◌, ◌<◌, length, get_or, sym, ◌∙◌, subst, arith, common_steps, take_while, is_word_byte}
use Rattle.kc_tokens.proofs.TokenSteps.{word_ends, run_stops, run_ends}
use Rattle.kc_tokens.proofs.byte_kinds.word_len.Goals as goal

pub returns-then-not-is_word-clause-ends : goal.returns-then-not-is_word-clause-ends
returns-then-not-is_word-clause-ends c =
    let none = run_stops c.args.bytes.now c.loop-i.i c.loop-i-test.true (sym c.is_word.ensures ∙ c.if-not-is_word.true) in
    let count : length (take_while is_word_byte c.args.bytes.now) ≡ c.loop-i.i = omega (arith, none, c.loop-i.invariant) in
    subst (λ (n : ℕ). 0 < n → get_or c.args.bytes.now (n - 1) 0 < 128) count (word_ends c.args.bytes.now)

pub returns-clause-ends : goal.returns-clause-ends
returns-clause-ends c =
    let none = run_ends c.args.bytes.now c.loop-i.i (omega arith) in
    let count : length (take_while is_word_byte c.args.bytes.now) ≡ length c.args.bytes.now = omega (arith, none, c.loop-i.invariant) in
    subst (λ (n : ℕ). 0 < n → get_or c.args.bytes.now (n - 1) 0 < 128) count (word_ends c.args.bytes.now)

pub returns-clause-count : goal.returns-clause-count
returns-clause-count c = grind (arith, common_steps)

pub returns-then-not-is_word-clause-run : goal.returns-then-not-is_word-clause-run
returns-then-not-is_word-clause-run c = grind (arith, common_steps)

pub loop-i-preserved : goal.loop-i-preserved
loop-i-preserved c = grind (arith, common_steps)

pub returns-then-not-is_word-clause-count : goal.returns-then-not-is_word-clause-count
returns-then-not-is_word-clause-count c = grind (arith, common_steps)
