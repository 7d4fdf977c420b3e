use Rattle.kc_dotconfig.proofs.Common.{inr, ◌<◌, ◌∙◌, sym, arith, common_steps, MAX_CONFIG_LINES}
use Rattle.kc_dotconfig.proofs.ReadingSteps.{some_of, many_stops, push_stops}
use Rattle.kc_dotconfig.proofs.fragment_reader.take_piece.Goals as goal

pub returns-then-lines-eq-MAX_CONFIG_LINES-clause-err : goal.returns-then-lines-eq-MAX_CONFIG_LINES-clause-err
returns-then-lines-eq-MAX_CONFIG_LINES-clause-err c =
    inr (many_stops c.args.buffer.now c.args.piece.now c.args.lines (some_of c.args.piece.now (sym c.is_empty.ensures ∙ c.if-is_empty.false))
    c.if-lines-eq-MAX_CONFIG_LINES.true)

pub returns-clause-err : goal.returns-clause-err
returns-clause-err c =
    let few : c.args.lines < MAX_CONFIG_LINES = (let h = c.requires.few in let n = c.if-lines-eq-MAX_CONFIG_LINES.false in omega arith) in
    push_stops c.push.result c.args.buffer.now c.args.piece.now c.args.lines c.push.ensures.long c.push.ensures.kinds c.requires.one_line few

pub returns-clause-ok : goal.returns-clause-ok
returns-clause-ok c = grind (arith, common_steps)

pub returns-then-is_empty-clause-ok : goal.returns-then-is_empty-clause-ok
returns-then-is_empty-clause-ok c = grind (arith, common_steps)
