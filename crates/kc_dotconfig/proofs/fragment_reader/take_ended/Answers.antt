use Rattle.kc_dotconfig.proofs.Common.{◌≡◌, ◌+◌, ◌∷◌, subst, inr, List, ℕ, [], ◌++◌, length, ◌<◌, ◌≤◌, ◌∙◌, ap, sym, refl, arith, common_steps, Err, err_from_is_err_and, tree_of_settled, LineTooLong, MAX_CONFIG_LINES, MAX_LINE_BYTES, file_format, AcceptsBytes}
use Rattle.kc_dotconfig.proofs.ReadingSteps.{none_of, line_taken, many_refuses, long_stops, stops_refuses, result_refused, result_taken, push_refused, lines_bound}
use Rattle.kc_dotconfig.proofs.fragment_reader.take_ended.Goals as goal

pub returns-then-accumulator-eq-MAX_CONFIG_LINES-clause-err : goal.returns-then-accumulator-eq-MAX_CONFIG_LINES-clause-err
returns-then-accumulator-eq-MAX_CONFIG_LINES-clause-err c =
    inr (many_refuses (file_format c.args.format.now) (tree_of_settled c.args.settled.now) c.args.buffer.now c.args.accumulator.now c.args.piece.now
    c.if-accumulator-eq-MAX_CONFIG_LINES.true)

pub returns-then-piece-gt-MAX_LINE_BYTES-clause-err : goal.returns-then-piece-gt-MAX_LINE_BYTES-clause-err
returns-then-piece-gt-MAX_LINE_BYTES-clause-err c =
    let few : c.args.accumulator.now.lines < MAX_CONFIG_LINES = (let h = c.requires.few in let n = c.if-accumulator-eq-MAX_CONFIG_LINES.false in omega arith) in
    let long : MAX_LINE_BYTES < length c.args.buffer.now + length c.args.piece.now = (let h = c.if-piece-gt-MAX_LINE_BYTES.true in omega arith) in
    inr (stops_refuses (file_format c.args.format.now) (tree_of_settled c.args.settled.now) c.args.buffer.now c.args.accumulator.now c.args.piece.now LineTooLong
    c.args.accumulator.now.lines refl (long_stops c.args.buffer.now c.args.piece.now c.args.accumulator.now.lines long c.requires.one_line few))

pub returns-then-is_empty-clause-ok : goal.returns-then-is_empty-clause-ok
returns-then-is_empty-clause-ok c =
    let few : c.args.accumulator.now.lines < MAX_CONFIG_LINES = (let h = c.requires.few in let n = c.if-accumulator-eq-MAX_CONFIG_LINES.false in omega arith) in
    let empty : c.args.buffer.now ≡ [] = sym c.line.ensures.line ∙ none_of c.line.result.now (sym c.is_empty.ensures ∙ c.if-is_empty.true) in
    let is : c.args.piece.now ≡ c.args.buffer.now ++ c.args.piece.now = ap (λ (x : List ℕ). x ++ c.args.piece.now) (sym empty) in
    result_taken c.take_line.result (file_format c.args.format.now) (tree_of_settled c.args.settled.now) c.args.buffer.now c.args.accumulator.now c.args.piece.now
    c.args.piece.now c.args.buffer.now c.take_line.new.accumulator is c.if-piece-gt-MAX_LINE_BYTES.false c.requires.one_line few empty c.take_line.ensures.ok

pub returns-then-is_empty-clause-err : goal.returns-then-is_empty-clause-err
returns-then-is_empty-clause-err c =
    let few : c.args.accumulator.now.lines < MAX_CONFIG_LINES = (let h = c.requires.few in let n = c.if-accumulator-eq-MAX_CONFIG_LINES.false in omega arith) in
    let empty : c.args.buffer.now ≡ [] = sym c.line.ensures.line ∙ none_of c.line.result.now (sym c.is_empty.ensures ∙ c.if-is_empty.true) in
    let is : c.args.piece.now ≡ c.args.buffer.now ++ c.args.piece.now = ap (λ (x : List ℕ). x ++ c.args.piece.now) (sym empty) in
    result_refused c.take_line.result (file_format c.args.format.now) (tree_of_settled c.args.settled.now) c.args.buffer.now c.args.accumulator.now
    c.args.piece.now c.args.piece.now c.take_line.new.accumulator.lines is c.if-piece-gt-MAX_LINE_BYTES.false c.requires.one_line few
    c.take_line.ensures.not_utf8 c.take_line.ensures.malformed c.take_line.ensures.kinds c.take_line.ensures.err

pub returns-then-is_empty-clause-few : goal.returns-then-is_empty-clause-few
returns-then-is_empty-clause-few c =
    let few : c.args.accumulator.now.lines < MAX_CONFIG_LINES = (let h = c.requires.few in let n = c.if-accumulator-eq-MAX_CONFIG_LINES.false in omega arith) in
    lines_bound c.take_line.result c.args.accumulator.now.lines c.take_line.new.accumulator.lines c.take_line.ensures.lines c.take_line.ensures.err few

pub returns-in_err-push-clause-err : goal.returns-in_err-push-clause-err
returns-in_err-push-clause-err c =
    let few : c.args.accumulator.now.lines < MAX_CONFIG_LINES = (let h = c.requires.few in let n = c.if-accumulator-eq-MAX_CONFIG_LINES.false in omega arith) in
    let p = err_from_is_err_and c.from_residual.result c.from_residual.ensures.1 in
    rw (p.1, p.2) (push_refused {T = Unit {0}} (Err c.in_err-push.field-0.0) (file_format c.args.format.now) (tree_of_settled c.args.settled.now)
    c.args.buffer.now c.args.accumulator.now c.args.piece.now c.in_err-push.ensures.long c.in_err-push.ensures.kinds c.requires.one_line few)

pub returns-in_err-take_line-clause-err : goal.returns-in_err-take_line-clause-err
returns-in_err-take_line-clause-err c =
    let few : c.args.accumulator.now.lines < MAX_CONFIG_LINES = (let h = c.requires.few in let n = c.if-accumulator-eq-MAX_CONFIG_LINES.false in omega arith) in
    let is : c.line-2.result.now ≡ c.args.buffer.now ++ c.args.piece.now = c.line-2.ensures.line ∙ c.in_ok-push.ensures.ok in
    let short : length c.line-2.result.now ≤ MAX_LINE_BYTES = (let e = ap length c.line-2.ensures.line in let h = c.line-2.ensures.short in omega arith) in
    let p = err_from_is_err_and c.from_residual-in_err-take_line.result c.from_residual-in_err-take_line.ensures.1 in
    rw (p.1, p.2) (result_refused {T = Unit {0}} (Err c.in_err-take_line.field-0.0) (file_format c.args.format.now) (tree_of_settled c.args.settled.now)
    c.args.buffer.now c.args.accumulator.now c.args.piece.now c.line-2.result.now c.take_line-2.new.accumulator.lines is short c.requires.one_line few
    c.in_err-take_line.ensures.not_utf8 c.in_err-take_line.ensures.malformed c.in_err-take_line.ensures.kinds c.in_err-take_line.ensures.err)

pub returns-clause-ok : goal.returns-clause-ok
returns-clause-ok c =
    let few : c.args.accumulator.now.lines < MAX_CONFIG_LINES = (let h = c.requires.few in let n = c.if-accumulator-eq-MAX_CONFIG_LINES.false in omega arith) in
    let is : c.line-2.result.now ≡ c.args.buffer.now ++ c.args.piece.now = c.line-2.ensures.line ∙ c.in_ok-push.ensures.ok in
    let short : length c.line-2.result.now ≤ MAX_LINE_BYTES = (let e = ap length c.line-2.ensures.line in let h = c.line-2.ensures.short in omega arith) in
    subst (λ (a : List ℕ). AcceptsBytes (file_format c.args.format.now) (tree_of_settled c.args.settled.now) c.args.buffer.now c.args.accumulator.now
    (c.args.piece.now ++ 10 ∷ []) a c.take_line-2.new.accumulator) (sym c.clear.ensures)
    (line_taken (file_format c.args.format.now) (tree_of_settled c.args.settled.now) c.args.buffer.now c.args.accumulator.now c.args.piece.now c.line-2.result.now
    c.take_line-2.new.accumulator is short c.requires.one_line few c.in_ok-take_line.ensures.ok)

pub returns-clause-few : goal.returns-clause-few
returns-clause-few c = let h = c.requires.few in let n = c.if-accumulator-eq-MAX_CONFIG_LINES.false in let e = c.in_ok-take_line.ensures.lines in omega arith

pub returns-then-piece-gt-MAX_LINE_BYTES-clause-few : goal.returns-then-piece-gt-MAX_LINE_BYTES-clause-few
returns-then-piece-gt-MAX_LINE_BYTES-clause-few c = grind (arith, common_steps)

pub take_line-requires : goal.take_line-requires
take_line-requires c = grind (arith, common_steps)

pub returns-in_err-take_line-clause-few : goal.returns-in_err-take_line-clause-few
returns-in_err-take_line-clause-few c = grind (arith, common_steps)

pub take_line-requires-2 : goal.take_line-requires-2
take_line-requires-2 c = grind (arith, common_steps)
