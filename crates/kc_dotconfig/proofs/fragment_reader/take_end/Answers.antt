use Rattle.kc_dotconfig.proofs.Common.{◌≡◌, List, ℕ, [], length, ◌<◌, ◌∙◌, ap, sym, subst, inl, inr, arith, elements, tree_of_settled, MAX_CONFIG_LINES, file_format, EndsWell}
use Rattle.kc_dotconfig.proofs.ReadingSteps.{none_of, some_of, ends_empty, result_ends, result_ends_badly, lines_bound}
use Rattle.kc_dotconfig.proofs.fragment_reader.take_end.Goals as goal

pub returns-then-is_empty-clause-ok : goal.returns-then-is_empty-clause-ok
returns-then-is_empty-clause-ok c =
    let empty : c.args.buffer.now ≡ [] = sym c.line.ensures.line ∙ none_of c.line.result.now (sym c.is_empty.ensures ∙ c.if-is_empty.true) in
    subst (λ (l : List ℕ). EndsWell (file_format c.args.format.now) (tree_of_settled c.args.settled.now) l c.args.accumulator.now c.args.accumulator.now) (sym empty)
    (ends_empty (file_format c.args.format.now) (tree_of_settled c.args.settled.now) c.args.accumulator.now)

pub returns-clause-ok : goal.returns-clause-ok
returns-clause-ok c =
    let some : 0 < length c.line-2.result.now = (let a = ap length c.line-2.ensures.line in let b = ap length c.line.ensures.line in let h = some_of
    c.line.result.now (sym c.is_empty.ensures ∙ c.if-is_empty.false) in omega arith) in
    result_ends c.take_line.result (file_format c.args.format.now) (tree_of_settled c.args.settled.now) c.args.buffer.now c.line-2.result.now
    c.args.accumulator.now c.take_line.new.accumulator c.line-2.ensures.line some c.line-2.ensures.short c.take_line.ensures.ok

pub returns-clause-err : goal.returns-clause-err
returns-clause-err c =
    let some : 0 < length c.line-2.result.now = (let a = ap length c.line-2.ensures.line in let b = ap length c.line.ensures.line in let h = some_of
    c.line.result.now (sym c.is_empty.ensures ∙ c.if-is_empty.false) in omega arith) in
    result_ends_badly c.take_line.result (file_format c.args.format.now) (tree_of_settled c.args.settled.now) c.args.buffer.now c.line-2.result.now
    c.args.accumulator.now c.take_line.new.accumulator.lines c.line-2.ensures.line some c.take_line.ensures.not_utf8 c.take_line.ensures.malformed
    c.take_line.ensures.kinds c.take_line.ensures.err

pub returns-clause-few : goal.returns-clause-few
returns-clause-few c h =
    let some : 0 < length c.args.buffer.now = (let b = ap length c.line.ensures.line in let h = some_of c.line.result.now
    (sym c.is_empty.ensures ∙ c.if-is_empty.false) in omega arith) in
    let few : c.args.accumulator.now.lines < MAX_CONFIG_LINES = elim c.requires.room [ inl e ↦ (let a = ap length e in absurd (omega arith)) | inr h ↦ h ] in
    lines_bound c.take_line.result c.args.accumulator.now.lines c.take_line.new.accumulator.lines c.take_line.ensures.lines c.take_line.ensures.err few

pub take_line-requires : goal.take_line-requires
take_line-requires c = record { few = grind (arith, elements) }
