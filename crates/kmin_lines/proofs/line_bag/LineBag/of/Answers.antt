use Rattle.std.proofs.Common.{◌≡◌, ◌+◌, ◌<◌, ◌^◌, ◌∷◌, ◌++◌, [], length, ap, sym, ◌∙◌, arith, append_assoc, length-append}
use Rattle.kmin_lines.specs.Lines.{lines_of}
use Rattle.kmin_lines.proofs.BagLemmas.{length_lines}
use Rattle.kmin_lines.proofs.PieceLemmas.{first_line}
use Rattle.kmin_lines.proofs.line_bag.LineBag.of.Goals as goal

pub loop-line-preserved : goal.loop-line-preserved
loop-line-preserved c =
    let inv = c.loop-line.invariant in
    let lines = inv.0 in
    let line = c.trim_carriage_return.result.now in
    let after = c.in-Some.after.now in
    let cut = first_line c.loop-line.rest.now _ line after c.in-Some.ensures.piece c.trim_carriage_return.ensures in
    let whole : lines ++ line ∷ lines_of after ≡ lines_of c.args.text.now = ap (λ ls. lines ++ ls) (sym cut) ∙ inv.2 in
    let few : length lines + 1 < 2 ^ 64 =
    (let a = length_lines c.args.text.now in let b = length-append lines (line ∷ lines_of after) in let d = ap length whole in omega arith) in
    (lines ++ line ∷ [], c.in_ok-add.ensures lines inv.1 few, append_assoc lines (line ∷ []) (lines_of after) ∙ whole)
