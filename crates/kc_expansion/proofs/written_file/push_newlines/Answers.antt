use Rattle.std.proofs.Common.{◌-◌}
use Rattle.kc_expansion.proofs.Common.{◌≡◌, ap, ◌∙◌, sym, arith, ◌++◌, suc, replicate, append-nil}
use Rattle.kc_expansion.proofs.WrittenFileLemmas.{newline_more}
use Rattle.kc_expansion.proofs.written_file.push_newlines.Goals as goal

pub loop-left-preserved : goal.loop-left-preserved
loop-left-preserved c =
    let left = c.loop-left.left in
    let next : suc (left - 1) ≡ left = omega arith in
    ap (λ xs. xs ++ replicate (left - 1) 10) c.in_ok-push.ensures.items ∙ newline_more c.loop-left.bytes.items (left - 1) left next ∙ c.loop-left.invariant

pub returns : goal.returns
returns c = sym (append-nil c.loop-left.bytes.items) ∙ ap (λ n. c.loop-left.bytes.items ++ replicate n 10) (let z : 0 ≡ c.loop-left.left = omega arith in z)
    ∙ c.loop-left.invariant
