use Rattle.kc_files.proofs.Common.{◌≡◌, arith, ap, ◌∙◌, sym, take, length, ◌-◌, not, ◌==◌, suffix_len, nat_tests}
use Rattle.std.proofs.lemmas.List.Sums.{suffix_len-take_no}
use Rattle.kc_files.proofs.PathLemmas.{folder_is}
use Rattle.kc_files.proofs.paths.folder_of.Goals as goal
use Rattle.kc_files.proofs.paths.folder_of.Goals.{then-loop-end-test+else-path-end-ne47, else-loop-end-test}

pub returns : goal.returns
returns c =
    let path = c.args.path.now in
    let n = c.loop-end.end in
    let none : suffix_len (λ c. not (c == 47)) (take n path) ≡ 0 = elim c.loop-end-test.branch [
      | then-loop-end-test+else-path-end-ne47 w ↦ suffix_len-take_no (λ c. not (c == 47)) path n 0 (omega arith) (omega arith) (grind (arith, nat_tests))
      | else-loop-end-test w ↦ (let z : n ≡ 0 = omega arith in ap (λ k. suffix_len (λ c. not (c == 47)) (take k path)) z)
    ] in
    ap (λ k. take k path) (let k : n ≡ length path - suffix_len (λ c. not (c == 47)) path = omega (arith, none) in k) ∙ sym (folder_is path)
