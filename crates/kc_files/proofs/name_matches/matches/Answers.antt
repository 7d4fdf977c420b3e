use Rattle.kc_files.proofs.Common.{◌≡◌, List, Bool, arith, ap, ◌∙◌, sym, ◌-◌, ◌∷◌, drop, get_or, subst, suc, ℕ, drop-cons, HasEndMatches}
use Rattle.kc_files.proofs.MatchLemmas.{as_written}
use Rattle.kc_files.proofs.name_matches.matches.Goals as goal

pub loop-left-preserved : goal.loop-left-preserved
loop-left-preserved c =
    let n = c.loop-left.left - 1 in
    let piece = c.args.piece.now in
    let name = c.args.name.now in
    let next : suc n ≡ c.loop-left.left = omega arith in
    let cut : drop n piece ≡ get_or piece n 0 ∷ drop c.loop-left.left piece = drop-cons piece n 0 (omega arith)
    ∙ ap (λ k. get_or piece n 0 ∷ drop k piece) next in
    let old : HasEndMatches (drop c.loop-left.left piece) name c.deref_mut.result.now =
    subst (λ (e : List Bool). HasEndMatches (drop c.loop-left.left piece) name e) (sym c.deref_mut.ensures.value) c.loop-left.invariant.ends in
    let new : HasEndMatches (get_or piece n 0 ∷ drop c.loop-left.left piece) name c.pass.new.ends = c.pass.ensures.matches (drop c.loop-left.left piece) old in
    record {
      within = omega arith;
      ends = subst (λ (e : List Bool). HasEndMatches (drop n piece) name e)
          (sym (as_written c.loop-left.ends.len c.pass.new.ends c.loop-left.ends.items (omega arith)))
          (subst (λ (p : List ℕ). HasEndMatches p name c.pass.new.ends) (sym cut) new);
    }
