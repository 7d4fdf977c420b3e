use Rattle.kc_files.proofs.Common.{◌≡◌, ap, ◌∙◌, sym, arith, ◌+◌, ◌-◌, suc, length, true, free_key, is_taken}
use Rattle.kc_files.proofs.KeyLemmas.{key_taken}
use Rattle.kc_files.proofs.expanded_files.ExpandedFiles.key_of.Goals as goal

pub overflow_add-number-end : goal.overflow_add-number-end
overflow_add-number-end c = omega (arith, c.len-count.ensures.small)

pub loop-number-preserved : goal.loop-number-preserved
loop-number-preserved c =
    let files = c.args.self.now in
    let root = c.args.root.now in
    let path = c.args.path.now in
    let text = c.args.text.now in
    let n = c.loop-number.number in
    let k = length files + 3 - (n + 1) in
    let next : suc k ≡ length files + 3 - n = omega (arith, c.len-count.ensures.value) in
    let taken : is_taken root files text c.loop-number.key.items ≡ true = ap (λ k. is_taken root files text k) (sym c.deref.ensures.value)
    ∙ sym c.if-not-is_taken.ensures.value in
    ap (λ q. free_key k root files path text q (n + 1)) c.in_ok-key-2.ensures
    ∙ sym (key_taken k root files path text c.loop-number.key.items n taken)
    ∙ ap (λ j. free_key j root files path text c.loop-number.key.items n) next
    ∙ c.loop-number.invariant
