use Rattle.kc_dotconfig.proofs.Common.{inl, inr, length, get_or, refl, sym, ap, ◌∙◌, List, ℕ, arith, common_steps, false≢true, TreeModel, UserValue, tree_of_settled}
use Rattle.kc_dotconfig.proofs.FragmentFits.{at_item, unfit, next_is, next_rises, next_each, all_fit}
use Rattle.kc_dotconfig.proofs.fragment.Fragment.fits.Goals.{then-unit-next-via-then-unit-next, then-unit-next-via-else-unit-next+then-unit-len, then-unit-next-via-else-unit-next+else-unit-len+then-not-user_fits}
use Rattle.kc_dotconfig.proofs.fragment.Fragment.fits.Goals as goal

pub returns-then-unit-next : goal.returns-then-unit-next
returns-then-unit-next c = (
  λ f. absurd (false≢true f),
  elim c.then-unit-next.branch [
    | then-unit-next-via-then-unit-next w ↦ λ fits. absurd (unfit (tree_of_settled c.args.settled.now) c.args.self.now.assigns.items c.loop-unit.unit-index
        c.loop-unit-item.result.0 c.loop-unit-item.result.1 (at_item c.args.self.now.assigns.items c.loop-unit.unit-index c.loop-unit-item.result
        (let h = c.loop-unit-test.true in let n = ap length c.deref-unit-items.ensures.value in omega (arith, h, n))
        (c.loop-unit-item.is ∙ ap (λ (l : List (ℕ × UserValue)). get_or l c.loop-unit.unit-index c.loop-unit-item.result) c.deref-unit-items.ensures.value))
        (inl (let h = w.if-unit-next.true in let n = c.loop-unit.invariant.next in omega (arith, h, n))) fits)
    | then-unit-next-via-else-unit-next+then-unit-len w ↦ λ fits. absurd
        (unfit (tree_of_settled c.args.settled.now) c.args.self.now.assigns.items c.loop-unit.unit-index c.loop-unit-item.result.0 c.loop-unit-item.result.1
        (at_item c.args.self.now.assigns.items c.loop-unit.unit-index c.loop-unit-item.result
        (let h = c.loop-unit-test.true in let n = ap length c.deref-unit-items.ensures.value in omega (arith, h, n))
        (c.loop-unit-item.is ∙ ap (λ (l : List (ℕ × UserValue)). get_or l c.loop-unit.unit-index c.loop-unit-item.result) c.deref-unit-items.ensures.value))
        (inr (inl (let h = w.if-unit-len.true in let n = w.len.ensures in let t = ap (λ (x : TreeModel). length x.tree.units) w.tree.ensures.tree in omega
        (arith, h, n, t)))) fits)
    | then-unit-next-via-else-unit-next+else-unit-len+then-not-user_fits w ↦ λ fits. absurd
        (unfit (tree_of_settled c.args.settled.now) c.args.self.now.assigns.items c.loop-unit.unit-index c.loop-unit-item.result.0 c.loop-unit-item.result.1
        (at_item c.args.self.now.assigns.items c.loop-unit.unit-index c.loop-unit-item.result
        (let h = c.loop-unit-test.true in let n = ap length c.deref-unit-items.ensures.value in omega (arith, h, n))
        (c.loop-unit-item.is ∙ ap (λ (l : List (ℕ × UserValue)). get_or l c.loop-unit.unit-index c.loop-unit-item.result) c.deref-unit-items.ensures.value))
        (inr (inr (sym w.user_fits.ensures.value ∙ w.if-not-user_fits.true))) fits)
  ],
)

pub loop-unit-preserved : goal.loop-unit-preserved
loop-unit-preserved c = record {
  next = next_is c.args.self.now.assigns.items c.loop-unit.unit-index c.loop-unit-item.result.0 c.loop-unit-item.result.1
      (at_item c.args.self.now.assigns.items c.loop-unit.unit-index c.loop-unit-item.result
      (let h = c.loop-unit-test.true in let n = ap length c.deref-unit-items.ensures.value in omega (arith, h, n))
      (c.loop-unit-item.is ∙ ap (λ (l : List (ℕ × UserValue)). get_or l c.loop-unit.unit-index c.loop-unit-item.result) c.deref-unit-items.ensures.value));
  rises = λ k h. next_rises c.args.self.now.assigns.items c.loop-unit.unit-index k c.loop-unit-item.result.0 c.loop-unit-item.result.1
      (at_item c.args.self.now.assigns.items c.loop-unit.unit-index c.loop-unit-item.result
      (let h = c.loop-unit-test.true in let n = ap length c.deref-unit-items.ensures.value in omega (arith, h, n))
      (c.loop-unit-item.is ∙ ap (λ (l : List (ℕ × UserValue)). get_or l c.loop-unit.unit-index c.loop-unit-item.result) c.deref-unit-items.ensures.value))
      (let h = c.if-unit-next.false in let n = c.loop-unit.invariant.next in omega (arith, h, n)) c.loop-unit.invariant.rises h;
  each = next_each (tree_of_settled c.args.settled.now) c.args.self.now.assigns.items c.loop-unit.unit-index c.loop-unit-item.result.0 c.loop-unit-item.result.1
      (at_item c.args.self.now.assigns.items c.loop-unit.unit-index c.loop-unit-item.result
      (let h = c.loop-unit-test.true in let n = ap length c.deref-unit-items.ensures.value in omega (arith, h, n))
      (c.loop-unit-item.is ∙ ap (λ (l : List (ℕ × UserValue)). get_or l c.loop-unit.unit-index c.loop-unit-item.result) c.deref-unit-items.ensures.value))
      (let h = c.if-unit-len.false in let n = c.len.ensures in let t = ap (λ (x : TreeModel). length x.tree.units) c.tree.ensures.tree in omega
      (arith, h, n, t)) (sym c.user_fits.ensures.value ∙ c.if-not-user_fits.false) c.loop-unit.invariant.each;
}

pub returns : goal.returns
returns c = (
  λ e. all_fit (tree_of_settled c.args.settled.now) c.args.self.now.assigns.items c.loop-unit.unit-index
      (let h = c.loop-unit-test.false in let n = ap length c.deref-unit-items.ensures.value in omega (arith, h, n)) c.loop-unit.invariant.rises
      c.loop-unit.invariant.each,
  λ fits. refl,
)

pub overflow_add-next : goal.overflow_add-next
overflow_add-next c = grind (arith, common_steps)

pub user_fits-requires : goal.user_fits-requires
user_fits-requires c = grind (arith, common_steps)
