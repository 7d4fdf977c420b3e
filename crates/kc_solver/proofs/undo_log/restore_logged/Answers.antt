use Rattle.kc_solver.proofs.Common.{◌≡◌, [], slice_get, sym, ap, ◌∙◌, arith, length, refl, rules, undone}
use Rattle.kc_solver.proofs.Undo.{keep_at, undone_last}
use Rattle.kc_solver.proofs.Lists.{get-push_last}
use Rattle.kc_solver.proofs.undo_log.restore_logged.Goals as goal

pub loop-u-preserved : goal.loop-u-preserved
loop-u-preserved g c =
    let rest = c.pop.new.self.items in
    let u = c.in-Some.u in
    let a = c.in-Some.value in
    let values = c.loop-u.values in
    let is = c.in-Some.ensures.items in
    record {
      units = λ k w b e. omega (
        arith,
        c.loop-u.invariant.units k w b (ap (λ xs. slice_get xs k) is ∙ keep_at rest (u, a) k (w, b) e),
        c.replace_value.auto.values,
      );
      back = ap (undone rest) c.replace_value.ensures.written ∙ sym (undone_last rest values u a) ∙ sym (ap (λ xs. undone xs values) is)
          ∙ c.loop-u.invariant.back;
    }

pub replace_value-requires : goal.replace_value-requires
replace_value-requires g c = record {
  there = let rest = c.pop.new.self.items in
      let at = ap (λ xs. slice_get xs (length rest)) c.in-Some.ensures.items ∙ get-push_last rest (c.in-Some.u, c.in-Some.value) (length rest) refl in
      c.loop-u.invariant.units (length rest) c.in-Some.u c.in-Some.value at;
}

pub returns : goal.returns
returns g c = record {
  restored = let none : c.loop-u.log.items ≡ [] = search rules in
      ap (λ log. undone log c.loop-u.values) (sym none) ∙ c.loop-u.invariant.back;
}
