use Rattle.std.proofs.Common.{◌≡◌, ◌<◌, ◌≤◌, arith, get_or, length, List, ℕ, IfSome, slice_get}
use Rattle.std.specs.List.{Contains}
use Rattle.std.proofs.lemmas.List.Elements.{Contains-get_or}
use Rattle.std.proofs.lemmas.Option.{slice_get-get_or}
use Rattle.kmin_base_tests.proofs.tests.sums.SumsSystem.eval.Goals as goal

dependency : (row items : List ℕ) (i : ℕ) → items ≡ row → i < length items → Contains row (get_or items i 0)
dependency row items i e h = rw (← e) (Contains-get_or items i 0 h)

small_at : (values : List ℕ) (d : ℕ) → d < length values → IfSome (slice_get values d) (λ x. x ≤ 1000) → get_or values d 0 ≤ 1000
small_at values d h fits = rw (slice_get-get_or values d 0 h) at fits

pub bounds-values-d : goal.bounds-values-d
bounds-values-d c =
    let inside = c.args.self.now.graph.units c.args.u _ c.requires.unit (dependency _ _ c.loop-d.d-index c.deps-d-items.ensures.value c.loop-d-test.true) in
    omega (arith, inside, c.requires.values.0)

pub overflow_add-sum : goal.overflow_add-sum
overflow_add-sum c =
    let d = get_or c.deps-d-items.result.now c.loop-d.d-index 0 in
    let inside = c.args.self.now.graph.units c.args.u d c.requires.unit (dependency _ _ c.loop-d.d-index c.deps-d-items.ensures.value c.loop-d-test.true) in
    let small = small_at c.args.values.now d (omega (arith, inside, c.requires.values.0)) (c.requires.values.1 d inside) in
    omega (arith, small, c.loop-d.invariant.sum)
