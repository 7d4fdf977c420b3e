use Rattle.std.proofs.Common.{◌≡◌, ◌+◌, ◌*◌, ◌/◌, ℕ, replicate, length, get_or, sym, ◌∙◌, ap, add-one, arith}
use Rattle.std.proofs.Math.ListN.{length-replicate}
use Rattle.kc_solver.proofs.PlaceSets.{first_zero, first_suc, all_zero, none_set, zeros_are}
use Rattle.kc_solver.proofs.place_sets.PlaceSet.new.Goals as goal

pub loop-first-init : goal.loop-first-init
loop-first-init c = record { starts = sym first_zero; small = omega arith; deep = omega arith }

pub loop-first-preserved : goal.loop-first-preserved
loop-first-preserved c =
    let was = c.loop-first.invariant in
    record {
      starts = rw (add-one c.loop-first.levels) (ap (λ x. 64 * x + 1) was.starts ∙ sym (first_suc c.loop-first.levels));
      small = omega (arith, c.loop-first-test.true, c.ranges.size);
      deep = omega (arith, was.deep);
    }

pub invariant_of-result : goal.invariant_of-result
invariant_of-result c =
    let was = c.loop-first.invariant in
    let n = c.loop-first.first + c.args.size / 64 + 1 in
    let words = c.in_ok-words.words.items in
    let zeros : words ≡ replicate n 0 = c.in_ok-words.ensures.items_if_clones_equal (λ y h. h) in
    let long : length words ≡ n = ap length zeros ∙ length-replicate {A = ℕ} n 0 in
    record {
      tree = record {
        starts = was.starts;
        room = omega (arith, long);
        narrow = omega (arith, long, c.ranges.size);
        short = omega (arith, long, was.small, c.ranges.size);
        levels_are = all_zero c.loop-first.first words (omega (arith, long, c.loop-first-test.false)) (λ j. ap (λ ws. get_or ws j 0) zeros ∙ zeros_are n j);
      };
    }

pub returns-clause-none : goal.returns-clause-none
returns-clause-none c = λ k.
    let n = c.loop-first.first + c.args.size / 64 + 1 in
    let words = c.in_ok-words.words.items in
    let zeros : words ≡ replicate n 0 = c.in_ok-words.ensures.items_if_clones_equal (λ y h. h) in
    let bit = 64 * c.loop-first.first + k in
    none_set words bit (ap (λ ws. get_or ws (bit / 64) 0) zeros ∙ zeros_are n (bit / 64))
