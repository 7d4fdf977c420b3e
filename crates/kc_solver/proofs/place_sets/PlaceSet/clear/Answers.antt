use Rattle.std.proofs.Common.{◌≡◌, ◌+◌, ◌*◌, ◌/◌, ℕ, replicate, length, get_or, ◌∙◌, ap, arith}
use Rattle.std.proofs.Math.ListN.{length-replicate}
use Rattle.kc_solver.proofs.PlaceSets.{all_zero, none_set, zeros_are}
use Rattle.kc_solver.proofs.place_sets.PlaceSet.clear.Goals as goal

pub invariant_of-self : goal.invariant_of-self
invariant_of-self c =
    let set = c.args.self.now in
    let n = set.words.len in
    let words = c.fill.new.self.items in
    let zeros : words ≡ replicate n 0 = c.fill.ensures.items (λ y h. h) in
    let long : length words ≡ length set.words.items = ap length zeros ∙ length-replicate {A = ℕ} n 0 ∙ omega (arith, set.words.ok.0) in
    record {
      tree = record {
        starts = set.tree.starts;
        room = omega (arith, long, set.tree.room);
        narrow = omega (arith, long, set.tree.narrow);
        short = omega (arith, long, set.tree.short);
        levels_are = all_zero set.first words (omega (arith, long, set.tree.levels_are.few)) (λ j. ap (λ ws. get_or ws j 0) zeros ∙ zeros_are n j);
      };
    }

pub returns-clause-none : goal.returns-clause-none
returns-clause-none c = λ k.
    let set = c.args.self.now in
    let n = set.words.len in
    let zeros : c.fill.new.self.items ≡ replicate n 0 = c.fill.ensures.items (λ y h. h) in
    let bit = 64 * set.first + k in
    none_set c.fill.new.self.items bit (ap (λ ws. get_or ws (bit / 64) 0) zeros ∙ zeros_are n (bit / 64))
