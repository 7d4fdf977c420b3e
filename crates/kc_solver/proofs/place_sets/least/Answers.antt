use Rattle.std.proofs.Common.{◌≡◌, ◌<◌, ◌^◌, get_or, add-one, refl, arith}
use Rattle.std.proofs.lemmas.Nat.{trailing_le}
use Rattle.kc_solver.proofs.PlaceSets.{in_list, descend_begun, descend_more, descend_ended}
use Rattle.kc_solver.proofs.place_sets.least.Goals as goal

pub loop-level-init : goal.loop-level-init
loop-level-init c = descend_begun c.args.levels c.args.words.now c.requires.some

pub overflow_add-word-in-loop-level : goal.overflow_add-word-in-loop-level
overflow_add-word-in-loop-level c =
    omega (
      arith,
      in_list c.args.words.now c.loop-level.word c.loop-level.invariant.some,
      c.requires.few,
      trailing_le 64
          (get_or c.args.words.now c.loop-level.word 0),
    )

pub loop-level-preserved : goal.loop-level-preserved
loop-level-preserved c =
    let small : get_or c.args.words.now c.loop-level.word 0 < 2 ^ 64 = omega (arith, c.type_inv.words c.loop-level.word) in
    rw (add-one c.loop-level._level) (descend_more c.args.levels c.args.words.now c.loop-level._level c.loop-level.word _ c.requires.levels
    c.loop-level.invariant c.loop-level-test.true small refl)

pub overflow_add-result : goal.overflow_add-result
overflow_add-result c =
    omega (
      arith,
      in_list c.args.words.now c.loop-level.word c.loop-level.invariant.some,
      c.requires.few,
      trailing_le 64
          (get_or c.args.words.now c.loop-level.word 0),
    )

pub returns : goal.returns
returns c =
    let small : get_or c.args.words.now c.loop-level.word 0 < 2 ^ 64 = omega (arith, c.type_inv.words c.loop-level.word) in
    let last : c.loop-level._level ≡ c.args.levels = omega (arith, c.loop-level-test.false) in
    let end = descend_ended c.args.levels c.args.words.now c.loop-level.word (rw last at c.loop-level.invariant) small in
    record { place = end.0; inside = end.1; has = end.2; least = end.3 }

pub overflow_mul-word : goal.overflow_mul-word
overflow_mul-word c = omega (arith, in_list c.args.words.now c.loop-level.word c.loop-level.invariant.some, c.requires.few)

pub overflow_add-word : goal.overflow_add-word
overflow_add-word c = omega (arith, in_list c.args.words.now c.loop-level.word c.loop-level.invariant.some, c.requires.few)

pub offset_bounds-words-word : goal.offset_bounds-words-word
offset_bounds-words-word c = omega (arith, in_list c.args.words.now c.loop-level.word c.loop-level.invariant.some, c.requires.few)

pub bounds-words-word : goal.bounds-words-word
bounds-words-word c = omega (arith, in_list c.args.words.now c.loop-level.word c.loop-level.invariant.some, c.requires.few)

pub overflow_mul-result : goal.overflow_mul-result
overflow_mul-result c = omega (arith, in_list c.args.words.now c.loop-level.word c.loop-level.invariant.some, c.requires.few)

pub offset_bounds-words-word-2 : goal.offset_bounds-words-word-2
offset_bounds-words-word-2 c = omega (arith, in_list c.args.words.now c.loop-level.word c.loop-level.invariant.some, c.requires.few)

pub bounds-words-word-2 : goal.bounds-words-word-2
bounds-words-word-2 c = omega (arith, in_list c.args.words.now c.loop-level.word c.loop-level.invariant.some, c.requires.few)
