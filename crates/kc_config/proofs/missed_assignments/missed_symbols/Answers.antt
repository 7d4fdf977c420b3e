use Rattle.kc_config.proofs.Common.{◌≡◌, ◌∷◌, ◌++◌, [], sym, ◌∙◌, is_missed}
use Rattle.kc_rules.proofs.Filters.{filter_kept, filter_skipped}
use Rattle.kc_config.proofs.missed_assignments.missed_symbols.Goals as goal
use Rattle.kc_config.proofs.missed_assignments.missed_symbols.Goals.{then-is_missed+in_ok-push, else-is_missed}

pub loop-number-preserved : goal.loop-number-preserved
loop-number-preserved c =
    let p = is_missed c.args.tree.now.tree c.args.users.now c.args.values.now in
    let s = c.at-s.result in
    elim c.if-is_missed.branch [
      | then-is_missed+in_ok-push w ↦
          let more : c.if-is_missed.found.items ≡ c.loop-number.found.items ++ s ∷ [] = cc (w.found-is, w.in_ok-push.ensures.items) in
          filter_kept p c.loop-number.number s c.loop-number.found.items c.if-is_missed.found.items c.at-s.ensures
          (sym c.is_missed.ensures.value ∙ w.if-is_missed.true) c.loop-number.invariant more
      | else-is_missed w ↦
          let same : c.if-is_missed.found.items ≡ c.loop-number.found.items = cc w.found-is in
          same ∙ filter_skipped p c.loop-number.number s c.loop-number.found.items c.at-s.ensures (sym c.is_missed.ensures.value ∙ w.if-is_missed.false)
          c.loop-number.invariant
    ]
