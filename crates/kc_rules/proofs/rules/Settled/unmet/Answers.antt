use Rattle.kc_rules.proofs.Common.{◌≡◌, ◌∷◌, ◌++◌, [], sym, ◌∙◌, arith, common_steps, is_unmet, tree_of_settled}
use Rattle.kc_rules.proofs.Filters.{filter_kept, filter_skipped}
use Rattle.kc_rules.proofs.rules.Settled.unmet.Goals as goal
use Rattle.kc_rules.proofs.rules.Settled.unmet.Goals.{then-is_unmet+in_ok-push, else-is_unmet}

pub loop-number-preserved : goal.loop-number-preserved
loop-number-preserved c =
    let p = is_unmet (tree_of_settled c.args.self.now) c.args.values.now in
    let s = c.at-s.result in
    elim c.if-is_unmet.branch [
      | then-is_unmet+in_ok-push w ↦
          let more : c.if-is_unmet.found.items ≡ c.loop-number.found.items ++ s ∷ [] = cc (w.found-is, w.in_ok-push.ensures.items) in
          filter_kept p c.loop-number.number s c.loop-number.found.items c.if-is_unmet.found.items c.at-s.ensures
          (sym c.is_unmet.ensures.value ∙ w.if-is_unmet.true) c.loop-number.invariant more
      | else-is_unmet w ↦
          let same : c.if-is_unmet.found.items ≡ c.loop-number.found.items = cc w.found-is in
          same ∙ filter_skipped p c.loop-number.number s c.loop-number.found.items c.at-s.ensures (sym c.is_unmet.ensures.value ∙ w.if-is_unmet.false)
          c.loop-number.invariant
    ]

pub returns : goal.returns
returns c = grind (arith, common_steps)
