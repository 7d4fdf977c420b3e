use Rattle.kmin_missed.proofs.Common.{ℕ, ◌<◌, List, All, length, sym, subst, ◌∙◌, ap, arith, tree_model_of, tree_in, missed, config_of, sources_model}
use Rattle.kc_tree.specs.TreeModel.{TreeModel}
use Rattle.kmin_explain.proofs.MarkedSymbols.{missed_below}
use Rattle.kmin_missed.proofs.MissedRows.{one_more_rows}
use Rattle.kmin_missed.proofs.missed_lines.lines_of_missed.Goals as goal

pub of-requires : goal.of-requires
of-requires c =
    let config = config_of c.args.by.now in
    let count = c.symbol_count-count.ensures ∙ ap (λ (t : TreeModel). length t.tree.symbols) (c.tree.ensures.tree ∙ ap tree_model_of c.settled.ensures) in
    record {
      there = subst (λ (xs : List ℕ). All (λ (s : ℕ). s < c.symbol_count-count.result) xs) (sym c.requires.missed)
          (subst (λ (n : ℕ). All (λ (s : ℕ). s < n) (missed (tree_in config) config.users config.values)) (sym count) (missed_below (tree_in config) config.users config.values));
    }

pub loop-s-preserved : goal.loop-s-preserved
loop-s-preserved c = λ read meanings are.
    let count = c.symbol_count-count.ensures ∙ ap (λ (t : TreeModel). length t.tree.symbols) (c.tree.ensures.tree ∙ ap tree_model_of c.settled.ensures) in
    one_more_rows (sources_model c.args.by.now read meanings) c.loop-s.s c.at.result c.loop-s.text.items _ c.args.symbols.now c.has-is_missed.result c.at.ensures
    (let l = c.loop-s-test.true in omega (arith, l, count)) (c.has-is_missed.ensures ∙ c.in_ok-marks.ensures.marks c.loop-s.s c.loop-s-test.true) c.requires.missed
    (λ symbol at. c.in_ok-push_missed_rows.ensures read meanings symbol are at) (c.loop-s.invariant read meanings are)
