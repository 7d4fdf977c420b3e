use Rattle.std.proofs.Common.{◌==◌}
use Rattle.std.specs.List.{list_any}
use Rattle.kmin_explain_records.proofs.Common.{◌≡◌, ℕ, ◌<◌, ◌||◌, List, All, length, sym, subst, ◌∙◌, ap, arith, filter, range_with_len, TreeModel, tree_model_of, tree_in, config_of, sources_model, is_listed, is_overridden}
use Rattle.kc_dotconfig_model.specs.MissedAssignments.{missed}
use Rattle.kmin_explain.proofs.MarkedSymbols.{missed_below}
use Rattle.kmin_explain_records.proofs.ListedSymbols.{one_more_listed}
use Rattle.kmin_explain_records.proofs.missed_records.listed_missed.Goals as goal

pub of-requires : goal.of-requires
of-requires c =
    let config = config_of c.args.by.now in
    let count = c.symbol_count-count.ensures ∙ ap (λ (t : TreeModel). length t.tree.symbols) (c.tree.ensures.tree ∙ ap tree_model_of c.settled.ensures) in
    record {
      there = subst (λ (xs : List ℕ). All (λ (s : ℕ). s < c.symbol_count-count.result) xs) (sym c.requires.missed)
          (subst (λ (n : ℕ). All (λ (s : ℕ). s < n) (missed (tree_in config) config.users config.values)) (sym count) (missed_below (tree_in config) config.users config.values));
    }

pub loop-s-preserved : goal.loop-s-preserved
loop-s-preserved c = (
  λ read meanings are.
      let g = sources_model c.args.by.now read meanings in
      let mark = c.has-is_missed.ensures ∙ c.in_ok-marks.ensures.marks c.loop-s.s c.loop-s-test.true in
      one_more_listed (is_listed g c.args.symbols.now) c.loop-s.s c.at.result (c.has-is_missed.result || is_overridden g c.at.result) c.loop-s.listed.items _ c.at.ensures
      (ap (λ b. b || is_overridden g c.at.result) (mark ∙ ap (λ k. list_any (λ m. m == k) c.args.symbols.now) (sym c.at.ensures))) (c.loop-s.invariant.0 read meanings are)
      (c.in_ok-add_if_listed.ensures.added read meanings are),
  c.in_ok-add_if_listed.ensures.there,
)

pub returns-clause-listed : goal.returns-clause-listed
returns-clause-listed c = λ read meanings are.
    let g = sources_model c.args.by.now read meanings in
    let config = config_of c.args.by.now in
    let count = c.symbol_count-count.ensures ∙ ap (λ (t : TreeModel). length t.tree.symbols) (c.tree.ensures.tree ∙ ap tree_model_of c.settled.ensures) in
    let ended : c.loop-s.s ≡ c.symbol_count-count.result = omega arith in
    c.loop-s.invariant.0 read meanings are ∙ ap (λ (xs : List ℕ). filter (is_listed g xs) (range_with_len 0 c.loop-s.s)) c.requires.missed
    ∙ ap (λ (n : ℕ). filter (is_listed g (missed (tree_in config) config.users config.values)) (range_with_len 0 n)) (ended ∙ count)
