-- A symbol with an `option env` is never visible, and no full file has it.
use Rattle.kc_rules_model.proofs.Common.{◌≡◌, Bool, true, false, not, ◌&&◌, ◌||◌, cond, List, [], refl, ap, ◌∙◌, is_none, Tri, N, is_tristate, is_linux_6_12, Tree, Symbol, UnitValue, is_n, modules_value, is_visible}
use Rattle.kc_value.specs.Tri.{y_for_m, largest}
use Rattle.kc_value.specs.Kinds.{is_bool}
use Rattle.kc_rules_model.specs.Rule.{is_from_environment, conditions, promoted, selected, implied, direct_dependency}
use Rattle.kc_rules_model.specs.Reports.{has_default, is_unselected, is_written_symbol}

-- `n` stays `n`
n_for_n : (b : Bool) → not (is_n (cond b (y_for_m N) N)) ≡ false
n_for_n true = refl
n_for_n false = refl

both_false : (a x : Bool) → (a && false && x) ≡ false
both_false true x = refl
both_false false x = refl

module _ (tree : Tree) (values : List UnitValue) (symbol : Symbol) (is : is_from_environment symbol ≡ true) where
  pub never_seen : is_visible tree values symbol ≡ false
  never_seen =
      ap (λ b. not (is_n (promoted tree values symbol.kind (largest (conditions tree values (cond b [] symbol.prompts)))))) is
      ∙ n_for_n (is_bool symbol.kind || (is_tristate symbol.kind && is_n (modules_value tree values)))

  abbrev reasons : Bool
  reasons =
      has_default tree values symbol || not (is_n (selected tree values symbol))
      || (not (is_n (implied tree values symbol)) && (is_linux_6_12 tree.language || not (is_n (direct_dependency tree values symbol))))

  pub never_written : is_written_symbol tree values symbol ≡ false
  never_written =
      ap (λ b. (b && not (is_unselected tree values symbol.choice)) || (is_none symbol.choice && not (is_from_environment symbol) && reasons)) never_seen
      ∙ ap (λ b. is_none symbol.choice && not b && reasons) is ∙ both_false (is_none symbol.choice) reasons
