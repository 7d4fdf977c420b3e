-- The detail of a cycle.
use Rattle.kmin_texts.proofs.Common.{◌≡◌, ℕ, List, map, Option, Some, ap, sym, ◌∙◌, step_of, Detail, of_cycle}
use Rattle.kc_tree_model.specs.Trees.{Tree}
use Rattle.kmin_faults.specs.Cycles.{Step, cycle_steps, unit_names}
use Rattle.kmin_faults.specs.declared.steps.Step.{Step as CodeStep}
use Rattle.kmin_report.proofs.Lists.{map_twice}
use Rattle.kmin_texts.specs.LineDetails.{of_steps}
use Rattle.kmin_details.specs.Texts.{cycle_text}

module _ (tree : Tree) (units : List ℕ) (names : List (List ℕ)) (are : names ≡ unit_names tree units) (found : Option (List Step))
    (steps : found ≡ cycle_steps tree units names) where
  of_found : (o : Option (List Step)) → found ≡ o → of_cycle tree units ≡ of_steps names o
  of_found o e =
      ap (λ ns. of_steps ns (cycle_steps tree units ns)) (sym are) ∙ ap (of_steps names) (sym steps ∙ e)

  pub with_steps : (some : List CodeStep) → found ≡ Some (map step_of some)
      → of_cycle tree units ≡ record { text = cycle_text (map step_of some); names = map (λ step. step.name.now) some }
  with_steps some e =
      of_found (Some (map step_of some)) e
      ∙ ap (λ ns. detail (cycle_text (map step_of some)) ns) (sym (map_twice (λ (step : Step). step.name) step_of some))
    where
      detail : List ℕ → List (List ℕ) → Detail
      detail text ns = record { text = text; names = ns }
