-- The text of a cycle, step by step.
use Rattle.std.proofs.Common.{◌≡◌, ℕ, ◌+◌, ◌<◌, List, [], ◌∷◌, ◌++◌, map, take, length, get_or, codes, append_assoc, append-nil, refl, ap, sym, ◌∙◌}
use Rattle.std.specs.List.{flat_map}
use Rattle.std.proofs.lemmas.Grind.{flat_map-append}
use Rattle.std.proofs.lemmas.List.{take_more, map-append}
use Rattle.kmin_faults.specs.declared.steps.Step.{Step as CodeStep}
use Rattle.kmin_faults.specs.Cycles.{Step}
use Rattle.kmin_details.specs.Texts.{step_text, cycle_text}
use Rattle.kmin_faults.specs.between.Steps.{step_of}

-- what comes between steps and one more: nothing before the first
abbrev pub glue : List Step → List ℕ
glue [] = []
glue (step ∷ steps) = codes ", "

-- a text has some first steps of a cycle, and this comes before one more
pub record HasSteps (steps : List Step) (text between : List ℕ) : Type 0 where
  pub so_far : text ≡ cycle_text steps
  pub next : between ≡ glue steps

one_more : (steps : List Step) (step : Step) → cycle_text (steps ++ step ∷ []) ≡ cycle_text steps ++ (glue steps ++ step_text step)
one_more [] step = append-nil (step_text step)
one_more (first ∷ steps) step =
    ap (λ t. step_text first ++ t) (flat_map-append (λ other. codes ", " ++ step_text other) steps (step ∷ [])
    ∙ ap (λ t. flat_map (λ other. codes ", " ++ step_text other) steps ++ t) (append-nil (codes ", " ++ step_text step)))
    ∙ sym (append_assoc (step_text first) (flat_map (λ other. codes ", " ++ step_text other) steps) (codes ", " ++ step_text step))

glue_after : (steps : List Step) (step : Step) → glue (steps ++ step ∷ []) ≡ codes ", "
glue_after [] step = refl
glue_after (first ∷ steps) step = refl

steps_more : (steps : List CodeStep) (i : ℕ) (d : CodeStep) → i < length steps
    → map step_of (take (i + 1) steps) ≡ map step_of (take i steps) ++ (step_of (get_or steps i d) ∷ [])
steps_more steps i d h = ap (map step_of) (take_more steps i d h) ∙ map-append step_of (take i steps) (get_or steps i d ∷ [])

-- one step more
pub has_more : (steps : List CodeStep) (i : ℕ) (d : CodeStep) (text between more : List ℕ) → i < length steps → HasSteps (map step_of (take i steps)) text between
    → more ≡ text ++ (between ++ step_text (step_of (get_or steps i d))) → HasSteps (map step_of (take (i + 1) steps)) more (codes ", ")
has_more steps i d text between more h before e = rw (steps_more steps i d h) (record {
  so_far = e ∙ ap (λ t. t ++ (between ++ step_text (step_of (get_or steps i d)))) before.so_far
      ∙ ap (λ t. cycle_text (map step_of (take i steps)) ++ (t ++ step_text (step_of (get_or steps i d)))) before.next
      ∙ sym (one_more (map step_of (take i steps)) (step_of (get_or steps i d)));
  next = sym (glue_after (map step_of (take i steps)) (step_of (get_or steps i d)));
})
