-- Laws on the answers to the questions of a tree.
use Rattle.kc_macros_model.proofs.Common.{◌≡◌, ℕ, false, List, [], ◌∷◌, Ok, Err, refl, sym, ap, ◌∙◌, is_none, reverse, MAX_WORK, Fault, ExpandedFile, Ending, returned, failed, stopped, Outcome, outcome, questions_or_fault, without_answer, questions_once}
use Rattle.kc_macros_model.specs.TreeExpansion.{tree_read}
use Rattle.kc_macros_model.specs.Worlds.{expansion, wanted}
use Rattle.kc_macros_model.specs.TreeLaws.{AnswersNotAskedChangeNothing, NothingWantedIsExpanded, NothingWantedReturnsFiles}
use Rattle.kc_macros_model.proofs.Outcomes.{same_if_answered, same_if_none_open}
use Rattle.kc_macros_model.proofs.KnownTrees.{expansion_never_stops}
use Rattle.kc_macros_model.proofs.OpenQuestions.{none_repeated, none_turned}

pub answers_not_asked : AnswersNotAskedChangeNothing
unfolding expansion
answers_not_asked w more root ext h = same_if_answered w more ext MAX_WORK (tree_read root) h

nothing_open : {A : Type 0} (qs : List (List ℕ)) (end : Ending A) → questions_or_fault qs end ≡ Ok [] → qs ≡ []
nothing_open [] end e = refl
nothing_open (q ∷ qs) end e = absurd (let z : ⊥ = cc in z)

not_failed : {A : Type 0} (end : Ending A) (f : Fault) → questions_or_fault [] end ≡ Ok [] → end ≡ failed f → ⊥
not_failed end f e h = let z : Err f ≡ Ok [] = sym (ap (questions_or_fault []) h) ∙ e in cc

pub nothing_wanted : NothingWantedIsExpanded
unfolding wanted expansion
nothing_wanted w root f e h =
    let o : Outcome (List ExpandedFile) = outcome false w MAX_WORK (tree_read root) in
    let n = nothing_open (without_answer w (questions_once o)) o.ending e in
    let p = λ (q : List ℕ). is_none (w.answer q) in
    let none : without_answer w o.questions ≡ [] = none_turned p o.questions (none_repeated p (reverse o.questions) n) in
    let same = same_if_none_open w MAX_WORK (tree_read root) none in
    not_failed o.ending f (ap (λ qs. questions_or_fault qs o.ending) (sym n) ∙ e) (ap (λ (x : Outcome (List ExpandedFile)). x.ending) (sym same) ∙ h)

returned_files : {A : Type 0} (end : Ending A) → (end ≡ stopped → ⊥) → ((f : Fault) → end ≡ failed f → ⊥) → (x : A) × (end ≡ returned x)
returned_files (returned x) s n = (x, refl)
returned_files (failed f) s n = absurd (n f refl)
returned_files stopped s n = absurd (s refl)

pub nothing_wanted_returns : NothingWantedReturnsFiles
nothing_wanted_returns w root e = returned_files (expansion w root).ending (expansion_never_stops w root) (λ f h. nothing_wanted w root f e h)
