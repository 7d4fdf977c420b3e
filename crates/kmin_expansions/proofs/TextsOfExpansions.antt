-- The texts of expanded files, and their names.
use Rattle.std.proofs.Common.{◌≡◌, ℕ, suc, ◌+◌, ◌<◌, List, [], ◌∷◌, ◌++◌, Some, take, length, get_or, refl, sym, ap, ◌∙◌, arith}
use Rattle.std.specs.Prelude.{slice_get}
use Rattle.std.proofs.lemmas.Option.{slice_get-get_or}
use Rattle.std.proofs.Math.Seq.{take-suc}
use Rattle.kc_tokens.specs.declared.language.Language.{Language}
use Rattle.kc_tree_model.specs.TreeFiles.{Files}
use Rattle.kc_macros_model.specs.ReadingStates.{ExpandedFile}
use Rattle.kmin_expansions.specs.between.FilesByPlace.{with_file_at}
use Rattle.kmin_expansions.specs.JobTexts.{with_expanded_file, with_expanded_files, no_texts}

-- files after files
with_more : (fs gs : List ExpandedFile) (texts : Files) → with_expanded_files (fs ++ gs) texts ≡ with_expanded_files gs (with_expanded_files fs texts)
with_more [] gs texts = refl
with_more (f ∷ fs) gs texts = with_more fs gs (with_expanded_file f texts)

-- texts with the first n + 1 of some expanded files are those with the first n, and the file at place n
pub with_next : (files : List ExpandedFile) (n : ℕ) (texts : Files) → n < length files
    → with_expanded_files (take (n + 1) files) texts ≡ with_file_at (slice_get files n) (with_expanded_files (take n files) texts)
with_next files n texts h =
    let none : ExpandedFile = record { key = []; path = []; text = [] } in
    let f = get_or files n none in
    let at : slice_get files n ≡ Some f = slice_get-get_or files n none h in
    let next : n + 1 ≡ suc n = omega arith in
    let before = with_expanded_files (take n files) texts in
    ap (λ k. with_expanded_files (take k files) texts) next ∙ ap (λ fs. with_expanded_files fs texts) (take-suc files n none h)
    ∙ with_more (take n files) (f ∷ []) texts ∙ sym (ap (λ o. with_file_at o before) at)

-- texts in a language that have no files are `no_texts` of that language
pub are_no_texts : (texts : Files) (language : Language) → texts.language ≡ language → texts.list ≡ [] → texts ≡ no_texts language
are_no_texts texts language e f =
    ap (λ (l : Language). record { language = l; list = texts.list }) e ∙ ap (λ (fs : List (List ℕ × List ℕ)). record { language = language; list = fs }) f
