-- The located needs and places are those of a symbol's reasons.
use Rattle.std.proofs.Common.{true, false, ◌||◌}
use Rattle.std.specs.List.{list_any}
use Rattle.kc_located_reasons.proofs.Common.{◌≡◌, Bool, cond, List, [], ◌∷◌, ◌++◌, map, refl, ap, sym, ◌∙◌, map-append, Tri, Part, lacking, at_place, lacking_at, located_lacking}
use Rattle.kc_tree_model.specs.Blocks.{Position}
use Rattle.kc_rules_model.specs.Rule.{selected, is_from_environment}
use Rattle.kc_rules_model.specs.Reports.{is_unmet_symbol}
use Rattle.kc_reasons_model.specs.Places.{LocatedExpr, wanted_of}
use Rattle.kc_reasons_model.specs.declared.cases.Case.TheVariants as cases
use Rattle.kc_reasons_model.specs.declared.cases.TriCase.TheVariants as tri
use Rattle.kc_reasons_model.specs.declared.cases.TextCase.TheVariants as text
use Rattle.kc_reasons_model.specs.Reasons.{ExplainedRun, low_part, low_parts, names_of, is_empty, unless_one_lacks_nothing}
use Rattle.kc_located_reasons.specs.LocatedNeeds.{LocatedPart}
use Rattle.kc_located_reasons.specs.Laws.{shown_part, NeedsAreLocated, UnmetAreLocated, GivenPlacesAreOfReasons}

module _ (run : ExplainedRun) where
  parts_shown : (at : Position) (ps : List Part) → map (low_part run at) ps ≡ map (shown_part run) (map (at_place at) ps)
  parts_shown at [] = refl
  parts_shown at (p ∷ ps) = ap (λ xs. low_part run at p ∷ xs) (parts_shown at ps)

  lacking_shown : (t : Tri) (parts : List LocatedExpr) → low_parts run t parts ≡ map (shown_part run) (located_lacking (names_of run) t parts)
  lacking_shown t [] = refl
  lacking_shown t (p ∷ parts) =
      ap (λ xs. xs ++ low_parts run t parts) (parts_shown p.at (lacking (names_of run) (wanted_of t p) p.expr))
      ∙ ap (λ xs. map (shown_part run) (lacking_at (names_of run) t p) ++ xs) (lacking_shown t parts)
      ∙ sym (map-append (shown_part run) (lacking_at (names_of run) t p) (located_lacking (names_of run) t parts))

  each_shown : (t : Tri) (lists : List (List LocatedExpr)) → map (low_parts run t) lists ≡ map (map (shown_part run)) (map (located_lacking (names_of run) t) lists)
  each_shown t [] = refl
  each_shown t (parts ∷ lists) =
      ap (λ x. x ∷ map (low_parts run t) lists) (lacking_shown t parts)
      ∙ ap (λ xs. map (shown_part run) (located_lacking (names_of run) t parts) ∷ xs) (each_shown t lists)

  empty_shown : (ps : List LocatedPart) → is_empty (map (shown_part run) ps) ≡ is_empty ps
  empty_shown [] = refl
  empty_shown (p ∷ ps) = refl

  any_shown : (lists : List (List LocatedPart)) → list_any is_empty (map (map (shown_part run)) lists) ≡ list_any is_empty lists
  any_shown [] = refl
  any_shown (ps ∷ lists) =
      ap (λ b. b || list_any is_empty (map (map (shown_part run)) lists)) (empty_shown ps) ∙ ap (λ b. is_empty ps || b) (any_shown lists)

  none_or : (b : Bool) (lists : List (List LocatedPart)) → cond b [] (map (map (shown_part run)) lists) ≡ map (map (shown_part run)) (cond b [] lists)
  none_or true lists = refl
  none_or false lists = refl

  alternatives_shown : (lists : List (List LocatedPart)) → unless_one_lacks_nothing (map (map (shown_part run)) lists) ≡ map (map (shown_part run)) (unless_one_lacks_nothing lists)
  alternatives_shown lists =
      ap (λ b. cond b [] (map (map (shown_part run)) lists)) (any_shown lists) ∙ none_or (list_any is_empty lists) lists

pub needs : NeedsAreLocated
needs run wanted symbol lines =
    let found : List (List LocatedPart) = map (located_lacking (names_of run) wanted) lines.prompts in
    ap (λ xs. cond (is_from_environment symbol) [] (unless_one_lacks_nothing xs)) (each_shown run wanted lines.prompts)
    ∙ ap (λ xs. cond (is_from_environment symbol) [] xs) (alternatives_shown run found)
    ∙ none_or run (is_from_environment symbol) (unless_one_lacks_nothing found)

pub unmet : UnmetAreLocated
unmet run symbol lines =
    ap (λ xs. cond (is_unmet_symbol run.tree run.values symbol) xs []) (each_shown run (selected run.tree run.values symbol) lines.direct)
    ∙ some_or (is_unmet_symbol run.tree run.values symbol) (map (located_lacking (names_of run) (selected run.tree run.values symbol)) lines.direct)
  where
    some_or : (b : Bool) (lists : List (List LocatedPart)) → cond b (map (map (shown_part run)) lists) [] ≡ map (map (shown_part run)) (cond b lists [])
    some_or true lists = refl
    some_or false lists = refl

pub given : GivenPlacesAreOfReasons
given run symbol lines (cases.Tri tri.User lift) = refl
given run symbol lines (cases.Tri tri.Visibility lift) = refl
given run symbol lines (cases.Tri tri.Default lift) = refl
given run symbol lines (cases.Tri tri.Environment lift) = refl
given run symbol lines (cases.Tri tri.Imply lift) = refl
given run symbol lines (cases.Tri tri.Dependency lift) = refl
given run symbol lines (cases.Tri tri.Select lift) = refl
given run symbol lines (cases.Tri tri.Nothing lift) = refl
given run symbol lines (cases.Text text.User) = refl
given run symbol lines (cases.Text text.UserLowBound) = refl
given run symbol lines (cases.Text text.UserHighBound) = refl
given run symbol lines (cases.Text text.Default) = refl
given run symbol lines (cases.Text text.Environment) = refl
given run symbol lines (cases.Text text.NoNumber) = refl
given run symbol lines (cases.Text text.LowBound) = refl
given run symbol lines (cases.Text text.HighBound) = refl
given run symbol lines (cases.Text text.Zero) = refl
given run symbol lines (cases.Text text.Nothing) = refl
given run symbol lines (cases.Choice c) = refl
