-- The texts of lines of configuration files, as they are appended.
use Rattle.kmin_explain.proofs.Common.{◌≡◌, ℕ, List, ◌++◌, map, Option, sym, ◌∙◌, ap, append_assoc, flat_map, unit_of, Case, assigning_place, Overridden, overridden_view, SourcesModel, overridden_line, asked_line, asked_lines}
use Rattle.std.proofs.lemmas.List.Folds.{flat_map-map}
use Rattle.kc_value.specs.declared.value.Kind.{Kind}
use Rattle.kc_reasons_model.specs.declared.cases.Hindrance.{Hindrance}
use Rattle.kc_reasons_model.specs.AssigningLines.{AssigningPlace}
use Rattle.kc_reasons_model.specs.OverriddenLines.{places_of, overridden}

-- all lines on a symbol, as they are appended
pub all_asked : (g : SourcesModel) (s : ℕ) (kind : Kind) (unit : ℕ) (case : Case) (hindrance : Option Hindrance)
    (found : List Overridden) (place : Option AssigningPlace) (old one two : List ℕ) → unit ≡ unit_of g.tree s
    → map overridden_view found ≡ overridden (places_of unit s 0 g.meanings) → place ≡ assigning_place unit s 0 g.meanings
    → one ≡ old ++ flat_map (λ o. overridden_line g s kind (overridden_view o)) found
    → two ≡ one ++ asked_line g s kind case hindrance place
    → two ≡ old ++ asked_lines g s kind case hindrance
all_asked g s kind unit case hindrance found place old one two own is_found is_place first second =
    second
    ∙ ap (λ p. one ++ asked_line g s kind case hindrance p) (is_place ∙ ap (λ u. assigning_place u s 0 g.meanings) own)
    ∙ ap (λ x. x ++ asked_line g s kind case hindrance (assigning_place (unit_of g.tree s) s 0 g.meanings))
    (first ∙ ap (λ x. old ++ x) (sym (flat_map-map (overridden_line g s kind) overridden_view found)
    ∙ ap (flat_map (overridden_line g s kind)) (is_found ∙ ap (λ u. overridden (places_of u s 0 g.meanings)) own)))
    ∙ append_assoc old _ _

-- the texts that are appended for one line
pub four_appended : (old a b c d s x y n : List ℕ) → a ≡ old ++ s → b ≡ a ++ x → c ≡ b ++ y → d ≡ c ++ n → d ≡ old ++ (s ++ ((x ++ y) ++ n))
four_appended old a b c d s x y n first second third fourth =
    fourth ∙ ap (λ t. t ++ n) (third ∙ ap (λ t. t ++ y) (second ∙ ap (λ t. t ++ x) first)) ∙ simp append_assoc
