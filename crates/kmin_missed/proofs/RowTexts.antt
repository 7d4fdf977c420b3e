-- The rows of lines that later files override, as they are appended.
use Rattle.kmin_missed.proofs.Common.{◌≡◌, ℕ, List, ◌++◌, map, sym, ◌∙◌, ap, append-nil, Bool, true, false, append_assoc, flat_map, Option, Symbol, unit_of, assigning_place, Overridden, overridden_view, SourcesModel, missed_row, missed_rows}
use Rattle.std.proofs.lemmas.List.Folds.{flat_map-map}
use Rattle.kc_value.specs.declared.value.Kind.{Kind}
use Rattle.kc_reasons_model.specs.AssigningLines.{AssigningPlace}
use Rattle.kc_reasons_model.specs.OverriddenLines.{places_of, overridden}
use Rattle.kmin_missed.specs.MissedLines.{overridden_row}

-- the rows of all lines that are overridden, as they are appended
pub all_overridden : (g : SourcesModel) (s : ℕ) (kind : Kind) (unit : ℕ) (found : List Overridden) (old one : List ℕ) → unit ≡ unit_of g.tree s
    → map overridden_view found ≡ overridden (places_of unit s 0 g.meanings)
    → one ≡ old ++ flat_map (λ o. overridden_row g s kind (overridden_view o)) found
    → one ≡ old ++ flat_map (overridden_row g s kind) (overridden (places_of (unit_of g.tree s) s 0 g.meanings))
all_overridden g s kind unit found old one own is_found is =
    is ∙ ap (λ x. old ++ x) (sym (flat_map-map (overridden_row g s kind) overridden_view found)
    ∙ ap (flat_map (overridden_row g s kind)) (is_found ∙ ap (λ u. overridden (places_of u s 0 g.meanings)) own))

-- all rows of a symbol that isn't missed, and of one that is
module _ (g : SourcesModel) (s : ℕ) (symbol : Symbol) (kind : Kind) (is_kind : kind ≡ symbol.kind) (is_missed : Bool) (old one : List ℕ)
    (first : one ≡ old ++ flat_map (overridden_row g s kind) (overridden (places_of (unit_of g.tree s) s 0 g.meanings))) where
  pub not_missed : is_missed ≡ false → one ≡ old ++ missed_rows g is_missed s symbol
  not_missed off =
      first ∙ ap (λ k. old ++ flat_map (overridden_row g s k) (overridden (places_of (unit_of g.tree s) s 0 g.meanings))) is_kind
      ∙ ap (λ x. old ++ x) (sym (append-nil (flat_map (overridden_row g s symbol.kind) (overridden (places_of (unit_of g.tree s) s 0 g.meanings)))))
      ∙ ap (λ b. old ++ missed_rows g b s symbol) (sym off)

  pub missed_too : (two : List ℕ) (place : Option AssigningPlace) → is_missed ≡ true → place ≡ assigning_place (unit_of g.tree s) s 0 g.meanings
      → two ≡ one ++ missed_row g s kind place → two ≡ old ++ missed_rows g is_missed s symbol
  missed_too two place on is_place second =
      second ∙ ap (λ k. one ++ missed_row g s k place) is_kind ∙ ap (λ p. one ++ missed_row g s symbol.kind p) is_place
      ∙ ap (λ x. x ++ missed_row g s symbol.kind (assigning_place (unit_of g.tree s) s 0 g.meanings))
      (first ∙ ap (λ k. old ++ flat_map (overridden_row g s k) (overridden (places_of (unit_of g.tree s) s 0 g.meanings))) is_kind)
      ∙ append_assoc old (flat_map (overridden_row g s symbol.kind) (overridden (places_of (unit_of g.tree s) s 0 g.meanings))) _
      ∙ ap (λ b. old ++ missed_rows g b s symbol) (sym on)
