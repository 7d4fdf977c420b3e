-- The tokens of lines of configuration files, as they are written.
use Rattle.std.proofs.Common.{append_assoc}
use Rattle.std.proofs.lemmas.List.Folds.{flat_map-map}
use Rattle.json.specs.Token.{Token, begin_array, end_array}
use Rattle.kmin_explain_records.proofs.Common.{◌≡◌, ℕ, List, [], ◌∷◌, ◌++◌, map, Option, sym, ◌∙◌, ap, flat_map, json_tokens, Kind, unit_of, Case, Hindrance, AssigningPlace, assigning_place, places_of, overridden, Overridden, overridden_view, SourcesModel, array_of, overridden_json}
use Rattle.kmin_explain_records.proofs.Common.{deciding_json, asked_list}
use Rattle.kc_reasons_model.specs.OverriddenLines.{OverriddenPlace}
use Rattle.kmin_records.proofs.JsonLists.{array_of_both}

-- all lines on a symbol, as they are written
pub asked_array : (g : SourcesModel) (s : ℕ) (kind : Kind) (unit : ℕ) (case : Case) (hindrance : Option Hindrance)
    (found : List Overridden) (place : Option AssigningPlace) → unit ≡ unit_of g.tree s
    → map overridden_view found ≡ overridden (places_of unit s 0 g.meanings) → place ≡ assigning_place unit s 0 g.meanings
    → begin_array ∷ ((flat_map (λ o. json_tokens (overridden_json g s kind (overridden_view o))) found
    ++ flat_map json_tokens (deciding_json g s kind case hindrance place)) ++ end_array ∷ [])
    ≡ json_tokens (array_of (asked_list g s kind case hindrance))
asked_array g s kind unit case hindrance found place own is_found is_place =
    let whole = λ (xs ys : List Token). begin_array ∷ ((xs ++ ys) ++ end_array ∷ []) in
    let tokens = λ (p : OverriddenPlace). json_tokens (overridden_json g s kind p) in
    ap (λ (p : Option AssigningPlace). whole (flat_map (λ (o : Overridden). tokens (overridden_view o)) found) (flat_map json_tokens (deciding_json g s kind case hindrance p)))
    (is_place ∙ ap (λ (u : ℕ). assigning_place u s 0 g.meanings) own)
    ∙ ap (λ ts. begin_array ∷ ts) (append_assoc _ (flat_map json_tokens (deciding_json g s kind case hindrance (assigning_place (unit_of g.tree s) s 0 g.meanings))) (end_array ∷ []))
    ∙ array_of_both (overridden_json g s kind) (overridden (places_of (unit_of g.tree s) s 0 g.meanings)) _ (deciding_json g s kind case hindrance (assigning_place (unit_of g.tree s) s 0 g.meanings))
    (sym (flat_map-map tokens overridden_view found) ∙ ap (flat_map tokens) (is_found ∙ ap (λ (u : ℕ). overridden (places_of u s 0 g.meanings)) own))
