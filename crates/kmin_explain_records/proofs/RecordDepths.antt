-- How deep the JSON of a symbol nests.
use Rattle.std.proofs.Common.{lit≤}
use Rattle.kmin_explain_records.proofs.Common.{ℕ, ◌≤◌, Bool, true, false, List, [], ◌∷◌, ◌++◌, map, Option, Some, None, arith, flat_map, slice_get, Json, string, Kind, Tree, Symbol, ReverseDependency, UnitValue, environment, Case, Hindrance, AssigningPlace, assigning_place, places_of, overridden}
use Rattle.kmin_explain_records.proofs.Common.{PlainReasons, SymbolLines, name_of_symbol, is_without_prompt, SourcesModel, reason_places, array_of, or_null, object_of, position_members, overridden_json, deciding_json, asked_list, part_json, parts_json, alternatives_json, needs_json, forcing_json}
use Rattle.kmin_explain_records.proofs.Common.{forcing_list, record_members}
use Rattle.json.specs.Json.{max_depth}
use Rattle.json.specs.Tree.{depth, items_depth}
use Rattle.kc_expr.specs.Expr.{Environment}
use Rattle.kc_tree_model.specs.Blocks.{Position}
use Rattle.kc_dotconfig_model.specs.declared.format.Strings.{Strings}
use Rattle.kmin_explain_records.specs.ReasonWords.{lift_of_case, hindrance_word}
use Rattle.kc_located_reasons.specs.LocatedNeeds.{LocatedPart}
use Rattle.kmin_explain.specs.Explanations.{unit_for}
use Rattle.kmin_records.specs.JsonValues.{json_items, members_of}
use Rattle.kmin_explain_records.specs.RecordLaws.{RecordsAreReadBack}
use Rattle.kmin_records.proofs.Lines.{one_object}

shallow_list : {X : Type 0} (f : X → Json) (n : ℕ) → ((x : X) → depth (f x) ≤ n) → (xs : List X) → items_depth (json_items (map f xs)) ≤ n
shallow_list f n h [] = omega arith
shallow_list f n h (x ∷ xs) = omega (arith, h x, shallow_list f n h xs)

shallow_both : (n : ℕ) (js ks : List Json) → items_depth (json_items js) ≤ n → items_depth (json_items ks) ≤ n → items_depth (json_items (js ++ ks)) ≤ n
shallow_both n [] ks h k = k
shallow_both n (j ∷ js) ks h k = omega (arith, shallow_both n js ks (omega arith) k)

shallow_each : {X : Type 0} (f : X → List Json) (n : ℕ) → ((x : X) → items_depth (json_items (f x)) ≤ n) → (xs : List X) → items_depth (json_items (flat_map f xs)) ≤ n
shallow_each f n h [] = omega arith
shallow_each f n h (x ∷ xs) = shallow_both n (f x) (flat_map f xs) (h x) (shallow_each f n h xs)

shallow_option : {X : Type 0} (f : X → Json) (n : ℕ) → ((x : X) → depth (f x) ≤ n) → (o : Option X) → depth (or_null f o) ≤ n
shallow_option f n h None = omega arith
shallow_option f n h (Some x) = h x

shallow_deciding : (g : SourcesModel) (s : ℕ) (kind : Kind) (case : Case) (hindrance : Option Hindrance) (place : Option AssigningPlace)
    → items_depth (json_items (deciding_json g s kind case hindrance place)) ≤ 1
shallow_deciding g s kind case hindrance None = lit≤ tt
shallow_deciding g s kind case hindrance (Some p) = lit≤ tt

shallow_asked : (g : SourcesModel) (s : ℕ) (kind : Kind) (case : Case) (hindrance : Option Hindrance) → depth (array_of (asked_list g s kind case hindrance)) ≤ 2
shallow_asked g s kind case hindrance =
    let lines = overridden (places_of (unit_for g s) s 0 g.meanings) in
    let place = assigning_place (unit_for g s) s 0 g.meanings in
    let items : items_depth (json_items (asked_list g s kind case hindrance)) ≤ 1 =
    shallow_both 1 (map (overridden_json g s kind) lines) (deciding_json g s kind case hindrance place)
    (shallow_list (overridden_json g s kind) 1 (λ p. lit≤ tt) lines) (shallow_deciding g s kind case hindrance place) in
    omega (arith, items)

module _ (strings : Strings) (names : Environment) (paths : List (List ℕ)) where
  shallow_parts : (ps : List LocatedPart) → depth (parts_json strings names paths ps) ≤ 2
  shallow_parts ps = omega (arith, shallow_list (part_json strings names paths) 1 (λ p. lit≤ tt) ps)

  shallow_alternatives : (lists : List (List LocatedPart)) → depth (alternatives_json strings names paths lists) ≤ 3
  shallow_alternatives lists = omega (arith, shallow_list (parts_json strings names paths) 2 shallow_parts lists)

  shallow_needs : (without_prompt : Bool) (needs : List (List LocatedPart)) → depth (needs_json strings names paths without_prompt needs) ≤ 3
  shallow_needs true needs = lit≤ tt
  shallow_needs false needs = shallow_alternatives needs

module _ (strings : Strings) (paths : List (List ℕ)) (tree : Tree) (values : List UnitValue) where
  shallow_forcing : (f : Option ReverseDependency) (at : Option Position) → items_depth (json_items (forcing_json strings paths tree values f at)) ≤ 1
  shallow_forcing None at = lit≤ tt
  shallow_forcing (Some f) None = lit≤ tt
  shallow_forcing (Some f) (Some at) = lit≤ tt

  shallow_forcings : (fs : List ReverseDependency) (places : List Position) (numbers : List ℕ) → depth (array_of (forcing_list strings paths tree values fs places numbers)) ≤ 2
  shallow_forcings fs places numbers =
      omega (arith, shallow_each (λ n. forcing_json strings paths tree values (slice_get fs n) (slice_get places n)) 1 (λ n. shallow_forcing (slice_get fs n) (slice_get places n)) numbers)

shallow_record : (g : SourcesModel) (s : ℕ) (symbol : Symbol) (r : PlainReasons) (lines : SymbolLines)
    → depth (object_of (record_members g s symbol r lines (reason_places g s symbol lines r.case))) ≤ max_depth
shallow_record g s symbol r lines = omega (
  arith,
  shallow_option string 0 (λ t. lit≤ tt) (lift_of_case r.case),
  shallow_option (λ m. string (name_of_symbol g.tree m)) 0 (λ m. lit≤ tt) r.chosen,
  shallow_option (λ at. object_of (position_members g.tree_paths at)) 1 (λ at. lit≤ tt) (reason_places g s symbol lines r.case).given_at,
  shallow_asked g s symbol.kind r.case r.hindrance,
  shallow_option (λ h. string (hindrance_word h)) 0 (λ h. lit≤ tt) r.hindrance,
  shallow_needs g.strings (environment g.tree g.values) g.tree_paths (is_without_prompt r.hindrance symbol) (reason_places g s symbol lines r.case).needs,
  shallow_alternatives g.strings (environment g.tree g.values) g.tree_paths (reason_places g s symbol lines r.case).unmet,
  shallow_forcings g.strings g.tree_paths g.tree g.values symbol.selectors lines.selectors r.selected_by,
  shallow_forcings g.strings g.tree_paths g.tree g.values symbol.impliers lines.impliers r.implied_by,
)

-- the line for a symbol is read back
pub read_back : RecordsAreReadBack
read_back g s symbol r lines small =
    one_object (members_of (record_members g s symbol r lines (reason_places g s symbol lines r.case))) small (shallow_record g s symbol r lines)
