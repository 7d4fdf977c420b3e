-- The reasons of a symbol, from their parts.
use Rattle.kc_reasons.proofs.Common.{◌≡◌, ℕ, Bool, List, [], Option, Some, None, refl, sym, ap, ◌∙◌, option_copied, slice_get, Tri, Tree, Symbol, Profile, UnitValue, UserValue, environment, Hindrance, Part}
use Rattle.std.proofs.lemmas.Option.{slice_get-get_or, slice_get_past}
use Rattle.std.specs.Borrow.{Bor}
use Rattle.std.specs.Slice.{IsItemAt}
use Rattle.std.specs.Prelude.{◌||◌, option_map, if◌then◌else◌}
use Rattle.kc_tree_model.specs.TreeLookup.{unit_of}
use Rattle.kc_rules_model.specs.Reports.{is_unmet_symbol}
use Rattle.kc_reasons_model.specs.declared.cases.Case.{Case}
use Rattle.kc_reasons_model.specs.DecisiveLimits.{decisive_numbers}
use Rattle.kc_reasons_model.specs.Cases.{case_of}
use Rattle.kc_reasons_model.specs.Hindrances.{hindrance_to}
use Rattle.kc_reasons_model.specs.Reasons.{is_by_select, is_by_imply}
use Rattle.kc_reasons_model.specs.PlainReasons.{PlainReasons, chosen_in, wanted_by, prompts_lack, dependencies_lack, plain_reasons, plain_reasons_at}

-- the parts of a symbol's reasons, each computed by itself, are its reasons
pub reasons_are : (profile : Profile) (tree : Tree) (s unit : ℕ) (symbol : Symbol) (user : Option UserValue) (values : List UnitValue) (case : Case)
    (chosen : Option ℕ) (hindrance : Option Hindrance) (needs unmet : List (List Part)) (selected_by implied_by : List ℕ) (wanted : Tri)
    (listed implied : Bool) (value : Option UnitValue) → slice_get tree.symbols s ≡ Some symbol → unit ≡ unit_of tree s → value ≡ slice_get values unit
    → case ≡ case_of profile tree unit user values → chosen ≡ chosen_in symbol.choice s value → hindrance ≡ hindrance_to profile tree unit s user values
    → wanted ≡ wanted_by tree symbol user values → needs ≡ prompts_lack (environment tree values) wanted symbol → unmet ≡ dependencies_lack tree values symbol
    → listed ≡ (is_by_select case hindrance || is_unmet_symbol tree values symbol) → implied ≡ is_by_imply case
    → selected_by ≡ (if listed then decisive_numbers tree values symbol.selectors else [])
    → implied_by ≡ (if implied then decisive_numbers tree values symbol.impliers else [])
    → plain_reasons_at profile tree s user values ≡ Some (record {
      case = case;
      chosen = chosen;
      hindrance = hindrance;
      needs = needs;
      unmet = unmet;
      selected_by = selected_by;
      implied_by = implied_by;
    })
reasons_are profile tree s unit symbol user values case chosen hindrance needs unmet selected_by implied_by wanted listed implied value
    there unit_is value_is case_is chosen_is hindrance_is wanted_is needs_are unmet_are listed_is implied_is selected_are implied_are =
    ap (option_map (λ (symbol : Symbol). plain_reasons profile tree s symbol user values)) there
    ∙ (rw (selected_are, implied_are, needs_are, unmet_are, listed_is, implied_is, wanted_is, chosen_is, case_is, hindrance_is, value_is, unit_is) refl)

-- what looking up a place in a list gives is what the list has there
pub found_at : {X : Type 0} (xs : List X) (i : ℕ) (found : Option (Bor X)) → IsItemAt xs i found → option_copied found ≡ slice_get xs i
found_at xs i None h = sym (slice_get_past xs i h.3)
found_at xs i (Some x) h = ap (λ y. Some y) h.1 ∙ sym (slice_get-get_or xs i x.now h.3.0)
