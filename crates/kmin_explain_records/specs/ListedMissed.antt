-- The symbols of which `missed` has records.
use Rattle.std.specs.Prelude.{ℕ, Bool, ◌||◌, List, length, nat_lt, ◌==◌}
use Rattle.std.specs.List.{filter, list_any}
use Rattle.kc_dotconfig_model.specs.MissedAssignments.{missed}
use Rattle.kc_reasons_model.specs.OverriddenLines.{places_of, overridden}
use Rattle.kmin_explain.specs.Explanations.{SourcesModel, unit_for, all_symbols}

-- whether the last line on symbol s of a configuration file asks for another value than that of a later file
abbrev pub is_overridden : SourcesModel → ℕ → Bool
is_overridden g s = nat_lt 0 (length (overridden (places_of (unit_for g s) s 0 g.meanings)))

-- whether symbol s is one of these that are missed, or has such a line
abbrev pub is_listed : SourcesModel → (symbols : List ℕ) → ℕ → Bool
is_listed g symbols s = list_any (λ m. m == s) symbols || is_overridden g s

-- those of all symbols, in order of first definition
abbrev pub listed_missed : SourcesModel → List ℕ
listed_missed g = filter (is_listed g (missed g.tree g.users g.values)) (all_symbols g.tree)
