-- Of several configuration files the lines that a later file overrides.
use Rattle.std.specs.Prelude.{◌≡◌, ◌≢◌, ℕ, ◌+◌, ◌<◌, Bool, not, List, [], ◌∷◌, ◌++◌, map, Option, Some, option_map, option_to_list, find, slice_get, Contains}
use Rattle.std.specs.List.{All}
use Rattle.kc_rules_model.specs.declared.values.UserValue.{UserValue}
use Rattle.kc_rules_model.specs.Equality.{same_user}
use Rattle.kc_dotconfig_model.specs.ConfigLines.{LineMeaning}
use Rattle.kc_reasons_model.specs.AssigningLines.{AssigningPlace, place_giving, assigning_line}

-- of each file that has one, the last line that says something of symbol s of unit u, the first file having this number
abbrev pub places_of : (u s first : ℕ) → List (List LineMeaning) → List AssigningPlace
places_of u s f [] = []
places_of u s f (meanings ∷ files) = option_to_list (place_giving f (assigning_line u s 1 meanings)) ++ places_of u s (f + 1) files

-- whether a line asks for another value than this one
abbrev pub asks_otherwise : UserValue → AssigningPlace → Bool
asks_otherwise x p = not (same_user x p.line.user)

-- a line, and that of a later file that asks for another value
pub record OverriddenPlace : Type 0 where
  pub place : AssigningPlace
  pub by : AssigningPlace

-- the place of a line with the first of these places whose line asks for another value, if there is one
abbrev pub overriding : AssigningPlace → List AssigningPlace → Option OverriddenPlace
overriding p later = option_map (λ q. record { place = p; by = q }) (find (asks_otherwise p.line.user) later)

-- of places of lines, in the order of their files, those whose line a later one overrides, each with the first that does
abbrev pub overridden : List AssigningPlace → List OverriddenPlace
overridden [] = []
overridden (p ∷ later) = option_to_list (overriding p later) ++ overridden later

-- the last line of file k that says something of symbol s of unit u is at this place, the first file having this number
pub record IsPlaceIn (u s first : ℕ) (files : List (List LineMeaning)) (k : ℕ) (place : AssigningPlace) : Type 0 where
  pub meanings : List LineMeaning
  pub is : slice_get files k ≡ Some meanings
  pub number : place.file ≡ first + k
  pub here : assigning_line u s 1 meanings ≡ Some place.line

-- the line of a file is overridden: a later file's asks for another value, and no file's between them does
pub record IsOverridden (u s first : ℕ) (files : List (List LineMeaning)) (o : OverriddenPlace) : Type 0 where
  pub i : ℕ
  pub j : ℕ
  pub later : i < j
  pub place : IsPlaceIn u s first files i o.place
  pub by : IsPlaceIn u s first files j o.by
  pub other : o.by.line.user ≢ o.place.line.user
  pub between : (k : ℕ) (p : AssigningPlace) → i < k → k < j → IsPlaceIn u s first files k p → p.line.user ≡ o.place.line.user

-- law: so it is with each that is listed
abbrev pub ListedAreOverridden : Type 0
ListedAreOverridden = (u s first : ℕ) (files : List (List LineMeaning)) → All (IsOverridden u s first files) (overridden (places_of u s first files))

-- law: and each line is listed after which a file asks for another value
abbrev pub OverriddenAreListed : Type 0
OverriddenAreListed = (u s first : ℕ) (files : List (List LineMeaning)) (i j : ℕ) (p q : AssigningPlace) → i < j
    → IsPlaceIn u s first files i p → IsPlaceIn u s first files j q → q.line.user ≢ p.line.user
    → Contains (map (λ (o : OverriddenPlace). o.place) (overridden (places_of u s first files))) p
