-- The names and the steps of a cycle of symbols and choices.
use Rattle.std.specs.Prelude.{ℕ, ◌+◌, List, [], ◌∷◌, ◌++◌, Option, Some, None, codes, length, map, nat_lt, option_map, slice_get, slice_index, if◌then◌else◌}
use Rattle.std.specs.List.{range_with_len}
use Rattle.kc_tree_model.specs.Trees.{Tree, Choice}
use Rattle.kc_tree_model.specs.declared.ids.Unit.{Unit as TreeUnit}
use Rattle.kc_tree_model.specs.declared.ids.Unit.TheVariants.{Symbol as of_symbol, Choice as of_choice}
use Rattle.kmin_faults.specs.Causes.{cause_of}
use Rattle.kmin_faults.specs.declared.causes.Cause.{Cause}

-- the name of the symbol with a number; empty if there is none
abbrev pub symbol_name : Tree → ℕ → List ℕ
symbol_name tree s = elim (slice_get tree.symbols s) [ None ↦ [] | Some symbol ↦ symbol.name ]

-- the name of the first of these symbols; empty if there is none
abbrev pub first_name : Tree → (members : List ℕ) → List ℕ
first_name tree [] = []
first_name tree (s ∷ others) = symbol_name tree s

-- the name of a choice: `choice:MEMBER`, by its first member; empty if there is no choice
abbrev pub choice_name : Tree → Option Choice → List ℕ
choice_name tree None = []
choice_name tree (Some choice) = codes "choice:" ++ first_name tree choice.members

-- the name of a unit; empty if there is none
abbrev pub unit_name : Tree → Option TreeUnit → List ℕ
unit_name tree None = []
unit_name tree (Some (of_symbol s)) = symbol_name tree s
unit_name tree (Some (of_choice c)) = choice_name tree (slice_get tree.choices c)

-- the names of units, by their numbers
abbrev pub unit_names : Tree → (units : List ℕ) → List (List ℕ)
unit_names tree units = map (λ u. unit_name tree (slice_get tree.units u)) units

-- a step of a cycle: the name of a symbol or a choice, what makes it depend on another, and the name of that
pub record Step : Type 0 where
  pub name : List ℕ
  pub cause : Cause
  pub other : List ℕ

-- the step with these parts, if all of them are there
abbrev pub step_with : (name : Option (List ℕ)) → Option Cause → (other : Option (List ℕ)) → Option Step
step_with (Some name) (Some cause) (Some other) = Some (record { name = name; cause = cause; other = other })
step_with name cause other = None

-- the place after a place of a circle of `count` places
abbrev pub next_place : (count at : ℕ) → ℕ
next_place count at = if nat_lt (at + 1) count then at + 1 else 0

-- the step at a place of a circle of units with these names
abbrev pub step_at : Tree → (units : List ℕ) → (names : List (List ℕ)) → (at : ℕ) → Option Step
step_at tree units names at =
    let next = next_place (length units) at in
    step_with (slice_get names at) (cause_of tree (slice_index units at) (slice_index units next)) (slice_get names next)

-- the elements of a list, if all of them are there
abbrev pub all_there : {A : Type 0} → List (Option A) → Option (List A)
all_there [] = Some []
all_there (None ∷ others) = None
all_there (Some a ∷ others) = option_map (λ rest. a ∷ rest) (all_there others)

-- the steps of a cycle of units with these names, the last of which leads back to the first; None where nothing makes one of them
-- depend on the next
abbrev pub cycle_steps : Tree → (units : List ℕ) → (names : List (List ℕ)) → Option (List Step)
cycle_steps tree units names = all_there (map (step_at tree units names) (range_with_len 0 (length units)))
