-- Places of lines are gone over one after another.
use Rattle.std.specs.Prelude.{ℕ, ◌+◌, List, [], ◌∷◌, ◌++◌, Option, None, option_map, option_to_list, find}
use Rattle.std.specs.Borrow.{Bor}
use Rattle.std.specs.Option.{option_or}
use Rattle.kc_reasons_model.specs.AssigningLines.{AssigningPlace, place_giving}
use Rattle.kc_reasons_model.specs.OverriddenLines.{asks_otherwise}
use Rattle.kc_config_reasons.specs.declared.file_lines.FileLines.{FileLines}
use Rattle.kc_config_reasons.specs.declared.file_lines.AskingLine.{AskingLine}
use Rattle.kc_config_reasons.specs.declared.places.AskingPlace.{AskingPlace}
use Rattle.kc_config_reasons.specs.declared.places.Overridden.{Overridden}
use Rattle.kc_config_reasons.specs.between.FileLines.{line_view, line_kept}

-- the place of the line that a file keeps for symbol s of unit u, or none
abbrev pub place_in : (u s f : ℕ) → FileLines → Option AssigningPlace
place_in u s f file = place_giving f (option_map line_view (line_kept file u s))

-- of some files the last one with a line, the first file having this number
abbrev pub place_kept : (u s first : ℕ) → List FileLines → Option AssigningPlace
place_kept u s f [] = None
place_kept u s f (file ∷ files) = option_or (place_kept u s (f + 1) files) (place_in u s f file)

-- and all with a line
abbrev pub places_kept : (u s first : ℕ) → List FileLines → List AssigningPlace
places_kept u s f [] = []
places_kept u s f (file ∷ files) = option_to_list (place_in u s f file) ++ places_kept u s (f + 1) files

-- of places the first after the first one whose line asks for another value than the first one's
abbrev pub place_asking_otherwise : List AssigningPlace → Option AssigningPlace
place_asking_otherwise [] = None
place_asking_otherwise (p ∷ later) = find (asks_otherwise p.line.user) later

-- a line of a file
abbrev pub place_at : ℕ → Bor AskingLine → AskingPlace
place_at file line = record { file = file; line = line }

-- a line and the one that overrides it
abbrev pub overridden_at : AskingPlace → AskingPlace → Overridden
overridden_at place by = record { place = place; by = by }
