-- The places of lines in several configuration files, as the code has them.
use Rattle.kc_reasons_model.specs.AssigningLines.{AssigningPlace}
use Rattle.kc_reasons_model.specs.OverriddenLines.{OverriddenPlace}
use Rattle.kc_config_reasons.specs.declared.places.AskingPlace.{AskingPlace}
use Rattle.kc_config_reasons.specs.declared.places.Overridden.{Overridden}
use Rattle.kc_config_reasons.specs.between.FileLines.{line_view}

-- a line and the number of its file, as the place of a line
abbrev pub place_view : AskingPlace → AssigningPlace
place_view p = record { file = p.file; line = line_view p.line.now }

-- a line with the one that overrides it, as their places
abbrev pub overridden_view : Overridden → OverriddenPlace
overridden_view o = record { place = place_view o.place; by = place_view o.by }
