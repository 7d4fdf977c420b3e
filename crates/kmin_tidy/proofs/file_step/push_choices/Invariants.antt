use Rattle.kmin_tidy.proofs.Common.{◌≡◌, ◌++◌, map, take, notice_pair, places_noted}
use Rattle.kmin_tidy.proofs.file_step.push_choices.Given as goal

abbrev pub invariant-loop-place : goal.invariant-loop-place
invariant-loop-place l = map notice_pair l.notices.items ≡ map notice_pair l.fn.noted.items ++ places_noted (take l.place-index l.places)
