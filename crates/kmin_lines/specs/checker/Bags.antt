-- Bags of lines: each line with its number of occurrences.
use Rattle.std.specs.Prelude.{◌≡◌, ℕ, ◌+◌, List, [], ◌∷◌, unwrap_or, if◌then◌else◌}
use Rattle.std.specs.Str.{bytes_eq}
use Rattle.indexmap.specs.IndexMap.{get_by}
use Rattle.kmin_lines.specs.declared.line_bag.LineBag.{LineBag}

-- the number of occurrences of a line in a bag of lines
abbrev pub times_in : LineBag → (line : List ℕ) → ℕ
times_in bag line = unwrap_or (get_by (λ k. bytes_eq line k.now) bag.counts) 0

-- the number of occurrences of a line in a list of lines
abbrev pub times_among : (lines : List (List ℕ)) → (line : List ℕ) → ℕ
times_among [] line = 0
times_among (other ∷ lines) line = (if bytes_eq line other then 1 else 0) + times_among lines line

-- a bag holds exactly the lines of a list: each as often as the list does
pub record HasLines (bag : LineBag) (lines : List (List ℕ)) : Type 0 where
  pub each : (line : List ℕ) → times_in bag line ≡ times_among lines line
