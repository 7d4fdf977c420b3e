-- Bundles: a tree, a line of just `%%` and a configuration.
use Rattle.std.specs.Prelude.{◌≡◌, ℕ, Bool, not, List, [], ◌∷◌, ◌++◌, Option, IsTrue, bytes_eq}
use Rattle.std.specs.List.{list_all}
use Rattle.std.specs.Io.KnownBytes.{Consumes, IsAtEnd}
use Rattle.kc_dotconfig_model.specs.ConfigFiles.{file_lines}
use Rattle.kmin_lines.specs.Lines.{BeginsWithPiece}
use Rattle.kc_value.specs.Lines.{HasWholeLines}

-- the line between the tree and the configuration of a bundle: `%%`
abbrev pub marker : List ℕ
marker = 37 ∷ 37 ∷ []

-- whether no line of a text is the line `%%`
abbrev pub has_no_marker : List ℕ → Bool
has_no_marker text = list_all (λ line. not (bytes_eq line marker)) (file_lines text)

-- A bundle is cut at its first line of just `%%`. Without such a line it is a tree, and the configuration is empty.
pub data IsBundle (bundle tree configuration : List ℕ) : Type 0 where
  parted : (rest : List ℕ) → IsTrue (has_no_marker tree) → HasWholeLines tree → bundle ≡ tree ++ rest → BeginsWithPiece 10 rest marker configuration
      → IsBundle bundle tree configuration
  unparted : IsTrue (has_no_marker tree) → bundle ≡ tree → configuration ≡ [] → IsBundle bundle tree configuration

-- these bytes are all that a reader had left, and it is at its end, as far as that is known
abbrev pub ReadsToEnd : (before after : Option (List ℕ)) → List ℕ → Type 0
ReadsToEnd before after bytes = Consumes before after bytes × IsAtEnd after
