-- Minimal files are canonical.
use Rattle.std.specs.Prelude.{◌≡◌, ◌↔◌, ℕ, true, List, [], Option, length, IsTrue}
use Rattle.kc_tree_model.specs.TreeFiles.{Files}
use Rattle.kc_tree_model.specs.Trees.{Tree}
use Rattle.kc_tree_model.specs.TreesOfFiles.{IsTreeOfFiles}
use Rattle.kc_rules_model.specs.declared.profile.Profile.{Profile}
use Rattle.kc_rules_model.specs.declared.values.UnitValue.{UnitValue}
use Rattle.kc_solver.specs.Solutions.{UniquelySolves, FitsUsers}
use Rattle.kc_solver.specs.Dependencies.{HasNoCycle}
use Rattle.kc_rules_model.specs.declared.values.UserValue.{UserValue}
use Rattle.kc_rules_model.specs.Rule.{rule}
use Rattle.kc_rules_model.specs.Shapes.{user_fits}
use Rattle.kc_rules_model.specs.Dependencies.{dependencies}
use Rattle.kc_rules_model.specs.SettledTrees.{IsSettledTree}
use Rattle.kc_dotconfig_model.specs.Formats.{FileFormat}
use Rattle.kc_dotconfig_model.specs.PrefixGrammar.{is_name_prefix}
use Rattle.kc_dotconfig_model.specs.LoadFaults.{IsAccepted}
use Rattle.kc_minimal_model.specs.MinimalFile.{minimal_file}
use Rattle.kc_minimal_model.specs.Differences.{differences}
use Rattle.kc_minimal_model.specs.FileValues.{Loads, HaveSameValues}
use Rattle.kc_minimal_model.specs.CanonicalText.{IsCanonicalText}

-- the configuration file is accepted, gives the values `values` and no others, and their minimal file is canonical
-- (`IsCanonicalText`)
pub record HasCanonicalFile (format : FileFormat) (profile : Profile) (tree : Tree) (bytes : List ℕ) : Type 0 where
  pub values : List UnitValue
  pub loads : Loads format profile tree bytes values
  pub canonical : IsCanonicalText format profile tree values (minimal_file format profile tree values)

-- each accepted file over a consistent tree without a cycle of dependencies has a canonical minimal file (`HasCanonicalFile`)
abbrev pub MinimalFilesAreCanonical : Type 0
MinimalFilesAreCanonical = (format : FileFormat) (profile : Profile) (tree : Tree) (bytes : List ℕ) → is_name_prefix format.prefix ≡ true
    → IsSettledTree tree → IsAccepted format tree bytes → HasCanonicalFile format profile tree bytes

-- both configuration files have canonical minimal files, and they give every symbol the same value exactly if their
-- minimal files are equal byte for byte
pub record AreComparedByMinimalFiles (format : FileFormat) (profile : Profile) (tree : Tree) (a b : List ℕ) : Type 0 where
  pub left : HasCanonicalFile format profile tree a
  pub right : HasCanonicalFile format profile tree b
  pub same : HaveSameValues tree left.values right.values
      ↔ (minimal_file format profile tree left.values ≡ minimal_file format profile tree right.values)

-- The headline: for all Kconfig files that are read without a fault and whose units have no cycle, two accepted
-- configuration files have canonical minimal files, and give every symbol the same value exactly if these are equal
-- byte for byte.
abbrev pub Headline : Type 0
Headline = (files : Files) (root : List ℕ) (tree : Tree) (format : FileFormat) (profile : Profile) (a b : List ℕ)
    → is_name_prefix format.prefix ≡ true → IsTreeOfFiles files root tree → HasNoCycle (length tree.units) (dependencies tree)
    → IsAccepted format tree a → IsAccepted format tree b → AreComparedByMinimalFiles format profile tree a b

-- the values that two assignments of fitting user values give differ at no symbol exactly if their minimal files are equal byte
-- for byte
abbrev pub DifferencesDecideMinimalFiles : Type 0
DifferencesDecideMinimalFiles = (format : FileFormat) (profile : Profile) (tree : Tree) (a b : List (Option UserValue)) (left right : List UnitValue)
    → is_name_prefix format.prefix ≡ true → IsSettledTree tree
    → FitsUsers (length tree.units) (λ u x. IsTrue (user_fits tree u x)) a
    → FitsUsers (length tree.units) (λ u x. IsTrue (user_fits tree u x)) b
    → UniquelySolves (length tree.units) (rule profile tree) a left → UniquelySolves (length tree.units) (rule profile tree) b right
    → (differences tree left right ≡ [])
    ↔ (minimal_file format profile tree left ≡ minimal_file format profile tree right)
