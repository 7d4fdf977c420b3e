-- Reading a full file gives its values back.
use Rattle.std.specs.Prelude.{◌≡◌, ℕ, true, List, Option, length, IsTrue}
use Rattle.kc_tree_model.specs.Trees.{Tree}
use Rattle.kc_solver.specs.Solutions.{UniquelySolves, FitsUsers}
use Rattle.kc_rules_model.specs.declared.profile.Profile.{Profile}
use Rattle.kc_rules_model.specs.declared.values.UnitValue.{UnitValue}
use Rattle.kc_rules_model.specs.declared.values.UserValue.{UserValue}
use Rattle.kc_rules_model.specs.Rule.{rule}
use Rattle.kc_rules_model.specs.Shapes.{user_fits}
use Rattle.kc_rules_model.specs.SettledTrees.{IsSettledTree}
use Rattle.kc_rules_model.specs.Reports.{IsLifted}
use Rattle.kc_dotconfig_model.specs.Formats.{FileFormat}
use Rattle.kc_dotconfig_model.specs.PrefixGrammar.{is_name_prefix}
use Rattle.kc_minimal_model.specs.FullFile.{full_file}
use Rattle.kc_minimal_model.specs.FileValues.{ReadsTo}

-- no visible tristate would get another value if its value were its user value (`IsLifted`)
abbrev pub IsUnlifted : Profile → Tree → List UnitValue → Type 0
IsUnlifted profile tree values = (u : ℕ) → IsLifted profile tree values u → ⊥

-- reading the full file of a configuration's values gives these values back, unless some visible tristate would get another
-- value if its value were also its user value
abbrev pub FullFilesLeadBack : Type 0
FullFilesLeadBack = (format : FileFormat) (profile : Profile) (tree : Tree) (users : List (Option UserValue)) (values : List UnitValue)
    → is_name_prefix format.prefix ≡ true → IsSettledTree tree
    → FitsUsers (length tree.units) (λ u x. IsTrue (user_fits tree u x)) users
    → UniquelySolves (length tree.units) (rule profile tree) users values → IsUnlifted profile tree values
    → ReadsTo format profile tree (full_file format tree values) values
