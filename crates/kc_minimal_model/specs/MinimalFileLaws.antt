-- The lines of minimal files, and the differences of valuations.
use Rattle.std.specs.Prelude.{◌≡◌, ◌↔◌, [], ◌∷◌, ◌++◌, ℕ, true, false, List, Option, Some, length, slice_get, IsTrue}
use Rattle.kc_value.specs.declared.value.Kind.TheVariants.{Text}
use Rattle.kc_tree_model.specs.Trees.{Tree, Symbol}
use Rattle.kc_value.specs.Lines.{has_newline}
use Rattle.kc_tree_model.specs.TreeLookup.{IsConsistent, unit_of}
use Rattle.kc_solver.specs.Solutions.{Solves, FitsUsers, FitsValues}
use Rattle.kc_rules_model.specs.declared.profile.Profile.{Profile}
use Rattle.kc_rules_model.specs.declared.values.UnitValue.{UnitValue}
use Rattle.kc_rules_model.specs.declared.values.UserValue.{UserValue}
use Rattle.kc_rules_model.specs.declared.values.UserValue.TheVariants.{Text as TextUser}
use Rattle.kc_rules_model.specs.Rule.{rule, as_user}
use Rattle.kc_rules_model.specs.Shapes.{user_fits, value_fits}
use Rattle.kc_dotconfig_model.specs.Formats.{FileFormat, string_spelling}
use Rattle.kc_dotconfig_model.specs.PrefixGrammar.{is_name_prefix}
use Rattle.kc_dotconfig_model.specs.ConfigLines.{assigns, Means}
use Rattle.kc_tree_model.specs.LogicalLines.{without_white_end}
use Rattle.kc_dotconfig_model.specs.ConfigFiles.{FileMeans}
use Rattle.kc_minimal_model.specs.SymbolLine.{value_line, symbol_line}
use Rattle.kc_minimal_model.specs.Differences.{differences}
use Rattle.kc_minimal_model.specs.MinimalFile.{has_line}

-- a symbol's line is read as the assignment of its unit's value to its unit
pub record IsReadAsItsAssignment (format : FileFormat) (tree : Tree) (values : List UnitValue) (s : ℕ) : Type 0 where
  pub value : UnitValue
  pub user : UserValue
  pub has : slice_get values (unit_of tree s) ≡ Some value
  pub meant : as_user tree.language value ≡ Some user
  pub trimmed : without_white_end (symbol_line format tree values s) ≡ symbol_line format tree values s
  pub has_meaning : Means format tree (symbol_line format tree values s) (assigns (unit_of tree s) user)

-- the property holds of the values that any assignment of fitting user values gives over any consistent tree
abbrev pub ForSolutions : (Profile → Tree → List UnitValue → Type 0) → Type 0
ForSolutions P =
    (profile : Profile) (tree : Tree) (users : List (Option UserValue)) (values : List UnitValue) → IsConsistent tree
    → FitsUsers (length tree.units) (λ u x. IsTrue (user_fits tree u x)) users
    → Solves (length tree.units) (rule profile tree) users values → P profile tree values

-- each line of a minimal file is read as the assignment that it spells
abbrev pub MinimalLinesAreRead : Type 0
MinimalLinesAreRead = (format : FileFormat) → is_name_prefix format.prefix ≡ true
    → ForSolutions (λ profile tree values. (s : ℕ) → has_line profile tree values s ≡ true
    → IsReadAsItsAssignment format tree values s)

-- no two lines of a minimal file assign to the same unit
abbrev pub MinimalLinesDiffer : Type 0
MinimalLinesDiffer =
    ForSolutions (λ profile tree values. (s t : ℕ) → has_line profile tree values s ≡ true
    → has_line profile tree values t ≡ true → unit_of tree s ≡ unit_of tree t → s ≡ t)

-- in each format, the line that is written for a string symbol with a text without a newline is read as the
-- assignment of this text
abbrev pub StringsAreReadBack : Type 0
StringsAreReadBack = (format : FileFormat) (tree : Tree) (s : ℕ) (symbol : Symbol) (text : List ℕ) → is_name_prefix format.prefix ≡ true
    → IsConsistent tree → slice_get tree.symbols s ≡ Some symbol → symbol.kind ≡ Text → has_newline text ≡ false
    → FileMeans format tree (value_line format.prefix symbol.name (string_spelling format.strings text) ++ 10 ∷ [])
    (assigns (unit_of tree s) (TextUser text) ∷ [])

-- two valuations whose values fit their units, in a consistent tree, differ at no symbol exactly if they are equal
abbrev pub DifferencesAreExact : Type 0
DifferencesAreExact = (tree : Tree) (v w : List UnitValue) → IsConsistent tree
    → FitsValues (length tree.units) (λ u x. IsTrue (value_fits tree u x)) v
    → FitsValues (length tree.units) (λ u x. IsTrue (value_fits tree u x)) w
    → (differences tree v w ≡ []) ↔ (v ≡ w)
