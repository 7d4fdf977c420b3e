-- The canonical file of values.
use Rattle.std.specs.Prelude.{◌≡◌, ◌≢◌, ◌↔◌, ℕ, ◌+◌, ◌<◌, ◌≤◌, Bool, true, false, eqb, List, [], ◌∷◌, ◌++◌, Option, Some, None, length, slice_get, IsTrue, if◌then◌else◌}
use Rattle.std.specs.List.{list_any, flat_map}
use Rattle.kc_tree_model.specs.Trees.{Tree}
use Rattle.kc_tree_model.specs.TreeLookup.{unit_of}
use Rattle.kc_solver.specs.Solutions.{user_of, Solves, UniquelySolves, FitsUsers}
use Rattle.kc_solver.specs.LeastAssignments.{IsCutTo}
use Rattle.kc_rules_model.specs.declared.profile.Profile.{Profile}
use Rattle.kc_rules_model.specs.declared.values.UnitValue.{UnitValue}
use Rattle.kc_rules_model.specs.declared.values.UserValue.{UserValue}
use Rattle.kc_rules_model.specs.Rule.{rule, as_user}
use Rattle.kc_rules_model.specs.Shapes.{user_fits}
use Rattle.kc_rules_model.specs.RuleLaws.{is_tri_value, moves_user_values}
use Rattle.kc_rules_model.specs.SettledTrees.{IsSettledTree}
use Rattle.kc_dotconfig_model.specs.Formats.{FileFormat}
use Rattle.kc_dotconfig_model.specs.PrefixGrammar.{is_name_prefix}
use Rattle.kc_dotconfig_model.specs.ConfigLines.{LineMeaning, assigns, assigns_escaped}
use Rattle.kc_dotconfig_model.specs.ConfigFiles.{file_lines, file_assignment}
use Rattle.kc_value.specs.declared.limits.TheConstants.{MAX_CONFIG_BYTES}
use Rattle.kc_dotconfig_model.specs.LoadFaults.{IsAccepted}
use Rattle.kc_minimal_model.specs.MinimalFile.{has_line, minimal_symbols, minimal_file}
use Rattle.kc_minimal_model.specs.FileValues.{ReadsTo, Loads, HaveSameValues, DifferAtASymbol, has_short_lines}

-- the elements of a list whose numbers pass a test, where the first one has the number `k`
abbrev pub at_numbers : {A : Type 0} → (ℕ → Bool) → ℕ → List A → List A
at_numbers keeps k [] = []
at_numbers keeps k (x ∷ xs) = if keeps k then x ∷ at_numbers keeps (k + 1) xs else at_numbers keeps (k + 1) xs

-- those lines of a file whose numbers pass a test, where the first line has the number 0
abbrev pub with_lines : (ℕ → Bool) → List ℕ → List ℕ
with_lines keeps bytes = flat_map (λ (line : List ℕ). line ++ 10 ∷ []) (at_numbers keeps 0 (file_lines bytes))

-- the unit of each symbol with a line in the minimal file passes the test
abbrev pub HasUnitsOfLines : Profile → Tree → List UnitValue → (ℕ → Bool) → Type 0
HasUnitsOfLines profile tree values keeps = (s : ℕ) → has_line profile tree values s ≡ true → keeps (unit_of tree s) ≡ true

-- the assignment has the user values of those lines of the minimal file that assign a member, a string or a number: each the one
-- that represents its value, or where user values of the unit may be moved (`moves_user_values`), some user value
abbrev pub HasValuesOfLines : Profile → Tree → List UnitValue → List (Option UserValue) → Type 0
HasValuesOfLines profile tree values users = (s : ℕ) (value : UnitValue) → has_line profile tree values s ≡ true
    → slice_get values (unit_of tree s) ≡ Some value → is_tri_value value ≡ false
    → (moves_user_values tree (slice_get tree.units (unit_of tree s)) ≡ false → user_of users (unit_of tree s) ≡ as_user tree.language value)
    × (user_of users (unit_of tree s) ≢ None)

-- the units to which the lines of a configuration file assign, one for each line that assigns
abbrev pub assigned_units : List LineMeaning → List ℕ
assigned_units [] = []
assigned_units (assigns u x ∷ meanings) = u ∷ assigned_units meanings
assigned_units (assigns_escaped u text ∷ meanings) = u ∷ assigned_units meanings
assigned_units (_ ∷ meanings) = assigned_units meanings

-- the lines of a configuration file assign no less than the minimal file of the values, which has this many lines: to the unit
-- of each of its lines, with the same members, strings and numbers, by at least as many lines
pub record AssignsTheLines (profile : Profile) (tree : Tree) (values : List UnitValue) (lines : ℕ) (meanings : List LineMeaning) : Type 0 where
  pub each : HasUnitsOfLines profile tree values (λ u. list_any (eqb u) (assigned_units meanings))
  pub each_value : HasValuesOfLines profile tree values (file_assignment tree meanings)
  pub as_many : lines ≤ length (assigned_units meanings)

-- A text is the canonical file of values, over one tree, in one profile and one format.
pub record IsCanonicalText (format : FileFormat) (profile : Profile) (tree : Tree) (values : List UnitValue) (text : List ℕ) : Type 0 where
  -- the text is the minimal file of the values
  pub is : text ≡ minimal_file format profile tree values
  -- a configuration file gives every symbol the same value as the text exactly if its minimal file is the text byte for byte
  pub same : (file : List ℕ) (others : List UnitValue) → ReadsTo format profile tree file others
      → HaveSameValues tree values others ↔ (text ≡ minimal_file format profile tree others)
  -- reading the text gives the values and no others
  pub back : ReadsTo format profile tree text values
  -- the minimal file of the values that the text gives is the text again
  pub once : (again : List UnitValue) → ReadsTo format profile tree text again → minimal_file format profile tree again ≡ text
  -- without one of its lines, and with all or some of its other lines, the text gives some symbol another value
  pub needed : (keeps : ℕ → Bool) (k : ℕ) → k < length (file_lines text) → keeps k ≡ false
      → (others : List UnitValue) × ReadsTo format profile tree (with_lines keeps text) others
      × DifferAtASymbol tree others values
  -- an assignment that gives the values, cut down to some units, still gives them exactly if the unit of each line of
  -- the text is among these units
  pub least : (users fewer : List (Option UserValue)) (keeps : ℕ → Bool)
      → FitsUsers (length tree.units) (λ u x. IsTrue (user_fits tree u x)) users
      → Solves (length tree.units) (rule profile tree) users values → IsCutTo (length tree.units) keeps users fewer
      → UniquelySolves (length tree.units) (rule profile tree) fewer values ↔ HasUnitsOfLines profile tree values keeps
  -- an assignment that gives the values has the members, strings and numbers that the lines of the text assign
  pub least_values : (users : List (Option UserValue))
      → FitsUsers (length tree.units) (λ u x. IsTrue (user_fits tree u x)) users
      → Solves (length tree.units) (rule profile tree) users values → HasValuesOfLines profile tree values users
  -- a file that gives the values assigns no less than the text
  pub assigns : (file : List ℕ) → (reads : ReadsTo format profile tree file values)
      → AssignsTheLines profile tree values (length (file_lines text)) reads.meanings
  -- if the text is within the limit of bytes and has no line that is too long, it is accepted, and so is any selection of its
  -- lines
  pub accepted : length text ≤ MAX_CONFIG_BYTES → has_short_lines text ≡ true → IsAccepted format tree text
  pub part_accepted : length text ≤ MAX_CONFIG_BYTES → has_short_lines text ≡ true → (keeps : ℕ → Bool)
      → IsAccepted format tree (with_lines keeps text)
  -- if an accepted configuration file gives the values, no line of the text is too long
  pub short : (file : List ℕ) → Loads format profile tree file values → has_short_lines text ≡ true

-- the minimal file of the values that an assignment of fitting user values gives is canonical (`IsCanonicalText`)
abbrev pub MinimalTextsAreCanonical : Type 0
MinimalTextsAreCanonical = (format : FileFormat) (profile : Profile) (tree : Tree) (users : List (Option UserValue)) (values : List UnitValue)
    → is_name_prefix format.prefix ≡ true → IsSettledTree tree
    → FitsUsers (length tree.units) (λ u x. IsTrue (user_fits tree u x)) users
    → Solves (length tree.units) (rule profile tree) users values
    → IsCanonicalText format profile tree values (minimal_file format profile tree values)

-- with any bytes as the prefix of names, every configuration file that gives values assigns no less than their minimal file
abbrev pub FilesAssignTheLines : Type 0
FilesAssignTheLines = (format : FileFormat) (profile : Profile) (tree : Tree) (file : List ℕ) (values : List UnitValue)
    → IsSettledTree tree → (reads : ReadsTo format profile tree file values)
    → AssignsTheLines profile tree values (length (minimal_symbols profile tree values)) reads.meanings
