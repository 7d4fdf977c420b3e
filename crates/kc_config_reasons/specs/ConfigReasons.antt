-- The reasons of a symbol over a configuration, and what they say of its values.
use Rattle.std.specs.Prelude.{◌≡◌, ℕ, true, false, ◌&&◌, Option, Some, is_some, slice_get}
use Rattle.kc_solver.specs.Solutions.{user_of}
use Rattle.kc_tree_model.specs.Trees.{Symbol}
use Rattle.kc_tree_model.specs.TreeLookup.{unit_of}
use Rattle.kc_rules_model.specs.declared.values.UserValue.{UserValue}
use Rattle.kc_rules.specs.between.SettledViews.{profile_of}
use Rattle.kc_dotconfig_model.specs.MissedAssignments.{is_missed}
use Rattle.kc_config.specs.ConfigStates.{Configured, tree_in}
use Rattle.kc_reasons_model.specs.Cases.{given}
use Rattle.kc_reasons_model.specs.Claims.{claims_hold}
use Rattle.kc_reasons_model.specs.Hindrances.{is_about, is_given_both}
use Rattle.kc_reasons_model.specs.PlainReasons.{PlainReasons, plain_reasons}

-- the number of a symbol's unit, and the user value that files assign to it, or none
abbrev pub unit_in : Configured → ℕ → ℕ
unit_in c s = unit_of (tree_in c) s

abbrev pub user_in : Configured → ℕ → Option UserValue
user_in c s = user_of c.users (unit_in c s)

-- These are the reasons of symbol s under a configuration's assignment and values. The case gives the value that its unit has, what
-- the case claims holds, and unless the assignment gives a member both `y` and `n` (none that is read from files does, by
-- `MembersHaveOneLine`) something hinders exactly a symbol that is missed.
pub record AreReasonsIn (c : Configured) (s : ℕ) (symbol : Symbol) (r : PlainReasons) : Type 0 where
  pub are : r ≡ plain_reasons (profile_of c.system) (tree_in c) s symbol (user_in c s) c.values
  pub gives : slice_get c.values (unit_in c s) ≡ Some (given r.case (tree_in c) (unit_in c s) (user_in c s) c.values)
  pub claims : claims_hold r.case (profile_of c.system) (tree_in c) (unit_in c s) (user_in c s) c.values ≡ true
  pub missed : is_given_both s (user_in c s) ≡ false
      → is_missed (tree_in c) c.users c.values s ≡ (is_about symbol.choice s (user_in c s) && is_some r.hindrance)
