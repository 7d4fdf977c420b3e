-- The conditions of each group's attributes.
use Rattle.std.specs.Prelude.{ℕ, ◌+◌, None, List, length, nat_lt, reverse, slice_range, slice_index_or, if◌then◌else◌}
use Rattle.kc_tokens.specs.declared.language.Language.{Language}
use Rattle.kc_expr.specs.between.Arena.{Exprs}
use Rattle.kc_tree_model.specs.Blocks.{Group}
use Rattle.kc_conditions.specs.between.Walks.{RepresentsAllConditions}
use Rattle.kc_conditions.specs.declared.group_walk.GroupConditions.{GroupConditions}

-- the conditions used where no group has the given number
abbrev pub no_conditions : GroupConditions
no_conditions = record { dependency = 0; visible = 0; ended = None; first = 0 }

-- the conditions of the group with this number; `no_conditions` if there is no such group
abbrev pub conditions_at : List GroupConditions → ℕ → GroupConditions
conditions_at groups i = slice_index_or groups i no_conditions

-- the index where the conditions of a group's attributes end, by its number: where the next group's begin, or the list's end
abbrev pub conditions_end : List GroupConditions → List ℕ → ℕ → ℕ
conditions_end groups conditions i = if nat_lt (i + 1) (length groups) then (conditions_at groups (i + 1)).first else length conditions

-- the conditions of the attributes of the group with this number, from those of all groups
abbrev pub own_conditions : List GroupConditions → List ℕ → ℕ → List ℕ
own_conditions groups conditions i = slice_range conditions (conditions_at groups i).first (conditions_end groups conditions i)

-- `groups` and `conditions` represent the conditions of some statements and of their attributes
pub record IsConditioned (groups : List GroupConditions) (conditions : List ℕ) : Type 0 where
  pub language : Language
  pub exprs : Exprs
  pub texts : List (List ℕ)
  pub read : List Group
  pub shown : RepresentsAllConditions language exprs texts conditions (length conditions) (reverse groups) read
