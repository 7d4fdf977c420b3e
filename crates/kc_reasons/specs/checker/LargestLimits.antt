-- A select or imply beside the most that all of them demand.
use Rattle.std.specs.Prelude.{Bool, not, ◌&&◌, List}
use Rattle.kc_value.specs.declared.tri.Tri.{Tri}
use Rattle.kc_tree_model.specs.Trees.{Tree, ReverseDependency}
use Rattle.kc_rules_model.specs.declared.values.UnitValue.{UnitValue}
use Rattle.kc_value.specs.Tri.{is_n}
use Rattle.kc_rules_model.specs.Equality.{same_tri}
use Rattle.kc_rules_model.specs.Rule.{reverse_dependency_value}

-- whether it demands this much, and that isn't `n`
abbrev pub is_largest : Tree → List UnitValue → Tri → ReverseDependency → Bool
is_largest tree values most f = not (is_n (reverse_dependency_value tree values f)) && same_tri (reverse_dependency_value tree values f) most
