-- Dependencies, and a cycle among them.
use Rattle.kc_rules_model.proofs.Common.{◌≡◌, false, [], ◌∷◌, Some, refl, codes, Strict, shown, both, Tree, choice_begins, definition}
use Rattle.kc_tree_model.specs.declared.ids.Unit.TheVariants.{Choice as of_choice}
use Rattle.kc_rules_model.specs.Dependencies.{dependencies}
use Rattle.kc_rules_model.proofs.RowTrees.{always, name, member, tree_imply}

dependencies_of_an_implied_tristate : dependencies tree_imply 3 ≡ 0 ∷ 1 ∷ 2 ∷ []
unfolding dependencies
dependencies_of_an_implied_tristate = refl

-- choice / prompt "p" / config A / bool "a" / config B / bool "b" if A / endchoice
abbrev tree_choice_cycle : Tree
tree_choice_cycle = record {
  symbols = member (codes "A") (shown always) ∷ member (codes "B") (both (name (codes "A")) (shown always)) ∷ [];
  choices = record { file = 0; line = 1; members = 0 ∷ 1 ∷ []; prompt = Some always; defaults = []; optional = false } ∷ [];
  entries = choice_begins 0 ∷ definition 0 ∷ definition 1 ∷ [];
  units = of_choice 0 ∷ [];
  language = Strict;
}

cycle_within_a_choice : dependencies tree_choice_cycle 0 ≡ 0 ∷ []
unfolding dependencies
cycle_within_a_choice = refl
