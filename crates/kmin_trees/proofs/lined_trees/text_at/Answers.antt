use Rattle.kmin_trees.proofs.Common.{ℕ, List, [], Option, ap, ◌∙◌, option_map, unwrap_or, name_text}
use Rattle.kmin_trees.proofs.lined_trees.text_at.Goals as goal

pub returns-in-Some : goal.returns-in-Some
returns-in-Some c = c.name_text.ensures ∙ ap (λ (name : Option (List ℕ)). unwrap_or (option_map name_text name) []) c.in-Some.ensures
