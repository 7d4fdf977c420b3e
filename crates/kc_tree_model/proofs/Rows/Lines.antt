-- A row on the lines of a help text.
use Rattle.kc_tree_model.proofs.Common.{◌≡◌, ℕ, List, [], ◌∷◌, refl, true, false, map, Bool, codes, LogicalLine}
use Rattle.kc_tokens.specs.Token.{next_token}
use Rattle.kc_tree_model.specs.LogicalLines.{lines_of}

abbrev helped : List ℕ → List Bool
helped bytes = map (λ (l : LogicalLine). l.help) (lines_of bytes)

help_text_by_indentation : helped (codes "config A\n\tbool \"a\"\n\thelp\n\t  $x config\n\tdepends on B\n")
    ≡ false ∷ false ∷ false ∷ true ∷ false ∷ []
unfolding lines_of next_token
help_text_by_indentation = refl
