-- Lines of the text that explains a symbol's value.
use Rattle.std.specs.Prelude.{ℕ, Bool, List, [], ◌∷◌, ◌++◌, Option, codes, if◌then◌else◌}
use Rattle.kc_tree_model.specs.Trees.{Symbol}
use Rattle.kc_tree_model.specs.Blocks.{Position}
use Rattle.kc_reasons_model.specs.declared.cases.Hindrance.{Hindrance}
use Rattle.kc_explanation.specs.declared.context.Context.{Context}
use Rattle.kc_explanation.specs.Explained.{inner_line, is_without_prompt}
use Rattle.kc_located_reasons.specs.declared.located_parts.LocatedPart.{LocatedPart}
use Rattle.kc_located_reasons.specs.between.PartsView.{located_part_view}
use Rattle.kc_explanation.specs.Located.{located_part_text, located_forcing_lines}
use Rattle.kc_explanation.specs.checker.Contexts.{exprs_of, tree_of, values_of, names_of}

-- the text of a part
abbrev pub part_text : Context → LocatedPart → List ℕ
part_text by p = located_part_text by.strings (names_of by) by.paths.now (located_part_view (exprs_of by) p)

-- the texts of parts that are all needed: `WORD`, the first part, ` and `, the next one
abbrev pub joined_parts : List ℕ → List (List ℕ) → List ℕ
joined_parts word [] = []
joined_parts word (t ∷ ts) = word ++ (t ++ joined_parts (codes " and ") ts)

-- and a line of them
abbrev pub part_line : List ℕ → List (List ℕ) → List ℕ
part_line word ts = inner_line (joined_parts word ts)

-- a line for each alternative: the first begins with this word, the others with `or`
abbrev pub part_lines : List ℕ → List (List (List ℕ)) → List ℕ
part_lines word [] = []
part_lines word (ts ∷ rest) = part_line word ts ++ part_lines (codes "or ") rest

-- a line for each of the selects and implies with these numbers
abbrev pub forces_lines : Context → Symbol → List Position → List Position → List ℕ → List ℕ → List ℕ
forces_lines by symbol selectors impliers selected_by implied_by =
    located_forcing_lines by.strings by.paths.now (tree_of by) (values_of by) (codes "selected by ") symbol.selectors selectors selected_by
    ++ located_forcing_lines by.strings by.paths.now (tree_of by) (values_of by) (codes "implied by ") symbol.impliers impliers implied_by

-- what the prompts need, if there is one
abbrev pub needed_lines : (without_prompt : Bool) → List (List (List ℕ)) → List ℕ
needed_lines without_prompt needs = if without_prompt
    then inner_line (codes "it has no prompt")
    else part_lines (codes "needs ") needs

-- what comes after a symbol's value: what its prompts need, what selects and implies it, and what is unmet
abbrev pub detail_lines : Context → Symbol → Option Hindrance → (needs : List (List (List ℕ))) → List Position → List Position → List ℕ → List ℕ → (unmet : List (List (List ℕ))) → List ℕ
detail_lines by symbol hindrance needs selectors impliers selected_by implied_by unmet =
    needed_lines (is_without_prompt hindrance symbol) needs
    ++ (forces_lines by symbol selectors impliers selected_by implied_by
    ++ part_lines (codes "unmet: ") unmet)
