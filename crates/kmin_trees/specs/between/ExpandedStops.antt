-- Ends of a run at a tree whose macros are expanded.
use Rattle.std.specs.Prelude.{◌≡◌, ℕ, List, ◌++◌}
use Rattle.kc_tokens.specs.declared.language.Language.{Language}
use Rattle.kmin_options.specs.Jobs.{GivenExpansion}
use Rattle.kmin_inputs.specs.FileContents.{Surroundings}
use Rattle.kmin_expansions.specs.JobTexts.{TreeTexts, AreExpandedTexts}
use Rattle.kmin_trees.specs.Stops.{StopsInExpansion}
use Rattle.kmin_trees.specs.between.TreeStops.{StopsAtTexts}
use Rattle.kmin_report.specs.Reports.{ErrorLine}

-- a run ended at its tree, with this status and these lines of standard error: in the expansion of macros, or at the expanded
-- texts
pub data StopsAtExpanded (known : Surroundings) (counted counted_after : ℕ) (root first : List ℕ) (language : Language) (expansion : GivenExpansion) (status : ℕ) (lines : List ErrorLine) : Type 0 where
  in_expansion : StopsInExpansion known counted counted_after root first expansion status lines → StopsAtExpanded known counted counted_after root first language expansion status lines
  at_texts : (t : TreeTexts) (more : List ErrorLine) → AreExpandedTexts known root first language expansion t → StopsAtTexts t.texts t.names first status more
      → lines ≡ t.lines ++ more → StopsAtExpanded known counted counted_after root first language expansion status lines
