use Rattle.std.proofs.Common.{sym, ap, ◌∙◌, rules}
use Rattle.std.specs.Prelude.{slice_get}
use Rattle.kmin_expansions.specs.JobTexts.{no_texts}
use Rattle.kmin_expansions.specs.between.FilesByPlace.{with_file_at}
use Rattle.kmin_expansions.proofs.TextsOfExpansions.{are_no_texts, with_next}
use Rattle.kmin_expansions.proofs.expanded_trees.texts_of.Goals as goal

pub loop-at-init : goal.loop-at-init
loop-at-init c = are_no_texts _ _ c.with_language-texts.ensures.language c.with_language-texts.ensures.empty

pub loop-at-preserved : goal.loop-at-preserved
loop-at-preserved c =
    c.in_ok-insert_at.ensures ∙ ap (with_file_at (slice_get c.args.tree.now c.loop-at.at)) c.loop-at.invariant
    ∙ sym (with_next c.args.tree.now c.loop-at.at (no_texts c.args.language) (search rules))
