use Rattle.kmin_trees.proofs.Common.{[], refl, ap, option_map, arith, expansion_view, IsJobTree, none, plain_texts, for_memory, if_err_map, if_ok_map, memory_err}
use Rattle.kmin_options.specs.Jobs.{settings_view}
use Rattle.kmin_expansions.specs.JobTexts.{no_texts}
use Rattle.kmin_trees.proofs.JobTrees.{plain_accepted, plain_stopped, expanded_accepted, expanded_stopped}
use Rattle.kmin_trees.proofs.MissingFiles.{misses_only, both_err}
use Rattle.kmin_trees.proofs.TextGrowth.{below_none}
use Rattle.kmin_trees.proofs.UnfailedStops.{texts_unfailed}
use Rattle.kmin_trees.proofs.job_trees.kept_tree.Goals as goal

pub returns-in-Some-clause-accepted : goal.returns-in-Some-clause-accepted
returns-in-Some-clause-accepted g c =
    expanded_accepted (g.F.Files.surroundings c.args.files.now)
    (settings_view c.args.settings.now) _ _ _ _ (expansion_view c.in-Some.expansion) (ap (option_map expansion_view) c.in-Some.is)
    (λ t job. IsJobTree _ g.L.KeptLines.are_of t c.args.settings.now.tree.now job) c.expanded.result c.expanded.ensures.accepted

pub returns-in-Some-clause-stopped : goal.returns-in-Some-clause-stopped
returns-in-Some-clause-stopped g c =
    expanded_stopped (g.F.Files.surroundings c.args.files.now)
    (settings_view c.args.settings.now) _ _ _ _ (expansion_view c.in-Some.expansion) (ap (option_map expansion_view) c.in-Some.is) _ _ c.expanded.result
    c.expanded.ensures.stopped

pub returns-in_err-texts-in-None-clause-stopped : goal.returns-in_err-texts-in-None-clause-stopped
returns-in_err-texts-in-None-clause-stopped g c =
    plain_stopped (g.F.Files.surroundings c.args.files.now)
    (settings_view c.args.settings.now) _ _ _ _ (ap (option_map expansion_view) c.in-None.is) _ _ c.from_residual.result
    (memory_err _ _ c.from_residual.ensures (λ stop status. (
      no_texts c.args.settings.now.language,
      [],
      below_none (g.F.Files.surroundings c.args.files.now).content c.args.settings.now.root.now c.args.settings.now.language
          (no_texts c.args.settings.now.language) refl refl,
      for_memory
          status refl,
      none,
      (λ three. absurd (omega arith)),
    )))

pub returns-in_ok-texts-in-None-clause-accepted : goal.returns-in_ok-texts-in-None-clause-accepted
returns-in_ok-texts-in-None-clause-accepted g c =
    let texts = c.in_ok-texts-in-None.field-0.texts in
    plain_accepted (g.F.Files.surroundings c.args.files.now)
    (settings_view c.args.settings.now) _ _ _ _ (ap (option_map expansion_view) c.in-None.is)
    (λ t job. IsJobTree _ g.L.KeptLines.are_of t c.args.settings.now.tree.now job) c.settled_texts.result
    (if_ok_map c.settled_texts.result _ _ (λ job accepted. (texts, c.in_ok-texts-in-None.ensures.below, accepted (plain_texts texts) refl refl))
    c.settled_texts.ensures.accepted)
    c.settled_texts.ensures.unreported

pub returns-in_ok-texts-in-None-clause-stopped : goal.returns-in_ok-texts-in-None-clause-stopped
returns-in_ok-texts-in-None-clause-stopped g c =
    let texts = c.in_ok-texts-in-None.field-0.texts in
    let first = c.args.settings.now.tree.now in
    plain_stopped (g.F.Files.surroundings c.args.files.now)
    (settings_view c.args.settings.now) _ _ _ _ (ap (option_map expansion_view) c.in-None.is) _ _ c.settled_texts.result
    (if_err_map c.settled_texts.result _ _ (λ stop both. let stopped = both.0 in (
      texts,
      stopped.0,
      c.in_ok-texts-in-None.ensures.below,
      stopped.1,
      stopped.2,
      (λ three. misses_only g.L.KeptLines.are_of (g.F.Files.surroundings c.args.files.now).content c.args.settings.now.root.now first texts _ _ c.in_ok-texts-in-None.field-0.read
          c.in_ok-texts-in-None.ensures.read (both.1 three) c.in_ok-texts-in-None.ensures.missing),
    )) (both_err c.settled_texts.result _ _ c.settled_texts.ensures.stopped c.settled_texts.ensures.remembered))

pub returns-in_err-texts-in-None-clause-failed : goal.returns-in_err-texts-in-None-clause-failed
returns-in_err-texts-in-None-clause-failed g c = memory_err _ _ c.from_residual.ensures (λ stop status. λ five. absurd (omega arith))

pub returns-in_ok-texts-in-None-clause-failed : goal.returns-in_ok-texts-in-None-clause-failed
returns-in_ok-texts-in-None-clause-failed g c =
    if_err_map c.settled_texts.result _ _ (λ stop stopped. λ five. absurd (texts_unfailed _ _ _ _ _ stopped.1 five)) c.settled_texts.ensures.stopped
