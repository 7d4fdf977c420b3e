use Rattle.kc_checks.proofs.Common.{◌≡◌, [], Some, drop, paths_in, with_absent, with_all}
use Rattle.kc_checks.proofs.missing_files.absent_paths.Given as goal

abbrev pub invariant-loop-group : goal.invariant-loop-group
invariant-loop-group l =
    with_all l.texts l.listing.texts.items (paths_in l.paths) (drop l.group-index l.group-items)
    ≡ with_all l.texts l.listing.texts.items (with_absent l.texts [] (Some l.root)) l.group-items
