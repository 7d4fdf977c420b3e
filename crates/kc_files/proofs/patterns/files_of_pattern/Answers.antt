use Rattle.kc_files.proofs.Common.{◌≡◌, List, ℕ, sym, subst, ◌∷◌, [], Vec, Err, Global, returns, ◌>>=◌, returned, found, paths_below, path_pieces, paths_with_files, files_of_pattern, sorted, items_of, texts_of, Comes, known_of, found_of, Finds}
use Rattle.kc_files.proofs.StoreLemmas.{stays_twice, grows_twice}
use Rattle.kc_files.proofs.ProgramLemmas.{comes_later}
use Rattle.kc_files.proofs.PatternLemmas.{stops_then, stops_as, files_found}
use Rattle.kc_files.proofs.SortLemmas.{sorted_by_sort}
use Rattle.kc_files.proofs.patterns.files_of_pattern.Goals as goal

pub returns-in_err-found-clause-finds : goal.returns-in_err-found-clause-finds
returns-in_err-found-clause-finds g c = λ at.
    let known = known_of c.paths_below.new.store in
    let pattern = c.args.pattern.now in
    let stop = c.in_err-found.field-0.0 in
    let h = subst (λ ps. Finds known at (paths_below at (path_pieces pattern) ps c.args.listed) (Err stop)) c.in_ok-root_folder.ensures
    (c.in_err-found.ensures.finds at) in
    stops_as known at (files_of_pattern at pattern c.args.listed) stop _ c.from_residual-in_err-found.ensures.1
    (stops_then at known (paths_below at (path_pieces pattern) ([] ∷ []) c.args.listed)
    (λ f. paths_with_files f.paths >>= λ paths. returns (found (sorted paths) f.listed)) stop h)

pub returns-clause-finds : goal.returns-clause-finds
returns-clause-finds g c = λ at.
    let old = known_of c.paths_below.new.store in
    let new = known_of c.paths_with_files.new.store in
    let pattern = c.args.pattern.now in
    let found_paths = found_of c.in_ok-found.found in
    let readable = texts_of c.in_ok-paths.paths in
    let h = subst (λ ps. Comes old (paths_below at (path_pieces pattern) ps c.args.listed) (returned found_paths)) c.in_ok-root_folder.ensures
    (c.in_ok-found.ensures.finds at) in
    let in_order : texts_of c.sort.new.self ≡ sorted readable = sorted_by_sort c.in_ok-paths.paths.items c.sort.new.self.items c.in_ok-sort.ensures.permutation
    c.in_ok-sort.ensures.sorted in
    let reads = subst (λ (vs : List (Vec ℕ Global)). Comes new (paths_with_files (items_of vs)) (returned readable)) c.deref.ensures.value
    c.in_ok-paths.ensures.reads in
    subst (λ ps. Comes new (files_of_pattern at pattern c.args.listed) (returned (found ps c.in_ok-found.found.listed))) (sym in_order)
    (files_found new at pattern c.args.listed found_paths readable (comes_later (g.F.TreeFiles.contents c.paths_below.new.files) (g.F.TreeFiles.contents c.paths_with_files.new.files) old new
    c.in_ok-paths.ensures.grows (paths_below at (path_pieces pattern) ([] ∷ []) c.args.listed) (returned found_paths) h) reads)

pub returns-clause-same : goal.returns-clause-same
returns-clause-same g c = stays_twice _ _ _ c.paths_below.ensures.same c.paths_with_files.ensures.same

pub returns-clause-grows : goal.returns-clause-grows
returns-clause-grows g c = grows_twice _ _ _ _ _ _ c.paths_below.ensures.grows c.paths_with_files.ensures.grows

pub returns-in_err-paths-clause-same : goal.returns-in_err-paths-clause-same
returns-in_err-paths-clause-same g c = stays_twice _ _ _ c.paths_below.ensures.same c.paths_with_files.ensures.same

pub returns-in_err-paths-clause-grows : goal.returns-in_err-paths-clause-grows
returns-in_err-paths-clause-grows g c = grows_twice _ _ _ _ _ _ c.paths_below.ensures.grows c.paths_with_files.ensures.grows

pub returns-in_err-sort-clause-same : goal.returns-in_err-sort-clause-same
returns-in_err-sort-clause-same g c = stays_twice _ _ _ c.paths_below.ensures.same c.paths_with_files.ensures.same

pub returns-in_err-sort-clause-grows : goal.returns-in_err-sort-clause-grows
returns-in_err-sort-clause-grows g c = grows_twice _ _ _ _ _ _ c.paths_below.ensures.grows c.paths_with_files.ensures.grows
