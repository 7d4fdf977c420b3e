use Rattle.kc_files.proofs.Common.{◌≡◌, ap, ◌∙◌, sym, subst, ◌∷◌, drop, ◌+◌, List, ℕ, Vec, Ok, Err, Global, Program, returned, FoundPaths, found, paths_in_folder, paths_in_folders, items_of, Comes, HaveSameOutcome, known_of, found_of, FindsMore}
use Rattle.kc_files.proofs.StoreLemmas.{stays_same, stays_twice, grows_same, grows_twice}
use Rattle.kc_files.proofs.ProgramLemmas.{same_later}
use Rattle.kc_files.proofs.PatternLemmas.{rest_of_paths, from_first, all_stop, all_go_on, cut_items, by_pattern, names_found, stops_as}
use Rattle.kc_files.proofs.patterns.paths_in_folders.Goals as goal

pub loop-folder-init : goal.loop-folder-init
loop-folder-init g c = record {
  same = stays_same (g.F.TreeFiles.contents c.args.files.now);
  grows = grows_same (g.F.TreeFiles.contents c.args.files.now) (known_of c.args.store.now);
  rest = λ at. subst (λ (vs : List (Vec ℕ Global)). HaveSameOutcome (known_of c.args.store.now)
      (paths_in_folders at c.args.piece.now (items_of c.args.folders.now) c.args.listed)
      (rest_of_paths at c.args.piece.now (items_of c.args.folders.now) (found (items_of vs) c.args.listed)))
      (sym c.new.ensures.items) (from_first at c.args.piece.now (known_of c.args.store.now) (items_of c.args.folders.now) c.args.listed);
}

pub returns-then-not-is_pattern-clause-finds : goal.returns-then-not-is_pattern-clause-finds
returns-then-not-is_pattern-clause-finds g c = λ at.
    let known = known_of c.args.store.now in
    let piece = c.args.piece.now in
    let folders = items_of c.args.folders.now in
    subst (λ ps. Comes known (paths_in_folders at piece folders c.args.listed) (returned (found ps c.args.listed))) (sym c.in_ok-paths.ensures)
    (names_found at piece (sym c.is_pattern.ensures ∙ c.if-not-is_pattern.true) known folders c.args.listed)

pub returns-in_err-push_listed-clause-finds : goal.returns-in_err-push_listed-clause-finds
returns-in_err-push_listed-clause-finds g c = λ at.
    let i = c.loop-folder.folder-index in
    let vs = c.args.folders.now in
    let piece = c.args.piece.now in
    let old = known_of c.loop-folder.store in
    let new = known_of c.push_listed.new.store in
    let before = found_of c.loop-folder.found in
    let folder = c.deref.result.now in
    let rest = items_of (drop (i + 1) vs) in
    let whole = paths_in_folders at piece (items_of vs) c.args.listed in
    let cut : items_of (drop i vs) ≡ folder ∷ rest = cut_items vs i c.folder-item.result c.loop-folder-test.true c.folder-item.is
    ∙ ap (λ f. f ∷ rest) (sym c.deref.ensures.value) in
    let so_far : HaveSameOutcome old whole (rest_of_paths at piece (folder ∷ rest) before) =
    subst (λ fs. HaveSameOutcome old whole (rest_of_paths at piece fs before)) cut (c.loop-folder.invariant.rest at) in
    let after = found_of c.push_listed.new.found in
    let stop = c.in_err-push_listed.field-0.0 in
    let here : FindsMore {T = Unit {0}} new at (paths_in_folder at piece folder before.listed) before after (Err stop) =
    subst (λ (p : Program FoundPaths). FindsMore {T = Unit {0}} new at p before after (Err stop))
    (sym (by_pattern at piece folder before.listed (sym c.is_pattern.ensures ∙ c.if-not-is_pattern.false))) (c.in_err-push_listed.ensures.finds at) in
    stops_as new at whole stop _ c.from_residual-in_err-push_listed.ensures.1
    (all_stop at piece (Unit {0}) new whole folder rest before after stop
    (same_later (g.F.TreeFiles.contents c.loop-folder.files) (g.F.TreeFiles.contents c.push_listed.new.files) old new c.push_listed.ensures.grows whole
    (rest_of_paths at piece (folder ∷ rest) before) so_far) here)

pub loop-folder-preserved : goal.loop-folder-preserved
loop-folder-preserved g c = record {
  same = stays_twice _ _ _ c.loop-folder.invariant.same c.push_listed.ensures.same;
  grows = grows_twice _ _ _ (known_of c.args.store.now) (known_of c.loop-folder.store)
      (known_of c.push_listed.new.store) c.loop-folder.invariant.grows c.push_listed.ensures.grows;
  rest = λ at.
      let i = c.loop-folder.folder-index in
      let vs = c.args.folders.now in
      let piece = c.args.piece.now in
      let old = known_of c.loop-folder.store in
      let new = known_of c.push_listed.new.store in
      let before = found_of c.loop-folder.found in
      let folder = c.deref.result.now in
      let rest = items_of (drop (i + 1) vs) in
      let whole = paths_in_folders at piece (items_of vs) c.args.listed in
      let cut : items_of (drop i vs) ≡ folder ∷ rest = cut_items vs i c.folder-item.result c.loop-folder-test.true c.folder-item.is
      ∙ ap (λ f. f ∷ rest) (sym c.deref.ensures.value) in
      let so_far : HaveSameOutcome old whole (rest_of_paths at piece (folder ∷ rest) before) =
      subst (λ fs. HaveSameOutcome old whole (rest_of_paths at piece fs before)) cut (c.loop-folder.invariant.rest at) in
      let after = found_of c.push_listed.new.found in
      let x = c.in_ok-push_listed.field-0 in
      let here : FindsMore {T = Unit {0}} new at (paths_in_folder at piece folder before.listed) before after (Ok x) =
      subst (λ (p : Program FoundPaths). FindsMore {T = Unit {0}} new at p before after (Ok x))
      (sym (by_pattern at piece folder before.listed (sym c.is_pattern.ensures ∙ c.if-not-is_pattern.false))) (c.in_ok-push_listed.ensures.finds at) in
      all_go_on at piece (Unit {0}) (g.F.TreeFiles.contents c.loop-folder.files) (g.F.TreeFiles.contents c.push_listed.new.files) old new c.push_listed.ensures.grows whole folder rest before
      after x so_far here;
}

pub returns-in_err-push_listed-clause-same : goal.returns-in_err-push_listed-clause-same
returns-in_err-push_listed-clause-same g c = stays_twice _ _ _ c.loop-folder.invariant.same c.push_listed.ensures.same

pub returns-in_err-push_listed-clause-grows : goal.returns-in_err-push_listed-clause-grows
returns-in_err-push_listed-clause-grows g c = grows_twice _ _ _ _ _ _ c.loop-folder.invariant.grows c.push_listed.ensures.grows
