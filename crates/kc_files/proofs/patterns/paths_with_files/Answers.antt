use Rattle.kc_files.proofs.Common.{◌≡◌, List, ℕ, ap, ◌∙◌, sym, subst, drop, ◌+◌, ◌∷◌, [], Vec, if◌then◌else◌, Global, has_file, paths_with_files, items_of, texts_of, HaveSameOutcome, file_of, known_of}
use Rattle.std.specs.Prelude.{◌++◌}
use Rattle.kc_files.proofs.StoreLemmas.{stays_same, stays_twice, grows_same, grows_twice, there_by}
use Rattle.kc_files.proofs.ProgramLemmas.{same_twice, same_later}
use Rattle.kc_files.proofs.PatternLemmas.{rest_with_files, with_files_first, with_files_more, cut_items}
use Rattle.kc_files.proofs.patterns.paths_with_files.Goals as goal

pub loop-path-init : goal.loop-path-init
loop-path-init g c = record {
  same = stays_same (g.F.TreeFiles.contents c.args.files.now);
  grows = grows_same (g.F.TreeFiles.contents c.args.files.now) (known_of c.args.store.now);
  rest = subst (λ (vs : List (Vec ℕ Global)). HaveSameOutcome (known_of c.args.store.now) (paths_with_files (items_of c.args.paths.now))
      (rest_with_files (items_of c.args.paths.now) (items_of vs)))
      (sym c.new-found.ensures.items) (with_files_first (known_of c.args.store.now) (items_of c.args.paths.now));
}

pub loop-path-preserved : goal.loop-path-preserved
loop-path-preserved g c =
    let i = c.loop-path.path-index in
    let vs = c.args.paths.now in
    let old = known_of c.loop-path.store in
    let new = known_of c.file.new.self in
    let before = texts_of c.loop-path.found in
    let path = c.path-item.result.items in
    let rest = items_of (drop (i + 1) vs) in
    let whole = paths_with_files (items_of vs) in
    let b = c.is_there.result in
    let so_far : HaveSameOutcome old whole (rest_with_files (path ∷ rest) before) =
    subst (λ ps. HaveSameOutcome old whole (rest_with_files ps before)) (cut_items vs i c.path-item.result c.loop-path-test.true c.path-item.is)
    c.loop-path.invariant.rest in
    let after : texts_of c.push_if.new.paths ≡ (if b then before ++ path ∷ [] else before) = c.in_ok-push_if.ensures
    ∙ ap (λ p. if b then before ++ p ∷ [] else before) c.deref-in-loop-path.ensures.value in
    record {
      same = stays_twice _ _ _ c.loop-path.invariant.same c.in_ok-read.ensures.same;
      grows = grows_twice _ _ _ (known_of c.args.store.now) old new c.loop-path.invariant.grows c.in_ok-read.ensures.grows;
      rest = same_twice new whole (rest_with_files (path ∷ rest) before) (rest_with_files rest (texts_of c.push_if.new.paths))
          (same_later (g.F.TreeFiles.contents c.loop-path.files) (g.F.TreeFiles.contents c.file.new.files) old new c.in_ok-read.ensures.grows whole (rest_with_files (path ∷ rest) before) so_far)
          (subst (λ ps. HaveSameOutcome new (rest_with_files (path ∷ rest) before) (rest_with_files rest ps)) (sym after)
          (with_files_more new path rest before b (λ w a. ap (λ p. has_file w p) (sym c.deref.ensures.value)
          ∙ there_by new c.deref.result.now (file_of c.in_ok-read.read) c.in_ok-read.ensures.read w a ∙ sym c.is_there.ensures)));
    }

pub returns-in_err-read-clause-same : goal.returns-in_err-read-clause-same
returns-in_err-read-clause-same g c = stays_twice _ _ _ c.loop-path.invariant.same c.file.ensures.same

pub returns-in_err-read-clause-grows : goal.returns-in_err-read-clause-grows
returns-in_err-read-clause-grows g c = grows_twice _ _ _ _ _ _ c.loop-path.invariant.grows c.file.ensures.grows

pub returns-in_err-push_if-clause-same : goal.returns-in_err-push_if-clause-same
returns-in_err-push_if-clause-same g c = stays_twice _ _ _ c.loop-path.invariant.same c.file.ensures.same

pub returns-in_err-push_if-clause-grows : goal.returns-in_err-push_if-clause-grows
returns-in_err-push_if-clause-grows g c = grows_twice _ _ _ _ _ _ c.loop-path.invariant.grows c.file.ensures.grows
