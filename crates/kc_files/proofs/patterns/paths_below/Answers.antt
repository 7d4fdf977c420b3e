use Rattle.kc_files.proofs.Common.{◌≡◌, List, ℕ, ap, ◌∙◌, sym, subst, map, ◌++◌, ◌∷◌, [], Vec, Err, Global, returns, returned, found, paths_in_folders, paths_below, path_pieces, items_of, texts_of, Comes, known_of, found_of, slashed, Finds}
use Rattle.kc_files.proofs.StoreLemmas.{stays_twice, grows_twice}
use Rattle.kc_files.proofs.ProgramLemmas.{same_twice, same_later}
use Rattle.kc_files.proofs.PatternLemmas.{slashed_found, stops_then, stops_as, below_step, below_stops, below_last, stops_same, finds_same}
use Rattle.kc_files.proofs.patterns.paths_below.Goals as goal

pub returns-in_err-matched-clause-finds : goal.returns-in_err-matched-clause-finds
returns-in_err-matched-clause-finds g c = λ at.
    let old = known_of c.loop-cut.store in
    let new = known_of c.paths_in_folders.new.store in
    let rest = c.loop-cut.rest.now in
    let piece = c.in-Some.cut.piece.now in
    let listed = c.loop-cut.found.listed in
    let folders = texts_of c.loop-cut.found.paths in
    let stop = c.in_err-matched.field-0.0 in
    let whole = paths_below at (path_pieces c.args.pattern.now) (texts_of c.args.found.paths) c.args.found.listed in
    let here = paths_below at (path_pieces rest) folders listed in
    let h = subst (λ (vs : List (Vec ℕ Global)). Finds new at (paths_in_folders at piece (items_of vs) listed) (Err stop))
    c.deref.ensures.value (c.in_err-matched.ensures.finds at) in
    stops_as new at whole stop _ c.from_residual.ensures.1
    (stops_same at new whole here stop (same_later (g.F.TreeFiles.contents c.loop-cut.files) (g.F.TreeFiles.contents c.paths_in_folders.new.files) old new
    c.paths_in_folders.ensures.grows whole here (c.loop-cut.invariant.rest at))
    (below_stops at new rest piece c.in-Some.cut.tail.now folders listed stop c.in-Some.ensures.some.pieces
    (stops_then at new (paths_in_folders at piece folders listed) (λ f. returns (found (map (λ path. path ++ 47 ∷ []) f.paths) f.listed)) stop h)))

pub loop-cut-preserved : goal.loop-cut-preserved
loop-cut-preserved g c =
    let old = known_of c.loop-cut.store in
    let new = known_of c.paths_in_folders.new.store in
    record {
      same = stays_twice _ _ _ c.loop-cut.invariant.same c.paths_in_folders.ensures.same;
      grows = grows_twice _ _ _ (known_of c.args.store.now) old new c.loop-cut.invariant.grows c.paths_in_folders.ensures.grows;
      rest = λ at.
          let rest = c.loop-cut.rest.now in
          let piece = c.in-Some.cut.piece.now in
          let tail = c.in-Some.cut.tail.now in
          let listed = c.loop-cut.found.listed in
          let folders = texts_of c.loop-cut.found.paths in
          let matched = c.in_ok-matched.matched in
          let whole = paths_below at (path_pieces c.args.pattern.now) (texts_of c.args.found.paths) c.args.found.listed in
          let here = paths_below at (path_pieces rest) folders listed in
          let after = found (texts_of c.in_ok-each_joined.field-0) matched.listed in
          let p = paths_in_folders at piece folders listed in
          let h : Comes new p (returned (found_of matched)) = subst (λ (vs : List (Vec ℕ Global)). Comes new (paths_in_folders at piece (items_of vs) listed)
          (returned (found_of matched))) c.deref.ensures.value (c.in_ok-matched.ensures.finds at) in
          let e : texts_of c.in_ok-each_joined.field-0 ≡ map (λ path. path ++ 47 ∷ []) (texts_of matched.paths) = c.in_ok-each_joined.ensures
          ∙ ap (λ (vs : List (Vec ℕ Global)). map (λ path. path ++ 47 ∷ []) (items_of vs)) c.deref-in-Some.ensures.value in
          let s : Comes new (slashed p) (returned after) = subst (λ ps. Comes new (slashed p) (returned (found ps matched.listed))) (sym e)
          (slashed_found at new p (found_of matched) h) in
          same_twice new whole here (paths_below at (path_pieces tail) after.paths after.listed)
          (same_later (g.F.TreeFiles.contents c.loop-cut.files) (g.F.TreeFiles.contents c.paths_in_folders.new.files) old new c.paths_in_folders.ensures.grows whole here (c.loop-cut.invariant.rest at))
          (below_step at new rest piece tail folders listed after c.in-Some.ensures.some.pieces s);
    }

pub returns-clause-finds : goal.returns-clause-finds
returns-clause-finds g c = λ at.
    let old = known_of c.loop-cut.store in
    let new = known_of c.paths_in_folders-2.new.store in
    let rest = c.loop-cut.rest.now in
    let listed = c.loop-cut.found.listed in
    let whole = paths_below at (path_pieces c.args.pattern.now) (texts_of c.args.found.paths) c.args.found.listed in
    let here = paths_below at (path_pieces rest) (texts_of c.loop-cut.found.paths) listed in
    let h = subst (λ (vs : List (Vec ℕ Global)). Finds new at (paths_in_folders at rest (items_of vs) listed) c.paths_in_folders-2.result) c.deref-2.ensures.value
    (c.paths_in_folders-2.ensures.finds at) in
    finds_same at new whole here c.paths_in_folders-2.result (same_later (g.F.TreeFiles.contents c.loop-cut.files) (g.F.TreeFiles.contents c.paths_in_folders-2.new.files) old new c.paths_in_folders-2.ensures.grows whole
    here (c.loop-cut.invariant.rest at))
    (below_last at new rest (texts_of c.loop-cut.found.paths) listed c.paths_in_folders-2.result c.in_default.ensures.none h)

pub returns-in_err-matched-clause-same : goal.returns-in_err-matched-clause-same
returns-in_err-matched-clause-same g c = stays_twice _ _ _ c.loop-cut.invariant.same c.paths_in_folders.ensures.same

pub returns-in_err-matched-clause-grows : goal.returns-in_err-matched-clause-grows
returns-in_err-matched-clause-grows g c = grows_twice _ _ _ _ _ _ c.loop-cut.invariant.grows c.paths_in_folders.ensures.grows

pub returns-in_err-each_joined-clause-same : goal.returns-in_err-each_joined-clause-same
returns-in_err-each_joined-clause-same g c = stays_twice _ _ _ c.loop-cut.invariant.same c.paths_in_folders.ensures.same

pub returns-in_err-each_joined-clause-grows : goal.returns-in_err-each_joined-clause-grows
returns-in_err-each_joined-clause-grows g c = grows_twice _ _ _ _ _ _ c.loop-cut.invariant.grows c.paths_in_folders.ensures.grows

pub returns-clause-same : goal.returns-clause-same
returns-clause-same g c = stays_twice _ _ _ c.loop-cut.invariant.same c.paths_in_folders-2.ensures.same

pub returns-clause-grows : goal.returns-clause-grows
returns-clause-grows g c = grows_twice _ _ _ _ _ _ c.loop-cut.invariant.grows c.paths_in_folders-2.ensures.grows
