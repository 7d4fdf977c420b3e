use Rattle.std.proofs.Common.{drop}
use Rattle.kmin_inputs.proofs.Common.{◌≡◌, ◌++◌, ◌∷◌, ◌∙◌, [], ℕ, List, map, get_or, suc, refl, ap, take, rules, Bor, map-append, texts_of, Surroundings, for_memory, lines_append, if_err, memory_err, paths_next, paths_at}
use Rattle.std.specs.Global.{Vec}
use Rattle.kmin_report.specs.StandardError as taking
use Rattle.kmin_inputs.specs.WordFiles.{none}
use Rattle.kmin_inputs.proofs.ListReads.{read_next, stopped_next, untouched_next}
use Rattle.kmin_inputs.proofs.word_files.read_lists.Goals as goal

pub loop-path-init : goal.loop-path-init
loop-path-init g c = record {
  same = refl;
  unfailed = refl;
  input_unfailed = refl;
  untouched = λ unnamed. refl;
  read = rw c.new-all.ensures.items none;
  reported = taking.none;
}

pub loop-path-preserved : goal.loop-path-preserved
loop-path-preserved g c =
    let absent : Bor (List ℕ) = record { ref_ptr = (0, 0); now = [] } in
    let k = c.loop-path.path-index in
    let path = get_or c.args.paths.now k absent in
    let front = map (λ (path : Bor (List ℕ)). path.now) (take k c.args.paths.now) in
    let back = map (λ (path : Bor (List ℕ)). path.now) (drop (suc k) c.args.paths.now) in
    let paths = map (λ (path : Bor (List ℕ)). path.now) c.args.paths.now in
    let content = ap (λ (known : Surroundings). known.content) c.loop-path.invariant.same in
    let are : paths ≡ front ++ path.now ∷ back = paths_at c.args.paths.now k absent (search rules) in
    let next = paths_next c.args.paths.now k absent (search rules) in
    record {
      same = c.read_list.ensures.same ∙ c.loop-path.invariant.same;
      unfailed = c.in_ok-bytes.ensures.unfailed ∙ c.loop-path.invariant.unfailed;
      input_unfailed = c.in_ok-bytes.ensures.input_unfailed ∙ c.loop-path.invariant.input_unfailed;
      untouched =
          untouched_next (g.I.Source.left c.args.input.now) (g.I.Source.left c.loop-path.input) (g.I.Source.left c.read_list.new.input) front []
          _ path.now c.loop-path.invariant.untouched c.read_list.ensures.untouched next;
      read =
          read_next (g.F.Files.surroundings c.args.files.now).content (g.F.Files.surroundings c.loop-path.files).content content
          (g.I.Source.left c.args.input.now) (g.I.Source.left c.loop-path.input) front back paths (texts_of c.loop-path.all) path.now are c.requires
          c.loop-path.invariant.untouched c.loop-path.invariant.read c.in_ok-bytes.bytes.items _ _ next
          (ap (map (λ (file : Vec ℕ). file.items)) c.in_ok-push.ensures.items ∙ map-append (λ (file : Vec ℕ). file.items) c.loop-path.all.items (c.in_ok-bytes.bytes ∷ []))
          c.in_ok-bytes.ensures.read;
      reported = lines_append _ _ _ _ [] [] _ _ c.loop-path.invariant.reported c.in_ok-bytes.ensures.unreported;
    }

pub returns-in_err-bytes-clause-stopped : goal.returns-in_err-bytes-clause-stopped
returns-in_err-bytes-clause-stopped g c =
    let absent : Bor (List ℕ) = record { ref_ptr = (0, 0); now = [] } in
    let k = c.loop-path.path-index in
    let path = get_or c.args.paths.now k absent in
    let front = map (λ (path : Bor (List ℕ)). path.now) (take k c.args.paths.now) in
    let back = map (λ (path : Bor (List ℕ)). path.now) (drop (suc k) c.args.paths.now) in
    let paths = map (λ (path : Bor (List ℕ)). path.now) c.args.paths.now in
    let content = ap (λ (known : Surroundings). known.content) c.loop-path.invariant.same in
    let are : paths ≡ front ++ path.now ∷ back = paths_at c.args.paths.now k absent (search rules) in
    if_err c.from_residual.result c.in_err-bytes.field-0.0 _ (search rules)
    (stopped_next (g.F.Files.surroundings c.args.files.now).content (g.F.Files.surroundings c.loop-path.files).content content
    (g.I.Source.left c.args.input.now) (g.I.Source.left c.loop-path.input) front back paths (texts_of c.loop-path.all) path.now are c.requires
    c.loop-path.invariant.untouched c.loop-path.invariant.read _ _ _ _ _ _ _ c.loop-path.invariant.reported c.in_err-bytes.ensures.stopped)

pub returns-in_err-bytes-clause-untouched : goal.returns-in_err-bytes-clause-untouched
returns-in_err-bytes-clause-untouched g c =
    let absent : Bor (List ℕ) = record { ref_ptr = (0, 0); now = [] } in
    let k = c.loop-path.path-index in
    let path = get_or c.args.paths.now k absent in
    let front = map (λ (path : Bor (List ℕ)). path.now) (take k c.args.paths.now) in
    let back = map (λ (path : Bor (List ℕ)). path.now) (drop (suc k) c.args.paths.now) in
    let paths = map (λ (path : Bor (List ℕ)). path.now) c.args.paths.now in
    let are : paths ≡ front ++ path.now ∷ back = paths_at c.args.paths.now k absent (search rules) in
    untouched_next (g.I.Source.left c.args.input.now) (g.I.Source.left c.loop-path.input) (g.I.Source.left c.read_list.new.input) front back
    paths path.now c.loop-path.invariant.untouched c.read_list.ensures.untouched are

pub returns-in_err-push-clause-untouched : goal.returns-in_err-push-clause-untouched
returns-in_err-push-clause-untouched g c =
    let absent : Bor (List ℕ) = record { ref_ptr = (0, 0); now = [] } in
    let k = c.loop-path.path-index in
    let path = get_or c.args.paths.now k absent in
    let front = map (λ (path : Bor (List ℕ)). path.now) (take k c.args.paths.now) in
    let back = map (λ (path : Bor (List ℕ)). path.now) (drop (suc k) c.args.paths.now) in
    let paths = map (λ (path : Bor (List ℕ)). path.now) c.args.paths.now in
    let are : paths ≡ front ++ path.now ∷ back = paths_at c.args.paths.now k absent (search rules) in
    untouched_next (g.I.Source.left c.args.input.now) (g.I.Source.left c.loop-path.input) (g.I.Source.left c.read_list.new.input) front back
    paths path.now c.loop-path.invariant.untouched c.read_list.ensures.untouched are

pub returns-in_err-push-clause-stopped : goal.returns-in_err-push-clause-stopped
returns-in_err-push-clause-stopped g c =
    memory_err _ _ c.from_residual-in_err-push.ensures (λ stop status. (
      [],
      for_memory status refl,
      lines_append _ _ _ _ [] [] _ _ c.loop-path.invariant.reported c.in_ok-bytes.ensures.unreported,
    ))
