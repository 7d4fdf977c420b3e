use Rattle.kc_files.proofs.Common.{◌≡◌, List, ℕ, ap, ◌∙◌, sym, subst, None, ◌++◌, ◌∷◌, [], arith, rules, common_steps, keyword_in_table, FileRead, KnownFiles, Grows, file_of, seen_as, known_of}
use Rattle.kc_files.specs.declared.file_bytes.FileRead.{FileRead as CodeFile}
use Rattle.kc_files.proofs.TableLemmas.{new_found, not_found_as, seen_more}
use Rattle.kc_files.proofs.StoreLemmas.{grows_later, file_more, shared_found}
use Rattle.kc_files.proofs.file_cache.FileCache.file.Goals as goal

pub returns-clause-grows : goal.returns-clause-grows
returns-clause-grows g c =
    let old = c.args.self.now in
    let path = c.args.path.now in
    let read = file_of c.in_ok-read.read in
    let e : seen_as file_of c.insert.new.self ≡ seen_as file_of old.files ++ (path, read) ∷ [] = ap (seen_as file_of) c.in_ok-insert.ensures.ok
    ∙ seen_more file_of old.files path c.in_ok-kept.kept ∙ ap (λ r. seen_as file_of old.files ++ (path, r) ∷ []) c.in_ok-kept.ensures in
    subst (λ (fs : List (List ℕ × FileRead)). let new : KnownFiles = record { files = fs; folders = (known_of old).folders } in
    Grows (g.F.TreeFiles.contents c.args.files.now) (g.F.TreeFiles.contents c.read_file.new.files) (known_of old) new) (sym e)
    (file_more _ _ (known_of old) path read c.in_ok-read.ensures.same c.in_ok-read.ensures.matched)

pub returns-clause-read : goal.returns-clause-read
returns-clause-read g c =
    let old = c.args.self.now in
    let path = c.args.path.now in
    let read = file_of c.in_ok-read.read in
    let e : seen_as file_of c.insert.new.self ≡ seen_as file_of old.files ++ (path, read) ∷ [] = ap (seen_as file_of) c.in_ok-insert.ensures.ok
    ∙ seen_more file_of old.files path c.in_ok-kept.kept ∙ ap (λ r. seen_as file_of old.files ++ (path, r) ∷ []) c.in_ok-kept.ensures in
    let absent : keyword_in_table old.files path ≡ None = first_of (search rules, grind (arith, common_steps)) in
    ap (λ t. keyword_in_table t path) e ∙ new_found (seen_as file_of old.files) path read (not_found_as file_of old.files path absent)

pub returns-clause-once : goal.returns-clause-once
returns-clause-once g c = λ h. absurd (h (not_found_as file_of c.args.self.now.files c.args.path.now (first_of (search rules, grind (arith, common_steps)))))

pub returns-in_err-read-clause-once : goal.returns-in_err-read-clause-once
returns-in_err-read-clause-once g c = λ h.
    absurd (h (not_found_as file_of c.args.self.now.files c.args.path.now (first_of (search rules, grind (arith, common_steps)))))

pub returns-in_err-kept-clause-once : goal.returns-in_err-kept-clause-once
returns-in_err-kept-clause-once g c = λ h.
    absurd (h (not_found_as file_of c.args.self.now.files c.args.path.now (first_of (search rules, grind (arith, common_steps)))))

pub returns-in_err-insert-clause-once : goal.returns-in_err-insert-clause-once
returns-in_err-insert-clause-once g c = λ h.
    absurd (h (not_found_as file_of c.args.self.now.files c.args.path.now (first_of (search rules, grind (arith, common_steps)))))

pub returns-in_err-read-clause-grows : goal.returns-in_err-read-clause-grows
returns-in_err-read-clause-grows g c = grows_later _ _ _ c.read_file.ensures.same

pub returns-in_err-kept-clause-grows : goal.returns-in_err-kept-clause-grows
returns-in_err-kept-clause-grows g c = grows_later _ _ _ c.read_file.ensures.same

pub returns-in_err-insert-clause-grows : goal.returns-in_err-insert-clause-grows
returns-in_err-insert-clause-grows g c =
    let old = c.args.self.now in
    let same : c.insert.new.self ≡ old.files = c.in_err-insert.ensures.err in
    subst (λ (fs : List (List ℕ × CodeFile)). let new : KnownFiles = record { files = seen_as file_of fs; folders = (known_of old).folders } in
    Grows (g.F.TreeFiles.contents c.args.files.now) (g.F.TreeFiles.contents c.read_file.new.files) (known_of old) new) (sym same)
    (grows_later _ _ (known_of old) c.read_file.ensures.same)

pub returns-in-Some-clause-read : goal.returns-in-Some-clause-read
returns-in-Some-clause-read g c = shared_found c.shared.result c.in-Some.read.now c.args.self.now.files c.args.path.now (sym c.in-Some.ensures) c.shared.ensures
