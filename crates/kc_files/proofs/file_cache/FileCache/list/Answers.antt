use Rattle.kc_files.proofs.Common.{◌≡◌, List, ℕ, ap, ◌∙◌, sym, subst, None, ◌++◌, ◌∷◌, [], keyword_in_table, FolderRead, KnownFiles, Grows, folder_of, seen_as, known_of}
use Rattle.std.specs.Prelude.{◌≢◌}
use Rattle.kc_files.specs.declared.folder_names.FolderRead.{FolderRead as CodeFolder}
use Rattle.kc_files.proofs.TableLemmas.{new_found, by_result, if_grown, seen_more, there_as, absent_as}
use Rattle.kc_files.proofs.StoreLemmas.{grows_later, folder_more}
use Rattle.kc_files.proofs.file_cache.FileCache.list.Goals as goal

pub returns-clause-grows : goal.returns-clause-grows
returns-clause-grows g c =
    let old = c.args.self.now in
    let folder = c.args.folder.now in
    let read = c.in_ok-read.read in
    let before = g.F.TreeFiles.contents c.args.files.now in
    let after = g.F.TreeFiles.contents c.list_folder.new.files in
    by_result c.insert.result (λ (fs : List (List ℕ × CodeFolder)). let new : KnownFiles = record { files = (known_of old).files; folders = seen_as folder_of fs } in
    Grows before after (known_of old) new)
    old.folders (old.folders ++ (folder, read) ∷ []) c.insert.new.self c.insert.ensures.ok c.insert.ensures.err
    (subst (λ (fs : List (List ℕ × FolderRead)). let new : KnownFiles = record { files = (known_of old).files; folders = fs } in
    Grows before after (known_of old) new) (sym (seen_more folder_of old.folders folder read))
    (folder_more before after (known_of old) folder (folder_of read) c.in_ok-read.ensures.same c.in_ok-read.ensures.matched))
    (grows_later before after (known_of old) c.in_ok-read.ensures.same)

pub returns-clause-listed : goal.returns-clause-listed
returns-clause-listed g c =
    let old = c.args.self.now in
    let folder = c.args.folder.now in
    let read = c.in_ok-read.read in
    let absent = absent_as folder_of c.get.result old.folders folder (sym c.is_some.ensures ∙ c.if-is_some.false) c.get.ensures in
    if_grown c.insert.result (λ (fs : List (List ℕ × CodeFolder)). keyword_in_table (seen_as folder_of fs) folder ≢ None)
    (old.folders ++ (folder, read) ∷ []) c.insert.new.self c.insert.ensures.ok
    (λ e. let f = ap (λ t. keyword_in_table t folder) (seen_more folder_of old.folders folder read)
    ∙ new_found (seen_as folder_of old.folders) folder (folder_of read) absent in
    let z : ⊥ = cc in z)

pub returns-clause-once : goal.returns-clause-once
returns-clause-once g c = λ h. absurd (h (absent_as folder_of c.get.result c.args.self.now.folders c.args.folder.now
    (sym c.is_some.ensures ∙ c.if-is_some.false) c.get.ensures))

pub returns-in_err-read-clause-once : goal.returns-in_err-read-clause-once
returns-in_err-read-clause-once g c = λ h. absurd (h (absent_as folder_of c.get.result c.args.self.now.folders c.args.folder.now
    (sym c.is_some.ensures ∙ c.if-is_some.false) c.get.ensures))

pub returns-in_err-read-clause-grows : goal.returns-in_err-read-clause-grows
returns-in_err-read-clause-grows g c = grows_later _ _ _ c.list_folder.ensures.same

pub returns-then-is_some-clause-listed : goal.returns-then-is_some-clause-listed
returns-then-is_some-clause-listed g c = there_as folder_of c.get.result c.args.self.now.folders c.args.folder.now
    (sym c.is_some.ensures ∙ c.if-is_some.true) c.get.ensures
