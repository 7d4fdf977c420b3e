-- The file of a path.
use Rattle.kc_parser.proofs.Common.{◌≡◌, ℕ, Bool, true, false, List, [], Option, Some, None, refl, ap, cond, is_some, bytes_in, SourceFiles}
use Rattle.kc_tree_model.specs.TreeFiles.{file_at}
use Rattle.kc_parser.specs.checker.StateViews.{file_source_of}

bytes_or : Option (List ℕ) → List ℕ
bytes_or None = []
bytes_or (Some x) = x

there_by : (b : Bool) (o : Option (List ℕ)) (bytes : List ℕ) → Some bytes ≡ o
    → (is_some (cond b (Some (elim o [ None ↦ [] | Some x ↦ x ])) o) ≡ true)
    × (bytes ≡ elim (cond b (Some (elim o [ None ↦ [] | Some x ↦ x ])) o) [ None ↦ [] | Some x ↦ x ])
unfolding bytes_or
there_by true None bytes e = cc
there_by false None bytes e = cc
there_by true (Some x) bytes e = (refl, ap bytes_or e)
there_by false (Some x) bytes e = (refl, ap bytes_or e)

empty_by : (b : Bool) (o : Option (List ℕ)) → o ≡ None → b ≡ true
    → (is_some (cond b (Some (elim o [ None ↦ [] | Some x ↦ x ])) o) ≡ true)
    × (◌≡◌ {A = List ℕ} [] (elim (cond b (Some (elim o [ None ↦ [] | Some x ↦ x ])) o) [ None ↦ [] | Some x ↦ x ]))
empty_by true None e a = (refl, refl)
empty_by true (Some x) e a = cc
empty_by false o e a = cc

absent_by : (b : Bool) (o : Option (List ℕ)) → o ≡ None → b ≡ false → is_some (cond b (Some (elim o [ None ↦ [] | Some x ↦ x ])) o) ≡ false
absent_by false None e a = refl
absent_by false (Some x) e a = cc
absent_by true o e a = cc

pub file_there : (f : SourceFiles) (path bytes : List ℕ) → Some bytes ≡ file_at f.texts.now path
    → (is_some ((file_source_of f).bytes path) ≡ true) × (bytes ≡ bytes_in (file_source_of f) path)
unfolding file_source_of
file_there f path bytes e = there_by f.absent_is_empty (file_at f.texts.now path) bytes e

pub file_empty : (f : SourceFiles) (path : List ℕ) → file_at f.texts.now path ≡ None → f.absent_is_empty ≡ true
    → (is_some ((file_source_of f).bytes path) ≡ true) × ([] ≡ bytes_in (file_source_of f) path)
unfolding file_source_of
file_empty f path e a = empty_by f.absent_is_empty (file_at f.texts.now path) e a

pub file_absent : (f : SourceFiles) (path : List ℕ) → file_at f.texts.now path ≡ None → f.absent_is_empty ≡ false
    → is_some ((file_source_of f).bytes path) ≡ false
unfolding file_source_of
file_absent f path e a = absent_by f.absent_is_empty (file_at f.texts.now path) e a
