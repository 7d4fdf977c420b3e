-- A world that has what was read of a tree, and the rest as it is known.
use Rattle.kc_expansion.proofs.Common.{◌≡◌, ℕ, suc, ◌<◌, List, [], ◌∷◌, ◌++◌, length, reverse, Bool, true, false, cond, ◌||◌, Option, Some, None, refl, sym, ap, ◌∙◌, subst, inl, inr, append_assoc, arith, bytes_eq, replicate, append-nil, reverse-append, bytes_eq-Decides, keyword_in_table, is_in_list}
use Rattle.kc_expansion.proofs.Common.{without_repeats, RecordedAnswers, MAX_TREE_BYTES, World, with_questions, HasAnswers, FileContent, FolderContent, TreeContents, IsContentRead, IsFolderRead, HasRisen, IsWorldOf, IsWholeWorldOf, FileRead, missing, unreadable, whole, too_long, KnownFiles}
use Rattle.kc_expansion.proofs.Common.{AreBytes, Agrees, AreAsKnown}
use Rattle.std.proofs.lemmas.List.{length-replicate}
use Rattle.kc_value.specs.FileContents.{unknown, absent, known}
use Rattle.kc_value.specs.declared.limits.TheConstants.{MAX_LISTED_NAMES}
use Rattle.kc_files.specs.TreeContents.{IsContent, IsFolder}
use Rattle.kc_files.specs.between.KnownFiles.{FolderRead, names, too_many, unlisted, IsUnreadable, AreNames, MatchFile, MatchFolder}
use Rattle.kc_expansion.proofs.SourceFaultLemmas.{any_both, or_turned}

-- a list that is longer than this
longer : {A : Type 0} (x : A) (n : ℕ) → (xs : List A) × (n < length xs)
longer x n = (replicate (suc n) x, let e = length-replicate (suc n) x in omega (arith, e))

-- bytes that the file of a path may have in a world, given its known content and, if it was read, the result of reading it; none
-- for a missing file and for one that can't be read
pub bytes_of : FileContent → Option FileRead → Option (List ℕ)
bytes_of content (Some missing) = None
bytes_of content (Some unreadable) = None
bytes_of content (Some (whole bytes)) = Some bytes
bytes_of (known all) (Some too_long) = Some all
bytes_of absent (Some too_long) = None
bytes_of unknown (Some too_long) = Some (longer 0 MAX_TREE_BYTES).0
bytes_of (known all) None = Some all
bytes_of absent None = None
bytes_of unknown None = None

-- whether the file of a path is there and can't be read, by the result of reading it, if it was read
pub unread_of : Option FileRead → Bool
unread_of (Some unreadable) = true
unread_of x = false

pub names_of : FolderContent → Option FolderRead → Option (List (List ℕ))
names_of content (Some (names read)) = Some read
names_of content (Some unlisted) = None
names_of (Some all) (Some too_many) = Some all
names_of None (Some too_many) = Some (longer {A = List ℕ} [] MAX_LISTED_NAMES).0
names_of (Some all) None = Some all
names_of None None = Some []

bytes_agree : (content : FileContent) (a b : ℕ) (read : FileRead) → MatchFile content a b read → AreBytes read (bytes_of content (Some read))
unfolding bytes_of
bytes_agree (known all) a b too_long m = (all, refl, m)
bytes_agree absent a b too_long m = absurd (let z : ⊥ = cc in z)
bytes_agree unknown a b too_long m = ((longer 0 MAX_TREE_BYTES).0, refl, (longer 0 MAX_TREE_BYTES).1)
bytes_agree content a b x m = refl

unread_agrees : (read : FileRead) → IsUnreadable read (unread_of (Some read))
unfolding unread_of
unread_agrees missing = refl
unread_agrees unreadable = refl
unread_agrees read = tt

bytes_allowed : (content : FileContent) (a b : ℕ) (read : Option FileRead) → ((r : FileRead) → read ≡ Some r → MatchFile content a b r)
    → IsContentRead content (bytes_of content read) (unread_of read)
unfolding bytes_of unread_of
bytes_allowed unknown a b read m = tt
bytes_allowed absent a b None m = (refl, refl)
bytes_allowed absent a b (Some missing) m = (refl, refl)
bytes_allowed absent a b (Some unreadable) m = absurd (let e : unreadable ≡ missing = m unreadable refl in let z : ⊥ = cc in z)
bytes_allowed absent a b (Some (whole bytes)) m = absurd (let e : whole bytes ≡ missing = m (whole bytes) refl in let z : ⊥ = cc in z)
bytes_allowed absent a b (Some too_long) m = (refl, refl)
bytes_allowed (known all) a b None m = inl refl
bytes_allowed (known all) a b (Some missing) m = absurd (m missing refl)
bytes_allowed (known all) a b (Some unreadable) m = inr (refl, refl)
bytes_allowed (known all) a b (Some (whole bytes)) m = inl (ap Some (m (whole bytes) refl))
bytes_allowed (known all) a b (Some too_long) m = inl refl

names_agree : (content : FolderContent) (a b : ℕ) (read : FolderRead) → MatchFolder content a b read → AreNames read (names_of content (Some read))
unfolding names_of
names_agree content a b (names ns) m = refl
names_agree content a b unlisted m = refl
names_agree (Some all) a b too_many m = (all, refl, m)
names_agree None a b too_many m = ((longer {A = List ℕ} [] MAX_LISTED_NAMES).0, refl, (longer {A = List ℕ} [] MAX_LISTED_NAMES).1)

names_allowed : (content : FolderContent) (a b : ℕ) (read : Option FolderRead) → ((r : FolderRead) → read ≡ Some r → MatchFolder content a b r)
    → IsFolderRead content (names_of content read)
unfolding names_of
names_allowed None a b read m = tt
names_allowed (Some all) a b None m = inl refl
names_allowed (Some all) a b (Some (names ns)) m = inl (ap Some (m (names ns) refl))
names_allowed (Some all) a b (Some too_many) m = inl refl
names_allowed (Some all) a b (Some unlisted) m = inr refl

-- where the count of failures didn't rise, each known file has its bytes, and each known folder its names
bytes_whole : (content : FileContent) (a b : ℕ) (read : Option FileRead) → (HasRisen a b → ⊥) → ((r : FileRead) → read ≡ Some r → MatchFile content a b r)
    → IsContent content (bytes_of content read) (unread_of read)
unfolding bytes_of unread_of
bytes_whole unknown a b read n m = tt
bytes_whole absent a b None n m = (refl, refl)
bytes_whole absent a b (Some missing) n m = (refl, refl)
bytes_whole absent a b (Some unreadable) n m = absurd (let e : unreadable ≡ missing = m unreadable refl in let z : ⊥ = cc in z)
bytes_whole absent a b (Some (whole bytes)) n m = absurd (let e : whole bytes ≡ missing = m (whole bytes) refl in let z : ⊥ = cc in z)
bytes_whole absent a b (Some too_long) n m = (refl, refl)
bytes_whole (known all) a b None n m = (refl, refl)
bytes_whole (known all) a b (Some missing) n m = absurd (m missing refl)
bytes_whole (known all) a b (Some unreadable) n m = absurd (n (m unreadable refl))
bytes_whole (known all) a b (Some (whole bytes)) n m = (ap Some (m (whole bytes) refl), refl)
bytes_whole (known all) a b (Some too_long) n m = (refl, refl)

names_whole : (content : FolderContent) (a b : ℕ) (read : Option FolderRead) → (HasRisen a b → ⊥)
    → ((r : FolderRead) → read ≡ Some r → MatchFolder content a b r) → IsFolder content (names_of content read)
unfolding names_of
names_whole None a b read n m = tt
names_whole (Some all) a b None n m = refl
names_whole (Some all) a b (Some (names ns)) n m = ap Some (m (names ns) refl)
names_whole (Some all) a b (Some too_many) n m = refl
names_whole (Some all) a b (Some unlisted) n m = absurd (n (m unlisted refl))

module _ (contents : TreeContents) (failed : ℕ) (store : KnownFiles) (answers : RecordedAnswers) (m : AreAsKnown contents failed store) where
  abbrev pub world_of : World
  world_of = record {
    answer = keyword_in_table answers;
    bytes = λ path. bytes_of (contents.file path) (keyword_in_table store.files path);
    unreadable = λ path. unread_of (keyword_in_table store.files path);
    names = λ folder. names_of (contents.folder folder) (keyword_in_table store.folders folder);
  }

  pub world_agrees : Agrees world_of store
  world_agrees = record {
    files = λ path read e. let f : AreBytes read (bytes_of (contents.file path) (Some read)) = bytes_agree (contents.file path) failed contents.failures read (m.files path read e) in
        subst (λ (o : Option FileRead). AreBytes read (bytes_of (contents.file path) o)) (sym e) f;
    there = λ path read e. let f : IsUnreadable read (unread_of (Some read)) = unread_agrees read in
        subst (λ (o : Option FileRead). IsUnreadable read (unread_of o)) (sym e) f;
    folders = λ folder read e. let f : AreNames read (names_of (contents.folder folder) (Some read)) =
        names_agree (contents.folder folder) failed contents.failures read (m.folders folder read e) in
        subst (λ (o : Option FolderRead). AreNames read (names_of (contents.folder folder) o)) (sym e) f;
  }

  pub world_allowed : IsWorldOf contents world_of
  world_allowed = record {
    files = λ path. bytes_allowed (contents.file path) failed contents.failures (keyword_in_table store.files path) (m.files path);
    folders = λ folder. names_allowed (contents.folder folder) failed contents.failures (keyword_in_table store.folders folder) (m.folders folder);
  }

  pub world_whole : (HasRisen failed contents.failures → ⊥) → IsWholeWorldOf contents world_of
  world_whole n = record {
    files = λ path. bytes_whole (contents.file path) failed contents.failures (keyword_in_table store.files path) n (m.files path);
    folders = λ folder. names_whole (contents.folder folder) failed contents.failures (keyword_in_table store.folders folder) n (m.folders folder);
  }

  pub world_answers : HasAnswers world_of answers
  world_answers = λ question. refl

-- questions in order of first sight are those without repeats
in_without : (x : List ℕ) (xs : List (List ℕ)) → is_in_list x (without_repeats xs) ≡ is_in_list x xs
in_without x [] = refl
in_without x (y ∷ ys) = by_test (is_in_list y ys) refl (in_without x ys)
  where
    repeated : (b : Bool) → bytes_eq y x ≡ b → is_in_list y ys ≡ true → is_in_list x ys ≡ (b || is_in_list x ys)
    repeated true e h = ap (λ z. is_in_list z ys) (sym ((bytes_eq-Decides y x).0 e)) ∙ h
    repeated false e h = refl

    by_test : (b : Bool) → is_in_list y ys ≡ b → is_in_list x (without_repeats ys) ≡ is_in_list x ys
        → is_in_list x (cond b (without_repeats ys) (without_repeats ys ++ y ∷ [])) ≡ (bytes_eq y x || is_in_list x ys)
    by_test true h ih = ih ∙ repeated (bytes_eq y x) refl h
    by_test false h ih = any_both x (without_repeats ys) (y ∷ [])
        ∙ or_turned (is_in_list x (without_repeats ys)) (bytes_eq y x) ∙ ap (λ b. bytes_eq y x || b) ih

questions_more : (qs r : List (List ℕ)) → with_questions (without_repeats r) qs ≡ without_repeats (reverse qs ++ r)
questions_more [] r = refl
questions_more (q ∷ qs) r =
    ap (λ seen. with_questions seen qs) (ap (λ b. cond b (without_repeats r) (without_repeats r ++ q ∷ [])) (in_without q r))
    ∙ questions_more qs (q ∷ r)
    ∙ ap without_repeats (sym (ap (λ t. t ++ r) (reverse-append (q ∷ []) qs) ∙ append_assoc (reverse qs) (q ∷ []) r))

pub first_sight : (qs : List (List ℕ)) → with_questions [] qs ≡ without_repeats (reverse qs)
first_sight qs = questions_more qs [] ∙ ap without_repeats (append-nil (reverse qs))
