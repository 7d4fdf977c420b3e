-- The reading of a tree in one world, compared with that in a world that may have more answers.
use Rattle.kc_macros_model.proofs.Common.{◌≡◌, ◌⊎◌, inl, inr, arith, ℕ, zero, suc, ◌+◌, ◌≤◌, Bool, true, false, ◌||◌, cond, List, [], ◌∷◌, ◌++◌, length, take, drop, map, Option, Some, None, refl, sym, ap, ◌∙◌, subst, not, nat_lt, filter, ◌==◌, list_any, ltb-false, is_in_list, PhysicalLine}
use Rattle.kc_macros_model.proofs.Common.{split_at_newlines, without_return, is_continued, joined_bytes, continuation_count, MacroKind, MissingFile, TooMany, SourceLoop, MAX_TEXT_BYTES, MAX_TREE_BYTES, MAX_OPEN_FILES, MAX_LISTED_NAMES, Place, Fault, Program, returns, fails, stops, ◌>>=◌, Value}
use Rattle.kc_macros_model.proofs.Common.{fault, line_tokens, Word, WrittenToken, written_as, LineContent, meant_line, SourceSort, LineForm, plain, bare_prompt, replaced_by, named_choice, sources, form_of, without_trivia, with_nth_token, line_bytes, is_help_line, is_undecided, with_replacement}
use Rattle.kc_macros_model.proofs.Common.{is_pattern, matches_name, path_pieces, sorted, files_of_pattern, ExpandedFile, ReadingState, initial_state, Progress, progress, WrittenLine, with_choice, with_listed, counted, stored_file, place, SourceTarget, one_file, file_list, sourced_path, SourceReader}
use Rattle.kc_macros_model.proofs.Common.{path_meant, list_name, pattern_read, path_read, source_followed, form_written, short_line, tokens_written, content_written, line_written, bytes_of_lines, lines_written, help_after, lines_read, source_fault, contents_read, sourced_read, source_read}
use Rattle.kc_macros_model.proofs.Common.{root_read, has_file}
use Rattle.std.specs.Str.{is_utf8}
use Rattle.kc_macros_model.specs.PathPatterns.{FoundPaths, found, matching_names, matching_listed, paths_in_folder, paths_in_folders, paths_below, paths_with_files}
use Rattle.kc_macros_model.specs.TreeExpansion.{list_read, tree_read}
use Rattle.kc_macros_model.specs.LinePlaces.{written_for}
use Rattle.kc_macros_model.proofs.CleanTexts.{IsClean, clean, clean_none, clean_cons, clean_append, text_clean, AreClean, no_texts, next_text}
use Rattle.kc_macros_model.proofs.CleanLines.{tokens_clean, AreCleanWritten}
use Rattle.kc_macros_model.proofs.CleanForms.{line_bytes_clean, nth_token_clean, replacement_clean, trivia_gone_clean, IsCleanForm, clean_prompt, clean_replacement, form_clean, meant_clean, list_name_clean, source_line_clean, both_clean, path_pieces_clean, matching_clean, sorted_clean, with_slashes, free_key_clean}
use Rattle.kc_macros_model.proofs.EnvironmentLines.{meant_clean_line}
use Rattle.kc_macros_model.proofs.LineCounts.{AreCleanLines, no_lines, next_line, split_clean, returns_clean, joined_lines_clean}
use Rattle.kc_macros_model.proofs.LinePlaces.{AreEnded, split_ended, rest_ended, sum_none, sum_next}
use Rattle.kc_macros_model.proofs.ProgramMatches.{Fits, NoLess, unknown, same, Comparison, Related, match_then_of, match_then, match_return, match_fault, match_failed, match_stop, match_stopped, match_found, match_file, match_folder, match_test, match_unless}
use Rattle.kc_macros_model.proofs.TextMatches.{BindingsNoLess, not_set, piece_fits, pieces_fit}
use Rattle.kc_macros_model.proofs.LineMatches.{LineNoLess, ContentNoLess, same_assignment, line_tokens as both_tokens, content_matches, variable_matches, with_variable_no_less}
use Rattle.kc_macros_model.proofs.FormMatches.{is_source, FormNoLess, no_source, same_source, SameEffect, same_effect, undecided_lack}
use Rattle.kc_macros_model.proofs.ReadingInvariants.{Invariant, room_for}

module _ (c : Comparison) where
  -- two searches for a path pattern found the same paths, within the limit
  record PathsNoLess (f g : FoundPaths) : Type 0 where
    paths : f.paths ≡ g.paths
    listed : f.listed ≤ MAX_LISTED_NAMES
    clean : c.newlines ≡ false → AreClean f.paths

  names_match : (at : Place) (piece folder : List ℕ) → Fits c.newlines folder → (n l : ℕ) (names : List (List ℕ))
      → Related c PathsNoLess (matching_names at piece folder n names) (matching_names at piece folder l names)
  names_match at piece folder f n l names = by_tests (nat_lt MAX_LISTED_NAMES (n + length names)) (nat_lt MAX_LISTED_NAMES (l + length names)) refl
    where
      ways : ℕ → Bool → Program FoundPaths
      ways x b = cond b (fault at TooMany []) (returns (found (map (λ name. folder ++ name) (filter (matches_name piece) names)) (x + length names)))

      by_tests : (x y : Bool) → nat_lt MAX_LISTED_NAMES (n + length names) ≡ x → Related c PathsNoLess (ways n x) (ways l y)
      by_tests true y e = match_failed
      by_tests false true e = match_fault
      by_tests false false e =
          match_return (record { paths = refl; listed = ltb-false MAX_LISTED_NAMES (n + length names) e; clean = λ e. matching_clean piece folder (f e) names })

  folder_matches : (at : Place) (piece folder : List ℕ) → Fits c.newlines piece → Fits c.newlines folder → (n l : ℕ) → n ≤ MAX_LISTED_NAMES
      → Related c PathsNoLess (paths_in_folder at piece folder n) (paths_in_folder at piece folder l)
  folder_matches at piece folder f g n l h =
      match_test (is_pattern piece) (match_folder (record { at = at; kind = MissingFile; text = [] }, refl) (by_names (c.first.names folder)))
      (match_return (record { paths = refl; listed = h; clean = λ e. next_text (clean_append folder piece (g e) (f e)) no_texts }))
    where
      by_names : (names : Option (List (List ℕ))) → Related c PathsNoLess (matching_listed at piece folder n names) (matching_listed at piece folder l names)
      by_names None = match_fault
      by_names (Some names) = names_match at piece folder g n l names

  folders_match : (at : Place) (piece : List ℕ) → Fits c.newlines piece → (folders : List (List ℕ)) → (c.newlines ≡ false → AreClean folders)
      → (n l : ℕ) → n ≤ MAX_LISTED_NAMES → Related c PathsNoLess (paths_in_folders at piece folders n) (paths_in_folders at piece folders l)
  folders_match at piece f [] g n l h = match_return (record { paths = refl; listed = h; clean = λ e. no_texts })
  folders_match at piece f (folder ∷ folders) g n l h =
      match_then (folder_matches at piece folder f (λ e. piece_fits (g e)) n l h)
      (λ x y r. match_then (folders_match at piece f folders (λ e. pieces_fit (g e)) x.listed y.listed r.listed) (λ u v s. match_return (record {
        paths = ap (λ z. z ++ u.paths) r.paths ∙ ap (λ z. y.paths ++ z) s.paths;
        listed = s.listed;
        clean = λ e. both_clean (r.clean e) (s.clean e);
      })))

  below_matches : (at : Place) (pieces : List (List ℕ)) → (c.newlines ≡ false → AreClean pieces) → (folders : List (List ℕ))
      → (c.newlines ≡ false → AreClean folders) → (n l : ℕ) → n ≤ MAX_LISTED_NAMES
      → Related c PathsNoLess (paths_below at pieces folders n) (paths_below at pieces folders l)
  below_matches at [] f folders g n l h = match_return (record { paths = refl; listed = h; clean = g })
  below_matches at (piece ∷ []) f folders g n l h = folders_match at piece (λ e. piece_fits (f e)) folders g n l h
  below_matches at (piece ∷ next ∷ pieces) f folders g n l h =
      match_then (folders_match at piece (λ e. piece_fits (f e)) folders g n l h)
      (λ x y r. subst (λ z. Related c PathsNoLess (paths_below at (next ∷ pieces) (map (λ path. path ++ 47 ∷ []) x.paths) x.listed)
      (paths_below at (next ∷ pieces) (map (λ path. path ++ 47 ∷ []) z) y.listed)) r.paths
      (below_matches at (next ∷ pieces) (λ e. pieces_fit (f e)) (map (λ path. path ++ 47 ∷ []) x.paths) (λ e. with_slashes
      (r.clean e)) x.listed y.listed r.listed))

  -- the same paths
  record SamePaths (xs ys : List (List ℕ)) : Type 0 where
    paths : xs ≡ ys
    clean : c.newlines ≡ false → AreClean xs

  with_files_match : (paths : List (List ℕ)) → (c.newlines ≡ false → AreClean paths) → Related c SamePaths (paths_with_files paths) (paths_with_files paths)
  with_files_match [] f = match_return (record { paths = refl; clean = f })
  with_files_match (path ∷ paths) f =
      match_found (match_then (with_files_match paths (λ e. pieces_fit (f e))) (λ x y r. match_return (record {
        paths = ap (λ z. cond (has_file c.first path) (path ∷ z) z) r.paths;
        clean = λ e. if_there (has_file c.first path) (piece_fits (f e)) (r.clean e);
      })))
    where
      if_there : {xs : List (List ℕ)} (b : Bool) → IsClean path → AreClean xs → AreClean (cond b (path ∷ xs) xs)
      if_there true h r = next_text h r
      if_there false h r = r

  pattern_matches : (at : Place) (pattern : List ℕ) → Fits c.newlines pattern → (n l : ℕ) → n ≤ MAX_LISTED_NAMES
      → Related c PathsNoLess (files_of_pattern at pattern n) (files_of_pattern at pattern l)
  pattern_matches at pattern f n l h =
      match_then (below_matches at (path_pieces pattern) (λ e. path_pieces_clean pattern (f e)) ([] ∷ []) (λ e. next_text clean_none no_texts) n l h)
      (λ x y r. match_then (subst (λ z. Related c SamePaths (paths_with_files x.paths) (paths_with_files z)) r.paths (with_files_match x.paths r.clean))
      (λ u v s. match_return (record { paths = ap sorted s.paths; listed = r.listed; clean = λ e. sorted_clean (s.clean e) })))

  -- what a line sources: a path, or a list of paths under the name of a line
  pub data Target : SourceTarget → Type 0 where
    a_file : {path : List ℕ} → Fits c.newlines path → Target (one_file path)
    a_list : {name : List ℕ} {paths : List (List ℕ)} → (c.newlines ≡ false → (from : Place) × (name ≡ list_name from) × IsClean from.file)
        → (c.newlines ≡ false → AreClean paths) → Target (file_list name paths)

  -- a form that sources nothing leaves the variables
  record LeavesVariables (ts : List WrittenToken) (f : LineForm) (s : ReadingState) (p : Program Progress) : Type 0 where
    result : Progress
    returned : p ≡ returns result
    same_variables : result.state.bindings ≡ s.bindings
    chooses : (result.state ≡ s) ⊎ ((name : List ℕ) × (result.state ≡ with_choice name s))
    clean : AreCleanWritten ts → IsCleanForm f → IsClean result.text

  prompt_fits : {s : List ℕ} → IsCleanForm (bare_prompt s) → IsClean s
  prompt_fits (clean_prompt h) = h

  replacement_fits : {s : List ℕ} → IsCleanForm (replaced_by s) → IsClean s
  replacement_fits (clean_replacement h) = h

  leaves : (reader : SourceReader) (at : Place) (ts : List WrittenToken) (f : LineForm) (s : ReadingState) → is_source f ≡ false
      → LeavesVariables ts f s (form_written reader at ts f s)
  leaves reader at ts plain s e =
      record { result = progress (line_bytes ts) s; returned = refl; same_variables = refl; chooses = inl refl; clean = λ r h. line_bytes_clean r }
  leaves reader at ts (bare_prompt text) s e = record {
    result = progress (line_bytes (with_nth_token 1 (written_as Word (34 ∷ (text ++ 34 ∷ [])) []) ts)) s;
    returned = refl;
    same_variables = refl;
    chooses = inl refl;
    clean = λ r h. line_bytes_clean (nth_token_clean 1 (written_as Word (34 ∷ (text ++ 34 ∷ [])) [])
        (record { bytes = clean_cons refl (clean_append text (34 ∷ []) (prompt_fits h) (clean refl)); meaning = text_clean clean_none }) r);
  }
  leaves reader at ts (replaced_by text) s e = record {
    result = progress (with_replacement text ts) s;
    returned = refl;
    same_variables = refl;
    chooses = inl refl;
    clean = λ r h. replacement_clean text (replacement_fits h) r;
  }
  leaves reader at ts (named_choice name) s e = by_test (is_in_list name s.choices)
    where
      unnamed : Progress
      unnamed = progress (line_bytes (with_nth_token 1 (written_as Word [] []) ts)) (with_choice name s)

      by_test : (b : Bool) → LeavesVariables ts (named_choice name) s (returns (cond b (progress (line_bytes ts) s) unnamed))
      by_test true =
          record { result = progress (line_bytes ts) s; returned = refl; same_variables = refl; chooses = inl refl; clean = λ r h. line_bytes_clean r }
      by_test false = record {
        result = unnamed;
        returned = refl;
        same_variables = refl;
        chooses = inr (name, refl);
        clean = λ r h. line_bytes_clean (nth_token_clean 1 (written_as Word [] []) (record { bytes = clean_none; meaning = text_clean clean_none }) r);
      }
  leaves reader at ts (sources sort v) s e = absurd (let z : ⊥ = cc in z)

  -- a file that can't be read is a fault of the line that sources it
  unread_source : (sub : SourceReader) (root : List ℕ) (open_files : List (List ℕ)) (at : Place) (path : List ℕ) (s : ReadingState)
      → (f : Fault) × (sourced_read sub root open_files at (one_file path) s None ≡ fails f)
  unread_source sub root open_files at path s = by_test (is_in_list path open_files)
    where
      by_test : (b : Bool) → (f : Fault) × ((elim (cond b (Some SourceLoop) (Some MissingFile)) as (λ z. Program Progress) [
        | Some kind ↦ fault at kind []
        | None ↦ contents_read sub at (one_file path) None s >>= λ p. returns (stored_file root path p)
      ]) ≡ fails f)
      by_test true = (record { at = at; kind = SourceLoop; text = [] }, refl)
      by_test false = (record { at = at; kind = MissingFile; text = [] }, refl)

module _ (c : Comparison) (root : List ℕ) (fit : Fits c.newlines root) (kept : Invariant c root) where
  -- texts and counts may differ, variables are related
  pub record StateNoLess (k : ℕ) (s t : ReadingState) : Type 0 where
    pub bindings : BindingsNoLess c.lacking c.newlines s.bindings t.bindings
    pub holds : kept.holds k s

  pub record ProgressNoLess (k : ℕ) (p q : Progress) : Type 0 where
    pub state : StateNoLess k p.state q.state
    pub text : Fits c.newlines p.text

  record WrittenNoLess (k : ℕ) (x y : WrittenLine) : Type 0 where
    help : y.begins_help ≡ x.begins_help
    state : StateNoLess k x.state y.state
    text : Fits c.newlines x.text

  -- the text of the lines of a file from the number `n` on
  pub record LinesNoLess (k : ℕ) (file : List ℕ) (n : ℕ) (ls : List PhysicalLine) (p q : Progress) : Type 0 where
    pub state : StateNoLess k p.state q.state
    pub text : kept.written file n ls p.text

  abbrev pub Follow : ℕ → SourceReader → Type 0
  Follow k sub = (at : Place) (what : SourceTarget) (s t : ReadingState) → Fits c.newlines at.file → Target c what → StateNoLess k s t
      → Related c (ProgressNoLess k) (sub at what s) (sub at what t)

  module _ (k depth : ℕ) (open_files : List (List ℕ)) (follow : Follow k (source_read depth root open_files)) where
    abbrev sub : SourceReader
    sub = source_read depth root open_files

    pattern_read_matches : (at : Place) (sort : SourceSort) (s t : ReadingState) → Fits c.newlines at.file → StateNoLess k s t → (f g : FoundPaths)
        → PathsNoLess c f g → Related c (ProgressNoLess k) (pattern_read sub at sort s f) (pattern_read sub at sort t g)
    pattern_read_matches at sort s t a r f g h =
        subst (λ z. Related c (ProgressNoLess k) (pattern_read sub at sort s f) (pattern_read sub at sort t (record { paths = z; listed = g.listed }))) h.paths
        (match_test (nat_lt 0 (length f.paths) || sort.optional)
        (follow at (file_list (list_name at) f.paths) (with_listed f.listed s) (with_listed g.listed t) a (a_list (λ e. (at, refl, a e)) h.clean)
        (record { bindings = r.bindings; holds = kept.lists k f.listed s h.listed r.holds })) match_fault)

    path_read_matches : (at : Place) (sort : SourceSort) (path : List ℕ) (s t : ReadingState) → Fits c.newlines at.file → Fits c.newlines path
        → StateNoLess k s t → Related c (ProgressNoLess k) (path_read sub at sort path s) (path_read sub at sort path t)
    path_read_matches at sort path s t a f r =
        match_test (is_pattern path) (match_then (pattern_matches c at path f s.listed t.listed (kept.listed k s r.holds))
        (pattern_read_matches at sort s t a r))
        (match_test sort.optional (match_then (with_files_match c (path ∷ []) (λ e. next_text (f e) no_texts))
        (λ x y h. subst (λ z. Related c (ProgressNoLess k) (sub at (file_list (list_name at) x) s) (sub at (file_list (list_name at) z) t)) h.paths
        (follow at (file_list (list_name at) x) s t a (a_list (λ e. (at, refl, a e)) h.clean) r)))
        (follow at (one_file path) s t a (a_file f) r))

    followed_matches : (at : Place) (ts us : List WrittenToken) (sort : SourceSort) {v u : Value} → NoLess c.lacking c.newlines v u → (s t : ReadingState)
        → Fits c.newlines at.file → (c.newlines ≡ false → AreCleanWritten ts) → StateNoLess k s t
        → Related c (ProgressNoLess k) (source_followed sub at ts sort v s) (source_followed sub at us sort u t)
    followed_matches at ts us sort (unknown l) s t a w r = match_stop l
    followed_matches at ts us sort (same {s = given} f) s t a w r =
        match_test (list_any (λ x. x == 91) (path_meant sort at.file given)) (match_return (record { state = r; text = λ e. line_bytes_clean (w e) }))
        (match_then (path_read_matches at sort (path_meant sort at.file given) s t a (λ e. meant_clean sort at.file given (a e) (f e)) r)
        (λ p q n. match_return (record { state = n.state; text = λ e. source_line_clean given p.text (w e) (n.text e) })))

    form_matches : (at : Place) (ts us : List WrittenToken) {f g : LineForm} → FormNoLess c.lacking c.newlines f g → (s t : ReadingState)
        → Fits c.newlines at.file → (c.newlines ≡ false → AreCleanWritten ts) → (c.newlines ≡ false → IsCleanForm f) → StateNoLess k s t
        → Related c (ProgressNoLess k) (form_written sub at ts f s) (form_written sub at us g t)
    form_matches at ts us (same_source sort n) s t a w l r = followed_matches at ts us sort n s t a w r
    form_matches at ts us (no_source {f = f} {g = g} e h) s t a w l r =
        let x = leaves c sub at ts f s e in
        let y = leaves c sub at us g t h in
        subst (λ p. Related c (ProgressNoLess k) p (form_written sub at us g t)) (sym x.returned)
        (subst (λ p. Related c (ProgressNoLess k) (returns x.result) p) (sym y.returned) (match_return (record {
          state = record {
            bindings = subst (λ z. BindingsNoLess c.lacking c.newlines z y.result.state.bindings) (sym x.same_variables)
                (subst (λ z. BindingsNoLess c.lacking c.newlines s.bindings z) (sym y.same_variables) r.bindings);
            holds = by_choice x.result x.chooses;
          };
          text = λ e. x.clean (w e) (l e);
        })))
      where
        by_choice : (p : Progress) → (p.state ≡ s) ⊎ ((name : List ℕ) × (p.state ≡ with_choice name s)) → kept.holds k p.state
        by_choice p (inl e) = subst (kept.holds k) (sym e) r.holds
        by_choice p (inr (name, e)) = subst (kept.holds k) (sym e) (kept.chooses k name s r.holds)

    -- lines whose tokens are related; where the first is undecided its reading ends
    tokens_match : (at : Place) (s t : ReadingState) {ts us : List WrittenToken} → Fits c.newlines at.file → StateNoLess k s t
        → LineNoLess c.lacking c.newlines ts us → (c.newlines ≡ false → AreCleanWritten ts)
        → Related c (WrittenNoLess k) (tokens_written sub at s ts (without_trivia ts)) (tokens_written sub at t us (without_trivia us))
    tokens_match at s t {ts = ts} {us = us} a r l w = by_tests (is_undecided (without_trivia ts)) (is_undecided (without_trivia us)) refl refl
      where
        way : ReadingState → List WrittenToken → Bool → Program WrittenLine
        way u xs b = elim b [
          | true ↦ stops
          | false ↦ form_written sub at xs (form_of (without_trivia xs)) u >>= short_line at (is_help_line (without_trivia xs))
        ]

        written : SameEffect c.lacking c.newlines (without_trivia ts) (without_trivia us) → Related c (WrittenNoLess k) (way s ts false) (way t us false)
        written e = match_then (form_matches at ts us e.form s t a w (λ e. form_clean (trivia_gone_clean (w e))) r)
            (λ p q n. match_unless _ _ (nat_lt MAX_TEXT_BYTES (length p.text)) (nat_lt MAX_TEXT_BYTES (length q.text))
            (match_return (record { help = e.help; state = n.state; text = n.text })))

        by_tests : (x y : Bool) → is_undecided (without_trivia ts) ≡ x → is_undecided (without_trivia us) ≡ y
            → Related c (WrittenNoLess k) (way s ts x) (way t us y)
        by_tests true y e h = let u = undecided_lack l in match_stop (u.0 e)
        by_tests false true e h = let u = undecided_lack l in match_stopped (u.1 h)
        by_tests false false e h = written (same_effect l e)

    content_written_matches : (at : Place) (continued : Bool) (s t : ReadingState) → Fits c.newlines at.file → StateNoLess k s t → {x y : LineContent}
        → ContentNoLess c.lacking c.newlines x y → Related c (WrittenNoLess k) (content_written sub at continued s x) (content_written sub at continued t y)
    content_written_matches at true s t a r (both_tokens l w) = tokens_match at s t a r l w
    content_written_matches at false s t a r (both_tokens l w) = tokens_match at s t a r l w
    content_written_matches at true s t a r (same_assignment f) = match_fault
    content_written_matches at false s t a r (same_assignment {name = name} {a = x} f) =
        match_then (variable_matches c at a s.bindings t.bindings r.bindings x.operator x.text f (r.bindings.each name)) (λ v u n. match_return (record {
          help = refl;
          state = record { bindings = with_variable_no_less name n r.bindings; holds = kept.binds k name v s r.holds };
          text = λ e. clean_none;
        }))

    line_matches : (at : Place) (continued : Bool) (text : List ℕ) (s t : ReadingState) → Fits c.newlines at.file → IsClean text → StateNoLess k s t
        → Related c (WrittenNoLess k) (line_written sub at continued text s) (line_written sub at continued text t)
    line_matches at continued text s t a f r =
        match_test (nat_lt MAX_TEXT_BYTES (length text) || not (is_utf8 text)) (match_return (record { help = refl; state = r; text = λ e. f }))
        (match_then (content_matches c at a s.bindings t.bindings r.bindings (line_tokens 0 (meant_line text))
        (λ e. tokens_clean 0 (meant_line text) (meant_clean_line text f))) (λ x y n. content_written_matches at continued s t a r n))

    pub lines_match : (file : List ℕ) → Fits c.newlines file → (skip n : ℕ) {ls : List PhysicalLine} (s t : ReadingState) → AreCleanLines ls → AreEnded ls
        → StateNoLess k s t → Related c (LinesNoLess k file (n + skip) (drop skip ls)) (lines_read sub file skip n ls s) (lines_read sub file skip n ls t)
    lines_match file f zero n s t no_lines d r = match_return (record { state = r; text = kept.no_lines file (n + 0) })
    lines_match file f (suc skip) n s t no_lines d r = match_return (record { state = r; text = kept.no_lines file (n + suc skip) })
    lines_match file f (suc skip) n s t (next_line {l = l} {ls = ls} h q) d r =
        subst (λ m. Related c (LinesNoLess k file m (drop skip ls)) (lines_read sub file skip (n + 1) ls s) (lines_read sub file skip (n + 1) ls t))
        (sum_next n skip)
        (lines_match file f skip (n + 1) s t q (rest_ended d) r)
    lines_match file f zero n s t (next_line {l = l} {ls = ls} h q) d r =
        let all = map without_return (l ∷ ls) in
        let more = continuation_count all in
        match_then_of (line_matches (place file n) (is_continued (without_return l)) (joined_bytes all) s t f (joined_lines_clean (returns_clean
        (next_line h q))) r)
        (λ x y e i. match_then (subst (λ b. Related c (LinesNoLess k file (n + 1 + (more + help_after x.begins_help (drop more ls)))
        (drop (more + help_after x.begins_help (drop more ls)) ls))
        (lines_read sub file (more + help_after x.begins_help (drop more ls)) (n + 1) ls x.state)
        (lines_read sub file (more + help_after b (drop more ls)) (n + 1) ls y.state)) (sym i.help)
        (lines_match file f (more + help_after x.begins_help (drop more ls)) (n + 1) x.state y.state q (rest_ended d) i.state))
        (λ u v m. match_return (record {
          state = m.state;
          text = subst (λ j. kept.written file j (l ∷ ls) (lines_written (l ∷ take more ls) (joined_bytes all) x.text
              ++ (bytes_of_lines (take (help_after x.begins_help (drop more ls)) (drop more ls)) ++ u.text))) (sum_none n)
              (kept.next_line file n l ls x u.text (next_line h q) d (written_for depth root open_files s e) i.text m.text);
        })))

    list_matches : (at : Place) (paths : List (List ℕ)) (s t : ReadingState) → Fits c.newlines at.file → (c.newlines ≡ false → AreClean paths)
        → StateNoLess k s t → Related c (λ p q. StateNoLess k p.state q.state) (list_read sub at paths s) (list_read sub at paths t)
    list_matches at [] s t a f r = match_return r
    list_matches at (path ∷ paths) s t a f r =
        match_then (follow at (one_file path) s t a (a_file (λ e. piece_fits (f e))) r)
        (λ p q n. match_then (list_matches at paths p.state q.state a (λ e. pieces_fit (f e)) n.state) (λ x y m. match_return m))

  -- a file or a list that is read, unless it is a fault
  sourced_matches : (k depth : ℕ) (opened open_files : List (List ℕ)) (at : Place) (what : SourceTarget) (s t : ReadingState) (bytes : List ℕ)
      → (source_fault open_files s (sourced_path what) (Some bytes) ≡ None
      → Related c (ProgressNoLess k) (contents_read (source_read depth root opened) at what (Some bytes) s >>= λ p. returns (stored_file root
      (sourced_path what) p))
      (contents_read (source_read depth root opened) at what (Some bytes) t >>= λ p. returns (stored_file root (sourced_path what) p)))
      → Related c (ProgressNoLess k) (sourced_read (source_read depth root opened) root open_files at what s (Some bytes))
      (sourced_read (source_read depth root opened) root open_files at what t (Some bytes))
  sourced_matches k depth opened open_files at what s t bytes h =
      by_faults (source_fault open_files s (sourced_path what) (Some bytes)) (source_fault open_files t (sourced_path what) (Some bytes)) refl
    where
      way : ReadingState → Option MacroKind → Program Progress
      way u x = elim x [
        | Some kind ↦ fault at kind []
        | None ↦ contents_read (source_read depth root opened) at what (Some bytes) u >>= λ p. returns (stored_file root (sourced_path what) p)
      ]

      by_faults : (x y : Option MacroKind) → source_fault open_files s (sourced_path what) (Some bytes) ≡ x → Related c (ProgressNoLess k) (way s x) (way t y)
      by_faults (Some kind) y e = match_failed
      by_faults None (Some kind) e = match_fault
      by_faults None None e = h e

  -- one more file
  counted_state : (k n : ℕ) (open_files : List (List ℕ)) (path bytes : List ℕ) (s t : ReadingState) → source_fault open_files s path (Some bytes) ≡ None
      → n ≤ length bytes → StateNoLess k s t → StateNoLess (suc k) (counted n s) (counted n t)
  counted_state k n open_files path bytes s t e h r =
      let room = room_for open_files s path bytes e in
      record { bindings = r.bindings; holds = kept.counts k n s room.0 (omega (arith, h, room.1)) r.holds }

  -- a key of a path or of a name
  stored_matches : (k : ℕ) (path : List ℕ) (p q : Progress) → Fits c.newlines path → BindingsNoLess c.lacking c.newlines p.state.bindings q.state.bindings
      → kept.holds k (stored_file root path p).state → ProgressNoLess k (stored_file root path p) (stored_file root path q)
  stored_matches k path p q f b h = record {
    state = record { bindings = b; holds = h };
    text = λ e. free_key_clean (suc (length p.state.expanded)) root p.state.expanded path p.text path 2 (f e) (f e);
  }

  module _ (k depth : ℕ) (opened open_files : List (List ℕ)) (follow : Follow (suc k) (source_read depth root opened)) where
    file_matches : (at : Place) (path : List ℕ) (s t : ReadingState) → Fits c.newlines path → StateNoLess k s t → (bytes : Option (List ℕ))
        → c.first.bytes path ≡ bytes
        → Related c (ProgressNoLess k) (sourced_read (source_read depth root opened) root open_files at (one_file path) s bytes)
        (sourced_read (source_read depth root opened) root open_files at (one_file path) t bytes)
    file_matches at path s t f r None e =
        let (g, u) = unread_source c (source_read depth root opened) root open_files at path s in
        subst (λ p. Related c (ProgressNoLess k) p (sourced_read (source_read depth root opened) root open_files at (one_file path) t None))
        (sym u) match_failed
    file_matches at path s t f r (Some bytes) e =
        sourced_matches k depth opened open_files at (one_file path) s t bytes
        (λ n. match_then (lines_match (suc k) depth opened follow path f 0 1 (counted (length bytes) s) (counted (length bytes) t) (split_clean bytes)
        (split_ended bytes) (counted_state k (length bytes) open_files path bytes s t n (omega arith) r))
        (λ p q m. match_return (stored_matches k path p q f m.state.bindings (kept.keeps_file k path bytes p e m.text m.state.holds))))

    list_of_files_matches : (at : Place) (name : List ℕ) (paths : List (List ℕ)) (s t : ReadingState) → Fits c.newlines at.file
        → (c.newlines ≡ false → (from : Place) × (name ≡ list_name from) × IsClean from.file) → (c.newlines ≡ false → AreClean paths) → StateNoLess k s t
        → Related c (ProgressNoLess k) (sourced_read (source_read depth root opened) root open_files at (file_list name paths) s (Some []))
        (sourced_read (source_read depth root opened) root open_files at (file_list name paths) t (Some []))
    list_of_files_matches at name paths s t a f g r =
        sourced_matches k depth opened open_files at (file_list name paths) s t []
        (λ n. match_then (list_matches (suc k) depth opened follow at paths (counted 0 s) (counted 0 t) a g
        (counted_state k 0 open_files name [] s t n (omega arith) r))
        (λ p q m. match_return (stored_matches k name p q (λ e. name_fits (f e)) m.bindings (kept.keeps_list k name p f m.holds))))
      where
        name_fits : (from : Place) × (name ≡ list_name from) × IsClean from.file → IsClean name
        name_fits (from, e, h) = subst (λ z. IsClean z) (sym e) (list_name_clean from h)

  pub source_matches : (depth k : ℕ) (open_files : List (List ℕ)) → Follow k (source_read depth root open_files)
  source_matches zero k open_files at what s t a w r = match_return (record { state = r; text = λ e. clean_none })
  source_matches (suc depth) k open_files at (one_file path) s t a (a_file f) r =
      match_file (unread_source c (source_read depth root (path ∷ open_files)) root open_files at path s)
      (file_matches k depth (path ∷ open_files) open_files (source_matches depth (suc k) (path ∷ open_files)) at path s t f r (c.first.bytes path) refl)
  source_matches (suc depth) k open_files at (file_list name paths) s t a (a_list f g) r =
      list_of_files_matches k depth (name ∷ open_files) open_files (source_matches depth (suc k) (name ∷ open_files)) at name paths s t a f g r

  pub first_lines_match : (n : ℕ) → n ≤ MAX_TREE_BYTES → (bytes : List ℕ) → let sub = source_read MAX_OPEN_FILES root (root ∷ []) in
      Related c (LinesNoLess 0 root 1 (split_at_newlines bytes)) (lines_read sub root 0 1 (split_at_newlines bytes) (counted n initial_state))
      (lines_read sub root 0 1 (split_at_newlines bytes) (counted n initial_state))
  first_lines_match n h bytes =
      lines_match 0 MAX_OPEN_FILES (root ∷ []) (source_matches MAX_OPEN_FILES 0 (root ∷ [])) root fit 0 1 (counted n initial_state) (counted n initial_state)
      (split_clean bytes) (split_ended bytes) (record { bindings = record { each = λ name. not_set }; holds = kept.begins n h })

  root_matches : (bytes : Option (List ℕ)) → c.first.bytes root ≡ bytes → Related c (λ x y. kept.whole x) (root_read root initial_state bytes)
      (root_read root initial_state bytes)
  root_matches None e = match_fault
  root_matches (Some bytes) e = by_test (nat_lt MAX_TREE_BYTES (length bytes)) refl
    where
      lines : Program Progress
      lines = lines_read (source_read MAX_OPEN_FILES root (root ∷ [])) root 0 1 (split_at_newlines bytes) (counted (length bytes) initial_state)

      way : Bool → Program (List ExpandedFile)
      way x = elim x [
        | true ↦ fault (place root 0) TooMany []
        | false ↦ lines >>= λ p. returns
            (p.state.expanded ++ record { key = root; path = root; text = p.text } ∷ [])
      ]

      by_test : (x : Bool) → nat_lt MAX_TREE_BYTES (length bytes) ≡ x → Related c (λ x y. kept.whole x) (way x) (way x)
      by_test true h = match_fault
      by_test false h = match_then (first_lines_match (length bytes) (ltb-false MAX_TREE_BYTES (length bytes) h) bytes)
          (λ p q m. match_return (kept.keeps_root bytes p e m.text m.state.holds))

  -- the readings of a tree are related
  pub tree_matches : Related c (λ x y. kept.whole x) (tree_read root) (tree_read root)
  unfolding tree_read
  tree_matches = match_file (record { at = place root 0; kind = MissingFile; text = [] }, refl) (root_matches (c.first.bytes root) refl)
