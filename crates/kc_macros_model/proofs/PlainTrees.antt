-- Trees of lines that have nothing to expand, assign or rewrite keep their bytes.
use Rattle.kc_macros_model.proofs.Common.{◌≡◌, ℕ, zero, suc, ◌+◌, ◌<◌, ◌≤◌, Bool, true, false, ◌&&◌, ◌||◌, cond, List, [], ◌∷◌, ◌++◌, length, take, drop, map, Option, Some, None, refl, sym, ap, ◌∙◌, subst, arith, not, nat_lt, nat_le, bytes_eq, codes, decimal, is_none, ◌==◌, All, list_all, list_any}
use Rattle.kc_macros_model.proofs.Common.{first_so, second_so, nat_list_eq_equiv, All-cons, All-nil, is_in_list, PhysicalLine, split_at_newlines, without_return, is_continued, joined_bytes, continuation_count, begins_help, MacroKind, MissingFile, SourceLoop, TooDeep, TooMany}
use Rattle.kc_macros_model.proofs.Common.{MAX_TEXT_BYTES, MAX_FILES, MAX_TREE_BYTES, MAX_OPEN_FILES, MAX_WORK, Place, Fault, Answer, read_file, Program, returns, fails, stops, does, ◌>>=◌, fault, line_tokens, Word, WrittenToken, written_as, line_content, environment_asked, meant_line, sources}
use Rattle.kc_macros_model.proofs.Common.{form_of, with_nth_token, line_bytes, quoted_text_token, is_help_line, is_pattern, files_of_pattern, ExpandedFile, ReadingState, initial_state, Progress, progress, WrittenLine, written_line, counted, has_key, is_taken, free_key, key_of, stored_file, place}
use Rattle.kc_macros_model.proofs.Common.{one_file, SourceReader, source_line, pattern_read, path_read, source_followed, short_line, content_written, line_written, bytes_of_lines, lines_written, help_after, lines_read, source_fault, contents_read, sourced_read, source_read, root_read, World}
use Rattle.kc_macros_model.proofs.Common.{returned, failed, Outcome, after_event, outcome, is_kept_token, is_assignment, tokens_as_they_are, is_plain_form, plain_path, is_one_of, is_copied, is_plain_line, is_before_help, logical_texts}
use Rattle.std.specs.Str.{is_utf8}
use Rattle.kc_macros_model.specs.TreeExpansion.{tree_read}
use Rattle.kc_macros_model.specs.Worlds.{expansion}
use Rattle.kc_macros_model.specs.PlainLines.{IsPlainTree, is_fault_of_sources, IsOwnFile, PlainTreesStay}
use Rattle.kc_tree_model.proofs.SourceFaults.{faultless}
use Rattle.kc_macros_model.specs.declared.source_kinds.TheConstants.{MACRO_KINDS}
use Rattle.kc_macros_model.proofs.EnvironmentLines.{meant_same}
use Rattle.kc_macros_model.proofs.CleanTexts.{neither_first}
use Rattle.kc_macros_model.proofs.Keys.{same_text}
use Rattle.kc_macros_model.proofs.LineCounts.{split_bytes}
use Rattle.kc_macros_model.proofs.PlainTokens.{not_so}
use Rattle.kc_macros_model.proofs.PlainLines.{own_tokens, own_bytes, line_by_form, short_stays, plain_line_stays, whole_lines, one_source, BeginsWithSource, source_word_stays, IsSource, source_of_path}

-- a program that reads files alone, returns a value with a fact, or fails by a fault of sourced files
abbrev OnlyReads : {A : Type 0} → World → (A → Type 0) → Program A → Type 0
OnlyReads w P (returns x) = P x
OnlyReads w P (fails f) = is_fault_of_sources f.kind ≡ true
OnlyReads w P stops = ⊥
OnlyReads w P (does (read_file path) k) = OnlyReads w P (k (w.bytes path))
OnlyReads w P x = ⊥

only_both : {A B : Type 0} (w : World) (Q : A → Type 0) (P : B → Type 0) (p : Program A) (f : A → Program B) → OnlyReads w Q p
    → ((x : A) → Q x → OnlyReads w P (f x)) → OnlyReads w P (p >>= f)
only_both w Q P (returns x) f h k = k x h
only_both w Q P (fails g) f h k = h
only_both w Q P stops f h k = absurd h
only_both w Q P (does (read_file path) n) f h k = only_both w Q P (n (w.bytes path)) f h k
only_both w Q P x f h k = absurd h

-- the outcome of a program that only reads files: no notices, no questions, and a value with the fact `P` or a fault of sourcing
-- files
record TellsNothing {A : Type 0} (P : A → Type 0) (o : Outcome A) : Type 0 where
  notices : o.notices ≡ []
  questions : o.questions ≡ []
  value : (x : A) → o.ending ≡ returned x → P x
  faults : (f : Fault) → o.ending ≡ failed f → is_fault_of_sources f.kind ≡ true

module _ {A : Type 0} (w : World) (P : A → Type 0) where
  returned_silently : (left : ℕ) (x : A) → P x → TellsNothing P (outcome true w left (returns x))
  returned_silently left x h = record {
    notices = refl;
    questions = refl;
    value = λ y e. let q : x ≡ y = cc in subst P q h;
    faults = λ f e. absurd (let z : ⊥ = cc in z);
  }

  failed_silently : (left : ℕ) (g : Fault) → is_fault_of_sources g.kind ≡ true → TellsNothing P (outcome true w left (fails g))
  failed_silently left g h = record {
    notices = refl;
    questions = refl;
    value = λ y e. absurd (let z : ⊥ = cc in z);
    faults = λ f e. let q : g ≡ f = cc in
        subst (λ (x : Fault). is_fault_of_sources x.kind ≡ true) q h;
  }

  silent_outcome : (left : ℕ) (p : Program A) → OnlyReads w P p → TellsNothing P (outcome true w left p)
  silent_outcome left (returns x) h = returned_silently left x h
  silent_outcome left (fails g) h = failed_silently left g h
  silent_outcome left stops h = absurd h
  silent_outcome left (does (read_file path) k) h =
      let q = silent_outcome left (k (w.bytes path)) h in record { notices = q.notices; questions = q.questions; value = q.value; faults = q.faults }
  silent_outcome left x h = absurd h

  -- the outcome of a program that only reads files is the same under any answers
  same_outcome : (answer : List ℕ → Option Answer) (left : ℕ) (p : Program A) → OnlyReads w P p → outcome true (record w { answer = answer }) left p
      ≡ outcome true w left p
  same_outcome answer left (returns x) h = refl
  same_outcome answer left (fails g) h = refl
  same_outcome answer left stops h = refl
  same_outcome answer left (does (read_file path) k) h = ap (after_event (read_file path)) (same_outcome answer left (k (w.bytes path)) h)
  same_outcome answer left x h = absurd h

-- faults of sources, and what holds where there is none
module _ (open_files : List (List ℕ)) (s : ReadingState) (path : List ℕ) where
  fault_kind : (bytes : List ℕ) (kind : MacroKind) → source_fault open_files s path (Some bytes) ≡ Some kind → is_fault_of_sources kind ≡ true
  fault_kind bytes kind e = by_tests (is_in_list path open_files) (nat_le MAX_OPEN_FILES (length open_files))
      (nat_le MAX_FILES s.files || nat_lt MAX_TREE_BYTES (s.bytes + length bytes)) e
    where
      by_tests : (a b c : Bool) → cond a (Some SourceLoop) (cond b (Some TooDeep) (cond c (Some TooMany) None)) ≡ Some kind → is_fault_of_sources kind ≡ true
      by_tests true b c e = let p : SourceLoop ≡ kind = cc in ap is_fault_of_sources (sym p)
      by_tests false true c e = let p : TooDeep ≡ kind = cc in ap is_fault_of_sources (sym p)
      by_tests false false true e = let p : TooMany ≡ kind = cc in ap is_fault_of_sources (sym p)
      by_tests false false false e = let z : ⊥ = cc in absurd z

  not_open : (bytes : List ℕ) → source_fault open_files s path (Some bytes) ≡ None → (is_in_list path open_files ≡ false) × (length open_files < MAX_OPEN_FILES)
  not_open bytes e =
      let f = faultless MACRO_KINDS (is_in_list path open_files) true (length open_files) s.files (s.bytes + length bytes) e in
      (f.closed, f.few_open)

module _ (w : World) where
  data AreOwnFiles : List ExpandedFile → Type 0 where
    no_files : AreOwnFiles []
    next_file : {f : ExpandedFile} {fs : List ExpandedFile} → IsOwnFile w f → AreOwnFiles fs → AreOwnFiles (f ∷ fs)

  one_more_own : (fs : List ExpandedFile) (f : ExpandedFile) → AreOwnFiles fs → IsOwnFile w f → AreOwnFiles (fs ++ f ∷ [])
  one_more_own [] f h k = next_file k no_files
  one_more_own (g ∷ fs) f (next_file h r) k = next_file h (one_more_own fs f r k)

  all_own : {fs : List ExpandedFile} → AreOwnFiles fs → All (IsOwnFile w) fs
  all_own no_files = All-nil (IsOwnFile w)
  all_own (next_file {f = f} {fs = fs} h r) = All-cons (IsOwnFile w) f fs h (all_own r)

  -- no file takes the path of another from it
  own_key_free : (path text : List ℕ) → w.bytes path ≡ Some text → {fs : List ExpandedFile} → AreOwnFiles fs
      → list_any (λ (f : ExpandedFile). bytes_eq f.key path && not (bytes_eq f.text text)) fs ≡ false
  own_key_free path text e no_files = refl
  own_key_free path text e (next_file {f = f} {fs = fs} h r) = by_test (own_key_free path text e r) (bytes_eq f.key path) refl
    where
      others : Bool
      others = list_any (λ (f : ExpandedFile). bytes_eq f.key path && not (bytes_eq f.text text)) fs

      by_test : others ≡ false → (b : Bool) → bytes_eq f.key path ≡ b → ((b && not (bytes_eq f.text text)) || others) ≡ false
      by_test ih false k = ih
      by_test ih true k =
          let same : f.path ≡ path = sym h.key ∙ same_text f.key path k in
          let own : Some f.text ≡ Some text = sym h.text ∙ ap w.bytes same ∙ e in
          let bytes : f.text ≡ text = cc in
          ap (λ x. not (bytes_eq x text) || others) bytes ∙ ap (λ b. not b || others) (nat_list_eq_equiv.refl text) ∙ ih

  module _ (paths : List ℕ → Bool) (root : List ℕ) (tree : IsPlainTree w paths root) where
    record IsOwnState (s : ReadingState) : Type 0 where
      files : AreOwnFiles s.expanded

    record IsOwnLine (own : List ℕ) (x : WrittenLine) : Type 0 where
      text : x.text ≡ own
      help : x.begins_help ≡ is_before_help own
      state : IsOwnState x.state

    -- a text, and a state with own files
    record IsOwnText (own : List ℕ) (p : Progress) : Type 0 where
      text : p.text ≡ own
      state : IsOwnState p.state

    abbrev ReadsOwn : SourceReader → Type 0
    ReadsOwn sub = (at : Place) (path : List ℕ) (s : ReadingState) → paths path ≡ true → IsOwnState s → OnlyReads w (IsOwnText path) (sub at (one_file path) s)

    module _ (sub : SourceReader) (reads : ReadsOwn sub) where
      source_own : (at : Place) (text path : List ℕ) (ts : List WrittenToken) (s : ReadingState) → line_bytes ts ≡ text → BeginsWithSource ts
          → is_pattern path ≡ false → list_any (λ c. c == 91) path ≡ false → paths path ≡ true → IsOwnState s
          → OnlyReads w (IsOwnText text) (source_followed sub at ts one_source (Some path) s)
      source_own at text path ts s b h no_pattern no_bracket p g =
          subst (λ c. OnlyReads w (IsOwnText text) (elim c as (λ z. Program Progress) [
            | true ↦ returns (progress (line_bytes ts) s)
            | false ↦ path_read sub at one_source path s >>= λ p. returns (progress (source_line ts path p.text) p.state)
          ])) (sym no_bracket)
          (subst (λ c. OnlyReads w (IsOwnText text) (elim c as (λ z. Program Progress)
          [ true ↦ files_of_pattern at path s.listed >>= pattern_read sub at one_source s | false ↦ sub at (one_file path) s ] >>= λ p. returns
          (progress (source_line ts path p.text) p.state))) (sym no_pattern)
          (only_both w (IsOwnText path) (IsOwnText text) (sub at (one_file path) s) (λ p. returns (progress (source_line ts path p.text) p.state))
          (reads at path s p g) (λ q k. record { text = written q.text k.text; state = k.state })))
        where
          first : List WrittenToken
          first = with_nth_token 0 (written_as Word (codes "source") []) ts

          written : (key : List ℕ) → key ≡ path → source_line ts path key ≡ text
          written key e =
              ap (λ x. source_line ts path x) e ∙ ap (λ c. line_bytes (cond c first (with_nth_token 1 (quoted_text_token path) first)))
              (nat_list_eq_equiv.refl path) ∙ source_word_stays h ∙ b

      plain_line_own : (at : Place) (continued : Bool) (text : List ℕ) (s : ReadingState) → list_all is_kept_token (line_tokens 0 text) ≡ true
          → is_assignment (line_tokens 0 text) ≡ false
          → (is_plain_form (form_of (tokens_as_they_are text)) || is_one_of paths (plain_path (tokens_as_they_are text))) ≡ true
          → nat_lt MAX_TEXT_BYTES (length text) ≡ false
          → is_before_help text ≡ is_help_line (tokens_as_they_are text) → IsOwnState s
          → OnlyReads w (IsOwnLine text) (line_content at s.bindings true (line_tokens 0 text) >>= content_written sub at continued s)
      plain_line_own at continued text s free no_name form short help g = by_form (is_plain_form (form_of real)) refl form
        where
          real : List WrittenToken
          real = tokens_as_they_are text

          line : Program WrittenLine
          line = line_content at s.bindings true (line_tokens 0 text) >>= content_written sub at continued s

          own_line : (x : Progress) → IsOwnText text x → OnlyReads w (IsOwnLine text) (short_line at (is_help_line real) x)
          own_line x k = subst (λ p. OnlyReads w (IsOwnLine text) p) (sym (short_stays at (is_help_line real) text x.text x.state k.text short))
              (record { text = refl; help = sym help; state = k.state })

          one_path : (path : List ℕ) → plain_path real ≡ Some path → (not (is_pattern path) && (not (list_any (λ c. c == 91) path) && paths path)) ≡ true
              → OnlyReads w (IsOwnLine text) line
          one_path path e h =
              let source : IsSource real path = source_of_path real path e in
              let rest = second_so (not (is_pattern path)) (not (list_any (λ c. c == 91) path) && paths path) h in
              let begins : BeginsWithSource (own_tokens text) = record {
                first = source.first;
                rest = source.rest;
                parts = source.parts;
                bytes = source.bytes;
              } in
              subst (λ p. OnlyReads w (IsOwnLine text) p) (sym (line_by_form sub at continued text s (sources one_source (Some path)) free no_name source.form))
              (only_both w (IsOwnText text) (IsOwnLine text) (source_followed sub at (own_tokens text) one_source (Some path) s)
              (short_line at (is_help_line real))
              (source_own at text path (own_tokens text) s (own_bytes text) begins
              (not_so (is_pattern path) (first_so (not (is_pattern path)) (not (list_any (λ c. c == 91) path) && paths path) h))
              (not_so (list_any (λ c. c == 91) path) (first_so (not (list_any (λ c. c == 91) path)) (paths path) rest))
              (second_so (not (list_any (λ c. c == 91) path)) (paths path) rest) g) own_line)

          by_path : (o : Option (List ℕ)) → plain_path real ≡ o → is_one_of paths o ≡ true → OnlyReads w (IsOwnLine text) line
          by_path None e h = let z : ⊥ = cc in absurd z
          by_path (Some path) e h = one_path path e h

          by_form : (b : Bool) → is_plain_form (form_of real) ≡ b → (b || is_one_of paths (plain_path real)) ≡ true → OnlyReads w (IsOwnLine text) line
          by_form true f h = subst (λ p. OnlyReads w (IsOwnLine text) p) (sym (plain_line_stays sub at continued text s free no_name f short))
              (record { text = refl; help = sym help; state = g })
          by_form false f h = by_path (plain_path real) refl h

      line_own : (at : Place) (continued : Bool) (text : List ℕ) (s : ReadingState) → is_plain_line paths text ≡ true → IsOwnState s
          → OnlyReads w (IsOwnLine text) (line_written sub at continued text s)
      line_own at continued text s e g = by_test (is_copied text) refl e
        where
          asks : Bool
          asks = is_none (environment_asked text)

          free : Bool
          free = list_all is_kept_token (line_tokens 0 text)

          no_name : Bool
          no_name = not (is_assignment (line_tokens 0 text))

          form : Bool
          form = is_plain_form (form_of (tokens_as_they_are text)) || is_one_of paths (plain_path (tokens_as_they_are text))

          help_is : (b : Bool) → is_copied text ≡ b → is_before_help text ≡ cond b (begins_help text) (is_help_line (tokens_as_they_are text))
          help_is b c = ap (λ x. cond x (begins_help text) (is_help_line (tokens_as_they_are text))) c

          by_test : (b : Bool) → is_copied text ≡ b → (b || (asks && (free && (no_name && form)))) ≡ true
              → OnlyReads w (IsOwnLine text) (elim b as (λ z. Program WrittenLine) [
                | true ↦ returns (written_line text (begins_help text) s)
                | false ↦ line_content at s.bindings true (line_tokens 0 (meant_line text)) >>= content_written sub at continued s
              ])
          by_test true c e = record { text = refl; help = sym (help_is true c); state = g }
          by_test false c e =
              let whole = second_so asks (free && (no_name && form)) e in
              let rest = second_so free (no_name && form) whole in
              subst (λ x. OnlyReads w (IsOwnLine text) (line_content at s.bindings true (line_tokens 0 x) >>= content_written sub at continued s))
              (sym (meant_same text (first_so asks (free && (no_name && form)) e)))
              (plain_line_own at continued text s (first_so free (no_name && form) whole) (not_so (is_assignment (line_tokens 0 text)) (first_so no_name form rest))
              (second_so no_name form rest)
              (neither_first (nat_lt MAX_TEXT_BYTES (length text)) (not (is_utf8 text)) c) (help_is false c) g)

      lines_own : (file : List ℕ) (skip n : ℕ) (ls : List PhysicalLine) (s : ReadingState) → list_all (is_plain_line paths) (logical_texts skip ls) ≡ true
          → IsOwnState s → OnlyReads w (IsOwnText (bytes_of_lines (drop skip ls))) (lines_read sub file skip n ls s)
      lines_own file zero n [] s e g = record { text = refl; state = g }
      lines_own file (suc skip) n [] s e g = record { text = refl; state = g }
      lines_own file (suc skip) n (l ∷ ls) s e g = lines_own file skip (n + 1) ls s e g
      lines_own file zero n (l ∷ ls) s e g =
          only_both w (IsOwnLine text) (IsOwnText (bytes_of_lines (l ∷ ls))) (line_written sub (place file n) (is_continued (without_return l)) text s)
          (λ line. let help = help_after line.begins_help (drop more ls) in
          lines_read sub file (more + help) (n + 1) ls line.state >>= λ rest. returns (progress (written line.text help rest.text) rest.state))
          (line_own (place file n) (is_continued (without_return l)) text s
          (first_so (is_plain_line paths text) (list_all (is_plain_line paths) (others (is_before_help text))) e) g)
          (λ line q. let help = help_after line.begins_help (drop more ls) in
          only_both w (IsOwnText (bytes_of_lines (drop (more + help) ls))) (IsOwnText (bytes_of_lines (l ∷ ls)))
          (lines_read sub file (more + help) (n + 1) ls line.state) (λ rest. returns (progress (written line.text help rest.text) rest.state))
          (lines_own file (more + help) (n + 1) ls line.state (ap (λ b. list_all (is_plain_line paths) (others b)) q.help
          ∙ second_so (is_plain_line paths text) (list_all (is_plain_line paths) (others (is_before_help text))) e) q.state)
          (λ rest x. record {
            text = ap (λ t. written t help rest.text) q.text ∙ ap (λ t. written text help t) x.text ∙ whole_lines l ls more help text;
            state = x.state;
          }))
        where
          more : ℕ
          more = continuation_count (map without_return (l ∷ ls))

          text : List ℕ
          text = joined_bytes (map without_return (l ∷ ls))

          written : List ℕ → ℕ → List ℕ → List ℕ
          written new help rest = lines_written (l ∷ take more ls) text new ++ (bytes_of_lines (take help (drop more ls)) ++ rest)

          others : Bool → List (List ℕ)
          others b = logical_texts (more + help_after b (drop more ls)) ls

    -- the text of a path is kept under it
    kept_own : (path bytes : List ℕ) (p : Progress) → w.bytes path ≡ Some bytes → bytes_eq path root ≡ false → IsOwnText bytes p
        → IsOwnText path (stored_file root path p)
    kept_own path bytes p e r q =
        record {
          text = own_key;
          state =
              record {
                files = subst (λ k. AreOwnFiles (cond (has_key files k) files (files ++ record { key = k; path = path; text = p.text } ∷ []))) (sym own_key)
                    (by_test (has_key files path));
              };
        }
      where
        files : List ExpandedFile
        files = p.state.expanded

        holds : w.bytes path ≡ Some p.text
        holds = e ∙ ap Some (sym q.text)

        own_files : AreOwnFiles files
        own_files = q.state.files

        free : is_taken root files p.text path ≡ false
        free = ap (λ b. b || list_any (λ (f : ExpandedFile). bytes_eq f.key path && not (bytes_eq f.text p.text)) files) r
            ∙ own_key_free path p.text holds own_files

        own_key : key_of root files path p.text ≡ path
        own_key = ap (λ b. elim b as (λ z. List ℕ) [ true ↦ free_key (length files) root files path p.text (path ++ 35 ∷ decimal 2) 3 | false ↦ path ]) free

        by_test : (b : Bool) → AreOwnFiles (cond b files (files ++ record { key = path; path = path; text = p.text } ∷ []))
        by_test true = own_files
        by_test false = one_more_own files (record { key = path; path = path; text = p.text }) own_files (record { key = refl; text = holds })

    -- a path that isn't open isn't the first
    other_path : (path : List ℕ) (open_files : List (List ℕ)) → is_in_list root open_files ≡ true → is_in_list path open_files ≡ false
        → bytes_eq path root ≡ false
    other_path path open_files h n = by_test (bytes_eq path root) refl
      where
        by_test : (b : Bool) → bytes_eq path root ≡ b → b ≡ false
        by_test true e = let z : true ≡ false = sym h ∙ ap (λ x. is_in_list x open_files) (sym (same_text path root e)) ∙ n in let y : ⊥ = cc in absurd y
        by_test false e = refl

    file_own : (sub : SourceReader) (open_files : List (List ℕ)) → (length open_files < MAX_OPEN_FILES → ReadsOwn sub) → is_in_list root open_files ≡ true
        → (at : Place) (path : List ℕ) (s : ReadingState) → paths path ≡ true → IsOwnState s
        → (bytes : Option (List ℕ)) → w.bytes path ≡ bytes → OnlyReads w (IsOwnText path) (sourced_read sub root open_files at (one_file path) s bytes)
    file_own sub open_files reads h at path s p g None e = by_test (is_in_list path open_files)
      where
        by_test : (b : Bool) → OnlyReads w (IsOwnText path) (elim (cond b (Some SourceLoop) (Some MissingFile)) as (λ z. Program Progress)
            [ Some kind ↦ fault at kind [] | None ↦ contents_read sub at (one_file path) None s >>= λ p. returns (stored_file root path p) ])
        by_test true = refl
        by_test false = refl
    file_own sub open_files reads h at path s p g (Some bytes) e = by_fault (source_fault open_files s path (Some bytes)) refl
      where
        by_fault : (x : Option MacroKind) → source_fault open_files s path (Some bytes) ≡ x
            → OnlyReads w (IsOwnText path) (elim x as (λ z. Program Progress) [
              | Some kind ↦ fault at kind []
              | None ↦ contents_read sub at (one_file path) (Some bytes) s >>= λ p. returns (stored_file root path p)
            ])
        by_fault (Some kind) f = fault_kind open_files s path bytes kind f
        by_fault None f =
            let n = not_open open_files s path bytes f in
            only_both w (IsOwnText (bytes_of_lines (split_at_newlines bytes))) (IsOwnText path)
            (lines_read sub path 0 1 (split_at_newlines bytes) (counted (length bytes) s)) (λ p. returns (stored_file root path p))
            (lines_own sub (reads n.1) path 0 1 (split_at_newlines bytes) (counted (length bytes) s) (tree.files path bytes p e) (record { files = g.files }))
            (λ p q. kept_own path bytes p e (other_path path open_files h n.0) (record { text = q.text ∙ split_bytes bytes; state = q.state }))

    sources_own : (depth : ℕ) (open_files : List (List ℕ)) → MAX_OPEN_FILES < depth + length open_files → length open_files ≤ MAX_OPEN_FILES
        → is_in_list root open_files ≡ true → ReadsOwn (source_read depth root open_files)
    sources_own zero open_files deep few h at path s p g = absurd (omega (arith, deep, few))
    sources_own (suc depth) open_files deep few h at path s p g =
        file_own (source_read depth root (path ∷ open_files)) open_files
        (λ l. sources_own depth (path ∷ open_files) (omega (arith, deep)) (omega (arith, l)) (either (bytes_eq path root) h)) h at path s p g
        (w.bytes path) refl
      where
        either : (b : Bool) → is_in_list root open_files ≡ true → (b || is_in_list root open_files) ≡ true
        either true h = refl
        either false h = h

    root_own : (bytes : Option (List ℕ)) → w.bytes root ≡ bytes → OnlyReads w AreOwnFiles (root_read root initial_state bytes)
    root_own None e = refl
    root_own (Some bytes) e = by_test (nat_lt MAX_TREE_BYTES (length bytes))
      where
        sub : SourceReader
        sub = source_read MAX_OPEN_FILES root (root ∷ [])

        by_test : (b : Bool) → OnlyReads w AreOwnFiles (elim b as (λ z. Program (List ExpandedFile)) [
          | true ↦ fault (place root 0) TooMany []
          | false ↦ lines_read sub root 0 1 (split_at_newlines bytes) (counted (length bytes) initial_state) >>= λ p. returns
              (p.state.expanded ++ record { key = root; path = root; text = p.text } ∷ [])
        ])
        by_test true = refl
        by_test false =
            only_both w (IsOwnText (bytes_of_lines (split_at_newlines bytes))) AreOwnFiles
            (lines_read sub root 0 1 (split_at_newlines bytes) (counted (length bytes) initial_state))
            (λ p. returns (p.state.expanded ++ record { key = root; path = root; text = p.text } ∷ []))
            (lines_own sub (sources_own MAX_OPEN_FILES (root ∷ []) (omega arith) (omega arith) (ap (λ b. b || false) (nat_list_eq_equiv.refl root))) root 0 1
            (split_at_newlines bytes) (counted (length bytes) initial_state) (tree.files root bytes tree.first e) (record { files = no_files }))
            (λ p q. one_more_own p.state.expanded (record { key = root; path = root; text = p.text }) q.state.files
            (record { key = refl; text = e ∙ ap Some (sym (q.text ∙ split_bytes bytes)) }))

    tree_own : OnlyReads w AreOwnFiles (tree_read root)
    unfolding tree_read
    tree_own = root_own (w.bytes root) refl

pub plain_trees_stay : PlainTreesStay
unfolding expansion
plain_trees_stay w paths root answer tree =
    let q = silent_outcome w (AreOwnFiles w) MAX_WORK (tree_read root) (tree_own w paths root tree) in (
      record { notices = q.notices; questions = q.questions; files = λ files e. all_own w (q.value files e); faults = q.faults },
      same_outcome w (AreOwnFiles w) answer MAX_WORK (tree_read root) (tree_own w paths root tree),
    )
