-- Trees that the reader accepts are given back by the expansion: both read the same files in the same order.
use Rattle.kc_expansion.proofs.Common.{◌≡◌, ℕ, zero, suc, ◌+◌, ◌<◌, Bool, true, false, ◌&&◌, ◌||◌, cond, List, [], ◌∷◌, ◌++◌, length, take, drop, map, reverse, Option, Some, None, Result, Ok, Err, refl, sym, ap, ◌∙◌, subst, arith, nat_lt, bytes_eq, codes, filter_map, is_some, is_none, sum_by}
use Rattle.kc_expansion.proofs.Common.{list_any, cons_option, is_utf8, nat_list_eq_equiv, MAX_TREE_BYTES, MAX_OPEN_FILES, MAX_TEXT_BYTES, MAX_WORK, MAX_LINE_BYTES, TreeKind, TooMany, TreeFault, Block, file_at, index_of_file, PhysicalLine, LogicalLine}
use Rattle.kc_expansion.proofs.Common.{split_at_newlines, without_return, is_continued, joined_bytes, continuation_count, begins_help, source, Statement, head, attribute, Group, Position, file_end, innermost, sourced_path, is_in_list, without_repeats, FileSource, size_in, open_files}
use Rattle.kc_expansion.proofs.Common.{files_read, with_group, with_statement, path_to_read, at_file_end, continue_after_file, continue_after_source, continue_after_statement, continue_after_line, read_lines, read_root, environment_asked, meant_line, Place, read_file, Program, returns}
use Rattle.kc_expansion.proofs.Common.{fails, stops, does, ◌>>=◌, line_tokens, WrittenToken, written_as, line_content, sources, line_bytes, is_help_line, tokens_as_they_are, ExpandedFile, ReadingState, initial_state, Progress, progress, WrittenLine, written_line, counted, has_key, key_of}
use Rattle.kc_expansion.proofs.Common.{stored_file, place, one_file, SourceReader, source_line, pattern_read, path_read, source_followed, short_line, content_written, line_written, bytes_of_lines, lines_written, help_after, lines_read, contents_read, sourced_read, source_read, root_read, World}
use Rattle.kc_expansion.proofs.Common.{returned, Outcome, outcome, questions_or_fault, without_answer, same_text, split_bytes, text_of_key, IsFileOf, neither_first}
use Rattle.std.specs.Prelude.{not, decimal}
use Rattle.std.specs.Option.{option_or}
use Rattle.std.specs.List.{All}
use Rattle.std.proofs.lemmas.List.{drop-map}
use Rattle.std.proofs.lemmas.List.Elements.{All-cons, All-nil}
use Rattle.std.proofs.lemmas.List.Folds.{list_any-append}
use Rattle.std.proofs.lemmas.List.Sums.{sum_by-cons}
use Rattle.kc_tree_model.specs.TreeFiles.{Files}
use Rattle.kc_tree_model.specs.LogicalLines.{help_line_count, logical_lines_from, lines_of}
use Rattle.kc_tree_model.specs.Blocks.{of_head, open_blocks}
use Rattle.kc_tree_model.specs.Limits.{source_fault as reader_fault}
use Rattle.kc_tree_model.specs.SourceFaults.{fault_of_source}
use Rattle.kc_tree_model.specs.declared.source_faults.TheConstants.{TREE_KINDS}
use Rattle.kc_tree_model.proofs.SourceFaults.{faultless, faultless_for}
use Rattle.kc_macros_model.specs.declared.source_kinds.TheConstants.{MACRO_KINDS}
use Rattle.kc_tree_model.specs.TreeReading.{Outcome as Reading, statement_on_line, read_file as read_whole_file, reading}
use Rattle.kc_tree_model.specs.TreeFaults.{first_tree_fault}
use Rattle.kc_tree_model.specs.MoreFiles.{AreAmong}
use Rattle.kc_tree_model.proofs.NestedTrees.OpenTrees.{EndsMatch, ends_first}
use Rattle.kc_tree_model.proofs.NestedTrees.LineFits.{Fits, line_fits}
use Rattle.kc_tree_model.proofs.NestedTrees.OpenBlocks.{popped}
use Rattle.kc_tree_model.proofs.NestedTrees.FileCoverage.{no_files}
use Rattle.kc_tree_model.proofs.NestedTrees.ReadingNests.{Since, Closes, Reads, after_given, file_closes}
use Rattle.kc_macros_model.proofs.EnvironmentLines.{meant_same}
use Rattle.kc_macros_model.specs.declared.fault.MacroKind.TheVariants as kinds
use Rattle.kc_macros_model.specs.Expansion.{fault}
use Rattle.kc_macros_model.specs.declared.token_sort.TokenSort.TheVariants.{Word}
use Rattle.kc_macros_model.specs.LineForms.{with_nth_token, quoted_text_token}
use Rattle.kc_macros_model.specs.PathPatterns.{files_of_pattern}
use Rattle.kc_macros_model.specs.ReadingStates.{is_taken, free_key}
use Rattle.kc_macros_model.specs.TreeExpansion.{source_fault, tree_read}
use Rattle.kc_macros_model.specs.Worlds.{expansion, wanted}
use Rattle.kc_macros_model.proofs.PlainLines.{own_tokens, own_bytes, line_by_form, short_stays, plain_line_stays, whole_lines, one_source, BeginsWithSource, source_word_stays, IsSource, source_of_path}
use Rattle.kc_expansion.specs.TreeLaws.{AcceptedTreesStay, AcceptedTreesWantNothing}
use Rattle.kc_expansion.proofs.AcceptedLines.{turned, IsAcceptedLine, IsPlainPath, accepted_line}

-- a program that reads files alone and returns a value with a fact
abbrev Gives : {A : Type 0} → World → (A → Type 0) → Program A → Type 0
Gives w P (returns x) = P x
Gives w P (fails f) = ⊥
Gives w P stops = ⊥
Gives w P (does (read_file path) k) = Gives w P (k (w.bytes path))
Gives w P (does x k) = ⊥

gives_both : {A B : Type 0} (w : World) (Q : A → Type 0) (P : B → Type 0) (p : Program A) (f : A → Program B) → Gives w Q p → ((x : A) → Q x → Gives w P (f x))
    → Gives w P (p >>= f)
gives_both w Q P (returns x) f h k = k x h
gives_both w Q P (fails g) f h k = h
gives_both w Q P stops f h k = h
gives_both w Q P (does (read_file path) n) f h k = gives_both w Q P (n (w.bytes path)) f h k
gives_both w Q P (does x n) f h k = absurd h

gives_more : {A : Type 0} (w : World) (Q P : A → Type 0) (p : Program A) → Gives w Q p → ((x : A) → Q x → P x) → Gives w P p
gives_more w Q P (returns x) h k = k x h
gives_more w Q P (fails g) h k = h
gives_more w Q P stops h k = h
gives_more w Q P (does (read_file path) n) h k = gives_more w Q P (n (w.bytes path)) h k
gives_more w Q P (does x n) h k = absurd h

-- what such a program comes to
record TellsNothing {A : Type 0} (P : A → Type 0) (left : ℕ) (o : Outcome A) : Type 0 where
  notices : o.notices ≡ []
  questions : o.questions ≡ []
  work : o.left ≡ left
  value : A
  ending : o.ending ≡ returned value
  holds : P value

module _ {A : Type 0} (w : World) (P : A → Type 0) where
  silent_outcome : (all_answered : Bool) (left : ℕ) (p : Program A) → Gives w P p → TellsNothing P left (outcome all_answered w left p)
  silent_outcome all left (returns x) h = record { notices = refl; questions = refl; work = refl; value = x; ending = refl; holds = h }
  silent_outcome all left (fails g) h = absurd h
  silent_outcome all left stops h = absurd h
  silent_outcome true left (does (read_file path) k) h =
      let q = silent_outcome true left (k (w.bytes path)) h in record {
        notices = q.notices;
        questions = q.questions;
        work = q.work;
        value = q.value;
        ending = q.ending;
        holds = q.holds;
      }
  silent_outcome false left (does (read_file path) k) h =
      let q = silent_outcome false left (k (w.bytes path)) h in record {
        notices = q.notices;
        questions = q.questions;
        work = q.work;
        value = q.value;
        ending = q.ending;
        holds = q.holds;
      }
  silent_outcome all left (does x k) h = absurd h

-- tests
swap : (a p o : Bool) → (a || (p || o)) ≡ (p || (a || o))
swap true true o = refl
swap true false o = refl
swap false p o = refl

more_of : (a p o r f : Bool) → (a || o) ≡ (r || f) → (a || (p || o)) ≡ (r || (p || f))
more_of a p o r f e = swap a p o ∙ ap (λ b. p || b) e ∙ swap p r f

-- the files that are open stay so while a file is read
same_open : (r : FileSource) (start read : List Group) → Since start read → open_files r read ≡ open_files r start
same_open r start read s = ap (λ gs. r.root ∷ filter_map sourced_path gs) s.opened ∙ ap (λ ps. r.root ∷ ps) (no_files s.blocks (open_blocks 0 start) s.own)

-- a statement that sources a path
source_statement : (o : Option Statement) (path : List ℕ) → path_to_read o ≡ Some path → o ≡ Some (head (source path))
source_statement (Some (head (source p))) path e = let h : p ≡ path = cc in ap (λ x. Some (head (source x))) h
source_statement x path e = let z : ⊥ = cc in absurd z

-- one that sources none leaves the files that were read
same_files : (at : Position) (o : Option Statement) (read : List Group) → path_to_read o ≡ None → filter_map sourced_path (with_statement at o read)
    ≡ filter_map sourced_path read
same_files at None read e = refl
same_files at (Some (head h)) read e = ap (λ o. cons_option o (filter_map sourced_path read)) e
same_files at (Some (attribute a)) [] e = refl
same_files at (Some (attribute a)) (g ∷ before) e = refl

-- a line of a help text has no statement
help_statement : (r : FileSource) (read : List Group) (l : LogicalLine) (o : Option Statement) → l.help ≡ true → statement_on_line r.language read l ≡ Ok o
    → o ≡ None
unfolding statement_on_line
help_statement r read l o help h = by_tests (nat_lt MAX_LINE_BYTES (length l.text)) (not (is_utf8 l.text)) l.help _ _ _ help h
  where
    by_tests : (a b c : Bool) (j k : TreeKind) (x : Result (Option Statement) TreeKind) → c ≡ true → cond a (Err j) (cond b (Err k) (cond c (Ok None) x)) ≡ Ok o
        → o ≡ None
    by_tests true b c j k x e h = let z : ⊥ = cc in absurd z
    by_tests false true c j k x e h = let z : ⊥ = cc in absurd z
    by_tests false false true j k x e h = let z : None ≡ o = cc in sym z
    by_tests false false false j k x e h = let z : ⊥ = cc in absurd z

-- what holds where a source has no fault of its own
record HasRoom (r : FileSource) (read : List Group) (path : List ℕ) : Type 0 where
  bytes : List ℕ
  there : r.bytes path ≡ Some bytes
  closed : is_in_list path (open_files r read) ≡ false
  few_open : length (open_files r read) < MAX_OPEN_FILES
  no_fault : fault_of_source TREE_KINDS (is_in_list path (open_files r read)) true (length (open_files r read)) (length (files_read r read))
      (sum_by (size_in r) (files_read r read) + length bytes) ≡ None

has_room : (r : FileSource) (read : List Group) (path : List ℕ) → reader_fault r read path ≡ None → HasRoom r read path
unfolding reader_fault
has_room r read path h = by_bytes (r.bytes path) refl h
  where
    by_bytes : (o : Option (List ℕ)) → r.bytes path ≡ o
        → fault_of_source TREE_KINDS (is_in_list path (open_files r read)) (is_some o) (length (open_files r read)) (length (files_read r read))
        (sum_by (size_in r) (files_read r read) + length (elim o as (λ _. List ℕ) [ None ↦ [] | Some bytes ↦ bytes ])) ≡ None
        → HasRoom r read path
    by_bytes None e k =
        let f = faultless TREE_KINDS (is_in_list path (open_files r read)) false (length (open_files r read)) (length (files_read r read))
        (sum_by (size_in r) (files_read r read) + 0) k in
        let there = f.there in
        absurd (let z : ⊥ = cc in z)
    by_bytes (Some bytes) e k =
        let f = faultless TREE_KINDS (is_in_list path (open_files r read)) true (length (open_files r read)) (length (files_read r read))
        (sum_by (size_in r) (files_read r read) + length bytes) k in
        record { bytes = bytes; there = e; closed = f.closed; few_open = f.few_open; no_fault = k }

module _ (w : World) (r : FileSource) (among : AreAmong r.bytes w.bytes) where
  -- a file with its own bytes, under its path
  record IsFileIn (f : ExpandedFile) : Type 0 where
    key : f.key ≡ f.path
    text : r.bytes f.path ≡ Some f.text

  data AreFilesIn : List ExpandedFile → Type 0 where
    no_files_in : AreFilesIn []
    next_file_in : {f : ExpandedFile} {fs : List ExpandedFile} → IsFileIn f → AreFilesIn fs → AreFilesIn (f ∷ fs)

  one_more_in : (fs : List ExpandedFile) (f : ExpandedFile) → AreFilesIn fs → IsFileIn f → AreFilesIn (fs ++ f ∷ [])
  one_more_in [] f h k = next_file_in k no_files_in
  one_more_in (g ∷ fs) f (next_file_in h t) k = next_file_in h (one_more_in fs f t k)

  -- no file takes the path of another from it
  key_free : (path text : List ℕ) → r.bytes path ≡ Some text → {fs : List ExpandedFile} → AreFilesIn fs
      → list_any (λ (f : ExpandedFile). bytes_eq f.key path && not (bytes_eq f.text text)) fs ≡ false
  key_free path text e no_files_in = refl
  key_free path text e (next_file_in {f = f} {fs = fs} h t) = by_test (key_free path text e t) (bytes_eq f.key path) refl
    where
      others : Bool
      others = list_any (λ (f : ExpandedFile). bytes_eq f.key path && not (bytes_eq f.text text)) fs

      by_test : others ≡ false → (b : Bool) → bytes_eq f.key path ≡ b → ((b && not (bytes_eq f.text text)) || others) ≡ false
      by_test ih false k = ih
      by_test ih true k =
          let same : f.path ≡ path = sym h.key ∙ same_text f.key path k in
          let own : Some f.text ≡ Some text = sym h.text ∙ ap r.bytes same ∙ e in
          let bytes : f.text ≡ text = cc in
          ap (λ x. not (bytes_eq x text) || others) bytes ∙ ap (λ b. not b || others) (nat_list_eq_equiv.refl text) ∙ ih

  -- the state of the expansion where the reader has read these groups and these files are open
  record Follows (read : List Group) (opened : List (List ℕ)) (s : ReadingState) : Type 0 where
    own : AreFilesIn s.expanded
    files : s.files ≡ length (files_read r read)
    bytes : s.bytes ≡ sum_by (size_in r) (files_read r read)
    keys_are : (path : List ℕ) → (has_key s.expanded path || is_in_list path opened) ≡ is_in_list path (files_read r read)

  same_follows : {opened : List (List ℕ)} {s : ReadingState} (read more : List Group) → filter_map sourced_path more ≡ filter_map sourced_path read
      → Follows read opened s → Follows more opened s
  same_follows {opened = opened} {s = s} read more e f =
      record {
        own = f.own;
        files = f.files ∙ ap (λ ps. length (r.root ∷ ps)) (sym e);
        bytes = f.bytes ∙ ap (λ ps. sum_by (size_in r) (r.root ∷ ps)) (sym e);
        keys_are = λ path. f.keys_are path ∙ ap (λ ps. is_in_list path (r.root ∷ ps)) (sym e);
      }

  -- the same files are open
  record AreOpen (start : List Group) (opened : List (List ℕ)) : Type 0 where
    listed : (path : List ℕ) → is_in_list path opened ≡ is_in_list path (open_files r start)
    count : length opened ≡ length (open_files r start)

  record IsRead (own : List ℕ) (read : List Group) (opened : List (List ℕ)) (p : Progress) : Type 0 where
    text : p.text ≡ own
    state : Follows read opened p.state

  record IsLine (own : List ℕ) (read : List Group) (opened : List (List ℕ)) (x : WrittenLine) : Type 0 where
    text : x.text ≡ own
    help : x.begins_help ≡ begins_help own
    state : Follows read opened x.state

  -- the group of a source
  abbrev group_at : Position → List ℕ → List Group → Group
  group_at at path read = record { number = length read; at = at; head = of_head (source path); attributes = [] }

  -- a file that the reader reads after these groups is read by the expansion too
  abbrev ReadsBoth : List Group → List (List ℕ) → (List ℕ → List Group → Reading) → SourceReader → Type 0
  ReadsBoth start opened sub reads = (at : Place) (position : Position) (path : List ℕ) (read : List Group) (s : ReadingState) → Since start read
      → Follows read opened s → reader_fault r read path ≡ None
      → (sub path (group_at position path read ∷ read)).fault ≡ None → Gives w (IsRead path (sub path (group_at position path read ∷ read)).read opened)
      (reads at (one_file path) s)

  -- lines of a file
  module _ (start : List Group) (first : innermost start ≡ None) (opened : List (List ℕ)) (sub : List ℕ → List Group → Reading) (closes : Reads sub)
      (reads : SourceReader) (both : ReadsBoth start opened sub reads) (file : List ℕ) (number : ℕ) where
    -- a line that the reader accepts
    module _ (at : Place) (continued : Bool) (text : List ℕ) (s : ReadingState) where
      line_is : nat_lt MAX_TEXT_BYTES (length text) ≡ false → is_utf8 text ≡ true → environment_asked text ≡ None → line_written reads at continued text s
          ≡ (line_content at s.bindings true (line_tokens 0 text) >>= content_written reads at continued s)
      line_is short utf8 asks =
          ap (λ b. elim (b || not (is_utf8 text)) as (λ z. Program WrittenLine) [
            | true ↦ returns (written_line text (begins_help text) s)
            | false ↦ line_content at s.bindings true (line_tokens 0 (meant_line text)) >>= content_written reads at continued s
          ]) short
          ∙ ap (λ b. elim (not b) as (λ z. Program WrittenLine) [
            | true ↦ returns (written_line text (begins_help text) s)
            | false ↦ line_content at s.bindings true (line_tokens 0 (meant_line text)) >>= content_written reads at continued s
          ]) utf8
          ∙ ap (λ x. line_content at s.bindings true (line_tokens 0 x) >>= content_written reads at continued s) (meant_same text (ap is_none asks))

      plain_line : (read : List Group) → IsAcceptedLine text None → Follows read opened s → Gives w (IsLine text read opened)
          (line_written reads at continued text s)
      plain_line read is f =
          subst (λ p. Gives w (IsLine text read opened) p) (sym (line_is is.short is.utf8 is.asks
          ∙ plain_line_stays reads at continued text s is.kept is.no_name is.form is.short)) (record { text = refl; help = is.help; state = f })

      followed : (path : List ℕ) (read : List Group) → IsPlainPath (tokens_as_they_are text) path → Gives w (IsRead path read opened)
          (reads at (one_file path) s) → Gives w (IsRead text read opened) (source_followed reads at (own_tokens text) one_source (Some path) s)
      followed path read is g =
          subst (λ c. Gives w (IsRead text read opened) (elim c as (λ z. Program Progress) [
            | true ↦ returns (progress (line_bytes ts) s)
            | false ↦ path_read reads at one_source path s >>= λ p. returns (progress (source_line ts path p.text) p.state)
          ])) (sym is.no_bracket)
          (subst (λ c. Gives w (IsRead text read opened) (elim c as (λ z. Program Progress) [
            | true ↦
                files_of_pattern at path s.listed >>= pattern_read reads at one_source s
            | false ↦ reads at (one_file path) s
          ] >>= λ p. returns
          (progress (source_line ts path p.text) p.state))) (sym is.no_pattern)
          (gives_both w (IsRead path read opened) (IsRead text read opened) (reads at (one_file path) s)
          (λ p. returns (progress (source_line ts path p.text) p.state)) g (λ q k. record { text = written q.text k.text; state = k.state })))
        where
          ts : List WrittenToken
          ts = own_tokens text

          first_token : List WrittenToken
          first_token = with_nth_token 0 (written_as Word (codes "source") []) ts

          begins : BeginsWithSource ts
          begins = let source : IsSource (tokens_as_they_are text) path = source_of_path (tokens_as_they_are text) path is.one in
              record { first = source.first; rest = source.rest; parts = source.parts; bytes = source.bytes }

          written : (key : List ℕ) → key ≡ path → source_line ts path key ≡ text
          written key e =
              ap (λ x. source_line ts path x) e ∙ ap (λ c. line_bytes (cond c first_token (with_nth_token 1 (quoted_text_token path) first_token)))
              (nat_list_eq_equiv.refl path) ∙ source_word_stays begins ∙ own_bytes text

      path_line : (path : List ℕ) (read : List Group) → IsAcceptedLine text (Some path) → Gives w (IsRead path read opened) (reads at (one_file path) s)
          → Gives w (IsLine text read opened) (line_written reads at continued text s)
      path_line path read is g =
          let source : IsSource (tokens_as_they_are text) path = source_of_path (tokens_as_they_are text) path is.form.one in
          let help = is_help_line (tokens_as_they_are text) in
          subst (λ p. Gives w (IsLine text read opened) p) (sym (line_is is.short is.utf8 is.asks ∙ line_by_form reads at continued text s
          (sources one_source (Some path)) is.kept is.no_name source.form))
          (gives_both w (IsRead text read opened) (IsLine text read opened) (source_followed reads at (own_tokens text) one_source (Some path) s)
          (short_line at help) (followed path read is.form g)
          (λ x k. subst (λ p. Gives w (IsLine text read opened) p) (sym (short_stays at help text x.text x.state k.text is.short))
          (record { text = refl; help = is.help; state = k.state })))

    -- the lines from a place on
    abbrev GoesOn : ℕ → List PhysicalLine → Type 0
    GoesOn n ls = (pending help skip : ℕ) (read : List Group) (s : ReadingState) → skip ≡ pending + help → Since start read → Follows read opened s
        → (read_lines sub r number (logical_lines_from pending help n (map without_return ls)) read).fault ≡ None
        → Gives w (IsRead (bytes_of_lines (drop skip ls)) (read_lines sub r number (logical_lines_from pending help n (map without_return ls)) read).read
        opened) (lines_read reads file skip n ls s)

    end_read : (read : List Group) (o : Option (Group × Block)) → (at_file_end number read o).read ≡ read
    end_read read None = refl
    end_read read (Some o) = refl

    -- a line of a help text
    help_goes : (rest : List Group → Reading) (at : Position) (read : List Group) (l : LogicalLine) (x : Result (Option Statement) TreeKind) → l.help ≡ true
        → statement_on_line r.language read l ≡ x → (continue_after_line sub rest r at read x).fault ≡ None
        → continue_after_line sub rest r at read x ≡ rest read
    help_goes rest at read l (Err k) help e h = let z : ⊥ = cc in absurd z
    help_goes rest at read l (Ok o) help e h = ap (λ o. continue_after_line sub rest r at read (Ok o)) (help_statement r read l o help e)

    -- a line with those after it
    module _ (n : ℕ) (l : PhysicalLine) (ls : List PhysicalLine) (goes : GoesOn (n + 1) ls) where
      more : ℕ
      more = continuation_count (map without_return (l ∷ ls))

      text : List ℕ
      text = joined_bytes (map without_return (l ∷ ls))

      rest_of : List Group → Reading
      rest_of = read_lines sub r number (logical_lines_from more (cond (begins_help text) (help_line_count (drop more (map without_return ls))) 0) (n + 1)
          (map without_return ls))

      written : List ℕ → ℕ → List ℕ → List ℕ
      written new help rest = lines_written (l ∷ take more ls) text new ++ (bytes_of_lines (take help (drop more ls)) ++ rest)

      after_line : ReadingState → Program Progress
      after_line s =
          line_written reads (place file n) (is_continued (without_return l)) text s >>= λ line.
          let help = help_after line.begins_help (drop more ls) in
          lines_read reads file (more + help) (n + 1) ls line.state >>= λ rest. returns (progress (written line.text help rest.text) rest.state)

      tail : (read : List Group) (s : ReadingState) → Since start read → (rest_of read).fault ≡ None
          → Gives w (IsLine text read opened) (line_written reads (place file n) (is_continued (without_return l)) text s)
          → Gives w (IsRead (bytes_of_lines (l ∷ ls)) (rest_of read).read opened) (after_line s)
      unfolding after_line written rest_of more text
      tail read s since h line =
          gives_both w (IsLine text read opened) (IsRead (bytes_of_lines (l ∷ ls)) (rest_of read).read opened)
          (line_written reads (place file n) (is_continued (without_return l)) text s)
          (λ line. let help = help_after line.begins_help (drop more ls) in
          lines_read reads file (more + help) (n + 1) ls line.state >>= λ rest. returns (progress (written line.text help rest.text) rest.state))
          line
          (λ line q. let help = help_after line.begins_help (drop more ls) in
          gives_both w (IsRead (bytes_of_lines (drop (more + help) ls)) (rest_of read).read opened)
          (IsRead (bytes_of_lines (l ∷ ls)) (rest_of read).read opened) (lines_read reads file (more + help) (n + 1) ls line.state)
          (λ rest. returns (progress (written line.text help rest.text) rest.state))
          (goes more (cond (begins_help text) (help_line_count (drop more (map without_return ls))) 0) (more + help) read line.state
          (ap (λ k. more + k) (same_help line.begins_help q.help)) since q.state h)
          (λ rest x. record {
            text = ap (λ t. written t help rest.text) q.text ∙ ap (λ t. written text help t) x.text ∙ whole_lines l ls more help text;
            state = x.state;
          }))
        where
          same_help : (b : Bool) → b ≡ begins_help text → help_after b (drop more ls) ≡ cond (begins_help text)
              (help_line_count (drop more (map without_return ls))) 0
          same_help b e = ap (λ x. cond x (help_line_count (map without_return (drop more ls))) 0) e
              ∙ ap (λ x. cond (begins_help text) (help_line_count x) 0) (sym (drop-map without_return more ls))

      this_line : LogicalLine
      this_line = record { number = n; text = text; help = false }

      position : Position
      position = record { file = number; line = n }

      -- a source
      source_goes : (read : List Group) (s : ReadingState) (path : List ℕ) (k : Option TreeKind) → IsAcceptedLine text (Some path) → Since start read
          → Follows read opened s → reader_fault r read path ≡ k
          → (continue_after_source sub rest_of position path (group_at position path read ∷ read) k).fault ≡ None
          → Gives w (IsRead (bytes_of_lines (l ∷ ls)) (continue_after_source sub rest_of position path (group_at position path read ∷ read) k).read opened)
          (after_line s)
      unfolding Reads
      source_goes read s path (Some k) is since f e h = let z : ⊥ = cc in absurd z
      source_goes read s path None is since f e h = by_fault (sub path (group_at position path read ∷ read)).fault refl h
        where
          o : Reading
          o = sub path (group_at position path read ∷ read)

          by_fault : (k : Option TreeFault) → (sub path (group_at position path read ∷ read)).fault ≡ k
              → (continue_after_file rest_of position (sub path (group_at position path read ∷ read)) k).fault ≡ None
              → Gives w (IsRead (bytes_of_lines (l ∷ ls)) (continue_after_file rest_of position (sub path (group_at position path read ∷ read)) k).read opened)
              (after_line s)
          by_fault (Some k) g h = let z : Some k ≡ None = sym g ∙ h in let y : ⊥ = cc in absurd y
          by_fault None g h =
              let inner = sub path (group_at position path read ∷ read) in
              let closed : Closes (group_at position path read ∷ read) inner.read =
              closes path (group_at position path read ∷ read) refl ((λ c. cc), since.matched) g in
              let back : open_blocks 0 (with_group position file_end inner.read) ≡ open_blocks 0 read =
              popped (record { number = length inner.read; at = position; head = file_end; attributes = [] }) inner.read refl ∙ ap (drop 1) closed.opened in
              tail (with_group position file_end inner.read) s
              (record {
                blocks = since.blocks;
                own = since.own;
                opened = back ∙ since.opened;
                matched =
                    ((λ x. ap (λ os. ends_first os file_end) closed.opened), closed.matched);
              }) h
              (path_line (place file n) (is_continued (without_return l)) text s path (with_group position file_end inner.read) is
              (gives_more w (IsRead path inner.read opened) (IsRead path (with_group position file_end inner.read) opened)
              (reads (place file n) (one_file path) s) (both (place file n) position path read s since f e g)
              (λ x k. record { text = k.text; state = same_follows inner.read (with_group position file_end inner.read) refl k.state })))

      statement_goes : (read : List Group) (s : ReadingState) (o : Option Statement) (path : Option (List ℕ)) → IsAcceptedLine text path → Since start read
          → Follows read opened s → path_to_read o ≡ path → Fits read o
          → (continue_after_statement sub rest_of r position read o path).fault ≡ None
          → Gives w (IsRead (bytes_of_lines (l ∷ ls)) (continue_after_statement sub rest_of r position read o path).read opened) (after_line s)
      statement_goes read s o None is since f e fits h =
          tail (with_statement position o read) s (after_given start read position o first since e fits) h
          (plain_line (place file n) (is_continued (without_return l)) text s (with_statement position o read) is
          (same_follows read (with_statement position o read) (same_files position o read e) f))
      statement_goes read s o (Some path) is since f e fits h =
          let same = source_statement o path e in
          subst (λ x. (continue_after_statement sub rest_of r position read x (Some path)).fault ≡ None
          → Gives w (IsRead (bytes_of_lines (l ∷ ls)) (continue_after_statement sub rest_of r position read x (Some path)).read opened) (after_line s))
          (sym same)
          (λ h. source_goes read s path (reader_fault r read path) is since f refl h) h

      line_goes : (read : List Group) (s : ReadingState) (x : Result (Option Statement) TreeKind) → Since start read → Follows read opened s
          → statement_on_line r.language read this_line ≡ x → (continue_after_line sub rest_of r position read x).fault ≡ None
          → Gives w (IsRead (bytes_of_lines (l ∷ ls)) (continue_after_line sub rest_of r position read x).read opened) (after_line s)
      unfolding this_line
      line_goes read s (Err k) since f e h = let z : ⊥ = cc in absurd z
      line_goes read s (Ok o) since f e h =
          statement_goes read s o (path_to_read o) (accepted_line r.language read this_line o refl e) since f refl (line_fits r.language read this_line o e) h

    none_dropped : (skip : ℕ) → bytes_of_lines (drop skip []) ≡ []
    none_dropped zero = refl
    none_dropped (suc skip) = refl

    lines_follow : (n : ℕ) (ls : List PhysicalLine) (pending help skip : ℕ) (read : List Group) (s : ReadingState) → skip ≡ pending + help → Since start read
        → Follows read opened s
        → (read_lines sub r number (logical_lines_from pending help n (map without_return ls)) read).fault ≡ None
        → Gives w (IsRead (bytes_of_lines (drop skip ls)) (read_lines sub r number (logical_lines_from pending help n (map without_return ls)) read).read
        opened) (lines_read reads file skip n ls s)
    unfolding this_line position rest_of more text after_line written
    lines_follow n [] pending help skip read s e since f h = record {
      text = sym (none_dropped skip);
      state = subst (λ x. Follows x opened s) (sym (end_read read (innermost read))) f;
    }
    lines_follow n (l ∷ ls) (suc pending) help (suc skip) read s e since f h = lines_follow (n + 1) ls pending help skip read s (omega (arith, e)) since f h
    lines_follow n (l ∷ ls) (suc pending) help zero read s e since f h = absurd (omega (arith, e))
    lines_follow n (l ∷ ls) zero (suc help) (suc skip) read s e since f h =
        let help_line : LogicalLine = record { number = n; text = (without_return l).text; help = true } in
        let rest : List Group → Reading = read_lines sub r number (logical_lines_from 0 help (n + 1) (map without_return ls)) in
        let same : continue_after_line sub rest r (record { file = number; line = n }) read (statement_on_line r.language read help_line) ≡ rest read =
        help_goes rest (record { file = number; line = n }) read help_line (statement_on_line r.language read help_line) refl refl h in
        subst (λ (o : Reading). Gives w (IsRead (bytes_of_lines (drop skip ls)) o.read opened) (lines_read reads file skip (n + 1) ls s)) (sym same)
        (lines_follow (n + 1) ls 0 help skip read s (omega (arith, e)) since f (sym (ap (λ (o : Reading). o.fault) same) ∙ h))
    lines_follow n (l ∷ ls) zero (suc help) zero read s e since f h = absurd (omega (arith, e))
    lines_follow n (l ∷ ls) zero zero (suc skip) read s e since f h = absurd (omega (arith, e))
    lines_follow n (l ∷ ls) zero zero zero read s e since f h = line_goes n l ls (lines_follow (n + 1) ls) read s
        (statement_on_line r.language read (this_line n l ls (lines_follow (n + 1) ls))) since f refl h

  -- the lines of a whole file
  file_lines : (n : ℕ) (start : List Group) (opened : List (List ℕ)) (reads : SourceReader) (path bytes : List ℕ) (s : ReadingState) → innermost start ≡ None
      → EndsMatch start → r.bytes path ≡ Some bytes → Follows start opened s
      → ReadsBoth start opened (read_whole_file n r) reads → (read_whole_file (suc n) r path start).fault ≡ None
      → Gives w (IsRead bytes (read_whole_file (suc n) r path start).read opened) (lines_read reads path 0 1 (split_at_newlines bytes) s)
  unfolding lines_of
  file_lines n start opened reads path bytes s first matched there f both h =
      subst (λ b. (whole b).fault ≡ None → Gives w (IsRead bytes (whole b).read opened) (lines_read reads path 0 1 (split_at_newlines bytes) s))
      (sym (ap (λ o. elim o as (λ _. List ℕ) [ None ↦ [] | Some bytes ↦ bytes ]) there))
      (λ h. subst (λ b. Gives w (IsRead b (whole bytes).read opened) (lines_read reads path 0 1 (split_at_newlines bytes) s)) (split_bytes bytes)
      (lines_follow start first opened (read_whole_file n r) (file_closes n r) reads both path (r.number path) 1 (split_at_newlines bytes) 0 0 0 start s refl
      (record { blocks = []; own = tt; opened = refl; matched = matched }) f h)) h
    where
      whole : List ℕ → Reading
      whole b = read_lines (read_whole_file n r) r (r.number path) (logical_lines_from 0 0 1 (map without_return (split_at_newlines b))) start

  -- a file that is kept
  module _ (path bytes : List ℕ) (there : r.bytes path ≡ Some bytes) (other : bytes_eq path r.root ≡ false) (read : List Group) (opened : List (List ℕ))
      (p : Progress) (q : IsRead bytes read (path ∷ opened) p) where
    abbrev before : List ExpandedFile
    before = p.state.expanded

    holds : r.bytes path ≡ Some p.text
    holds = there ∙ ap Some (sym q.text)

    free : is_taken r.root before p.text path ≡ false
    free = ap (λ b. b || list_any (λ (f : ExpandedFile). bytes_eq f.key path && not (bytes_eq f.text p.text)) before) other
        ∙ key_free path p.text holds q.state.own

    own_key : key_of r.root before path p.text ≡ path
    own_key = ap (λ b. elim b as (λ z. List ℕ) [ true ↦ free_key (length before) r.root before path p.text (path ++ 35 ∷ decimal 2) 3 | false ↦ path ]) free

    abbrev new : ExpandedFile
    new = record { key = path; path = path; text = p.text }

    known_before : (x : List ℕ) → has_key before path ≡ true → (has_key before x || is_in_list x opened) ≡ is_in_list x (files_read r read)
    known_before x k = by_test (bytes_eq path x) refl ∙ q.state.keys_are x
      where
        by_test : (b : Bool) → bytes_eq path x ≡ b → (has_key before x || is_in_list x opened) ≡ (has_key before x || (bytes_eq path x || is_in_list x opened))
        by_test true e =
            let here : has_key before x ≡ true = ap (has_key before) (sym (same_text path x e)) ∙ k in
            ap (λ b. b || is_in_list x opened) here ∙ sym (ap (λ b. b || (bytes_eq path x || is_in_list x opened)) here)
        by_test false e = sym (ap (λ b. has_key before x || (b || is_in_list x opened)) e)

    known_after : (x : List ℕ) → (has_key (before ++ new ∷ []) x || is_in_list x opened) ≡ is_in_list x (files_read r read)
    known_after x = ap (λ b. b || is_in_list x opened) (list_any-append (λ (f : ExpandedFile). bytes_eq f.key x) before (new ∷ []))
        ∙ one_more (has_key before x) (bytes_eq path x) (is_in_list x opened) ∙ q.state.keys_are x
      where
        one_more : (a b c : Bool) → ((a || (b || false)) || c) ≡ (a || (b || c))
        one_more true b c = refl
        one_more false true c = refl
        one_more false false c = refl

    kept_follows : IsRead path read opened (stored_file r.root path p)
    kept_follows =
        record {
          text = own_key;
          state = subst (λ k. Follows read opened (record p.state {
            expanded = cond (has_key before k) before
                (before ++ record { key = k; path = path; text = p.text } ∷ []);
          })) (sym own_key) (by_test (has_key before path) refl);
        }
      where
        by_test : (b : Bool) → has_key before path ≡ b → Follows read opened (record p.state { expanded = cond b before (before ++ new ∷ []) })
        by_test true e = record { own = q.state.own; files = q.state.files; bytes = q.state.bytes; keys_are = λ x. known_before x e }
        by_test false e = record {
          own = one_more_in before new q.state.own (record { key = refl; text = holds });
          files = q.state.files;
          bytes = q.state.bytes;
          keys_are = known_after;
        }

  -- a source that has no fault for the reader has none for the expansion
  no_fault : (start read : List Group) (opened : List (List ℕ)) (path : List ℕ) (s : ReadingState) (room : HasRoom r read path) → Since start read
      → AreOpen start opened → Follows read opened s → source_fault opened s path (Some room.bytes) ≡ None
  no_fault start read opened path s room since same_paths f =
      let same = same_open r start read since in
      let a : is_in_list path opened ≡ is_in_list path (open_files r read) = same_paths.listed path ∙ sym (ap (is_in_list path) same) in
      let b : length opened ≡ length (open_files r read) = same_paths.count ∙ sym (ap length same) in
      rw (a, b, f.files, f.bytes)
      (faultless_for TREE_KINDS MACRO_KINDS (is_in_list path (open_files r read)) true (length (open_files r read)) (length (files_read r read))
      (sum_by (size_in r) (files_read r read) + length room.bytes) room.no_fault)

  -- the state where a source begins
  source_begins : (start read : List Group) (opened : List (List ℕ)) (position : Position) (path : List ℕ) (s : ReadingState) (room : HasRoom r read path)
      → Follows read opened s → Follows (group_at position path read ∷ read) (path ∷ opened) (counted (length room.bytes) s)
  source_begins start read opened position path s room f =
      let paths = filter_map sourced_path read in
      let size : size_in r path ≡ length room.bytes = ap (λ o. length (elim o as (λ _. List ℕ) [ None ↦ [] | Some bytes ↦ bytes ])) room.there in
      let before = sum_by-cons (size_in r) r.root paths in
      let after = sum_by-cons (size_in r) r.root (path ∷ paths) in
      let inner = sum_by-cons (size_in r) path paths in
      record {
        own = f.own;
        files = omega (arith, f.files);
        bytes = omega (arith, f.bytes, size, before, after, inner);
        keys_are = λ x. more_of (has_key s.expanded x) (bytes_eq path x) (is_in_list x opened) (bytes_eq r.root x) (is_in_list x paths) (f.keys_are x);
      }

  source_opens : (start read : List Group) (opened : List (List ℕ)) (at : Position) (path : List ℕ) → Since start read → AreOpen start opened
      → AreOpen (group_at at path read ∷ read) (path ∷ opened)
  source_opens start read opened at path since same_paths =
      let same = same_open r start read since in
      record {
        listed = λ x. ap (λ b. bytes_eq path x || b) (same_paths.listed x ∙ sym (ap (is_in_list x) same))
            ∙ swap_first (bytes_eq path x) (bytes_eq r.root x) (is_in_list x (filter_map sourced_path (open_blocks 0 read)));
        count = ap suc (same_paths.count ∙ sym (ap length same));
      }
    where
      swap_first : (a b c : Bool) → (a || (b || c)) ≡ (b || (a || c))
      swap_first = swap

  reads_both : (n : ℕ) (start : List Group) (opened : List (List ℕ)) → n + length opened ≡ MAX_OPEN_FILES → AreOpen start opened
      → ReadsBoth start opened (read_whole_file n r) (source_read (suc n) r.root opened)
  reads_both zero start opened full same_paths at position path read s since f e h =
      let room = has_room r read path e in
      absurd (omega (arith, room.few_open, full, same_paths.count, ap length (same_open r start read since)))
  reads_both (suc n) start opened full same_paths at position path read s since f e h =
      let room = has_room r read path e in
      let inner : Reading = read_whole_file (suc n) r path (group_at position path read ∷ read) in
      let other : bytes_eq path r.root ≡ false = turned path r.root ∙ neither_first (bytes_eq r.root path)
      (is_in_list path (filter_map sourced_path (open_blocks 0 read))) room.closed in
      let deeper : SourceReader = source_read (suc n) r.root (path ∷ opened) in
      let follows = source_begins start read opened position path s room f in
      let nested : ReadsBoth (group_at position path read ∷ read) (path ∷ opened) (read_whole_file n r) deeper =
      reads_both n (group_at position path read ∷ read) (path ∷ opened) (omega (arith, full))
      (source_opens start read opened position path since same_paths) in
      subst (λ o. Gives w (IsRead path inner.read opened) (sourced_read deeper r.root opened at (one_file path) s o)) (sym (among path room.bytes room.there))
      (subst (λ x. Gives w (IsRead path inner.read opened) (elim x as (λ z. Program Progress) [
        | Some kind ↦ fault at kind []
        | None ↦ contents_read deeper at (one_file path) (Some room.bytes) s >>= λ p. returns (stored_file r.root path p)
      ]))
      (sym (no_fault start read opened path s room since same_paths f))
      (gives_both w (IsRead room.bytes inner.read (path ∷ opened)) (IsRead path inner.read opened)
      (lines_read deeper path 0 1 (split_at_newlines room.bytes) (counted (length room.bytes) s)) (λ p. returns (stored_file r.root path p))
      (file_lines n (group_at position path read ∷ read) (path ∷ opened) deeper path room.bytes (counted (length room.bytes) s) refl
      ((λ c. cc), since.matched) room.there follows nested h)
      (λ p q. kept_follows path room.bytes room.there other inner.read opened p q)))

  -- the whole tree
  record IsTree (read : List Group) (fs : List ExpandedFile) : Type 0 where
    own : AreFilesIn fs
    keys_are : (path : List ℕ) → has_key fs path ≡ is_in_list path (files_read r read)

  root_gives : (bytes : List ℕ) → r.bytes r.root ≡ Some bytes → (read_root r (Some bytes)).fault ≡ None
      → Gives w (IsTree (read_root r (Some bytes)).read) (root_read r.root initial_state (Some bytes))
  root_gives bytes there h = by_test (nat_lt MAX_TREE_BYTES (length bytes)) h
    where
      whole : Reading
      whole = read_whole_file (suc 31) r r.root []

      deeper : SourceReader
      deeper = source_read MAX_OPEN_FILES r.root (r.root ∷ [])

      begins : Follows [] (r.root ∷ []) (counted (length bytes) initial_state)
      begins =
          let size : size_in r r.root ≡ length bytes = ap (λ o. length (elim o as (λ _. List ℕ) [ None ↦ [] | Some bytes ↦ bytes ])) there in
          record { own = no_files_in; files = refl; bytes = omega (arith, size, sum_by-cons (size_in r) r.root []); keys_are = λ path. refl }

      lines : whole.fault ≡ None → Gives w (IsRead bytes whole.read (r.root ∷ []))
          (lines_read deeper r.root 0 1 (split_at_newlines bytes) (counted (length bytes) initial_state))
      lines h = file_lines 31 [] (r.root ∷ []) deeper r.root bytes (counted (length bytes) initial_state) refl tt there begins
          (reads_both 31 [] (r.root ∷ []) refl (record { listed = λ path. refl; count = refl })) h

      by_test : (b : Bool) → (cond b (record { read = []; fault = Some (record { file = Some (r.number r.root); line = 0; kind = TooMany }) })
          whole).fault ≡ None
          → Gives w (IsTree (cond b (record { read = []; fault = Some (record { file = Some (r.number r.root); line = 0; kind = TooMany }) }) whole).read)
          (elim b as (λ z. Program (List ExpandedFile)) [
            | true ↦ fault (place r.root 0) kinds.TooMany []
            | false ↦ lines_read deeper r.root 0 1 (split_at_newlines bytes) (counted (length bytes) initial_state) >>= λ p. returns
                (p.state.expanded ++ record { key = r.root; path = r.root; text = p.text } ∷ [])
          ])
      by_test true h = let z : ⊥ = cc in absurd z
      by_test false h =
          gives_both w (IsRead bytes whole.read (r.root ∷ [])) (IsTree whole.read)
          (lines_read deeper r.root 0 1 (split_at_newlines bytes) (counted (length bytes) initial_state))
          (λ p. returns (p.state.expanded ++ record { key = r.root; path = r.root; text = p.text } ∷ [])) (lines h)
          (λ p q. record {
            own = one_more_in p.state.expanded (record { key = r.root; path = r.root; text = p.text }) q.state.own
                (record { key = refl; text = there ∙ ap Some (sym q.text) });
            keys_are = λ path. list_any-append (λ (f : ExpandedFile). bytes_eq f.key path) p.state.expanded
                (record { key = r.root; path = r.root; text = p.text } ∷ []) ∙ q.state.keys_are path;
          })

  tree_gives : (o : Option (List ℕ)) → r.bytes r.root ≡ o → (read_root r o).fault ≡ None → Gives w (IsTree (read_root r o).read) (tree_read r.root)
  unfolding tree_read
  tree_gives None there h = let z : ⊥ = cc in absurd z
  tree_gives (Some bytes) there h = subst (λ o. Gives w (IsTree (read_root r (Some bytes)).read) (root_read r.root initial_state o))
      (sym (among r.root bytes there)) (root_gives bytes there h)

no_fault_read : (k : Option TreeFault) (t : Option TreeFault) → option_or k t ≡ None → k ≡ None
no_fault_read None t h = refl
no_fault_read (Some f) t h = let z : ⊥ = cc in absurd z

module _ (w : World) (files : Files) (root : List ℕ) (among : AreAmong (file_at files) w.bytes) where
  abbrev origin : FileSource
  origin = record { language = files.language; bytes = file_at files; number = index_of_file files; root = root }

  all_in : {fs : List ExpandedFile} → AreFilesIn w origin among fs → All (IsFileOf files) fs
  all_in no_files_in = All-nil (IsFileOf files)
  all_in (next_file_in {f = f} {fs = fs} h t) = All-cons (IsFileOf files) f fs (record { key = h.key; text = h.text }) (all_in t)

  -- the texts of files by their keys
  texts_in : {fs : List ExpandedFile} → AreFilesIn w origin among fs → (path : List ℕ) → text_of_key fs path ≡ cond (has_key fs path) (file_at files path) None
  texts_in no_files_in path = refl
  texts_in (next_file_in {f = f} {fs = fs} h t) path = by_test (bytes_eq f.key path) refl (texts_in t path)
    where
      by_test : (b : Bool) → bytes_eq f.key path ≡ b → text_of_key fs path ≡ cond (has_key fs path) (file_at files path) None
          → text_of_key (f ∷ fs) path ≡ cond (bytes_eq f.key path || has_key fs path) (file_at files path) None
      by_test true e ih =
          let same : f.path ≡ path = sym h.key ∙ same_text f.key path e in
          ap (λ b. cond b (Some f.text) (text_of_key fs path)) (turned path f.key ∙ e) ∙ sym h.text ∙ ap (file_at files) same
          ∙ sym (ap (λ b. cond (b || has_key fs path) (file_at files path) None) e)
      by_test false e ih =
          ap (λ b. cond b (Some f.text) (text_of_key fs path)) (turned path f.key ∙ e) ∙ ih
          ∙ sym (ap (λ b. cond (b || has_key fs path) (file_at files path) None) e)

  pub unfolded_none : first_tree_fault files root ≡ None → (reading files root).fault ≡ None
  unfolding first_tree_fault
  unfolded_none h = no_fault_read (reading files root).fault _ h

  tree_read_gives : first_tree_fault files root ≡ None → Gives w (IsTree w origin among (reading files root).read) (tree_read root)
  unfolding reading
  tree_read_gives h = tree_gives w origin among (file_at files root) refl (unfolded_none h)

pub accepted_trees_stay : AcceptedTreesStay
unfolding expansion
accepted_trees_stay w files root h among =
    let r = origin w files root among in
    let q = silent_outcome w (IsTree w r among (reading files root).read) true MAX_WORK (tree_read root) (tree_read_gives w files root among h) in
    record {
      notices = q.notices;
      questions = q.questions;
      work = q.work;
      expanded = q.value;
      ending = q.ending;
      own = all_in w files root among q.holds.own;
      keys_are = q.holds.keys_are;
      texts = λ path. texts_in w files root among q.holds.own path ∙ ap (λ b. cond b (file_at files path) None) (q.holds.keys_are path);
    }

-- the expansion of a tree that the reader accepts asks no question
pub accepted_trees_want_nothing : AcceptedTreesWantNothing
unfolding wanted
accepted_trees_want_nothing w files root h among =
    let r = origin w files root among in
    let q = silent_outcome w (IsTree w r among (reading files root).read) false MAX_WORK (tree_read root) (tree_read_gives w files root among h) in
    ap (λ qs. questions_or_fault (without_answer w (without_repeats (reverse qs))) (outcome false w MAX_WORK (tree_read root)).ending) q.questions
    ∙ ap (questions_or_fault []) q.ending
