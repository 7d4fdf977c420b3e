-- A full file, entry by entry.
use Rattle.std.proofs.Common.{◌||◌, append_assoc}
use Rattle.std.specs.Prelude.{nat_eq, slice_index_or, slice_set}
use Rattle.std.specs.List.{list_any}
use Rattle.std.proofs.lemmas.Bool.{cases_Bool, eqb-true, eq-eqb, false≢true}
use Rattle.std.proofs.lemmas.List.{get_or-set_same, get_or-set_other, get_or-replicate}
use Rattle.std.proofs.lemmas.Option.{slice_get_within, unwrap_or-slice_get}
use Rattle.std.proofs.Math.Seq.{drop-cons}
use Rattle.kc_expr.specs.Expr.{Expr}
use Rattle.kc_tree_model.specs.Trees.{Entry, definition, menu_begins, menu_ends, comment}
use Rattle.kc_minimal.proofs.Common.{◌≡◌, inl, inr, ℕ, suc, ◌<◌, ◌+◌, Bool, true, false, not, ◌&&◌, cond, List, [], ◌∷◌, ◌++◌, length, drop, replicate, Some, refl, sym, ◌∙◌, ap, arith, slice_get, unwrap_or, append-nil, Tree, UnitValue, is_written, ended_line, full_file, Draft, IsDraft, FileFormat}
use Rattle.kc_minimal_model.specs.FullFile.{heading, end_line, applies}
use Rattle.kc_minimal_model.specs.between.EntryTexts.{entry_texts}
use Rattle.kc_minimal_model.proofs.EntryTexts.{full_file_by_entry}

-- a text that an entry adds if it is shown, with the text of the entries after it, is the same whether it is joined before or
-- after the test
shown_or_not : (shown : Bool) (added : List ℕ) (rest : Bool → List ℕ) (behind before : Bool)
    → cond shown (added ++ rest behind) (rest before) ≡ cond shown added [] ++ rest (cond shown behind before)
shown_or_not true added rest behind before = refl
shown_or_not false added rest behind before = refl

module _ (format : FileFormat) (tree : Tree) (values : List UnitValue) (left : List Entry) (old new : Draft) where
  -- what an entry that defines no symbol appends, if it is shown
  appended : (entry : Entry) (added : List ℕ) (gap shown : Bool)
      → ((seen : List ℕ) → entry_texts format tree values seen old.gap (entry ∷ left) ≡ cond shown (added ++ entry_texts format tree values seen gap left)
      (entry_texts format tree values seen old.gap left))
      → new.text.items ≡ old.text.items ++ cond shown added [] → new.gap ≡ cond shown gap old.gap → new.defined.items ≡ old.defined.items
      → IsDraft format tree values (entry ∷ left) old → IsDraft format tree values left new
  appended entry added gap shown adds text behind defined d =
      let written = cond shown added [] in
      record {
        seen = d.seen;
        marked = λ s b. ap (λ ds. slice_index_or ds s false) defined ∙ d.marked s b;
        whole = ap (λ t. t ++ entry_texts format tree values d.seen new.gap left) text
            ∙ append_assoc old.text.items written (entry_texts format tree values d.seen new.gap left)
            ∙ ap (λ g. old.text.items ++ (written ++ entry_texts format tree values d.seen g left)) behind
            ∙ sym (ap (λ p. old.text.items ++ p) (adds d.seen ∙ shown_or_not shown added (λ g. entry_texts format tree values d.seen g left) gap old.gap))
            ∙ d.whole;
      }

  pub menu_begun : (title : List ℕ) (dependency visible : Expr) (shown : Bool) → shown ≡ (applies tree values dependency && applies tree values visible)
      → new.text.items ≡ old.text.items ++ cond shown (heading format.prefix title) [] → new.gap ≡ cond shown false old.gap
      → new.defined.items ≡ old.defined.items
      → IsDraft format tree values (menu_begins title dependency visible ∷ left) old → IsDraft format tree values left new
  menu_begun title dependency visible shown e = appended (menu_begins title dependency visible) (heading format.prefix title) false shown
      (λ seen. sym (ap (λ t. cond t (heading format.prefix title ++ entry_texts format tree values seen false left)
      (entry_texts format tree values seen old.gap left))
      e))

  pub menu_ended : (title : List ℕ) (dependency visible : Expr) (shown : Bool) → shown ≡ (applies tree values dependency && applies tree values visible)
      → new.text.items ≡ old.text.items ++ cond shown (end_line title) [] → new.gap ≡ cond shown true old.gap → new.defined.items ≡ old.defined.items
      → IsDraft format tree values (menu_ends title dependency visible ∷ left) old → IsDraft format tree values left new
  menu_ended title dependency visible shown e = appended (menu_ends title dependency visible) (end_line title) true shown
      (λ seen. sym (ap (λ t. cond t (end_line title ++ entry_texts format tree values seen true left) (entry_texts format tree values seen old.gap left)) e))

  pub commented : (title : List ℕ) (dependency : Expr) (shown : Bool) → shown ≡ applies tree values dependency
      → new.text.items ≡ old.text.items ++ cond shown (heading format.prefix title) [] → new.gap ≡ cond shown false old.gap
      → new.defined.items ≡ old.defined.items
      → IsDraft format tree values (comment title dependency ∷ left) old → IsDraft format tree values left new
  commented title dependency shown e = appended (comment title dependency) (heading format.prefix title) false shown
      (λ seen. sym (ap (λ t. cond t (heading format.prefix title ++ entry_texts format tree values seen false left)
      (entry_texts format tree values seen old.gap left))
      e))

-- marking a symbol makes the marks those of the symbols seen with this one more
marked_more : (n : ℕ) (xs : List Bool) (seen : List ℕ) (s : ℕ) → s < length xs → ((t : ℕ) → t < n → slice_index_or xs t false ≡ list_any (nat_eq t) seen)
    → (t : ℕ) → t < n → slice_index_or (slice_set xs s true) t false ≡ list_any (nat_eq t) (s ∷ seen)
marked_more n xs seen s below marks t within = elim (cases_Bool (nat_eq t s)) [
  | inl same ↦
      let e : t ≡ s = eqb-true t s same in
      ap (λ k. slice_index_or (slice_set xs s true) k false) e ∙ get_or-set_same xs s true false below ∙ sym (ap (λ b. b || list_any (nat_eq t) seen) same)
  | inr other ↦
      get_or-set_other xs s t true false (λ e. false≢true (sym other ∙ eq-eqb t s e)) ∙ marks t within ∙ sym (ap (λ b. b || list_any (nat_eq t) seen) other)
]

module _ (format : FileFormat) (tree : Tree) (values : List UnitValue) (left : List Entry) (old new : Draft) (s : ℕ) (there : s < length tree.symbols)
    (marks : length old.defined.items ≡ length tree.symbols)
    (defined : new.defined.items ≡ slice_set old.defined.items s true) where
  marked_now : (d : IsDraft format tree values (definition s ∷ left) old) (t : ℕ) → t < length tree.symbols
      → slice_index_or new.defined.items t false ≡ list_any (nat_eq t) (s ∷ d.seen)
  marked_now d t within =
      ap (λ ds. slice_index_or ds t false) defined ∙ marked_more (length tree.symbols) old.defined.items d.seen s (omega (arith, marks, there)) d.marked t
      within

  -- a definition is written if no mark has its symbol
  definition_pieces : (d : IsDraft format tree values (definition s ∷ left) old) (b : Bool)
      → (is_written tree values s && not (slice_index_or old.defined.items s false)) ≡ b
      → entry_texts format tree values d.seen old.gap (definition s ∷ left)
      ≡ cond b (cond old.gap (10 ∷ ended_line format tree values s) (ended_line format tree values s) ++ entry_texts format tree values (s ∷ d.seen) false left)
      (entry_texts format tree values (s ∷ d.seen) old.gap left)
  definition_pieces d b e =
      ap (λ t. cond t (cond old.gap (10 ∷ ended_line format tree values s) (ended_line format tree values s) ++ entry_texts format tree values (s ∷ d.seen)
      false left) (entry_texts format tree values (s ∷ d.seen) old.gap left))
      (ap (λ m. is_written tree values s && not m) (sym (d.marked s there)) ∙ e)

  pub symbol_written : (is_written tree values s && not (slice_index_or old.defined.items s false)) ≡ true
      → new.text.items ≡ old.text.items ++ cond old.gap (10 ∷ ended_line format tree values s) (ended_line format tree values s) → new.gap ≡ false
      → IsDraft format tree values (definition s ∷ left) old → IsDraft format tree values left new
  symbol_written e text gap d =
      let written = cond old.gap (10 ∷ ended_line format tree values s) (ended_line format tree values s) in
      record {
        seen = s ∷ d.seen;
        marked = marked_now d;
        whole = ap (λ t. t ++ entry_texts format tree values (s ∷ d.seen) new.gap left) text
            ∙ append_assoc old.text.items written (entry_texts format tree values (s ∷ d.seen) new.gap left)
            ∙ ap (λ g. old.text.items ++ (written ++ entry_texts format tree values (s ∷ d.seen) g left)) gap
            ∙ sym (ap (λ p. old.text.items ++ p) (definition_pieces d true e)) ∙ d.whole;
      }

-- a line that comes after an empty one where the last line ends a menu
pub after_gap : (gap : Bool) (old mid new line : List ℕ) → mid ≡ cond gap (old ++ 10 ∷ []) old → new ≡ mid ++ line → new ≡ old ++ cond gap (10 ∷ line) line
after_gap true old mid new line m n = n ∙ ap (λ t. t ++ line) m ∙ append_assoc old (10 ∷ []) line
after_gap false old mid new line m n = n ∙ ap (λ t. t ++ line) m

-- the entries of a tree from place `i` on are the entry at `i` and the entries from the next place on
pub next_left : (entries : List Entry) (i : ℕ) (entry : Entry) → slice_get entries i ≡ Some entry → drop i entries ≡ entry ∷ drop (i + 1) entries
next_left entries i entry at =
    let next : suc i ≡ i + 1 = omega arith in
    drop-cons entries i entry (slice_get_within entries i entry at) ∙ ap (λ e. e ∷ drop (suc i) entries)
    (sym (unwrap_or-slice_get entries i entry) ∙ ap (λ o. unwrap_or o entry) at) ∙ ap (λ k. entry ∷ drop k entries) next

-- an empty text with no symbol marked is the draft of the full file to which all entries are left
pub begun : (format : FileFormat) (tree : Tree) (values : List UnitValue) (draft : Draft) → draft.text.items ≡ []
    → draft.defined.items ≡ replicate (length tree.symbols) false → draft.gap ≡ false → IsDraft format tree values tree.entries draft
begun format tree values draft text defined gap = record {
  seen = [];
  marked = λ s b. ap (λ ds. slice_index_or ds s false) defined ∙ get_or-replicate (length tree.symbols) s false false b;
  whole = ap (λ t. t ++ entry_texts format tree values [] draft.gap tree.entries) text ∙ ap (λ g. entry_texts format tree values [] g tree.entries) gap
      ∙ sym (full_file_by_entry format tree values);
}

-- the text of a draft to which no entry is left is the full file
pub written : (format : FileFormat) (tree : Tree) (values : List UnitValue) (draft : Draft) (left : List Entry) → left ≡ []
    → IsDraft format tree values left draft
    → draft.text.items ≡ full_file format tree values
written format tree values draft left none d =
    sym (append-nil draft.text.items) ∙ sym (ap (λ l. draft.text.items ++ entry_texts format tree values d.seen draft.gap l) none) ∙ d.whole
