-- The full file is what is written entry by entry.
use Rattle.kc_minimal_model.proofs.Common.{◌≡◌, ℕ, Bool, true, false, not, ◌&&◌, ◌||◌, cond, List, [], ◌∷◌, ◌++◌, refl, sym, ◌∙◌, ap, nat_eq, list_any, Tree, Entry, definition, choice_begins, menu_begins, menu_ends, comment, UnitValue, is_written, ended_line, heading, end_line, defines, full_file}
use Rattle.kc_minimal_model.proofs.Common.{entry_texts, FileFormat}
use Rattle.kc_minimal_model.specs.FullFile.{is_entry_written, is_menu_end, ends_with_menu, empty_line_before, texts_added}

-- a symbol's line after an empty line, or without one
spaced : (gap : Bool) (line : List ℕ) → cond gap (10 ∷ []) [] ++ line ≡ cond gap (10 ∷ line) line
spaced true line = refl
spaced false line = refl

-- an entry that is written adds its text, any other nothing
adds : (written : Bool) (text : List ℕ) (then_gap gap : Bool) (rest : Bool → List ℕ) (after : List ℕ) → after ≡ rest (cond written then_gap gap)
    → cond written text [] ++ after ≡ cond written (text ++ rest then_gap) (rest gap)
adds true text then_gap gap rest after e = ap (λ r. text ++ r) e
adds false text then_gap gap rest after e = e

module _ (format : FileFormat) (tree : Tree) (values : List UnitValue) where
  -- the symbols that were defined, and whether a menu's end was written last, are those of the entries before
  abbrev Agrees : List Entry → List ℕ → Bool → Type 0
  Agrees before seen gap = ((s : ℕ) → list_any (nat_eq s) seen ≡ list_any (defines s) before) × (ends_with_menu tree values before ≡ gap)

  agrees_after : (e : Entry) (before : List Entry) (seen : List ℕ) (gap : Bool) → ((s : ℕ) → list_any (nat_eq s) seen ≡ list_any (defines s) (e ∷ before))
      → ends_with_menu tree values before ≡ gap
      → Agrees (e ∷ before) seen (cond (is_entry_written tree values before e) (is_menu_end e) gap)
  agrees_after e before seen gap marks ends = (marks, ap (λ g. cond (is_entry_written tree values before e) (is_menu_end e) g) ends)

  same_texts : (entries before : List Entry) (seen : List ℕ) (gap : Bool) → Agrees before seen gap → texts_added format tree values before entries
      ≡ entry_texts format tree values seen gap entries
  same_texts [] before seen gap a = refl
  same_texts (definition s ∷ entries) before seen gap a =
      let written = is_entry_written tree values before (definition s) in
      let line = ended_line format tree values s in
      let rest : Bool → List ℕ = λ g. entry_texts format tree values (s ∷ seen) g entries in
      adds written (empty_line_before tree values before (definition s) ++ line) false gap rest (texts_added format tree values (definition s ∷ before) entries)
      (same_texts entries (definition s ∷ before) (s ∷ seen) (cond written false gap)
      (agrees_after (definition s) before (s ∷ seen) gap (λ t. ap (λ b. nat_eq t s || b) (a.0 t)) a.1))
      ∙ ap (λ t. cond written (t ++ rest false) (rest gap)) (ap (λ g. cond g (10 ∷ []) [] ++ line) a.1 ∙ spaced gap line)
      ∙ ap (λ b. cond (is_written tree values s && not b) (cond gap (10 ∷ line) line ++ rest false) (rest gap)) (sym (a.0 s))
  same_texts (choice_begins c ∷ entries) before seen gap a = same_texts entries (choice_begins c ∷ before) seen gap a
  same_texts (menu_begins title dependency visible ∷ entries) before seen gap a =
      let e = menu_begins title dependency visible in
      adds (is_entry_written tree values before e) (heading format.prefix title) false gap (λ g. entry_texts format tree values seen g entries)
      (texts_added format tree values (e ∷ before) entries)
      (same_texts entries (e ∷ before) seen (cond (is_entry_written tree values before e) false gap) (agrees_after e before seen gap a.0 a.1))
  same_texts (menu_ends title dependency visible ∷ entries) before seen gap a =
      let e = menu_ends title dependency visible in
      adds (is_entry_written tree values before e) (end_line title) true gap (λ g. entry_texts format tree values seen g entries)
      (texts_added format tree values (e ∷ before) entries)
      (same_texts entries (e ∷ before) seen (cond (is_entry_written tree values before e) true gap) (agrees_after e before seen gap a.0 a.1))
  same_texts (comment title dependency ∷ entries) before seen gap a =
      let e = comment title dependency in
      adds (is_entry_written tree values before e) (heading format.prefix title) false gap (λ g. entry_texts format tree values seen g entries)
      (texts_added format tree values (e ∷ before) entries)
      (same_texts entries (e ∷ before) seen (cond (is_entry_written tree values before e) false gap) (agrees_after e before seen gap a.0 a.1))

  pub full_file_by_entry : full_file format tree values ≡ entry_texts format tree values [] false tree.entries
  full_file_by_entry = same_texts tree.entries [] [] false (λ s. refl, refl)
