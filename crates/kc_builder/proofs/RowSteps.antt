-- The rows of symbols are those of what was read.
use Rattle.kc_builder.proofs.Common.{◌≡◌, inl, ℕ, suc, ◌+◌, ◌<◌, ◌≤◌, List, [], ◌∷◌, ◌++◌, length, get_or, drop, map, refl, ap, sym, ◌∙◌, arith, append_assoc, append-nil, slice_get, flat_map, unwrap_or, option_map, All, drop-cons, drop-length, Exprs, Group, GroupInContext, groups_in_context}
use Rattle.kc_builder.proofs.Common.{contents_of, defines, definitions_of, names_defined, Has, text_of_name, Listing, as_many_names, row_of_symbol, rows_of_symbols, IsRowOf, AreRowsOf, IsRepresented, SymbolRow, SymbolSummary, CodeGroup, CodeLine}
use Rattle.std.proofs.lemmas.Option.{slice_get-get_or}
use Rattle.kc_tree_model.specs.Contents.{kind_in_tree, type_given}
use Rattle.kc_tree_model.proofs.Consistency.Lists.{has-filter}
use Rattle.kc_tree_model.proofs.Consistency.Places.{group-placed}
use Rattle.kc_parser.specs.between.ListingView.{RepresentsLists, RepresentsListing}
use Rattle.kc_builder.specs.checker.Rows.{place_of_group, place_of_group_number}
use Rattle.kc_checks.specs.between.Summaries.{no_group, summary_in, symbol_summaries, number_at, AreSymbolSummaries}
use Rattle.kc_checks.proofs.GroupPlaces.{IsNumbered, numbered}
use Rattle.kc_checks.proofs.Symbols.{choice_is, as_many_symbols}

module _ (e : Exprs) (symbols numbers : List ℕ) (texts : List (List ℕ)) (lines : List CodeLine) (groups : List CodeGroup) (read : List Group)
    (h : RepresentsLists e symbols numbers texts lines groups read) where
  -- the place of the first of some places
  abbrev Kept : List GroupInContext → Type 0
  Kept ds = (p : GroupInContext) → Has p ds → IsNumbered e (names_defined read) texts lines groups read p.group

  file_of_first : (ds : List GroupInContext) → Kept ds → (place_of_group_number groups (slice_get (flat_map number_at ds) 0)).0
      ≡ unwrap_or (option_map (λ (g : Group). g.at.file) (option_map (λ (p : GroupInContext). p.group) (slice_get ds 0))) 0
  file_of_first [] k = refl
  file_of_first (p ∷ ds) k =
      let q = k p (inl refl) in ap (λ o. (place_of_group o).0) (slice_get-get_or groups p.group.number no_group q.below) ∙ sym q.shown.file_is

  line_of_first : (ds : List GroupInContext) → Kept ds → (place_of_group_number groups (slice_get (flat_map number_at ds) 0)).1
      ≡ unwrap_or (option_map (λ (g : Group). g.at.line) (option_map (λ (p : GroupInContext). p.group) (slice_get ds 0))) 0
  line_of_first [] k = refl
  line_of_first (p ∷ ds) k =
      let q = k p (inl refl) in ap (λ o. (place_of_group o).1) (slice_get-get_or groups p.group.number no_group q.below) ∙ sym q.shown.line_is

  definition_kept : (name : List ℕ) → Kept (definitions_of (contents_of read) name)
  definition_kept name = λ p k.
      numbered e (names_defined read) texts lines groups read h.groups_are p.group
      (group-placed p read (has-filter (defines name) (groups_in_context read) p k).0)

  row_is : (name : List ℕ) (id : ℕ) → id < length e.names → text_of_name e id ≡ name
      → IsRowOf e (contents_of read) name (row_of_symbol groups id (summary_in (contents_of read) (groups_in_context read) name))
  row_is name id l w = record {
    held = l;
    name_is = w;
    kind_is = ap (λ o. kind_in_tree o (type_given (contents_of read) name)) (choice_is read name);
    file_is = file_of_first (definitions_of (contents_of read) name) (definition_kept name);
    line_is = line_of_first (definitions_of (contents_of read) name) (definition_kept name);
    choice_is = choice_is read name;
  }

  rows_are : (names : List (List ℕ)) (ids : List ℕ) → map (text_of_name e) ids ≡ names → All (λ id. id < length e.names) ids
      → AreRowsOf e (contents_of read) names (rows_of_symbols groups ids (map (summary_in (contents_of read) (groups_in_context read)) names))
  rows_are [] [] w l = tt
  rows_are [] (id ∷ ids) w l = cc
  rows_are (name ∷ names) [] w l = cc
  rows_are (name ∷ names) (id ∷ ids) w l =
      let here : text_of_name e id ≡ name = cc in
      let rest : map (text_of_name e) ids ≡ names = cc in
      (row_is name id (l 0 id (omega arith)) here, rows_are names ids rest (λ k d i. l (suc k) d (omega arith)))

  pub rows_shown : (known : List SymbolSummary) (rows : List SymbolRow) → known ≡ symbol_summaries (contents_of read) (groups_in_context read)
      → rows ≡ rows_of_symbols groups symbols known → AreRowsOf e (contents_of read) (names_defined read) rows
  rows_shown known rows a r = rw (r, a) (rows_are (names_defined read) symbols h.names.words h.names.held)

-- the row of symbol `s` appended to the rows before it, with those of all later symbols, gives the rows of all symbols
pub row_more : (groups : List CodeGroup) (ids : List ℕ) (known : List SymbolSummary) (rows rows2 : List SymbolRow) (s d : ℕ) (b : SymbolSummary)
    → s < length ids
    → s < length known
    → rows ++ rows_of_symbols groups (drop s ids) (drop s known) ≡ rows_of_symbols groups ids known
    → rows2 ≡ rows ++ row_of_symbol groups (get_or ids s d) (get_or known s b) ∷ []
    → rows2 ++ rows_of_symbols groups (drop (s + 1) ids) (drop (s + 1) known) ≡ rows_of_symbols groups ids known
row_more groups ids known rows rows2 s d b l m h e =
    let n : s + 1 ≡ suc s = omega arith in
    let i : drop (s + 1) ids ≡ drop (suc s) ids = ap (λ k. drop k ids) n in
    let j : drop (s + 1) known ≡ drop (suc s) known = ap (λ k. drop k known) n in
    rw (e, i, j) (append_assoc rows (row_of_symbol groups (get_or ids s d) (get_or known s b) ∷ [])
    (rows_of_symbols groups (drop (suc s) ids) (drop (suc s) known))
    ∙ ap (λ rest. rows ++ rest) (sym (ap (λ xs. rows_of_symbols groups xs (drop s known)) (drop-cons ids s d l)
    ∙ ap (rows_of_symbols groups (get_or ids s d ∷ drop (suc s) ids)) (drop-cons known s b m))) ∙ h)

pub rows_all : (groups : List CodeGroup) (ids : List ℕ) (known : List SymbolSummary) (rows : List SymbolRow) (s : ℕ) → length ids ≤ s → s ≤ length ids
    → rows ++ rows_of_symbols groups (drop s ids) (drop s known) ≡ rows_of_symbols groups ids known → rows ≡ rows_of_symbols groups ids known
rows_all groups ids known rows s a b h =
    let e : s ≡ length ids = omega arith in
    sym (append-nil rows) ∙ ap (λ xs. rows ++ xs) (sym (ap (λ n. rows_of_symbols groups (drop n ids) (drop s known)) e
    ∙ ap (λ xs. rows_of_symbols groups xs (drop s known)) (drop-length ids))) ∙ h

-- a listing has as many symbol summaries as symbols
pub as_many : (l : Listing) (known : List SymbolSummary) → IsRepresented l → AreSymbolSummaries l known → length known ≡ length l.names.symbols.items
unfolding RepresentsListing
as_many l known s a =
    as_many_symbols s.read known (a s.read s.shows) ∙ sym (as_many_names l.names.arena l.names.symbols.items l.names.numbers.items (names_defined s.read)
    s.shows.names)
