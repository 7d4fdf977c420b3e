-- The collected lists represent the tree.
use Rattle.kc_builder.proofs.Common.{◌≡◌, ℕ, zero, suc, ◌+◌, ◌<◌, ◌≤◌, ◌^◌, Bool, true, false, cond, List, [], ◌∷◌, length, map, reverse, Option, Some, None, refl, ap, sym, subst, ◌∙◌, arith, All, filter, filter_map, flat_map, slice_get, option_to_list, option_and_then, cons_option, length-map}
use Rattle.kc_builder.proofs.Common.{All-append, All-cons, All-nil, Language, Exprs, index_of_name, Files, Group, defined_name, GroupInContext, Contents, contents_of, choice_number, names_defined, IsSound, faults_of_group, get_below, place-get, Listing, text_of_name, HasNoFaults, TreeModel}
use Rattle.kc_builder.proofs.Common.{member_default_view, IsReadIn, RepresentsAllConditions, choice_defaults_of, opens, IsChoiceRow, AreChoiceRows, AreAttributes, AreKeys, gathered_tree, items_of, IsRowOf, AreRowsOf, Summary, AreParts, GroupParts, ChoiceRow, SymbolRow, count_is}
use Rattle.kc_builder.proofs.Common.{reading, RepresentsListing}
use Rattle.kc_tree_model.specs.Trees as tree
use Rattle.kc_tree_model.specs.Contents.{begins_symbol, symbol_of, choice_of, tree_of_groups, tree_of_files}
use Rattle.kc_tree_model.proofs.Consistency.Definitions.{sound_contents, no_first, nothing_at}
use Rattle.kc_tree_model.proofs.Consistency.Consistent.{tree_is_consistent}
use Rattle.kc_tree_model.specs.TreeLookup.{IsConsistent}
use Rattle.kc_tree_model.proofs.Consistency.NameLimits.{few_symbols as few_defined}
use Rattle.kc_tree_model.proofs.Consistency.Places.{is_read}
use Rattle.kc_tree_model.specs.TreeFaults.{first_tree_fault, tree_faults}
use Rattle.kc_tree_model.proofs.Consistency.Lists.{map-get}
use Rattle.kc_tree_model.proofs.Consistency.Units.{number_is}
use Rattle.kc_builder.specs.checker.Assembly.{IsGathering, IsWalk, lists_from}
use Rattle.kc_conditions.specs.declared.listing_walk.WalkedListing.{WalkedListing}
use Rattle.kc_tree.specs.between.GatheredFits.{GatheredFit}
use Rattle.kc_tree.specs.between.GatheredView.{symbol_gathered, choice_gathered}
use Rattle.kc_tree.specs.between.StoredView.{from_rows}
use Rattle.kc_checks.specs.between.Summaries.{own_choice, member_in, members_at, member_keys_at, IsSummary, IsSummaryOf}
use Rattle.kc_tree.specs.declared.tree_lists.TreeLists.{TreeLists}
use Rattle.kc_checks.proofs.GroupPlaces.{placed_count}
use Rattle.kc_checks.proofs.MemberLaw.{own_members_are}
use Rattle.kc_checks.proofs.MemberMarks.{enclosing_below, keys_small}
use Rattle.std.proofs.lemmas.List.Sums.{count_by-le-length, length-filter}
use Rattle.std.specs.Global.{Vec}
use Rattle.kc_builder.proofs.UnitLaw.{unit_read, units_read, units_same}

-- symbols
module _ (language : Language) (g : TreeLists) (c : Contents) (a : AreAttributes language g.arena c g.attributes) where
  symbol_same : (s : ℕ) (name : List ℕ) (r : SymbolRow) → slice_get c.names s ≡ Some name → IsRowOf g.arena c name r → symbol_gathered g s r ≡ symbol_of language c name
  symbol_same s name r e h =
      rw (
        h.name_is,
        h.kind_is,
        h.file_is,
        h.line_is,
        h.choice_is,
        a.prompts_are s name e,
        a.defaults_are s name e,
        a.ranges_are s name e,
        a.selectors_are s
            name e,
        a.impliers_are s name e,
        a.direct_are s name e,
      ) refl

  symbols_from : (n : ℕ) (names : List (List ℕ)) (rows : List SymbolRow)
      → ((i : ℕ) (x : List ℕ) → slice_get names i ≡ Some x → slice_get c.names (n + i) ≡ Some x) → AreRowsOf g.arena c names rows
      → from_rows (symbol_gathered g) n rows ≡ map (symbol_of language c) names
  symbols_from n [] [] at h = refl
  symbols_from n [] (r ∷ rows) at h = absurd h
  symbols_from n (x ∷ names) [] at h = absurd h
  symbols_from n (x ∷ names) (r ∷ rows) at h =
      let here : slice_get c.names n ≡ Some x = ap (slice_get c.names) (let e : n ≡ n + 0 = omega arith in e) ∙ at 0 x refl in
      let rest = symbols_from (suc n) names rows (λ i y e. ap (slice_get c.names) (let m : suc n + i ≡ n + suc i = omega arith in m) ∙ at (suc i) y e) h.1 in
      ap (λ k. k ∷ from_rows (symbol_gathered g) (suc n) rows) (symbol_same n x r here h.0) ∙ ap (λ ks. symbol_of language c x ∷ ks) rest

  pub symbols_are : (rows : List SymbolRow) → AreRowsOf g.arena c c.names rows → from_rows (symbol_gathered g) 0 rows ≡ map (symbol_of language c) c.names
  symbols_are rows h = symbols_from 0 c.names rows (λ i x e. ap (slice_get c.names) (let m : 0 + i ≡ i = omega arith in m) ∙ e) h

as_many_rows : (e : Exprs) (c : Contents) (names : List (List ℕ)) (rows : List SymbolRow) → AreRowsOf e c names rows → length rows ≡ length names
as_many_rows e c [] [] h = refl
as_many_rows e c [] (r ∷ rows) h = absurd h
as_many_rows e c (x ∷ names) [] h = absurd h
as_many_rows e c (x ∷ names) (r ∷ rows) h = ap suc (as_many_rows e c names rows h.1)

rows_held : (e : Exprs) (c : Contents) (names : List (List ℕ)) (rows : List SymbolRow) → AreRowsOf e c names rows
    → All (λ (r : SymbolRow). r.name < length e.names) rows
rows_held e c [] [] h = All-nil (λ (r : SymbolRow). r.name < length e.names)
rows_held e c [] (r ∷ rows) h = absurd h
rows_held e c (x ∷ names) [] h = absurd h
rows_held e c (x ∷ names) (r ∷ rows) h = All-cons (λ (r : SymbolRow). r.name < length e.names) r rows h.0.held (rows_held e c names rows h.1)

-- choices
module _ (language : Language) (g : TreeLists) (c : Contents) (sound : IsSound c) (keys : g.members.keys.items ≡ flat_map (member_keys_at (own_choice c) c) c.places)
    (items : g.members.items.items ≡ flat_map (members_at (own_choice c) c) c.places)
    (d : (k : ℕ) → map (member_default_view g.arena) (items_of k g.member_defaults.keys.items g.member_defaults.items.items)
    ≡ elim (slice_get (filter opens c.places) k) as (λ _. List tree.MemberDefault) [ None ↦ [] | Some p ↦ (choice_of language c p).defaults ]) where
  members_same : (k : ℕ) (p : GroupInContext) → slice_get (filter opens c.places) k ≡ Some p
      → items_of k g.members.keys.items g.members.items.items ≡ (choice_of language c p).members
  members_same k p e =
      let number : choice_number c p.group.number ≡ Some k = number_is c sound p.group.number k
      (ap (λ ns. slice_get ns k) sound.choices ∙ map-get (λ (q : GroupInContext). q.group.number) (filter opens c.places) k p e) in
      ap (λ ks. items_of k ks g.members.items.items) keys
      ∙ ap (items_of k (flat_map (member_keys_at (own_choice c) c) c.places)) items
      ∙ own_members_are c k p.group.number number

  choice_same : (k : ℕ) (p : GroupInContext) (r : ChoiceRow) → slice_get (filter opens c.places) k ≡ Some p → IsChoiceRow language g.arena p r
      → choice_gathered g k r ≡ choice_of language c p
  choice_same k p r e h =
      let defaults : map (member_default_view g.arena) (items_of k g.member_defaults.keys.items g.member_defaults.items.items) ≡ (choice_of language c p).defaults =
      d k ∙ ap (λ o. elim o as (λ _. List tree.MemberDefault) [ None ↦ [] | Some q ↦ (choice_of language c q).defaults ]) e in
      rw (h.file_is, h.line_is, h.prompt_is, h.optional_is, members_same k p e, defaults) refl

  choices_from : (n : ℕ) (ps : List GroupInContext) (rows : List ChoiceRow)
      → ((i : ℕ) (p : GroupInContext) → slice_get ps i ≡ Some p → slice_get (filter opens c.places) (n + i) ≡ Some p) → AreChoiceRows language g.arena ps rows
      → from_rows (choice_gathered g) n rows ≡ map (choice_of language c) ps
  choices_from n [] [] at h = refl
  choices_from n [] (r ∷ rows) at h = absurd h
  choices_from n (p ∷ ps) [] at h = absurd h
  choices_from n (p ∷ ps) (r ∷ rows) at h =
      let here : slice_get (filter opens c.places) n ≡ Some p = ap (slice_get (filter opens c.places)) (let e : n ≡ n + 0 = omega arith in e) ∙ at 0 p refl in
      let rest = choices_from (suc n) ps rows (λ i y e. ap (slice_get (filter opens c.places)) (let m : suc n + i ≡ n + suc i = omega arith in m)
      ∙ at (suc i) y e) h.1 in
      ap (λ k. k ∷ from_rows (choice_gathered g) (suc n) rows) (choice_same n p r here h.0) ∙ ap (λ ks. choice_of language c p ∷ ks) rest

  pub choices_are : (rows : List ChoiceRow) → AreChoiceRows language g.arena (filter opens c.places) rows
      → from_rows (choice_gathered g) 0 rows ≡ map (choice_of language c) (filter opens c.places)
  choices_are rows h =
      choices_from 0 (filter opens c.places) rows (λ i p e. ap (slice_get (filter opens c.places)) (let m : 0 + i ≡ i = omega arith in m) ∙ e) h

as_many_choices : (language : Language) (e : Exprs) (ps : List GroupInContext) (rows : List ChoiceRow) → AreChoiceRows language e ps rows → length rows ≡ length ps
as_many_choices language e [] [] h = refl
as_many_choices language e [] (r ∷ rows) h = absurd h
as_many_choices language e (p ∷ ps) [] h = absurd h
as_many_choices language e (p ∷ ps) (r ∷ rows) h = ap suc (as_many_choices _ e ps rows h.1)

prompts_held : (language : Language) (e : Exprs) (ps : List GroupInContext) (rows : List ChoiceRow) → AreChoiceRows language e ps rows → (k i : ℕ) (r : ChoiceRow) → slice_get rows k ≡ Some r
    → r.prompt ≡ Some i → i < length e.nodes
prompts_held language e [] [] h k i r at is = cc
prompts_held language e [] (x ∷ rows) h k i r at is = absurd h
prompts_held language e (p ∷ ps) [] h k i r at is = absurd h
prompts_held language e (p ∷ ps) (x ∷ rows) h zero i r at is = let same : x ≡ r = cc in h.0.held i (ap (λ (y : ChoiceRow). y.prompt) same ∙ is)
prompts_held language e (p ∷ ps) (x ∷ rows) h (suc k) i r at is = prompts_held _ e ps rows h.1 k i r at is

-- members are symbols under choices
module _ (c : Contents) where
  below_one : (m n : ℕ) → n < m → All (λ s. s < m) (n ∷ [])
  below_one m n h = All-cons (λ s. s < m) n [] h (All-nil (λ s. s < m))

  place_fits : (o : Option ℕ) → ((n : ℕ) → o ≡ Some n → n < length c.names) → All (λ s. s < length c.names) (option_to_list o)
  place_fits None h = All-nil (λ s. s < length c.names)
  place_fits (Some n) h = below_one (length c.names) n (h n refl)

  named_fits : (x : Option (List ℕ)) (n : ℕ) → option_and_then (λ y. index_of_name y c.names) x ≡ Some n → n < length c.names
  named_fits None n e = cc
  named_fits (Some y) n e = get_below c.names n y (place-get y c.names n e)

  members_fit_at : (o : Option ℕ) (x : Option (List ℕ)) → All (λ s. s < length c.names) (member_in c o x)
  members_fit_at None x = All-nil (λ s. s < length c.names)
  members_fit_at (Some k) x = place_fits (option_and_then (λ y. index_of_name y c.names) x) (named_fits x)

  pub members_fit : (ps : List GroupInContext) → All (λ s. s < length c.names) (flat_map (members_at (own_choice c) c) ps)
  members_fit [] = All-nil (λ s. s < length c.names)
  members_fit (p ∷ ps) =
      All-append (λ s. s < length c.names) (members_at (own_choice c) c p) (flat_map (members_at (own_choice c) c) ps) (members_fit_at (own_choice c p) (defined_name p.group))
      (members_fit ps)

  own_fits : (b : Bool) (o : Option ℕ) (k : ℕ) → cond b (option_and_then (choice_number c) o) None ≡ Some k → k < length c.choices
  own_fits true o k e = enclosing_below c o k e
  own_fits false o k e = cc

keys_of_all : (n : ℕ) (ks : List ℕ) → All (λ k. k < n) ks → AreKeys n ks
keys_of_all n ks h i l = h i 0 l

-- few of few
few_mapped : {A B : Type 0} (f : A → Option B) (xs : List A) → length (filter_map f xs) ≤ length xs
few_mapped f [] = omega arith
few_mapped {A = A} {B = B} f (x ∷ xs) = by (f x) (few_mapped f xs)
  where
    by : (o : Option B) → length (filter_map f xs) ≤ length xs → length (cons_option o (filter_map f xs)) ≤ suc (length xs)
    by None h = omega (arith, h)
    by (Some y) h = omega (arith, h)

-- no fault is left
pub faultless_of : (language : Language) (read : List Group) → None ≡ slice_get (tree_faults language read) 0 → HasNoFaults read
faultless_of language read h = (language, no_first (tree_faults language read) (sym h))

-- a walk of what was read of files
pub walk_read : (language : Language) (l : Listing) (w : WalkedListing) (files : Files) (root : List ℕ) → IsReadIn language l files root → w.language ≡ language
    → ((read : List Group) → RepresentsListing l read → RepresentsListing w.listing read)
    → ((read : List Group) → RepresentsListing l read → RepresentsAllConditions language w.listing.names.arena w.listing.texts.items w.conditions.items
    (length w.conditions.items) (reverse w.groups.items) read) → IsWalk w files root
walk_read language l w files root k written shows walked = record {
  walk = record {
    shows = shows (reading files root).read k.shows;
    shown = subst (λ x. RepresentsAllConditions x w.listing.names.arena w.listing.texts.items w.conditions.items (length w.conditions.items)
        (reverse w.groups.items) (reading files root).read) k.written (walked (reading files root).read k.shows);
  };
  written = written ∙ k.written;
}

-- the whole, part by part
module _ (files : Files) (root : List ℕ) (language : Language) (l : Listing) (symbols : Vec SymbolRow) (parts : GroupParts) (summary : Summary)
    (language_is : language ≡ files.language) (shows : RepresentsListing l (reading files root).read)
    (s : AreRowsOf l.names.arena (contents_of (reading files root).read) (names_defined (reading files root).read) symbols.items)
    (k : AreParts files.language l (reading files root).read parts) (m : IsSummary (reading files root).read summary)
    (none : HasNoFaults (reading files root).read) (few : length l.groups.items < 2 ^ 32) where
  abbrev read : List Group
  read = (reading files root).read

  abbrev c : Contents
  c = contents_of (reading files root).read

  abbrev g : TreeLists
  g = lists_from language l symbols parts summary

  summed : IsSummaryOf c c.places summary
  unfolding IsSummary
  summed = m

  sound : IsSound c
  sound = sound_contents (reading files root).read (is_read files root)

  defaults_by : (o : Option GroupInContext) → choice_defaults_of files.language c o ≡ elim o as (λ _. List tree.MemberDefault)
      [ None ↦ [] | Some p ↦ (choice_of files.language c p).defaults ]
  defaults_by None = refl
  defaults_by (Some p) = refl

  defaults : (j : ℕ)
      → map (member_default_view g.arena) (items_of j g.member_defaults.keys.items g.member_defaults.items.items)
      ≡ elim (slice_get (filter opens c.places) j) as (λ _. List tree.MemberDefault) [ None ↦ [] | Some p ↦ (choice_of files.language c p).defaults ]
  defaults j = k.defaults.are j ∙ defaults_by (slice_get (filter opens c.places) j)

  units : g.units.items ≡ units_read c
  unfolding tree_faults
  units = summed.units ∙ units_same none.0 read sound (λ p h. nothing_at (faults_of_group none.0 c) c.places p none.1 h)

  pub whole : gathered_tree g ≡ tree_of_groups files.language read
  unfolding tree_of_groups
  whole =
      rw (
        symbols_are _ g c k.attributes g.symbols.items s,
        choices_are _ g c sound summed.own_members.member_keys summed.own_members.members defaults g.choices.items k.rows,
        k.entries,
        units,
        language_is,
      ) refl

  many_symbols : length g.symbols.items ≡ length c.names
  many_symbols = as_many_rows g.arena c c.names g.symbols.items s

  many_choices : length g.choices.items ≡ length c.choices
  many_choices =
      as_many_choices _ g.arena (filter opens c.places) g.choices.items k.rows
      ∙ sym (length-map (filter opens c.places) (λ (p : GroupInContext). p.group.number))

  many_names : length l.names.symbols.items ≡ length c.names
  unfolding RepresentsListing
  many_names = sym (length-map l.names.symbols.items (text_of_name l.names.arena)) ∙ ap length shows.names.words

  many_places : length c.places ≡ length l.groups.items
  unfolding RepresentsListing
  many_places = placed_count read ∙ sym (count_is l.names.arena (names_defined read) l.texts.items l.lines.items l.groups.items read shows.groups_are)

  few_choices : length g.choices.items < 2 ^ 32
  few_choices =
      omega (arith, length-filter opens c.places, count_by-le-length opens c.places, many_places, few, as_many_choices _ g.arena (filter opens c.places) g.choices.items k.rows)

  few_units : length g.units.items < 2 ^ 32
  few_units =
      let a = few_mapped (unit_read c) c.places in
      let n : length g.units.items ≡ length (units_read c) = ap length units in
      omega (arith, a, many_places, few, n)

  few_names : length c.names < 2 ^ 32
  unfolding tree_of_files tree_of_groups
  few_names = let n = few_defined files root in omega (arith, n, length-map c.names (symbol_of files.language c))

  pub fits : GatheredFit g
  fits = record {
    few_symbols = omega (arith, many_symbols, few_names);
    few_choices = few_choices;
    few_units = few_units;
    names = rows_held g.arena c c.names g.symbols.items s;
    keys = rw many_symbols k.attributes.keys;
    member_keys = rw (many_choices, summed.own_members.member_keys) (keys_of_all (length c.choices) (flat_map (member_keys_at (own_choice c) c) c.places) (keys_small c (own_choice c) (λ p j e. own_fits c (begins_symbol c p) p.choice j e) c.places));
    member_default_keys = rw many_choices k.defaults.keys;
    prompts = k.attributes.prompts_fit;
    defaults = k.attributes.defaults_fit;
    ranges = k.attributes.ranges_fit;
    bounds = k.attributes.bounds_fit;
    selectors = rw many_symbols k.attributes.selectors_fit;
    impliers = rw many_symbols k.attributes.impliers_fit;
    direct = k.attributes.direct_fit;
    choice_prompts = λ j i r at is. prompts_held _ g.arena (filter opens c.places) g.choices.items k.rows j i r at is;
    members = rw (many_symbols, summed.own_members.members) (members_fit c c.places);
    member_defaults = rw (many_symbols, ← many_names) k.defaults.fits;
    entries = rw (many_symbols, ← many_names, many_choices) k.entries_fit;
  }

  pub is_gathering : IsGathering files.language (reading files root).read g
  is_gathering = record { whole = whole; fits = fits }

-- the tree of the collected lists is consistent if the files have no fault
pub consistent_of : (files : Files) (root : List ℕ) (g : TreeLists) → first_tree_fault files root ≡ None → IsGathering files.language (reading files root).read g
    → IsConsistent (gathered_tree g)
unfolding tree_of_files
consistent_of files root g h k = subst IsConsistent (sym k.whole) (tree_is_consistent files root h)

-- a tree with the value of the collected lists is the tree of the files
pub whole_is : (files : Files) (root : List ℕ) (g : TreeLists) (t : TreeModel) → IsGathering files.language (reading files root).read g
    → t ≡ record { exprs = g.arena; tree = gathered_tree g } → t.tree ≡ tree_of_files files root
unfolding tree_of_files
whole_is files root g t k e = ap (λ (h : TreeModel). h.tree) e ∙ k.whole
