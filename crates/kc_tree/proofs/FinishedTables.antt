-- The tree of the collected lists.
use Rattle.kc_tree.proofs.Common.{◌≡◌, ℕ, suc, ◌+◌, ◌<◌, List, [], ◌∷◌, length, map, get_or, Option, Some, None, refl, ap, sym, subst, ◌∙◌, arith, cond, Bool, true, false, All, Contains, slice_get, slice_index, bytes_eq, position_or_len, ltb-true, slice_get_within, get_or_from_slice_get, length-map}
use Rattle.kc_tree.proofs.Common.{get_or-map, index_of_name, Tree, IsConsistent, unit_of, index_of_unit, symbol_named, DefaultFits, RangeFits, HasOperands, ReverseDependencyFits, MemberDefaultFits, gathered_tree, symbol_gathered, choice_gathered, IsSoundTree, IsTable, tree_from_rows}
use Rattle.kc_tree.proofs.Common.{symbol_from_row, choice_from_row, from_rows, HasUnits, SymbolRow, Inside, TreeLists}
use Rattle.std.specs.Prelude.{IfSome, slice_index_or}
use Rattle.std.proofs.lemmas.List.{ext_get_or}
use Rattle.std.proofs.lemmas.List.Elements.{All-weaker, All-contains}
use Rattle.std.proofs.lemmas.List.Sums.{passes_at_first}
use Rattle.std.proofs.lemmas.Slice.Eq.{bytes_eq-Decides}
use Rattle.kc_expr.specs.Lookup.{AreDistinct}
use Rattle.kc_expr.proofs.Places.{place_at}
use Rattle.kc_tree_model.specs.Trees as tree
use Rattle.kc_tree_model.specs.declared.ids.Unit.TheVariants.{Choice as of_choice}
use Rattle.kc_tree.specs.between.GatheredAttributes.{AreGrouped}
use Rattle.kc_tree.specs.between.GatheredFits.{GatheredFit}
use Rattle.kc_tree.specs.between.GroupedItems.{IsGrouped}
use Rattle.kc_tree.specs.between.StoredFits.{StoredFit, HasPlaces}
use Rattle.kc_tree.specs.declared.rows.ChoiceRow.{ChoiceRow}
use Rattle.kc_tree.specs.declared.symbol.MemberDefault.{MemberDefault}
use Rattle.kc_tree.specs.declared.items_by_number.ItemsByNumber.{ItemsByNumber}
use Rattle.kc_tree.specs.declared.attributes.GroupedAttributes.{GroupedAttributes}
use Rattle.kc_tree.specs.declared.unit_numbers.UnitNumbers.{UnitNumbers}
use Rattle.std.specs.Global.{Vec}
use Rattle.kc_tree.proofs.UnitLists.{got, all_got, symbol_at, symbols_count, choices_count, symbols_there, choices_there}
use Rattle.kc_tree_model.proofs.Lookups.{found_by_name}
use Rattle.kc_tree.proofs.SymbolNames.{named_there}

seen_same : {A B : Type 0} (f h : ℕ → A → B) (n : ℕ) (xs : List A) → ((s : ℕ) (r : A) → s < n + length xs → f s r ≡ h s r) → from_rows f n xs ≡ from_rows h n xs
seen_same f h n [] e = refl
seen_same f h n (x ∷ xs) e =
    let here : f n x ≡ h n x = e n x (omega arith) in
    let rest = seen_same f h (suc n) xs (λ s r l. e s r (omega arith)) in
    cc

all_together : {X : Type 0} (P : X → Type 0) (items together : List X) → All (Contains items) together → All P items → All P together
all_together P items together h p = All-weaker (Contains items) P (λ x. All-contains P items x p) together h

-- the symbol of a name has that name
found_inside : (place count s : ℕ) (b : Bool) → cond b (Some place) None ≡ Some s → (b ≡ true) × (place ≡ s)
found_inside place count s true e = (refl, cc)
found_inside place count s false e = cc

named_by : (W : Tree) (x : List ℕ) (s : ℕ) (a : tree.Symbol) → symbol_named W x ≡ Some s → slice_get W.symbols s ≡ Some a → x ≡ a.name
named_by W x s a named at =
    let p = found_inside (position_or_len (λ (t : tree.Symbol). bytes_eq x t.name) W.symbols) (length W.symbols) s _ named in
    let below = ltb-true (position_or_len (λ (t : tree.Symbol). bytes_eq x t.name) W.symbols) (length W.symbols) p.0 in
    let passes = passes_at_first (λ (t : tree.Symbol). bytes_eq x t.name) W.symbols a below in
    let here : get_or W.symbols (position_or_len (λ (t : tree.Symbol). bytes_eq x t.name) W.symbols) a ≡ a = ap (λ k. get_or W.symbols k a) p.1
    ∙ get_or_from_slice_get W.symbols s a a at in
    (bytes_eq-Decides x a.name).0 (rw here at passes)

module _ (g : TreeLists) (sound : IsConsistent (gathered_tree g)) (distinct : AreDistinct g.arena.names) (fits : GatheredFit g) where
  pub name_at : (s : ℕ) (r : SymbolRow) → slice_get g.symbols.items s ≡ Some r → r.name < length g.arena.names
  name_at s r e = all_got (λ (q : SymbolRow). q.name < length g.arena.names) g.symbols.items s r fits.names e

  pub names_apart : (s t : ℕ) (r q : SymbolRow) → slice_get g.symbols.items s ≡ Some r → slice_get g.symbols.items t ≡ Some q → r.name ≡ q.name → s ≡ t
  names_apart s t r q e f n =
      sound.names_differ s t (symbol_gathered g s r) (symbol_gathered g t q) (symbol_at g sound s r e) (symbol_at g sound t q f)
      (ap (λ i. slice_index_or g.arena.names i []) n)

  -- a symbol that is named has a row
  row_named : (x : List ℕ) (s : ℕ) → symbol_named (gathered_tree g) x ≡ Some s
      → (r : SymbolRow) × (slice_get g.symbols.items s ≡ Some r) × (x ≡ slice_index_or g.arena.names r.name [])
  row_named x s e =
      let w : IfSome (Some s) (λ t. t < length (gathered_tree g).symbols) = subst (λ o. IfSome o (λ t. t < length (gathered_tree g).symbols)) e
      (named_there (gathered_tree g) x) in
      let below : s < length (gathered_tree g).symbols = w in
      let k = got g.symbols.items s (omega (arith, symbols_count g sound)) in
      (k.0, k.1, named_by (gathered_tree g) x s (symbol_gathered g s k.0) e (symbol_at g sound s k.0 k.1))

  absent_by : (x : List ℕ) (o : Option ℕ) → symbol_named (gathered_tree g) x ≡ o → index_of_name x g.arena.names ≡ None → o ≡ None
  absent_by x None e f = refl
  absent_by x (Some s) e f =
      let k = row_named x s e in
      let p = place_at g.arena.names k.0.name distinct (name_at s k.0 k.1) in
      let q : index_of_name x g.arena.names ≡ Some k.0.name = ap (λ y. index_of_name y g.arena.names) k.2 ∙ p in
      cc

  pub absent : (x : List ℕ) → index_of_name x g.arena.names ≡ None → symbol_named (gathered_tree g) x ≡ None
  absent x f = absent_by x (symbol_named (gathered_tree g) x) refl f

  module _ (table : List (Option ℕ)) (t : IsTable (length g.arena.names) g.symbols.items (length g.symbols.items) table) where
    reported_some : (j s : ℕ) → get_or table j None ≡ Some s → symbol_named (gathered_tree g) (get_or g.arena.names j []) ≡ Some s
    reported_some j s e =
        let k = t.there j s e in
        ap (λ i. symbol_named (gathered_tree g) (get_or g.arena.names i [])) (sym k.2)
        ∙ found_by_name (gathered_tree g) sound s (symbol_gathered g s k.0) (symbol_at g sound s k.0 k.1)

    reported_none : (j : ℕ) (o : Option ℕ) → j < length g.arena.names → get_or table j None ≡ None
        → symbol_named (gathered_tree g) (get_or g.arena.names j []) ≡ o → o ≡ None
    reported_none j None h e f = refl
    reported_none j (Some s) h e f =
        let k = row_named (get_or g.arena.names j []) s f in
        let i : j ≡ k.0.name = distinct j k.0.name h (name_at s k.0 k.1) k.2 in
        let a : get_or table j None ≡ Some s = ap (λ n. get_or table n None) i ∙ t.has_symbols s k.0 (slice_get_within g.symbols.items s k.0 k.1) k.1 in
        cc

    reported_same : (j : ℕ) (o : Option ℕ) → j < length g.arena.names → get_or table j None ≡ o → o ≡ symbol_named (gathered_tree g) (get_or g.arena.names j [])
    reported_same j None h e = sym (reported_none j (symbol_named (gathered_tree g) (get_or g.arena.names j [])) h e refl)
    reported_same j (Some s) h e = sym (reported_some j s e)

    pub table_is : table ≡ map (symbol_named (gathered_tree g)) g.arena.names
    table_is =
        ext_get_or None table (map (symbol_named (gathered_tree g)) g.arena.names) (t.len ∙ sym (length-map g.arena.names (symbol_named (gathered_tree g))))
        (λ j h. (let l : j < length g.arena.names = omega (arith, t.len) in reported_same j (get_or table j None) l refl
        ∙ sym (get_or-map (symbol_named (gathered_tree g)) g.arena.names j [] None l)))

-- the lists of the tree that collected lists, their groups, the numbers of units and the symbols of names make
abbrev pub finished : TreeLists → GroupedAttributes → ItemsByNumber ℕ → ItemsByNumber MemberDefault → UnitNumbers → Vec (Option ℕ) → Inside
finished g a m d n table = record {
  arena = g.arena;
  symbols = g.symbols;
  attributes = a;
  choices = g.choices;
  members = m;
  member_defaults = d;
  entries = g.entries;
  titles = g.titles;
  units = g.units;
  unit_numbers = n;
  symbol_of_name = table;
  language = g.language;
}

module _ (g : TreeLists) (attributes : GroupedAttributes) (members : ItemsByNumber ℕ) (member_defaults : ItemsByNumber MemberDefault)
    (numbers : UnitNumbers) (table : Vec (Option ℕ)) (a : AreGrouped (length g.symbols.items) g.attributes attributes)
    (m : IsGrouped (length g.choices.items) g.members.keys.items g.members.items.items members.starts.items members.items.items)
    (d : IsGrouped (length g.choices.items) g.member_defaults.keys.items g.member_defaults.items.items member_defaults.starts.items member_defaults.items.items) where
  abbrev made : Inside
  made = finished g attributes members member_defaults numbers table

  same_symbol : (s : ℕ) (r : SymbolRow) → s < 0 + length g.symbols.items → symbol_from_row made s r ≡ symbol_gathered g s r
  same_symbol s r l =
      let h : s < length g.symbols.items = omega arith in
      rw (a.prompts.of_key s h, a.defaults.of_key s h, a.ranges.of_key s h, a.selectors.of_key s h, a.impliers.of_key s h, a.direct.of_key s h) refl

  same_choice : (c : ℕ) (r : ChoiceRow) → c < 0 + length g.choices.items → choice_from_row made c r ≡ choice_gathered g c r
  same_choice c r l =
      let h : c < length g.choices.items = omega arith in
      rw (m.of_key c h, d.of_key c h) refl

  -- the stored lists and the collected lists represent the same tree
  pub whole_same : tree_from_rows made ≡ gathered_tree g
  whole_same =
      let of : List tree.Symbol → List tree.Choice → Tree = λ s c. record {
        symbols = s;
        choices = c;
        entries = (gathered_tree g).entries;
        units = g.units.items;
        language = g.language;
      } in
      ap (λ s. of s (tree_from_rows made).choices) (seen_same (symbol_from_row made) (symbol_gathered g) 0 g.symbols.items same_symbol)
      ∙ ap (of (gathered_tree g).symbols) (seen_same (choice_from_row made) (choice_gathered g) 0 g.choices.items same_choice)

  module _ (f : GatheredFit g) (sound : IsConsistent (gathered_tree g)) where
    stored_fit : StoredFit made
    stored_fit = record {
      few_symbols = f.few_symbols;
      few_choices = f.few_choices;
      few_units = f.few_units;
      names = f.names;
      prompts = all_together (λ i. i < length g.arena.nodes) g.attributes.prompts.items.items attributes.prompts.items.items a.prompts.same f.prompts;
      defaults = all_together (DefaultFits (length g.arena.nodes)) g.attributes.defaults.items.items attributes.defaults.items.items a.defaults.same f.defaults;
      ranges = all_together (RangeFits (length g.arena.nodes)) g.attributes.ranges.items.items attributes.ranges.items.items a.ranges.same f.ranges;
      bounds = all_together (HasOperands g.arena) g.attributes.ranges.items.items attributes.ranges.items.items a.ranges.same f.bounds;
      selectors = all_together (ReverseDependencyFits (length g.arena.nodes) (length g.symbols.items)) g.attributes.selectors.items.items
          attributes.selectors.items.items a.selectors.same f.selectors;
      impliers = all_together (ReverseDependencyFits (length g.arena.nodes) (length g.symbols.items)) g.attributes.impliers.items.items
          attributes.impliers.items.items a.impliers.same f.impliers;
      direct = all_together (λ i. i < length g.arena.nodes) g.attributes.direct.items.items attributes.direct.items.items a.direct.same f.direct;
      choice_prompts = f.choice_prompts;
      members = all_together (λ s. s < length g.symbols.items) g.members.items.items members.items.items m.same f.members;
      member_defaults = all_together (MemberDefaultFits (length g.arena.nodes) (length g.symbols.items)) g.member_defaults.items.items
          member_defaults.items.items d.same f.member_defaults;
      entries = f.entries;
      symbol_units = symbols_there g sound;
      choice_units = choices_there g sound;
    }

    module _ (u : HasUnits (gathered_tree g) numbers.symbols.items numbers.choices.items) where
      symbols_many : length (gathered_tree g).symbols ≡ length g.symbols.items
      symbols_many = symbols_count g sound

      choices_many : length (gathered_tree g).choices ≡ length g.choices.items
      choices_many = choices_count g sound

      have_places : HasPlaces made
      have_places = record {
        prompts = a.prompts.places;
        defaults = a.defaults.places;
        ranges = a.ranges.places;
        selectors = a.selectors.places;
        impliers = a.impliers.places;
        direct = a.direct.places;
        members = m.places;
        member_defaults = d.places;
        unit_of_symbol = u.symbols_len ∙ symbols_many;
        unit_of_choice = u.choices_len ∙ choices_many;
      }

      -- the tree is sound if the arena's names are distinct and the table has the symbol of each name
      pub sound_tree : AreDistinct g.arena.names → IsTable (length g.arena.names) g.symbols.items (length g.symbols.items) table.items → IsSoundTree made
      sound_tree distinct t = record {
        fits = stored_fit;
        places = have_places;
        units = subst (λ (W : Tree). (s : ℕ) → s < length g.symbols.items
            → (slice_index numbers.symbols.items s ≡ unit_of W s) × (slice_index numbers.symbols.items s < length g.units.items)) (sym whole_same)
            (λ s h. u.symbol_units s (omega (arith, symbols_many)));
        choice_units = subst (λ (W : Tree). (c : ℕ) → c < length g.choices.items
            → (slice_index numbers.choices.items c ≡ index_of_unit W (of_choice c)) × (slice_index numbers.choices.items c < length g.units.items))
            (sym whole_same)
            (λ c h. u.choice_units c (omega (arith, choices_many)));
        table = subst (λ (W : Tree). table.items ≡ map (symbol_named W) g.arena.names) (sym whole_same)
            (table_is g sound distinct f table.items t);
        absent = subst (λ (W : Tree). (x : List ℕ) → index_of_name x g.arena.names ≡ None → symbol_named W x ≡ None) (sym whole_same)
            (absent g sound distinct f);
        consistent = subst IsConsistent (sym whole_same) sound;
      }
