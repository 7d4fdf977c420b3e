-- The units of the collected lists.
use Rattle.kc_tree.proofs.Common.{◌≡◌, ℕ, zero, suc, ◌<◌, List, [], ◌∷◌, length, Option, Some, None, refl, ap, sym, subst, ◌∙◌, arith, All, slice_get, slice_index, slice_get_within, get_or_from_slice_get, IsConsistent, unit_of, index_of_unit, gathered_tree, symbol_gathered, choice_gathered}
use Rattle.kc_tree.proofs.Common.{AreNumbered, own_or_choice, HasUnits, SymbolRow, TreeLists}
use Rattle.kc_tree_model.specs.declared.ids.Unit.{Unit as TreeUnit}
use Rattle.kc_tree_model.specs.declared.ids.Unit.TheVariants.{Symbol as of_symbol, Choice as of_choice}
use Rattle.kc_tree_model.proofs.Lookups.{place_is, unit_is}
use Rattle.kc_tree.proofs.RowViews.{seen_get, seen_length}

-- a list has an element at each index below its length
pub got : {X : Type 0} (xs : List X) (i : ℕ) → i < length xs → (x : X) × (slice_get xs i ≡ Some x)
got [] i h = absurd (omega arith)
got (x ∷ xs) zero h = (x, refl)
got (x ∷ xs) (suc i) h = got xs i (omega arith)

pub all_got : {X : Type 0} (P : X → Type 0) (xs : List X) (i : ℕ) (x : X) → All P xs → slice_get xs i ≡ Some x → P x
all_got P xs i x h e = subst P (get_or_from_slice_get xs i x x e) (h i x (slice_get_within xs i x e))

module _ (g : TreeLists) (sound : IsConsistent (gathered_tree g)) where
  pub symbol_at : (s : ℕ) (r : SymbolRow) → slice_get g.symbols.items s ≡ Some r → slice_get (gathered_tree g).symbols s ≡ Some (symbol_gathered g s r)
  symbol_at s r e = seen_get (symbol_gathered g) 0 g.symbols.items s s r (omega arith) e

  pub symbols_count : length (gathered_tree g).symbols ≡ length g.symbols.items
  symbols_count = seen_length (symbol_gathered g) 0 g.symbols.items

  pub choices_count : length (gathered_tree g).choices ≡ length g.choices.items
  choices_count = seen_length (choice_gathered g) 0 g.choices.items

  pub symbols_there : (u s : ℕ) → slice_get g.units.items u ≡ Some (of_symbol s) → s < length g.symbols.items
  symbols_there u s e =
      let t = sound.symbol_units u s e in
      omega (arith, slice_get_within (gathered_tree g).symbols s t.0 t.1, symbols_count)

  pub choices_there : (u c : ℕ) → slice_get g.units.items u ≡ Some (of_choice c) → c < length g.choices.items
  choices_there u c e =
      let t = sound.choice_units u c e in
      omega (arith, slice_get_within (gathered_tree g).choices c t.0 t.1, choices_count)

  pub units_apart : (u w : ℕ) (unit : TreeUnit) → slice_get g.units.items u ≡ Some unit → slice_get g.units.items w ≡ Some unit → u ≡ w
  units_apart u w unit e f = sound.units_differ u w unit e f

  pub members_there : (s c : ℕ) (r : SymbolRow) → slice_get g.symbols.items s ≡ Some r → r.choice ≡ Some c → c < length g.choices.items
  members_there s c r e f =
      let t = sound.listed s c (symbol_gathered g s r) (symbol_at s r e) f in
      omega (arith, slice_get_within (gathered_tree g).choices c t.0 t.1, choices_count)

  module _ (own choices new : List ℕ) (n : AreNumbered (length g.symbols.items) (length g.choices.items) g.units.items (length g.units.items) own choices)
      (same : length new ≡ length own)
      (m : (s : ℕ) (r : SymbolRow) → slice_get g.symbols.items s ≡ Some r → slice_index new s ≡ own_or_choice (slice_index own s) choices r.choice) where
    symbol_number : (s u : ℕ) → slice_get (gathered_tree g).units u ≡ Some (of_symbol s) → slice_index own s ≡ u
    symbol_number s u e = n.symbol_units u s (slice_get_within g.units.items u (of_symbol s) e) e

    choice_number : (c u : ℕ) → slice_get (gathered_tree g).units u ≡ Some (of_choice c) → slice_index choices c ≡ u
    choice_number c u e = n.choice_units u c (slice_get_within g.units.items u (of_choice c) e) e

    unit_had : (s : ℕ) (r : SymbolRow) (o : Option ℕ) → slice_get g.symbols.items s ≡ Some r → r.choice ≡ o
        → (slice_index new s ≡ unit_of (gathered_tree g) s) × (slice_index new s < length (gathered_tree g).units)
    unit_had s r None e f =
        let at = symbol_at s r e in
        let t = sound.own_units s (symbol_gathered g s r) at f in
        let number : slice_index new s ≡ t.0 = m s r e ∙ ap (own_or_choice (slice_index own s) choices) f ∙ symbol_number s t.0 t.1 in
        let unit = unit_is (gathered_tree g) sound s t.0 (symbol_gathered g s r) None at f t.1 in
        let within = slice_get_within (gathered_tree g).units t.0 (of_symbol s) t.1 in
        (number ∙ sym unit, rw number within)
    unit_had s r (Some c) e f =
        let at = symbol_at s r e in
        let t = sound.units_of_members s c (symbol_gathered g s r) at f in
        let number : slice_index new s ≡ t.0 = m s r e ∙ ap (own_or_choice (slice_index own s) choices) f ∙ choice_number c t.0 t.1 in
        let unit = unit_is (gathered_tree g) sound s t.0 (symbol_gathered g s r) (Some c) at f t.1 in
        let within = slice_get_within (gathered_tree g).units t.0 (of_choice c) t.1 in
        (number ∙ sym unit, rw number within)

    choice_had : (c : ℕ) → c < length (gathered_tree g).choices
        → (slice_index choices c ≡ index_of_unit (gathered_tree g) (of_choice c)) × (slice_index choices c < length (gathered_tree g).units)
    choice_had c h =
        let k = got (gathered_tree g).choices c h in
        let t = sound.units_of_choices c k.0 k.1 in
        let number = choice_number c t.0 t.1 in
        let place = place_is (gathered_tree g) sound t.0 (of_choice c) t.1 in
        let within = slice_get_within (gathered_tree g).units t.0 (of_choice c) t.1 in
        (number ∙ sym place, rw number within)

    pub units_had : HasUnits (gathered_tree g) new choices
    units_had = record {
      symbols_len = same ∙ n.symbols_len ∙ sym symbols_count;
      choices_len = n.choices_len ∙ sym choices_count;
      symbol_units = λ s h. (let k = got g.symbols.items s (omega (arith, symbols_count)) in unit_had s k.0 k.0.choice k.1 refl);
      choice_units = choice_had;
    }
