-- The numbers of the symbols and units of a consistent tree.
use Rattle.kc_tree_model.proofs.Common.{◌≡◌, inl, inr, ℕ, zero, suc, ◌<◌, true, cond, List, [], ◌∷◌, Option, Some, None, length, get_or, refl, sym, ◌∙◌, ap, arith, slice_get, bytes_eq, nat_lt, eqb-true, eq-eqb, lt-ltb, bytes_eq-Decides, Tree, Symbol, IsConsistent}
use Rattle.std.proofs.lemmas.Bool.{cases_Bool, false≢true}
use Rattle.std.proofs.lemmas.Option.{get_or_from_slice_get, slice_get-get_or}
use Rattle.std.proofs.lemmas.List.Sums.{position_or_len_is}
use Rattle.kc_tree_model.specs.declared.ids.Unit.{Unit as TreeUnit}
use Rattle.kc_tree_model.specs.declared.ids.Unit.TheVariants.{Symbol as of_symbol, Choice as of_choice}
use Rattle.kc_tree_model.specs.TreeLookup.{is_same_unit, index_of_unit, unit_in, unit_of_symbol, unit_of, symbol_named}

-- an index if it is below a count, or None
abbrev pub index_if_found : ℕ → ℕ → Option ℕ
index_if_found place count = cond (nat_lt place count) (Some place) None

pub inside : {X : Type 0} (xs : List X) (i : ℕ) (x : X) → slice_get xs i ≡ Some x → i < length xs
inside [] i x e = cc
inside (y ∷ ys) zero x e = omega arith
inside (y ∷ ys) (suc i) x e = let rest = inside ys i x e in omega arith

unit_from : (a b : TreeUnit) → is_same_unit a b ≡ true → a ≡ b
unit_from (of_symbol a) (of_symbol b) e = ap of_symbol (eqb-true a b e)
unit_from (of_choice a) (of_choice b) e = ap of_choice (eqb-true a b e)
unit_from (of_symbol a) (of_choice b) e = absurd (false≢true e)
unit_from (of_choice a) (of_symbol b) e = absurd (false≢true e)

unit_same : (a : TreeUnit) → is_same_unit a a ≡ true
unit_same (of_symbol a) = eq-eqb a a refl
unit_same (of_choice a) = eq-eqb a a refl

module _ (tree : Tree) (sound : IsConsistent tree) where
  -- the number of a unit of a consistent tree is its index among the units
  pub place_is : (u : ℕ) (unit : TreeUnit) → slice_get tree.units u ≡ Some unit → index_of_unit tree unit ≡ u
  place_is u unit at =
      let below : u < length tree.units = inside tree.units u unit at in
      position_or_len_is (is_same_unit unit) tree.units u unit (omega arith)
      (λ k h. elim (cases_Bool (is_same_unit unit (get_or tree.units k unit))) [
        | inl same ↦
            let there : slice_get tree.units k ≡ Some unit = slice_get-get_or tree.units k unit (omega arith)
            ∙ ap Some (sym (unit_from unit (get_or tree.units k unit) same)) in
            let equal : k ≡ u = sound.units_differ k u unit there at in
            absurd (omega arith)
        | inr other ↦ other
      ])
      (λ h. ap (is_same_unit unit) (get_or_from_slice_get tree.units u unit unit at) ∙ unit_same unit)

  -- each symbol of a consistent tree is found by its name
  pub found_by_name : (s : ℕ) (symbol : Symbol) → slice_get tree.symbols s ≡ Some symbol → symbol_named tree symbol.name ≡ Some s
  found_by_name s symbol at =
      let below : s < length tree.symbols = inside tree.symbols s symbol at in
      let place = position_or_len_is (λ (t : Symbol). bytes_eq symbol.name t.name) tree.symbols s symbol (omega arith)
      (λ k h. elim (cases_Bool (bytes_eq symbol.name (get_or tree.symbols k symbol).name)) [
        | inl same ↦
            let there : slice_get tree.symbols k ≡ Some (get_or tree.symbols k symbol) = slice_get-get_or tree.symbols k symbol (omega arith) in
            let equal : k ≡ s = sound.names_differ k s (get_or tree.symbols k symbol) symbol there
            at (sym ((bytes_eq-Decides symbol.name (get_or tree.symbols k symbol).name).0 same)) in
            absurd (omega arith)
        | inr other ↦ other
      ])
      (λ h. ap (λ (t : Symbol). bytes_eq symbol.name t.name) (get_or_from_slice_get tree.symbols s symbol symbol at)
      ∙ (bytes_eq-Decides symbol.name symbol.name).1 refl) in
      ap (λ k. index_if_found k (length tree.symbols)) place ∙ ap (λ t. cond t (Some s) None) (lt-ltb s (length tree.symbols) below)

  -- the unit of a symbol of a consistent tree has the index of its choice's unit if it is a member, or of its own unit
  pub unit_is : (s u : ℕ) (symbol : Symbol) (c : Option ℕ) → slice_get tree.symbols s ≡ Some symbol → symbol.choice ≡ c
      → slice_get tree.units u ≡ Some (unit_in s c) → unit_of tree s ≡ u
  unit_is s u symbol c at choice unit = ap (unit_of_symbol tree s) at ∙ ap (λ x. index_of_unit tree (unit_in s x)) choice ∙ place_is u (unit_in s c) unit
