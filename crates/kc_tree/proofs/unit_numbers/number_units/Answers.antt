use Rattle.kc_tree.proofs.Common.{◌≡◌, ◌≢◌, ◌⊎◌, inl, inr, ℕ, ◌+◌, ◌<◌, ◌≤◌, List, length, get_or, Some, ap, sym, subst, ◌∙◌, arith, slice_get, set, cases_lt, get_or-set_at, common_steps, elements, get_or-set_other, length-set, slice_get-get_or, AreNumbered}
use Rattle.kc_tree_model.specs.declared.ids.Unit.{Unit as TreeUnit}
use Rattle.kc_tree_model.specs.declared.ids.Unit.TheVariants.{Symbol as SymbolUnit, Choice as ChoiceUnit}
use Rattle.kc_tree.proofs.unit_numbers.number_units.Goals as goal
use Rattle.kc_tree.proofs.unit_numbers.number_units.Goals.{in-Symbol, in-Choice}

-- the numbers of units of one kind, with one more
number_more : (kind : ℕ → TreeUnit) (apart : (a b : ℕ) → kind a ≡ kind b → a ≡ b) (u k : ℕ) (units : List TreeUnit) (numbers : List ℕ)
    → ((a b : ℕ) (x : TreeUnit) → slice_get units a ≡ Some x → slice_get units b ≡ Some x → a ≡ b)
    → slice_get units u ≡ Some (kind k) → k < length numbers → ((a z : ℕ) → a < u → slice_get units a ≡ Some (kind z) → get_or numbers z 0 ≡ a)
    → (a z : ℕ) → a < u + 1 → slice_get units a ≡ Some (kind z) → (a < u) ⊎ (u ≤ a) → get_or (set numbers k u) z 0 ≡ a
number_more kind apart u k units numbers differ here within before a z h f (inl l) =
    let other : z ≢ k = λ e. (let same = differ a u (kind k) (f ∙ ap (λ n. Some (kind n)) e) here in omega arith) in
    get_or-set_other numbers k z u 0 other ∙ before a z l f
number_more kind apart u k units numbers differ here within before a z h f (inr g) =
    let e : a ≡ u = omega arith in
    let q : Some (kind z) ≡ Some (kind k) = sym f ∙ ap (slice_get units) e ∙ here in
    let p : kind z ≡ kind k = cc in
    get_or-set_at numbers k z u 0 (apart z k p) within ∙ sym e

-- those of the other kind stay
symbols_stay : (u k : ℕ) (units : List TreeUnit) (numbers : List ℕ) → slice_get units u ≡ Some (ChoiceUnit k)
    → ((a z : ℕ) → a < u → slice_get units a ≡ Some (SymbolUnit z) → get_or numbers z 0 ≡ a)
    → (a z : ℕ) → a < u + 1 → slice_get units a ≡ Some (SymbolUnit z) → (a < u) ⊎ (u ≤ a) → get_or numbers z 0 ≡ a
symbols_stay u k units numbers here before a z h f (inl l) = before a z l f
symbols_stay u k units numbers here before a z h f (inr g) =
    let e : a ≡ u = omega arith in
    let q : Some (SymbolUnit z) ≡ Some (ChoiceUnit k) = sym f ∙ ap (slice_get units) e ∙ here in
    cc

choices_stay : (u k : ℕ) (units : List TreeUnit) (numbers : List ℕ) → slice_get units u ≡ Some (SymbolUnit k)
    → ((a z : ℕ) → a < u → slice_get units a ≡ Some (ChoiceUnit z) → get_or numbers z 0 ≡ a)
    → (a z : ℕ) → a < u + 1 → slice_get units a ≡ Some (ChoiceUnit z) → (a < u) ⊎ (u ≤ a) → get_or numbers z 0 ≡ a
choices_stay u k units numbers here before a z h f (inl l) = before a z l f
choices_stay u k units numbers here before a z h f (inr g) =
    let e : a ≡ u = omega arith in
    let q : Some (ChoiceUnit z) ≡ Some (SymbolUnit k) = sym f ∙ ap (slice_get units) e ∙ here in
    cc

one_symbol : (a b : ℕ) → SymbolUnit a ≡ SymbolUnit b → a ≡ b
one_symbol a b e = cc

one_choice : (a b : ℕ) → ChoiceUnit a ≡ ChoiceUnit b → a ≡ b
one_choice a b e = cc

module _ (symbols choices u : ℕ) (units : List TreeUnit) (of_symbol of_choice : List ℕ) (differ : (a b : ℕ) (x : TreeUnit) → slice_get units a ≡ Some x
    → slice_get units b ≡ Some x → a ≡ b)
    (t : AreNumbered symbols choices units u of_symbol of_choice) where
  symbol_more : (s : ℕ) → slice_get units u ≡ Some (SymbolUnit s) → s < symbols → AreNumbered symbols choices units (u + 1) (set of_symbol s u) of_choice
  symbol_more s here below =
      let within : s < length of_symbol = omega (arith, below, t.symbols_len) in
      record {
        symbols_len = length-set of_symbol s u ∙ t.symbols_len;
        choices_len = t.choices_len;
        symbol_units = λ a z h f. number_more SymbolUnit one_symbol u s units of_symbol differ here within t.symbol_units a z h f (cases_lt a u);
        choice_units = λ a z h f. choices_stay u s units of_choice here t.choice_units a z h f (cases_lt a u);
      }

  choice_more : (k : ℕ) → slice_get units u ≡ Some (ChoiceUnit k) → k < choices → AreNumbered symbols choices units (u + 1) of_symbol (set of_choice k u)
  choice_more k here below =
      let within : k < length of_choice = omega (arith, below, t.choices_len) in
      record {
        symbols_len = t.symbols_len;
        choices_len = length-set of_choice k u ∙ t.choices_len;
        symbol_units = λ a z h f. symbols_stay u k units of_symbol here t.symbol_units a z h f (cases_lt a u);
        choice_units = λ a z h f. number_more ChoiceUnit one_choice u k units of_choice differ here within t.choice_units a z h f (cases_lt a u);
      }

pub loop-u-preserved : goal.loop-u-preserved
loop-u-preserved c =
    let u = c.loop-u.u in
    let units = c.args.units.now in
    elim c.match-units-u.branch [
      | in-Symbol w ↦ (
          let here : slice_get units u ≡ Some (SymbolUnit w.in-Symbol.s) = slice_get-get_or units u _ c.loop-u-test.true ∙ ap Some w.in-Symbol.is in
          let more = symbol_more c.args.symbols c.args.choices u units c.loop-u.of_symbol.items c.loop-u.of_choice.items c.requires.differ c.loop-u.invariant
          w.in-Symbol.s here (c.requires.symbols u w.in-Symbol.s here) in
          let e : c.match-units-u.of_symbol.items ≡ set c.loop-u.of_symbol.items w.in-Symbol.s u = ap (λ v. v.items) w.of_symbol-is
          ∙ ap (λ k. set c.loop-u.of_symbol.items k u) w.number.ensures in
          subst (λ xs. AreNumbered c.args.symbols c.args.choices units (u + 1) xs c.match-units-u.of_choice.items) (sym e)
          (subst (λ xs. AreNumbered c.args.symbols c.args.choices units (u + 1) (set c.loop-u.of_symbol.items w.in-Symbol.s u) xs)
          (sym (ap (λ v. v.items) w.of_choice-is)) more))
      | in-Choice w ↦ (
          let here : slice_get units u ≡ Some (ChoiceUnit w.in-Choice.c) = slice_get-get_or units u _ c.loop-u-test.true ∙ ap Some w.in-Choice.is in
          let more = choice_more c.args.symbols c.args.choices u units c.loop-u.of_symbol.items c.loop-u.of_choice.items c.requires.differ c.loop-u.invariant
          w.in-Choice.c here (c.requires.choices u w.in-Choice.c here) in
          subst (λ xs. AreNumbered c.args.symbols c.args.choices units (u + 1) xs c.match-units-u.of_choice.items) (sym (ap (λ v. v.items) w.of_symbol-is))
          (subst (λ xs. AreNumbered c.args.symbols c.args.choices units (u + 1) c.loop-u.of_symbol.items xs) (sym (ap (λ v. v.items) w.of_choice-is)) more))
    ]

pub overflow_cast-u-in-Choice : goal.overflow_cast-u-in-Choice
overflow_cast-u-in-Choice c = grind (arith, common_steps)

pub bounds-units-u : goal.bounds-units-u
bounds-units-u c = grind (arith, common_steps)

pub bounds : goal.bounds
bounds c = grind (arith, common_steps)

pub overflow_cast-u : goal.overflow_cast-u
overflow_cast-u c = grind (arith, common_steps)

pub returns : goal.returns
returns c = grind (arith, common_steps)

pub index_mut-requires : goal.index_mut-requires
index_mut-requires c = grind (arith, elements)

pub index_mut-requires-in-Choice : goal.index_mut-requires-in-Choice
index_mut-requires-in-Choice c = grind (arith, elements)

pub overflow_cast-number : goal.overflow_cast-number
overflow_cast-number c = grind (arith, common_steps)
