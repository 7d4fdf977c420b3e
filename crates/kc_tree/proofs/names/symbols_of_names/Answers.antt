use Rattle.kc_tree.proofs.Common.{◌≡◌, ◌≢◌, ◌⊎◌, inl, inr, ℕ, ◌+◌, ◌<◌, ◌≤◌, Bool, true, false, List, length, get_or, Option, Some, None, refl, ap, sym, subst, ◌∙◌, arith, slice_get, set, cases_lt, get_or-set_at, common_steps, elements, get_or-set_other, length-set, slice_get_read, IsTable}
use Rattle.kc_tree.proofs.Common.{SymbolRow}
use Rattle.std.specs.Prelude.{◌==◌}
use Rattle.std.proofs.lemmas.Bool.{eq-eqb, eqb-true}
use Rattle.kc_tree.proofs.names.symbols_of_names.Goals as goal

module _ (names s : ℕ) (symbols : List SymbolRow) (row : SymbolRow) (table : List (Option ℕ)) (differ : (a b : ℕ) (p q : SymbolRow)
    → slice_get symbols a ≡ Some p → slice_get symbols b ≡ Some q → p.name ≡ q.name → a ≡ b)
    (here : slice_get symbols s ≡ Some row) (within : row.name < length table) (t : IsTable names symbols s table) where
  reported_more : (a : ℕ) (r : SymbolRow) → a < s + 1 → slice_get symbols a ≡ Some r → (a < s) ⊎ (s ≤ a)
      → get_or (set table row.name (Some s)) r.name None ≡ Some a
  reported_more a r h f (inl l) =
      let apart : r.name ≢ row.name = λ e. (let k = differ a s r row f here e in omega arith) in
      get_or-set_other table row.name r.name (Some s) None apart ∙ t.has_symbols a r l f
  reported_more a r h f (inr g) =
      let e : a ≡ s = omega arith in
      let k : Some r ≡ Some row = sym f ∙ ap (slice_get symbols) e ∙ here in
      let q : r ≡ row = cc in
      get_or-set_at table row.name r.name (Some s) None (ap (λ (p : SymbolRow). p.name) q) within ∙ ap Some (sym e)

  there_more : (j u : ℕ) (b : Bool) → (j == row.name) ≡ b → get_or (set table row.name (Some s)) j None ≡ Some u
      → (r : SymbolRow) × (slice_get symbols u ≡ Some r) × (r.name ≡ j)
  there_more j u true h f =
      let e = eqb-true j row.name h in
      let k : Some s ≡ Some u = sym (get_or-set_at table row.name j (Some s) None e within) ∙ f in
      let q : s ≡ u = cc in
      (row, ap (slice_get symbols) (sym q) ∙ here, sym e)
  there_more j u false h f =
      let apart : j ≢ row.name = λ e. (let k = eq-eqb j row.name e in cc) in
      t.there j u (sym (get_or-set_other table row.name j (Some s) None apart) ∙ f)

  table_more : IsTable names symbols (s + 1) (set table row.name (Some s))
  table_more = record {
    len = length-set table row.name (Some s) ∙ t.len;
    has_symbols = λ a r h f. reported_more a r h f (cases_lt a s);
    there = λ j u f. there_more j u (j == row.name) refl f;
  }

pub loop-s-preserved : goal.loop-s-preserved
loop-s-preserved c =
    let s = c.loop-s.s in
    let row = c.index-symbols-s.result in
    let here = slice_get_read c.args.symbols.now (length c.args.symbols.now) s row refl c.loop-s-test.true c.index-symbols-s.is in
    let below : row.name < c.args.names = c.requires.there s row here in
    let within : row.name < length c.loop-s.table.items = omega (arith, below, c.loop-s.invariant.len) in
    let n : c.index.result ≡ row.name = c.index.ensures ∙ ap (λ (r : SymbolRow). r.name) (sym c.index-symbols-s.is) in
    subst (λ k. IsTable c.args.names c.args.symbols.now (s + 1) (set c.loop-s.table.items k (Some c.at.result))) (sym n)
    (subst (λ k. IsTable c.args.names c.args.symbols.now (s + 1) (set c.loop-s.table.items row.name (Some k))) (sym c.at.ensures)
    (table_more c.args.names s c.args.symbols.now row c.loop-s.table.items c.requires.differ here within c.loop-s.invariant))

pub bounds-symbols-s : goal.bounds-symbols-s
bounds-symbols-s c = grind (arith, common_steps)

pub returns : goal.returns
returns c = record { ok = grind (arith, elements) }

pub index_mut-requires : goal.index_mut-requires
index_mut-requires c = grind (arith, elements)

pub bounds-symbols-s-in-loop-s : goal.bounds-symbols-s-in-loop-s
bounds-symbols-s-in-loop-s c = grind (arith, common_steps)

pub loop-s-init : goal.loop-s-init
loop-s-init c = grind (arith, common_steps)
