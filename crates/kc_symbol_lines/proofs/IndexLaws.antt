-- The lines that the index finds are those of a symbol.
use Rattle.kc_symbol_lines.proofs.Common.{◌≡◌, inl, inr, ℕ, zero, suc, ◌+◌, ◌<◌, Bool, true, false, cond, List, [], ◌∷◌, ◌++◌, length, map, take, Option, Some, None, refl, ap, sym, subst, ◌∙◌, arith, slice_get, flat_map, is_some, All, Vec, map-append, length-map, All-take, Exprs, Language}
use Rattle.kc_symbol_lines.proofs.Common.{is_linux_6_12, Tree, Symbol, Group, open_blocks, GroupInContext, groups_in_context, contents_of, definitions_of, symbol_of, names_defined, Has, get_below, located_context, located_prompts, located_dependencies, attribute_positions, TreeModel, read_before}
use Rattle.kc_symbol_lines.proofs.Common.{HasLines, TreeLines, LocatedExpr, SymbolLines, DefinitionLines, GatheredLines, position_view, all_located, IsHeld, AreHeld, HasBlocks, AreDefinitionLines, prompts_at, dependency_at, defaults_at, ranges_at, each_items, AreGathered}
use Rattle.std.proofs.lemmas.List.{take-map}
use Rattle.kc_tree_model.specs.Statements as model
use Rattle.kc_tree_model.specs.Contents.{defines, choice_of_symbol, own_dependencies, tree_of_groups}
use Rattle.kc_tree_model.proofs.Consistency.Lists.{has-filter, map-get}
use Rattle.kc_reasons_model.specs.Places as places
use Rattle.kc_reasons_model.specs.Places.{located_context_of}
use Rattle.kc_reasons_model.specs.SymbolLines.{lines_of_symbol}
use Rattle.kc_reasons_model.specs.SymbolLines as lines_model
use Rattle.kc_tree.specs.between.GroupedItems.{IsGrouped}
use Rattle.kc_symbol_lines.specs.declared.own_lines.Given.TheVariants.{Default, Range}
use Rattle.kc_symbol_lines.specs.declared.index.LineIndex.{LineIndex}
use Rattle.kc_symbol_lines.specs.between.LinesView.{each_located, symbol_lines_view}
use Rattle.kc_symbol_lines.specs.between.Indexes.{IsIndexOf}
use Rattle.kc_symbol_lines.specs.checker.Definitions.{around_group}
use Rattle.kc_checks.proofs.MemberMarks.{all_has}
use Rattle.kc_symbol_lines.proofs.AttributeViews.{default_is, range_is}
use Rattle.kc_symbol_lines.proofs.ContextLaws.{blocks_located}
use Rattle.kc_symbol_lines.proofs.HeldLines.{own_held, blocks_held, dependencies_held, prompts_held, each_held, all_held, mapped_held}
use Rattle.kc_symbol_lines.proofs.OwnLineLaws.{context_view, prompts_located, dependencies_located, places_located}
use Rattle.kc_symbol_lines.proofs.PlacedGroups.{placed, opened_read, dropped_read}

pub many_symbols : (t : TreeModel) (read : List Group) → t.tree ≡ tree_of_groups t.tree.language read → length t.tree.symbols ≡ length (names_defined read)
unfolding tree_of_groups
many_symbols t read e = ap (λ (w : Tree). length w.symbols) e ∙ length-map (names_defined read) (symbol_of t.tree.language (contents_of read))

-- the index of what was gathered
pub index_is : (read : List Group) (index : LineIndex) (found : GatheredLines) (count : ℕ) → count ≡ length (names_defined read) → HasBlocks index.blocks.items read
    → AreGathered read found
    → IsGrouped count found.definitions.keys.items found.definitions.items.items index.definitions.starts.items index.definitions.items.items
    → IsGrouped count found.selectors.keys.items found.selectors.items.items index.selectors.starts.items index.selectors.items.items
    → IsGrouped count found.impliers.keys.items found.impliers.items.items index.impliers.starts.items index.impliers.items.items
    → IsIndexOf read index
index_is read index found count n blocks g d s i = record {
  blocks = blocks;
  symbols = d.places ∙ ap (λ k. k + 1) n;
  selected = s.places ∙ ap (λ k. k + 1) n;
  implied = i.places ∙ ap (λ k. k + 1) n;
  definitions = λ k name at. let l = get_below (names_defined read) k name at in d.of_key k (omega (arith, l, n)) ∙ g.definitions k name at;
  selectors = λ k name at. let l = get_below (names_defined read) k name at in ap (map position_view) (s.of_key k (omega (arith, l, n))) ∙ g.selectors k name at;
  impliers = λ k name at. let l = get_below (names_defined read) k name at in ap (map position_view) (i.of_key k (omega (arith, l, n))) ∙ g.impliers k name at;
}

-- and the choice of its definitions
pub symbol_choice : (t : TreeModel) (read : List Group) (s : ℕ) (name : List ℕ) (k : Symbol) → t.tree ≡ tree_of_groups t.tree.language read
    → slice_get (names_defined read) s ≡ Some name → slice_get t.tree.symbols s ≡ Some k → k.choice ≡ choice_of_symbol (contents_of read) name
unfolding tree_of_groups
symbol_choice t read s name k e at held =
    let made : slice_get t.tree.symbols s ≡ Some (symbol_of t.tree.language (contents_of read) name) = ap (λ (w : Tree). slice_get w.symbols s) e
    ∙ map-get (symbol_of t.tree.language (contents_of read)) (names_defined read) s name at in
    let same : k ≡ symbol_of t.tree.language (contents_of read) name = same_symbol _ k _ held made in
    ap (λ (x : Symbol). x.choice) same
  where
    same_symbol : (o : Option Symbol) (x y : Symbol) → o ≡ Some x → o ≡ Some y → x ≡ y
    same_symbol o x y a b = cc

-- a symbol has a name
pub symbol_name : (t : TreeModel) (read : List Group) (s : ℕ) → t.tree ≡ tree_of_groups t.tree.language read → s < length t.tree.symbols
    → (name : List ℕ) × (slice_get (names_defined read) s ≡ Some name)
symbol_name t read s e h = let n = many_symbols t read e in by_length (names_defined read) s (omega (arith, n, h))
  where
    by_length : (xs : List (List ℕ)) (k : ℕ) → k < length xs → (x : List ℕ) × (slice_get xs k ≡ Some x)
    by_length [] k l = absurd (omega arith)
    by_length (x ∷ xs) zero l = (x, refl)
    by_length (x ∷ xs) (suc k) l = by_length xs k (omega arith)

module _ (e : Exprs) (language : Language) (lines : TreeLines) (read : List Group) (h : HasLines e lines read) where
  abbrev through : Bool
  through = is_linux_6_12 language

  read_open : (p : GroupInContext) (g : Group) → Has g (open_blocks 0 (read_before p.group.number read)) → Has g read
  read_open p g k = dropped_read g _ read (opened_read g 0 (read_before p.group.number read) k)

  module _ (p : GroupInContext) (there : Has p (groups_in_context read)) where
    around_is : context_view e (around_group through lines read p.group.number) ≡ located_context_of language p
    around_is =
        blocks_located e lines read h through (open_blocks 0 (read_before p.group.number read)) (read_open p)
        ∙ ap (located_context through) (sym (placed e lines read h p there).1)

    prompts_is : map (all_located e) (prompts_at through lines read p.group.number) ≡ located_prompts (located_context_of language p) p.group
    prompts_is =
        let r = (placed e lines read h p there).0.shown in
        prompts_located e p.group _ _ r.file_is r.attributes (around_group through lines read p.group.number)
        ∙ ap (λ c. located_prompts c p.group) around_is

    dependency_is : all_located e (dependency_at through lines read p.group.number) ≡ located_dependencies (located_context_of language p) p.group
    dependency_is =
        let r = (placed e lines read h p there).0.shown in
        dependencies_located e p.group _ _ r.file_is r.attributes (around_group through lines read p.group.number)
        ∙ ap (λ c. located_dependencies c p.group) around_is

    defaults_is : map position_view (defaults_at lines p.group.number) ≡ attribute_positions model.default_of p.group
    defaults_is =
        let r = (placed e lines read h p there).0.shown in
        places_located e p.group _ _ r.file_is r.attributes Default model.default_of (λ x a. default_is e x a)

    ranges_is : map position_view (ranges_at lines p.group.number) ≡ attribute_positions model.range_of p.group
    ranges_is =
        let r = (placed e lines read h p there).0.shown in
        places_located e p.group _ _ r.file_is r.attributes Range model.range_of (λ x a. range_is e x a)

    prompts_there : All (All (IsHeld e)) (prompts_at through lines read p.group.number)
    prompts_there =
        prompts_held e _ _ (own_held e lines.groups.items lines.lines.items p.group.number h.held) (around_group through lines read p.group.number)
        (blocks_held e lines read h through (open_blocks 0 (read_before p.group.number read)) (read_open p))
        _ (own_held e lines.groups.items lines.lines.items p.group.number h.held)

    dependency_there : All (IsHeld e) (dependency_at through lines read p.group.number)
    dependency_there =
        dependencies_held e _ _ (own_held e lines.groups.items lines.lines.items p.group.number h.held) (around_group through lines read p.group.number)
        (blocks_held e lines read h through (open_blocks 0 (read_before p.group.number read)) (read_open p))

  abbrev number_of : GroupInContext → ℕ
  number_of p = p.group.number

  all_flat : {X Y : Type 0} (view : X → Y) (at : ℕ → List X) (f : GroupInContext → List Y) (ps : List GroupInContext)
      → ((p : GroupInContext) → Has p ps → map view (at p.group.number) ≡ f p) → map view (flat_map at (map number_of ps)) ≡ flat_map f ps
  all_flat view at f [] k = refl
  all_flat view at f (p ∷ ps) k =
      map-append view (at p.group.number) (flat_map at (map number_of ps))
      ∙ ap (λ xs. xs ++ map view (flat_map at (map number_of ps))) (k p (inl refl))
      ∙ ap (λ xs. f p ++ xs) (all_flat view at f ps (λ q i. k q (inr i)))

  all_mapped : {X Y : Type 0} (view : X → Y) (at : ℕ → X) (f : GroupInContext → Y) (ps : List GroupInContext)
      → ((p : GroupInContext) → Has p ps → view (at p.group.number) ≡ f p) → map view (map at (map number_of ps)) ≡ map f ps
  all_mapped view at f [] k = refl
  all_mapped view at f (p ∷ ps) k =
      ap (λ x. x ∷ map view (map at (map number_of ps))) (k p (inl refl)) ∙ ap (λ xs. f p ∷ xs) (all_mapped view at f ps (λ q i. k q (inr i)))

  each_is : (vs : List (Vec LocatedExpr)) → each_located e vs ≡ map (all_located e) (each_items vs)
  each_is [] = refl
  each_is (v ∷ vs) = ap (λ xs. all_located e v.items ∷ xs) (each_is vs)

  kept_is : (o : Option ℕ) (vs ws : List (Vec LocatedExpr)) (all : List (List places.LocatedExpr)) → ws ≡ cond (is_some o) (take 1 vs) vs → each_located e vs ≡ all
      → each_located e ws ≡ own_dependencies o all
  kept_is None vs ws all w k = ap (each_located e) w ∙ k
  kept_is (Some c) vs ws all w k = ap (each_located e) w ∙ sym (take-map (λ (v : Vec LocatedExpr). all_located e v.items) 1 vs) ∙ ap (take 1) k

  pub kept_held : (b : Bool) (vs ws : List (Vec LocatedExpr)) → ws ≡ cond b (take 1 vs) vs → AreHeld e vs → AreHeld e ws
  kept_held true vs ws w k = subst (AreHeld e) (sym w) (All-take (λ (v : Vec LocatedExpr). All (IsHeld e) v.items) 1 vs k)
  kept_held false vs ws w k = subst (AreHeld e) (sym w) k

  module _ (name : List ℕ) (numbers : List ℕ) (given : numbers ≡ map number_of (definitions_of (contents_of read) name)) where
    abbrev own : List GroupInContext
    own = definitions_of (contents_of read) name

    own_there : (p : GroupInContext) → Has p own → Has p (groups_in_context read)
    own_there p k = (has-filter (defines name) (groups_in_context read) p k).0

    numbers_there : (k : ℕ) → Has k numbers → (p : GroupInContext) × Has p own × (p.group.number ≡ k)
    numbers_there k i = from_map own (subst (Has k) given i)
      where
        from_map : (ps : List GroupInContext) → Has k (map number_of ps) → (p : GroupInContext) × Has p ps × (p.group.number ≡ k)
        from_map [] j = absurd j
        from_map (p ∷ ps) (inl same) = (p, inl refl, same)
        from_map (p ∷ ps) (inr j) = let r = from_map ps j in (r.0, inr r.1, r.2)

    pub numbers_below : All (λ k. k < length lines.groups.items) numbers
    numbers_below = all_has (λ k. k < length lines.groups.items) numbers (λ k i.
        let r = numbers_there k i in
        let q = placed e lines read h r.0 (own_there r.0 r.1) in
        omega (arith, q.0.below, r.2))

    module _ (found : DefinitionLines) (are : AreDefinitionLines through lines read numbers found) where
      pub own_prompts_held : AreHeld e found.prompts.items
      own_prompts_held =
          each_held e found.prompts.items (flat_map (prompts_at through lines read) numbers) are.prompts
          (all_held e (prompts_at through lines read) numbers (λ k i.
          let r = numbers_there k i in
          subst (λ n. All (All (IsHeld e)) (prompts_at through lines read n)) r.2 (prompts_there r.0 (own_there r.0 r.1))))

      pub own_direct_held : AreHeld e found.direct.items
      own_direct_held =
          each_held e found.direct.items (map (dependency_at through lines read) numbers) are.direct
          (mapped_held e (dependency_at through lines read) numbers (λ k i.
          let r = numbers_there k i in
          subst (λ n. All (IsHeld e) (dependency_at through lines read n)) r.2 (dependency_there r.0 (own_there r.0 r.1))))

      pub own_prompts : each_located e found.prompts.items ≡ flat_map (λ (p : GroupInContext). located_prompts (located_context_of language p) p.group) own
      own_prompts =
          each_is found.prompts.items ∙ ap (map (all_located e)) (are.prompts ∙ ap (flat_map (prompts_at through lines read)) given)
          ∙ all_flat (all_located e) (prompts_at through lines read) (λ (p : GroupInContext). located_prompts (located_context_of language p) p.group) own
          (λ p k. prompts_is p (own_there p k))

      pub own_direct : each_located e found.direct.items ≡ map (λ (p : GroupInContext). located_dependencies (located_context_of language p) p.group) own
      own_direct =
          each_is found.direct.items ∙ ap (map (all_located e)) (are.direct ∙ ap (map (dependency_at through lines read)) given)
          ∙ all_mapped (all_located e) (dependency_at through lines read) (λ (p : GroupInContext). located_dependencies (located_context_of language p) p.group) own
          (λ p k. dependency_is p (own_there p k))

      pub own_defaults : map position_view found.defaults.items ≡ flat_map (λ (p : GroupInContext). attribute_positions model.default_of p.group) own
      own_defaults =
          ap (map position_view) (are.defaults ∙ ap (flat_map (defaults_at lines)) given)
          ∙ all_flat position_view (defaults_at lines) (λ (p : GroupInContext). attribute_positions model.default_of p.group) own (λ p k. defaults_is p (own_there p k))

      pub own_ranges : map position_view found.ranges.items ≡ flat_map (λ (p : GroupInContext). attribute_positions model.range_of p.group) own
      own_ranges =
          ap (map position_view) (are.ranges ∙ ap (flat_map (ranges_at lines)) given)
          ∙ all_flat position_view (ranges_at lines) (λ (p : GroupInContext). attribute_positions model.range_of p.group) own (λ p k. ranges_is p (own_there p k))

  same_lines : (a b : lines_model.SymbolLines) → a.prompts ≡ b.prompts → a.direct ≡ b.direct → a.defaults ≡ b.defaults → a.ranges ≡ b.ranges
      → a.selectors ≡ b.selectors → a.impliers ≡ b.impliers → a ≡ b
  same_lines a b p d f r s i =
      let all : (let l : lines_model.SymbolLines = record { prompts = a.prompts; direct = a.direct; defaults = a.defaults; ranges = a.ranges; selectors = a.selectors; impliers = a.impliers } in l) ≡ b =
      rw (p, d, f, r, s, i) refl in
      all

  -- the lines that are found of a symbol with this name
  pub lines_are : (name : List ℕ) (found : DefinitionLines) (numbers : List ℕ) (result : SymbolLines) → AreDefinitionLines through lines read numbers found
      → numbers ≡ map number_of (definitions_of (contents_of read) name)
      → result.prompts ≡ found.prompts → result.direct.items ≡ cond (is_some (choice_of_symbol (contents_of read) name)) (take 1 found.direct.items) found.direct.items
      → result.defaults ≡ found.defaults → result.ranges ≡ found.ranges
      → map position_view result.selectors.items ≡ (lines_of_symbol language (contents_of read) name).selectors
      → map position_view result.impliers.items ≡ (lines_of_symbol language (contents_of read) name).impliers
      → symbol_lines_view e result ≡ lines_of_symbol language (contents_of read) name
  lines_are name found numbers result are given p d f r s i =
      same_lines (symbol_lines_view e result) (lines_of_symbol language (contents_of read) name)
      (ap (λ v. each_located e v.items) p ∙ own_prompts name numbers given found are)
      (kept_is (choice_of_symbol (contents_of read) name) found.direct.items result.direct.items _ d (own_direct name numbers given found are))
      (ap (λ v. map position_view v.items) f ∙ own_defaults name numbers given found are)
      (ap (λ v. map position_view v.items) r ∙ own_ranges name numbers given found are)
      s i
