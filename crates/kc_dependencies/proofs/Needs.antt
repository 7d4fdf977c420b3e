-- The units appended on the way to a unit's dependencies are those that it needs.
use Rattle.std.proofs.Common.{◌≡◌, inl, inr, ℕ, suc, ◌<◌, Bool, true, false, ◌||◌, ◌==◌, cond, List, [], ◌∷◌, ◌++◌, length, map, get_or, Option, Some, None, refl, sym, ap, subst, ◌∙◌, arith}
use Rattle.std.specs.Prelude.{All, slice_get, slice_index_or, bytes_eq}
use Rattle.std.specs.Option.{option_map, option_and_then}
use Rattle.std.specs.List.{flat_map, list_any, position_or_len}
use Rattle.std.proofs.Math.Bool.{or-true}
use Rattle.std.proofs.lemmas.Bool.{cases_lt, cases_Bool, le-ltb}
use Rattle.std.proofs.lemmas.List.Folds.{list_any-append}
use Rattle.std.proofs.lemmas.List.Sums.{position_or_len_is}
use Rattle.std.proofs.lemmas.List.{get_or_past}
use Rattle.std.proofs.lemmas.Option.{slice_get-get_or, slice_get_past, get_or_from_slice_get}
use Rattle.std.proofs.lemmas.Slice.Eq.{bytes_eq-Decides}
use Rattle.kc_value.specs.declared.value.Kind.{Kind}
use Rattle.kc_value.specs.declared.value.Kind.TheVariants.{Bool as Boolean, Tristate, Text, Int, Hex}
use Rattle.kc_tokens.specs.Languages.{is_linux_6_12}
use Rattle.kc_expr.specs.between.Arena.{Exprs, node_expr}
use Rattle.kc_expr.specs.Expr.{modules}
use Rattle.kc_expr.specs.ExpressionNames.{names_in, operand_names}
use Rattle.kc_tree.specs.between.Views.{symbol_view, choice_view, default_view, range_view, reverse_dependency_view, member_default_view, operand_or_empty, symbol_of_name_id, HasOperands}
use Rattle.kc_tree.specs.declared.symbol.Default.{Default as KeptDefault}
use Rattle.kc_tree.specs.declared.symbol.Range.{Range as KeptRange}
use Rattle.kc_tree.specs.declared.symbol.ReverseDependency.{ReverseDependency as KeptReverseDependency}
use Rattle.kc_tree.specs.declared.symbol.Symbol.{Symbol as KeptSymbol}
use Rattle.kc_tree.specs.declared.symbol.Choice.{Choice as KeptChoice}
use Rattle.kc_tree.specs.declared.symbol.MemberDefault.{MemberDefault as KeptMemberDefault}
use Rattle.kc_tree_model.specs.Trees.{Tree, Symbol, Choice, Default, Range, ReverseDependency, MemberDefault}
use Rattle.kc_tree_model.specs.declared.ids.Unit.TheVariants.{Symbol as of_symbol, Choice as of_choice}
use Rattle.kc_tree_model.specs.TreeLookup.{IsConsistent, unit_of, symbol_named}
use Rattle.kc_rules_model.specs.Dependencies.{units_named, units_of_reverse_dependencies, needed_by, needed_by_symbol, needed_by_choice, needed_by_symbol_at, needed_by_choice_at, names_in_prompt, names_in_shown, names_in_prompts, names_in_member_prompts}
use Rattle.kc_value.specs.Kinds.{is_tristate}
use Rattle.kc_tree_model.proofs.Lookups.{inside, index_if_found}
use Rattle.kc_dependencies.specs.checker.ModulesSymbol.{modules_symbol}
use Rattle.kc_expr.specs.between.Visits.{mentions, passes_some_name}
use Rattle.kc_dependencies.specs.checker.Links.{has, is_of, in_exprs, in_defaults, in_ranges, in_reverse_dependencies, in_symbol, in_member_defaults, in_prompt, counted_prompt, in_choice, depends_on_reverse, by_modules}
use Rattle.kc_dependencies.proofs.Pushes.{any_same, any_map, any_flat, any_filtered, operand_mention, nothing_more}

-- no symbol has the empty name
not_empty : (symbol : Symbol) → 0 < length symbol.name → bytes_eq [] symbol.name ≡ false
not_empty symbol h = elim (cases_Bool (bytes_eq [] symbol.name)) [
  | inl same ↦ let none = ap length ((bytes_eq-Decides [] symbol.name).0 same) in absurd (omega arith)
  | inr other ↦ other
]

none_empty : (symbols : List Symbol) → ((s : ℕ) (symbol : Symbol) → slice_get symbols s ≡ Some symbol → 0 < length symbol.name)
    → position_or_len (λ (s : Symbol). bytes_eq [] s.name) symbols ≡ length symbols
none_empty [] all = refl
none_empty (x ∷ xs) all = position_or_len_is (λ (s : Symbol). bytes_eq [] s.name) (x ∷ xs) (length (x ∷ xs)) x (omega arith)
    (λ k h. not_empty (get_or (x ∷ xs) k x) (all k (get_or (x ∷ xs) k x) (slice_get-get_or (x ∷ xs) k x h)))
    (λ h. absurd (omega arith))

unnamed : (tree : Tree) → IsConsistent tree → symbol_named tree [] ≡ None
unnamed tree sound =
    let n : ℕ = length tree.symbols in
    ap (λ p. index_if_found p (length tree.symbols)) (none_empty tree.symbols (λ s symbol e. (sound.words s symbol e).0))
    ∙ ap (λ b. cond b (Some (length tree.symbols)) None) (le-ltb (length tree.symbols) (length tree.symbols) (omega arith))

-- the symbol found by the number of a name in an arena is the symbol of the name, or none where there is no such number
pub symbol_of_name_number : (tree : Tree) → IsConsistent tree → (names : List (List ℕ)) (i : ℕ)
    → symbol_of_name_id tree names i ≡ symbol_named tree (slice_index_or names i [])
symbol_of_name_number tree sound names i = elim (cases_lt i (length names)) [
  | inl h ↦ ap (option_and_then (symbol_named tree)) (slice_get-get_or names i [] h)
  | inr h ↦ ap (option_and_then (symbol_named tree)) (slice_get_past names i h) ∙ sym (ap (symbol_named tree) (get_or_past names i [] h) ∙ unnamed tree sound)
]

-- a unit is among the units of some names exactly if one of the names is that of a symbol of the unit
pub units_of_names : (tree : Tree) (d : ℕ) (names : List (List ℕ)) → has (units_named tree names) d ≡ list_any (is_of tree d) names
units_of_names tree d names = any_filtered (λ name. option_map (unit_of tree) (symbol_named tree name)) d names

module _ (exprs : Exprs) (p : List ℕ → Bool) where
  in_all : (ids : List ℕ) → list_any p (flat_map names_in (map (node_expr exprs) ids)) ≡ in_exprs exprs p ids
  in_all ids = any_flat p names_in (map (node_expr exprs) ids) ∙ any_map (λ e. list_any p (names_in e)) (node_expr exprs) ids

  in_each_default : (ds : List KeptDefault)
      → list_any p (flat_map (λ (d : Default). names_in d.value ++ names_in d.condition) (map (default_view exprs) ds)) ≡ in_defaults exprs p ds
  in_each_default ds =
      any_flat p (λ (d : Default). names_in d.value ++ names_in d.condition) (map (default_view exprs) ds)
      ∙ any_map (λ (d : Default). list_any p (names_in d.value ++ names_in d.condition)) (default_view exprs) ds
      ∙ any_same (λ (d : KeptDefault). list_any p (names_in (node_expr exprs d.value) ++ names_in (node_expr exprs d.condition)))
      (λ (d : KeptDefault). mentions p (node_expr exprs d.value) || mentions p (node_expr exprs d.condition))
      (λ d. list_any-append p (names_in (node_expr exprs d.value)) (names_in (node_expr exprs d.condition))) ds

  of_range : (r : KeptRange) → HasOperands exprs r
      → list_any p (operand_names (operand_or_empty (node_expr exprs r.low)) ++ operand_names (operand_or_empty (node_expr exprs r.high)) ++ names_in
      (node_expr exprs r.condition)) ≡ (mentions p (node_expr exprs r.low) || mentions p (node_expr exprs r.high) || mentions p
      (node_expr exprs r.condition))
  of_range r has =
      let low = operand_names (operand_or_empty (node_expr exprs r.low)) in
      let high = operand_names (operand_or_empty (node_expr exprs r.high)) in
      let rest = names_in (node_expr exprs r.condition) in
      list_any-append p (low ++ high) rest
      ∙ ap (λ t. t || list_any p rest) (list_any-append p low high)
      ∙ ap (λ t. t || list_any p high || list_any p rest) (operand_mention p (node_expr exprs r.low) has.0)
      ∙ ap (λ t. mentions p (node_expr exprs r.low) || t || list_any p rest) (operand_mention p (node_expr exprs r.high) has.1)

  each_range : (rs : List KeptRange) → ((k : ℕ) (r : KeptRange) → slice_get rs k ≡ Some r → HasOperands exprs r)
      → list_any (λ (r : KeptRange). list_any p (operand_names (operand_or_empty (node_expr exprs r.low)) ++ operand_names
      (operand_or_empty (node_expr exprs r.high)) ++ names_in (node_expr exprs r.condition))) rs ≡ in_ranges exprs p rs
  each_range [] all = refl
  each_range (r ∷ rs) all =
      ap (λ t. t || list_any (λ (r : KeptRange). list_any p (operand_names (operand_or_empty (node_expr exprs r.low)) ++ operand_names
      (operand_or_empty (node_expr exprs r.high)) ++ names_in (node_expr exprs r.condition))) rs) (of_range r (all 0 r refl))
      ∙ ap (λ t. (mentions p (node_expr exprs r.low) || mentions p (node_expr exprs r.high) || mentions p (node_expr exprs r.condition)) || t)
      (each_range rs (λ k q e. all (suc k) q e))

  in_each_range : (rs : List KeptRange) → ((k : ℕ) (r : KeptRange) → slice_get rs k ≡ Some r → HasOperands exprs r)
      → list_any p (flat_map (λ (r : Range). operand_names r.low ++ operand_names r.high ++ names_in r.condition) (map (range_view exprs) rs))
      ≡ in_ranges exprs p rs
  in_each_range rs all =
      any_flat p (λ (r : Range). operand_names r.low ++ operand_names r.high ++ names_in r.condition) (map (range_view exprs) rs)
      ∙ any_map (λ (r : Range). list_any p (operand_names r.low ++ operand_names r.high ++ names_in r.condition)) (range_view exprs) rs
      ∙ each_range rs all

  in_each_force : (fs : List KeptReverseDependency)
      → list_any p (flat_map (λ (f : ReverseDependency). names_in f.condition) (map (reverse_dependency_view exprs) fs)) ≡ in_reverse_dependencies exprs p fs
  in_each_force fs =
      any_flat p (λ (f : ReverseDependency). names_in f.condition) (map (reverse_dependency_view exprs) fs)
      ∙ any_map (λ (f : ReverseDependency). list_any p (names_in f.condition)) (reverse_dependency_view exprs) fs

  pub prompts_mention : (tree : Tree) (s : ℕ) (k : KeptSymbol) → slice_get tree.symbols s ≡ Some (symbol_view exprs k)
      → list_any p (names_in_member_prompts tree s) ≡ in_exprs exprs p k.prompts.now
  prompts_mention tree s k e = ap (λ o. list_any p (names_in_prompts o)) e ∙ in_all k.prompts.now

-- the units of some selects or implies
forces_needed : (tree : Tree) (exprs : Exprs) (d : ℕ) (fs : List KeptReverseDependency)
    → has (units_of_reverse_dependencies tree (map (reverse_dependency_view exprs) fs)) d
    ≡ (depends_on_reverse tree d fs || in_reverse_dependencies exprs (is_of tree d) fs)
forces_needed tree exprs d fs =
    list_any-append (λ m. m == d) (map (λ (f : ReverseDependency). unit_of tree f.by) (map (reverse_dependency_view exprs) fs))
    (units_named tree (flat_map (λ (f : ReverseDependency). names_in f.condition) (map (reverse_dependency_view exprs) fs)))
    ∙ ap (λ t. t || has (units_named tree (flat_map (λ (f : ReverseDependency). names_in f.condition) (map (reverse_dependency_view exprs) fs))) d)
    (any_map (λ m. m == d) (λ (f : ReverseDependency). unit_of tree f.by) (map (reverse_dependency_view exprs) fs)
    ∙ any_map (λ (f : ReverseDependency). unit_of tree f.by == d) (reverse_dependency_view exprs) fs)
    ∙ ap (λ t. depends_on_reverse tree d fs || t) (units_of_names tree d
    (flat_map (λ (f : ReverseDependency). names_in f.condition) (map (reverse_dependency_view exprs) fs)) ∙ in_each_force exprs (is_of tree d) fs)

modules_needed : (tree : Tree) (d : ℕ) (kind : Kind) → list_any (is_of tree d) (cond (is_tristate kind) (modules ∷ []) [])
    ≡ by_modules tree d kind (symbol_named tree modules)
modules_needed tree d Boolean = refl
modules_needed tree d Tristate = sym (nothing_more (is_of tree d modules))
modules_needed tree d Text = refl
modules_needed tree d Int = refl
modules_needed tree d Hex = refl

-- the order in which they are met
needs_reordered : (w m s i sn imp : Bool) → (s || i || m || (w || sn || imp)) ≡ (w || m || (s || sn) || (i || imp))
needs_reordered w m true i sn imp = sym (ap (λ t. t || (i || imp)) (or-true (w || m)))
needs_reordered w m false true sn imp = sym (or-true (w || m || sn))
needs_reordered w true false false sn imp = sym (ap (λ t. t || sn || imp) (or-true w))
needs_reordered w false false false sn imp = ap (λ t. t || sn || imp) (nothing_more w)

module _ (tree : Tree) (exprs : Exprs) (d : ℕ) where
  own_names : (k : KeptSymbol) → ((j : ℕ) (r : KeptRange) → slice_get k.ranges.now j ≡ Some r → HasOperands exprs r)
      → list_any (is_of tree d) (flat_map names_in (map (node_expr exprs) k.prompts.now) ++ flat_map (λ (d : Default). names_in d.value ++ names_in d.condition)
      (map (default_view exprs) k.defaults.now) ++ flat_map (λ (r : Range). operand_names r.low ++ operand_names r.high ++ names_in r.condition)
      (map (range_view exprs) k.ranges.now) ++ flat_map names_in (map (node_expr exprs) k.direct.now) ++ cond (is_tristate k.kind) (modules ∷ []) [])
      ≡ (in_exprs exprs (is_of tree d) k.prompts.now || in_defaults exprs (is_of tree d) k.defaults.now || in_ranges exprs (is_of tree d) k.ranges.now
      || in_exprs exprs (is_of tree d) k.direct.now || by_modules tree d k.kind (symbol_named tree modules))
  own_names k all =
      let p : List ℕ → Bool = is_of tree d in
      let a : List (List ℕ) = flat_map names_in (map (node_expr exprs) k.prompts.now) in
      let b : List (List ℕ) = flat_map (λ (d : Default). names_in d.value ++ names_in d.condition) (map (default_view exprs) k.defaults.now) in
      let r : List (List ℕ) = flat_map (λ (r : Range). operand_names r.low ++ operand_names r.high ++ names_in r.condition)
      (map (range_view exprs) k.ranges.now) in
      let x : List (List ℕ) = flat_map names_in (map (node_expr exprs) k.direct.now) in
      let m : List (List ℕ) = cond (is_tristate k.kind) (modules ∷ []) [] in
      list_any-append p (a ++ b ++ r ++ x) m
      ∙ ap (λ t. t || list_any p m) (list_any-append p (a ++ b ++ r) x
      ∙ ap (λ t. t || list_any p x) (list_any-append p (a ++ b) r ∙ ap (λ t. t || list_any p r) (list_any-append p a b)))
      ∙ ap (λ t. t || list_any p b || list_any p r || list_any p x || list_any p m) (in_all exprs p k.prompts.now)
      ∙ ap (λ t. in_exprs exprs p k.prompts.now || t || list_any p r || list_any p x || list_any p m) (in_each_default exprs p k.defaults.now)
      ∙ ap (λ t. in_exprs exprs p k.prompts.now || in_defaults exprs p k.defaults.now || t || list_any p x || list_any p m)
      (in_each_range exprs p k.ranges.now all)
      ∙ ap (λ t. in_exprs exprs p k.prompts.now || in_defaults exprs p k.defaults.now || in_ranges exprs p k.ranges.now || t || list_any p m)
      (in_all exprs p k.direct.now)
      ∙ ap (λ t. in_exprs exprs p k.prompts.now || in_defaults exprs p k.defaults.now || in_ranges exprs p k.ranges.now || in_exprs exprs p k.direct.now || t)
      (modules_needed tree d k.kind)

  pub symbol_needs : (k : KeptSymbol) → ((j : ℕ) (r : KeptRange) → slice_get k.ranges.now j ≡ Some r → HasOperands exprs r)
      → (depends_on_reverse tree d k.selectors.now || depends_on_reverse tree d k.impliers.now || by_modules tree d k.kind (symbol_named tree modules)
      || in_symbol exprs (is_of tree d) k) ≡ has (needed_by_symbol tree (symbol_view exprs k)) d
  symbol_needs k all =
      let p : List ℕ → Bool = is_of tree d in
      let sel : List ℕ = units_of_reverse_dependencies tree (map (reverse_dependency_view exprs) k.selectors.now) in
      let imp : List ℕ = units_of_reverse_dependencies tree (map (reverse_dependency_view exprs) k.impliers.now) in
      let own : List (List ℕ) = flat_map names_in (map (node_expr exprs) k.prompts.now) ++ flat_map (λ (d : Default). names_in d.value ++ names_in d.condition)
      (map (default_view exprs) k.defaults.now) ++ flat_map (λ (r : Range). operand_names r.low ++ operand_names r.high ++ names_in r.condition)
      (map (range_view exprs) k.ranges.now) ++ flat_map names_in (map (node_expr exprs) k.direct.now) ++ cond (is_tristate k.kind) (modules ∷ []) [] in
      let w : Bool = in_exprs exprs p k.prompts.now || in_defaults exprs p k.defaults.now || in_ranges exprs p k.ranges.now || in_exprs exprs p k.direct.now in
      needs_reordered w (by_modules tree d k.kind (symbol_named tree modules)) (depends_on_reverse tree d k.selectors.now)
      (depends_on_reverse tree d k.impliers.now)
      (in_reverse_dependencies exprs p k.selectors.now) (in_reverse_dependencies exprs p k.impliers.now)
      ∙ sym (list_any-append (λ m. m == d) (units_named tree own ++ sel) imp
      ∙ ap (λ t. t || has imp d) (list_any-append (λ m. m == d) (units_named tree own) sel)
      ∙ ap (λ t. t || has sel d || has imp d) (units_of_names tree d own ∙ own_names k all)
      ∙ ap (λ t. (w || by_modules tree d k.kind (symbol_named tree modules)) || t || has imp d) (forces_needed tree exprs d k.selectors.now)
      ∙ ap (λ t. (w || by_modules tree d k.kind (symbol_named tree modules))
      || (depends_on_reverse tree d k.selectors.now || in_reverse_dependencies exprs p k.selectors.now) || t) (forces_needed tree exprs d k.impliers.now))

  in_shown : (six : Bool) (o : Option ℕ)
      → list_any (is_of tree d) (cond six [] (names_in_prompt (option_map (node_expr exprs) o))) ≡ in_prompt exprs (is_of tree d) (cond six None o)
  in_shown true o = refl
  in_shown false None = refl
  in_shown false (Some i) = refl

  in_each_member_default : (ds : List KeptMemberDefault)
      → list_any (is_of tree d) (flat_map (λ (d : MemberDefault). names_in d.condition ++ names_in_member_prompts tree d.member)
      (map (member_default_view exprs) ds)) ≡ in_member_defaults tree exprs (is_of tree d) ds
  in_each_member_default ds =
      any_flat (is_of tree d) (λ (d : MemberDefault). names_in d.condition ++ names_in_member_prompts tree d.member) (map (member_default_view exprs) ds)
      ∙ any_map (λ (m : MemberDefault). list_any (is_of tree d) (names_in m.condition ++ names_in_member_prompts tree m.member)) (member_default_view exprs) ds
      ∙ any_same (λ (m : KeptMemberDefault). list_any (is_of tree d) (names_in (node_expr exprs m.condition) ++ names_in_member_prompts tree m.member))
      (λ (m : KeptMemberDefault). mentions (is_of tree d) (node_expr exprs m.condition) || list_any (is_of tree d) (names_in_member_prompts tree m.member))
      (λ m. list_any-append (is_of tree d) (names_in (node_expr exprs m.condition)) (names_in_member_prompts tree m.member)) ds

  pub choice_needs : (k : KeptChoice) → in_choice tree exprs (is_of tree d) k ≡ has (needed_by_choice tree (choice_view exprs k)) d
  choice_needs k =
      let p : List ℕ → Bool = is_of tree d in
      let a : List (List ℕ) = names_in_shown tree (choice_view exprs k) in
      let b : List (List ℕ) = flat_map (λ (d : MemberDefault). names_in d.condition ++ names_in_member_prompts tree d.member)
      (map (member_default_view exprs) k.defaults.now) in
      let m : List (List ℕ) = flat_map (names_in_member_prompts tree) k.members.now in
      sym (units_of_names tree d (a ++ b ++ m)
      ∙ list_any-append p (a ++ b) m
      ∙ ap (λ t. t || list_any p m) (list_any-append p a b)
      ∙ ap (λ t. t || list_any p b || list_any p m) (in_shown (is_linux_6_12 tree.language) k.prompt)
      ∙ ap (λ t. in_prompt exprs p (counted_prompt tree k) || t || list_any p m) (in_each_member_default k.defaults.now)
      ∙ ap (λ t. in_prompt exprs p (counted_prompt tree k) || in_member_defaults tree exprs p k.defaults.now || t) (any_flat p (names_in_member_prompts tree) k.members.now))

pub bounds_are : (exprs : Exprs) (rs : List KeptRange) → All (HasOperands exprs) rs → (j : ℕ) (r : KeptRange) → slice_get rs j ≡ Some r → HasOperands exprs r
bounds_are exprs rs all j r e = subst (HasOperands exprs) (get_or_from_slice_get rs j r r e) (all j r (inside rs j r e))

-- whether one of some names, given by their numbers in an arena, passes a test is the same by numbers and by names
pub names_needed : (exprs : Exprs) (p : List ℕ → Bool) (ids items : List ℕ) (n : Bool) → ids ≡ items → passes_some_name exprs p items ≡ n
    → list_any (λ i. p (slice_index_or exprs.names i [])) ids ≡ n
names_needed exprs p ids items n same e =
    ap (list_any (λ i. p (slice_index_or exprs.names i []))) same ∙ sym (any_map p (λ i. slice_index_or exprs.names i []) items) ∙ e

-- whether a unit was appended among those that a symbol needs, step by step to an empty list, is whether the symbol needs it
pub symbol_needed : (tree : Tree) (exprs : Exprs) (d : ℕ) (k : KeptSymbol) (modules : Option ℕ) → All (HasOperands exprs) k.ranges.now
    → modules ≡ modules_symbol tree
    → (none by_selects by_implies by_all needed no_names names : Bool) → none ≡ false → by_selects ≡ (none || depends_on_reverse tree d k.selectors.now)
    → by_implies ≡ (by_selects || depends_on_reverse tree d k.impliers.now)
    → by_all ≡ (by_implies || by_modules tree d k.kind modules) → no_names ≡ false → names ≡ (no_names || in_symbol exprs (is_of tree d) k)
    → needed ≡ (by_all || names)
    → needed ≡ has (needed_by_symbol tree (symbol_view exprs k)) d
symbol_needed tree exprs d k modules bounds is none by_selects by_implies by_all needed no_names names e0 e1 e2 e3 f0 f1 e4 =
    e4 ∙ ap (λ t. by_all || t) (f1 ∙ ap (λ t. t || in_symbol exprs (is_of tree d) k) f0)
    ∙ ap (λ t. t || in_symbol exprs (is_of tree d) k) (e3 ∙ ap (λ t. t || by_modules tree d k.kind modules)
    (e2 ∙ ap (λ t. t || depends_on_reverse tree d k.impliers.now) (e1 ∙ ap (λ t. t || depends_on_reverse tree d k.selectors.now) e0))
    ∙ ap (λ o. depends_on_reverse tree d k.selectors.now || depends_on_reverse tree d k.impliers.now || by_modules tree d k.kind o) is)
    ∙ symbol_needs tree exprs d k (bounds_are exprs k.ranges.now bounds)

pub choice_needed : (tree : Tree) (exprs : Exprs) (d : ℕ) (k : KeptChoice) (none needed no_names names : Bool) → none ≡ false → no_names ≡ false
    → names ≡ (no_names || in_choice tree exprs (is_of tree d) k) → needed ≡ (none || names) → needed ≡ has (needed_by_choice tree (choice_view exprs k)) d
choice_needed tree exprs d k none needed no_names names e0 f0 f1 e1 =
    e1 ∙ ap (λ t. t || names) e0 ∙ f1 ∙ ap (λ t. t || in_choice tree exprs (is_of tree d) k) f0 ∙ choice_needs tree exprs d k

-- what a symbol needs is needed by the unit that is this symbol
pub needed_symbol : (tree : Tree) (u s : ℕ) (symbol : Symbol) → slice_get tree.units u ≡ Some (of_symbol s) → slice_get tree.symbols s ≡ Some symbol
    → needed_by_symbol tree symbol ≡ needed_by tree (slice_get tree.units u)
needed_symbol tree u s symbol e f = sym (ap (needed_by tree) e ∙ ap (needed_by_symbol_at tree) f)

pub needed_choice : (tree : Tree) (u c : ℕ) (choice : Choice) → slice_get tree.units u ≡ Some (of_choice c) → slice_get tree.choices c ≡ Some choice
    → needed_by_choice tree choice ≡ needed_by tree (slice_get tree.units u)
needed_choice tree u c choice e f = sym (ap (needed_by tree) e ∙ ap (needed_by_choice_at tree) f)
