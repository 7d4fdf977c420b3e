-- The blamed names of a symbol's or a choice's conditions are of units on which it depends.
use Rattle.std.proofs.Common.{Contains}
use Rattle.kc_reasons_model.proofs.Common.{◌≡◌, ℕ, ◌+◌, ◌<◌, Bool, true, false, cond, List, [], ◌∷◌, ◌++◌, Option, Some, None, length, slice_get, refl, subst, arith, ◌==◌, flat_map, option_map, option_to_list, list_any, cons_option, All}
use Rattle.kc_reasons_model.proofs.Common.{AllByRecursion, All-weaker, All-contains, All-from_recursion, All-append, Tri, Expr, Environment, names_in, operand_names, Tree, Symbol, Choice, Default, Range, MemberDefault, unit_of, parts, blamed, IsDependency}
use Rattle.kc_reasons_model.proofs.Common.{counted_conditions, is_linux_6_12}
use Rattle.kc_expr.specs.Expr.{modules}
use Rattle.kc_tree_model.specs.TreeLookup.{symbol_named}
use Rattle.kc_value.specs.Kinds.{is_tristate}
use Rattle.kc_rules_model.specs.Dependencies.{dependencies, needed_by, needed_by_symbol_at, needed_by_symbol, needed_by_choice_at, needed_by_choice, names_in_prompt, names_in_shown, names_in_prompts, names_in_member_prompts, units_named, units_of_reverse_dependencies}
use Rattle.kc_rules_model.specs.checker.FrameLaw.{in_filter, each_of}
use Rattle.kc_reasons_model.specs.Laws.{BlamedAreDependencies, ChoiceBlamedAreDependencies}
use Rattle.kc_reasons_model.proofs.BlameLaws.{are_named}

module _ (tree : Tree) (u : ℕ) where
  -- a unit that is there is a dependency
  abbrev Depends : ℕ → Type 0
  Depends d = d < length tree.units → Contains (dependencies tree u) d

  needed : AllByRecursion Depends (needed_by tree (slice_get tree.units u))
  unfolding dependencies
  needed = each_of Depends (needed_by tree (slice_get tree.units u)) (λ d t below. in_filter (λ e. list_any (λ n. n == e) (needed_by tree (slice_get tree.units u))) (length tree.units) 0 d (omega arith) (omega arith) t)

  named_one : (name : List ℕ) (o : Option ℕ) → symbol_named tree name ≡ o → (rest : List ℕ) → AllByRecursion Depends (cons_option (option_map (unit_of tree) o) rest) → IsDependency tree u name × AllByRecursion Depends rest
  named_one name None e rest all = (λ s f below. absurd (cc), all)
  named_one name (Some t) e rest all = (λ s f below. let same : t ≡ s = cc in subst (λ k. unit_of tree k < length tree.units → Contains (dependencies tree u) (unit_of tree k)) same all.0 below, all.1)

  names_depend : (names : List (List ℕ)) → AllByRecursion Depends (units_named tree names) → AllByRecursion (IsDependency tree u) names
  names_depend [] all = tt
  names_depend (name ∷ names) all = let r = named_one name (symbol_named tree name) refl (units_named tree names) all in (r.0, names_depend names r.1)

  in_each : {X : Type 0} (f : X → List (List ℕ)) (xs : List X) → AllByRecursion (IsDependency tree u) (flat_map f xs) → AllByRecursion (λ x. AllByRecursion (IsDependency tree u) (f x)) xs
  in_each f [] all = tt
  in_each f (x ∷ xs) all = let p = parts _ (f x) (flat_map f xs) all in (p.0, in_each f xs p.1)

  blamed_in : (names : Environment) (above : Bool) (bound : Tri) (es : List Expr) → AllByRecursion (λ e. AllByRecursion (IsDependency tree u) (names_in e)) es → All (λ e. All (IsDependency tree u) (blamed names above bound e)) es
  blamed_in names above bound es all =
      All-weaker (λ e. AllByRecursion (IsDependency tree u) (names_in e)) (λ e. All (IsDependency tree u) (blamed names above bound e))
      (λ e h. All-weaker (Contains (names_in e)) (IsDependency tree u) (λ x inside. All-contains (IsDependency tree u) (names_in e) x (All-from_recursion _ _ h) inside) (blamed names above bound e) (are_named names above bound e))
      es (All-from_recursion _ _ all)

  of_symbol_at : (symbol : Symbol) (names : Environment) (above : Bool) (bound : Tri) → AllByRecursion Depends (needed_by_symbol tree symbol) → All (λ e. All (IsDependency tree u) (blamed names above bound e)) (symbol.prompts ++ symbol.direct)
  of_symbol_at symbol names above bound all =
      let A = flat_map names_in symbol.prompts in
      let B = flat_map (λ (d : Default). names_in d.value ++ names_in d.condition) symbol.defaults in
      let C = flat_map (λ (r : Range). operand_names r.low ++ operand_names r.high ++ names_in r.condition) symbol.ranges in
      let D = flat_map names_in symbol.direct in
      let E = cond (is_tristate symbol.kind) (modules ∷ []) [] in
      let own = units_named tree (A ++ B ++ C ++ D ++ E) in
      let p = parts _ (own ++ units_of_reverse_dependencies tree symbol.selectors) (units_of_reverse_dependencies tree symbol.impliers) all in
      let q = parts _ own (units_of_reverse_dependencies tree symbol.selectors) p.0 in
      let all_names = names_depend (A ++ B ++ C ++ D ++ E) q.0 in
      let e = parts _ (A ++ B ++ C ++ D) E all_names in
      let d = parts _ (A ++ B ++ C) D e.0 in
      let c = parts _ (A ++ B) C d.0 in
      let a = parts _ A B c.0 in
      All-append (λ f. All (IsDependency tree u) (blamed names above bound f)) symbol.prompts symbol.direct (blamed_in names above bound symbol.prompts (in_each names_in symbol.prompts a.0)) (blamed_in names above bound symbol.direct (in_each names_in symbol.direct d.1))

  of_choice_at : (choice : Choice) (s : ℕ) (symbol : Symbol) (names : Environment) (above : Bool) (bound : Tri) → Contains choice.members s → slice_get tree.symbols s ≡ Some symbol
      → AllByRecursion Depends (needed_by_choice tree choice) → All (λ e. All (IsDependency tree u) (blamed names above bound e)) (counted_conditions tree choice ++ symbol.prompts)
  of_choice_at choice s symbol names above bound inside is all =
      let A = names_in_shown tree choice in
      let B = flat_map (λ (d : MemberDefault). names_in d.condition ++ names_in_member_prompts tree d.member) choice.defaults in
      let C = flat_map (names_in_member_prompts tree) choice.members in
      let all_names = names_depend (A ++ B ++ C) all in
      let c = parts _ (A ++ B) C all_names in
      let a = parts _ A B c.0 in
      let of_member = All-contains (λ m. AllByRecursion (IsDependency tree u) (names_in_member_prompts tree m)) choice.members s (All-from_recursion _ _ (in_each (names_in_member_prompts tree) choice.members c.1)) inside in
      All-append (λ f. All (IsDependency tree u) (blamed names above bound f)) (counted_conditions tree choice) symbol.prompts
      (blamed_in names above bound (counted_conditions tree choice) (of_shown (is_linux_6_12 tree.language) a.0))
      (blamed_in names above bound symbol.prompts (in_each names_in symbol.prompts (subst (λ o. AllByRecursion (IsDependency tree u) (names_in_prompts o)) is of_member))) where
        of_prompt : (o : Option Expr) → AllByRecursion (IsDependency tree u) (names_in_prompt o) → AllByRecursion (λ e. AllByRecursion (IsDependency tree u) (names_in e)) (option_to_list o)
        of_prompt None all = tt
        of_prompt (Some e) all = (all, tt)

        of_shown : (b : Bool) → AllByRecursion (IsDependency tree u) (cond b [] (names_in_prompt choice.prompt)) → AllByRecursion (λ e. AllByRecursion (IsDependency tree u) (names_in e)) (cond b [] (option_to_list choice.prompt))
        of_shown true all = tt
        of_shown false all = of_prompt choice.prompt all

pub are_dependencies : BlamedAreDependencies
are_dependencies tree u s symbol names above bound unit is =
    of_symbol_at tree u symbol names above bound (subst (λ o. AllByRecursion (Depends tree u) (needed_by_symbol_at tree o)) is (subst (λ o. AllByRecursion (Depends tree u) (needed_by tree o)) unit (needed tree u)))

pub choice_dependencies : ChoiceBlamedAreDependencies
choice_dependencies tree u c s choice symbol names above bound unit is inside at =
    of_choice_at tree u choice s symbol names above bound inside at (subst (λ o. AllByRecursion (Depends tree u) (needed_by_choice_at tree o)) is (subst (λ o. AllByRecursion (Depends tree u) (needed_by tree o)) unit (needed tree u)))
