-- The lines of a symbol are those of its conditions, defaults, ranges, selects and implies.
use Rattle.kc_reasons_model.proofs.Common.{◌≡◌, ℕ, Bool, true, false, cond, List, [], ◌∷◌, ◌++◌, map, filter, take, Option, Some, None, length, zero, suc, refl, sym, ◌∙◌, ap, length-append, filter_map, flat_map, option_map, bytes_eq, cons_option, map-append, Tri, Expr, Environment, Language}
use Rattle.kc_reasons_model.proofs.Common.{is_linux_6_12, is_n, ReverseDependency, Attribute, prompt_of, Group, Line, Position, Context, context, prompt_condition, attribute_values, attribute_condition, lacking, LocatedContext, located_context, located_prompt, located_dependencies, lacking_located}
use Rattle.std.specs.Prelude.{◌+◌}
use Rattle.kc_expr.specs.Lookup.{index_of_name}
use Rattle.kc_tree_model.specs.Statements.{default_of, range_of, select_of, imply_of}
use Rattle.kc_tree_model.specs.between.Attributes.{TargetAttribute}
use Rattle.kc_tree_model.specs.Blocks.{defined_name}
use Rattle.kc_tree_model.specs.Conditions.{context_of, prompts_of, dependency_of, GroupInContext}
use Rattle.kc_tree_model.specs.Contents.{Contents, contents_of, definitions_of, defaults_at, ranges_at, reverse_dependencies_of, reverse_dependencies_by, own_dependencies, choice_of_symbol}
use Rattle.kc_reasons_model.specs.Places.{located_context_of, located_prompts}
use Rattle.kc_reasons_model.specs.SymbolLines.{attribute_positions, position_of, target_named, target_positions}
use Rattle.kc_reasons_model.specs.Laws.{LinesAreOfSymbol}
use Rattle.kc_reasons_model.proofs.PlaceLaws.{prompts_located, dependencies_located}

map_taken : {X Y : Type 0} (f : X → Y) (n : ℕ) (xs : List X) → map f (take n xs) ≡ take n (map f xs)
map_taken f zero xs = refl
map_taken f (suc n) [] = refl
map_taken f (suc n) (x ∷ xs) = ap (λ zs. f x ∷ zs) (map_taken f n xs)

module _ (names : Environment) (t : Tri) (some : is_n t ≡ false) (language : Language) where
  abbrev outside : List Group → Context
  outside opened = context (is_linux_6_12 language) opened

  abbrev stands : List Group → LocatedContext
  stands opened = located_context (is_linux_6_12 language) opened

  prompts_of_lines : (opened : List Group) (g : Group) (ls : List Line)
      → map (lacking names t) (map (prompt_condition (outside opened) g) (filter_map (λ (l : Line). prompt_of l.attribute) ls))
      ≡ map (lacking_located names t) (filter_map (λ (l : Line). option_map (located_prompt (stands opened) g l.number) (prompt_of l.attribute)) ls)
  prompts_of_lines opened g [] = refl
  prompts_of_lines opened g (l ∷ ls) = go (prompt_of l.attribute) (prompts_of_lines opened g ls) where
    go : (o : Option (Option Expr))
        → map (lacking names t) (map (prompt_condition (outside opened) g) (filter_map (λ (l : Line). prompt_of l.attribute) ls))
        ≡ map (lacking_located names t) (filter_map (λ (l : Line). option_map (located_prompt (stands opened) g l.number) (prompt_of l.attribute)) ls)
        → map (lacking names t) (map (prompt_condition (outside opened) g) (cons_option o (filter_map (λ (l : Line). prompt_of l.attribute) ls)))
        ≡ map (lacking_located names t) (cons_option (option_map (located_prompt (stands opened) g l.number) o) (filter_map (λ (l : Line). option_map (located_prompt (stands opened) g l.number) (prompt_of l.attribute)) ls))
    go None rest = rest
    go (Some c) rest = ap (λ x. x ∷ map (lacking names t) (map (prompt_condition (outside opened) g) (filter_map (λ (l : Line). prompt_of l.attribute) ls))) (prompts_located names t (is_linux_6_12 language) opened g l.number c some)
        ∙ ap (λ xs. lacking_located names t (located_prompt (stands opened) g l.number c) ∷ xs) rest

  prompts_of_groups : (ps : List GroupInContext)
      → map (lacking names t) (flat_map (λ (p : GroupInContext). prompts_of (context_of language p) p.group) ps)
      ≡ map (lacking_located names t) (flat_map (λ (p : GroupInContext). located_prompts (located_context_of language p) p.group) ps)
  prompts_of_groups [] = refl
  prompts_of_groups (p ∷ ps) =
      map-append (lacking names t) (prompts_of (context_of language p) p.group) (flat_map (λ (q : GroupInContext). prompts_of (context_of language q) q.group) ps)
      ∙ ap (λ xs. xs ++ map (lacking names t) (flat_map (λ (q : GroupInContext). prompts_of (context_of language q) q.group) ps)) (prompts_of_lines p.opened p.group p.group.attributes)
      ∙ ap (λ xs. map (lacking_located names t) (located_prompts (located_context_of language p) p.group) ++ xs) (prompts_of_groups ps)
      ∙ sym (map-append (lacking_located names t) (located_prompts (located_context_of language p) p.group) (flat_map (λ (q : GroupInContext). located_prompts (located_context_of language q) q.group) ps))

  direct_of_groups : (ps : List GroupInContext)
      → map (lacking names t) (map (λ (p : GroupInContext). dependency_of (context_of language p) p.group) ps)
      ≡ map (lacking_located names t) (map (λ (p : GroupInContext). located_dependencies (located_context_of language p) p.group) ps)
  direct_of_groups [] = refl
  direct_of_groups (p ∷ ps) =
      ap (λ x. x ∷ map (lacking names t) (map (λ (q : GroupInContext). dependency_of (context_of language q) q.group) ps)) (dependencies_located names t (is_linux_6_12 language) p.opened p.group some)
      ∙ ap (λ xs. lacking_located names t (located_dependencies (located_context_of language p) p.group) ∷ xs) (direct_of_groups ps)

  own_of_groups : (choice : Option ℕ) (ps : List GroupInContext)
      → map (lacking names t) (own_dependencies choice (map (λ (p : GroupInContext). dependency_of (context_of language p) p.group) ps))
      ≡ map (lacking_located names t) (own_dependencies choice (map (λ (p : GroupInContext). located_dependencies (located_context_of language p) p.group) ps))
  own_of_groups None ps = direct_of_groups ps
  own_of_groups (Some k) ps =
      map_taken (lacking names t) 1 (map (λ (p : GroupInContext). dependency_of (context_of language p) p.group) ps)
      ∙ ap (take 1) (direct_of_groups ps)
      ∙ sym (map_taken (lacking_located names t) 1 (map (λ (p : GroupInContext). located_dependencies (located_context_of language p) p.group) ps))

pub length_mapped : {X Y : Type 0} (f : X → Y) (xs : List X) → length (map f xs) ≡ length xs
length_mapped f [] = refl
length_mapped f (x ∷ xs) = ap suc (length_mapped f xs)

-- as many places as attributes
as_many : {A : Type 0} (f : Attribute → Option A) (g : Group) (ls : List Line)
    → length (filter_map (λ (l : Line). f l.attribute) ls) ≡ length (filter_map (λ (l : Line). option_map (λ a. position_of g l) (f l.attribute)) ls)
as_many f g [] = refl
as_many {A = A} f g (l ∷ ls) = go (f l.attribute) (as_many f g ls) where
  go : (o : Option A) → length (filter_map (λ (l : Line). f l.attribute) ls) ≡ length (filter_map (λ (l : Line). option_map (λ a. position_of g l) (f l.attribute)) ls) → length (cons_option o (filter_map (λ (l : Line). f l.attribute) ls)) ≡ length (cons_option (option_map (λ a. position_of g l) o) (filter_map (λ (l : Line). option_map (λ a. position_of g l) (f l.attribute)) ls))
  go None rest = rest
  go (Some a) rest = ap suc rest

-- as many of each group are as many in all
as_many_each : {X Y Z : Type 0} (f : X → List Y) (h : X → List Z) → ((x : X) → length (f x) ≡ length (h x)) → (xs : List X) → length (flat_map f xs) ≡ length (flat_map h xs)
as_many_each f h e [] = refl
as_many_each f h e (x ∷ xs) =
    length-append (f x) (flat_map f xs) ∙ ap (λ n. n + length (flat_map f xs)) (e x) ∙ ap (λ n. length (h x) + n) (as_many_each f h e xs) ∙ sym (length-append (h x) (flat_map h xs))

filtered_targets : (name : List ℕ) (f : Attribute → Option TargetAttribute) (ls : List Line)
    → filter (λ (a : TargetAttribute). bytes_eq a.name name) (filter_map (λ (l : Line). f l.attribute) ls) ≡ filter_map (λ (l : Line). target_named name (f l.attribute)) ls
filtered_targets name f [] = refl
filtered_targets name f (l ∷ ls) = go (f l.attribute) (filtered_targets name f ls) where
  go : (o : Option TargetAttribute) → filter (λ (a : TargetAttribute). bytes_eq a.name name) (filter_map (λ (l : Line). f l.attribute) ls) ≡ filter_map (λ (l : Line). target_named name (f l.attribute)) ls
      → filter (λ (a : TargetAttribute). bytes_eq a.name name) (cons_option o (filter_map (λ (l : Line). f l.attribute) ls)) ≡ cons_option (target_named name o) (filter_map (λ (l : Line). target_named name (f l.attribute)) ls)
  go None rest = rest
  go (Some a) rest = pick (bytes_eq a.name name) where
    pick : (b : Bool) → cond b (a ∷ filter (λ (a : TargetAttribute). bytes_eq a.name name) (filter_map (λ (l : Line). f l.attribute) ls)) (filter (λ (a : TargetAttribute). bytes_eq a.name name) (filter_map (λ (l : Line). f l.attribute) ls))
        ≡ cons_option (cond b (Some a) None) (filter_map (λ (l : Line). target_named name (f l.attribute)) ls)
    pick true = ap (λ xs. a ∷ xs) rest
    pick false = rest

module _ (language : Language) (c : Contents) (name : List ℕ) where
  as_many_targets : (f : Attribute → Option TargetAttribute) (p : GroupInContext) → length (reverse_dependencies_of language f c name p) ≡ length (target_positions f c name p)
  as_many_targets f p = go (defined_name p.group) where
    go : (o : Option (List ℕ)) → length {A = ReverseDependency} (elim o [ None ↦ [] | Some by ↦ reverse_dependencies_by language c p (filter (λ (a : TargetAttribute). bytes_eq a.name name) (attribute_values f p.group)) by ])
        ≡ length {A = Position} (elim o [ None ↦ [] | Some by ↦ elim (index_of_name by c.names) [ None ↦ [] | Some s ↦ attribute_positions (λ a. target_named name (f a)) p.group ] ])
    go None = refl
    go (Some by) = at (index_of_name by c.names) where
      at : (i : Option ℕ) → length {A = ReverseDependency} (elim i [ None ↦ [] | Some s ↦ map (λ (a : TargetAttribute). record { by = s; condition = attribute_condition (context_of language p) p.group a.condition }) (filter (λ (a : TargetAttribute). bytes_eq a.name name) (attribute_values f p.group)) ])
          ≡ length {A = Position} (elim i [ None ↦ [] | Some s ↦ attribute_positions (λ a. target_named name (f a)) p.group ])
      at None = refl
      at (Some s) =
          length_mapped _ (filter (λ (a : TargetAttribute). bytes_eq a.name name) (attribute_values f p.group))
          ∙ ap length (filtered_targets name f p.group.attributes) ∙ as_many (λ a. target_named name (f a)) p.group p.group.attributes

pub of_symbol : LinesAreOfSymbol
of_symbol language read name names t some =
    let c = contents_of read in
    record {
      prompts = prompts_of_groups names t some language (definitions_of c name);
      direct = own_of_groups names t some language (choice_of_symbol c name) (definitions_of c name);
      defaults = as_many_each (defaults_at language) _ (λ p. length_mapped _ (attribute_values default_of p.group) ∙ as_many default_of p.group p.group.attributes) (definitions_of c name);
      ranges = as_many_each (ranges_at language) _ (λ p. length_mapped _ (attribute_values range_of p.group) ∙ as_many range_of p.group p.group.attributes) (definitions_of c name);
      selectors = as_many_each (reverse_dependencies_of language select_of c name) (target_positions select_of c name) (as_many_targets language c name select_of) c.places;
      impliers = as_many_each (reverse_dependencies_of language imply_of c name) (target_positions imply_of c name) (as_many_targets language c name imply_of) c.places;
    }
