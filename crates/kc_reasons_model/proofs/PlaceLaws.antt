-- The parts that are on lines are those of the condition.
use Rattle.kc_reasons_model.proofs.Common.{◌≡◌, ℕ, Bool, true, false, cond, List, [], ◌∷◌, ◌++◌, map, filter, Option, Some, None, slice_get, unwrap_or, refl, sym, ◌∙◌, ap, append_assoc, append-nil, cons_option, filter_map, flat_map, option_map, option_to_list, filter-append, Tri, N, M, Expr}
use Rattle.kc_reasons_model.proofs.Common.{Environment, alone, constant, both, shown, is_n, Attribute, prompt_of, Group, Line, Context, context, attribute_values, attribute_condition, prompt_condition, Part, conjuncts, lacks, lacking, LocatedExpr, LocatedContext, located_dependencies}
use Rattle.kc_reasons_model.proofs.Common.{located_prompt, located_context, wanted_of, lacking_located}
use Rattle.std.proofs.lemmas.Grind.{flat_map-append}
use Rattle.kc_tree_model.specs.Statements.{Head, depends_of, visible_of}
use Rattle.kc_tree_model.specs.declared.statement.Head.TheVariants.{Config as config, Choice as choice, Menu as menu, Condition as condition}
use Rattle.kc_tree_model.specs.Blocks.{GroupHead, of_head, file_end}
use Rattle.kc_tree_model.specs.Conditions.{inside_menu, inner_context_of_group_head, inner_context_of_head, conjunction_from, conjunction_of, dependencies_of, visible_conjunct}
use Rattle.kc_reasons_model.specs.Laws.{PromptPartsAreLocated, ConditionPartsAreLocated, DependencyPartsAreLocated}
use Rattle.kc_reasons_model.specs.Places.{located_at, located_attributes, located_condition, as_choice_parts, located_inside_menu, located_inside_head, located_inside}

module _ (names : Environment) where
  -- what lacks of a conjunction is what lacks of each
  lacking_from : (t : Tri) (e : Expr) (es : List Expr) → lacking names t (conjunction_from e es) ≡ lacking names t e ++ flat_map (lacking names t) es
  lacking_from t e [] = sym (append-nil (lacking names t e))
  lacking_from t e (f ∷ fs) =
      lacking_from t (both e f) fs ∙ ap (λ xs. xs ++ flat_map (lacking names t) fs) (filter-append (lacks names) (conjuncts t e) (conjuncts t f))
      ∙ append_assoc (lacking names t e) (lacking names t f) (flat_map (lacking names t) fs)

  lacking_all : (t : Tri) (es : List Expr) → lacking names t (conjunction_of es) ≡ flat_map (lacking names t) es
  lacking_all N [] = refl
  lacking_all _ [] = refl
  lacking_all t (e ∷ es) = lacking_from t e es

  conjunct_all : (t : Tri) (es : List Expr) → flat_map (lacking names t) (visible_conjunct es) ≡ flat_map (lacking names t) es
  conjunct_all t [] = refl
  conjunct_all t (e ∷ es) = append-nil (lacking names t (conjunction_from e es)) ∙ lacking_from t e es

  -- attributes with their lines
  located_lack : (t : Tri) (g : Group) (f : Attribute → Option Expr) (ls : List Line)
      → flat_map (lacking names t) (filter_map (λ (l : Line). f l.attribute) ls) ≡ lacking_located names t (filter_map (λ (l : Line). option_map (located_at g l.number) (f l.attribute)) ls)
  located_lack t g f [] = refl
  located_lack t g f (l ∷ ls) = go (f l.attribute) (located_lack t g f ls) where
    go : (o : Option Expr) → flat_map (lacking names t) (filter_map (λ (l : Line). f l.attribute) ls) ≡ lacking_located names t (filter_map (λ (l : Line). option_map (located_at g l.number) (f l.attribute)) ls)
        → flat_map (lacking names t) (cons_option o (filter_map (λ (l : Line). f l.attribute) ls)) ≡ lacking_located names t (cons_option (option_map (located_at g l.number) o) (filter_map (λ (l : Line). option_map (located_at g l.number) (f l.attribute)) ls))
    go None rest = rest
    go (Some e) rest = ap (λ xs. lacking names t e ++ xs) rest

  -- what is around a place, with its lines
  record Same (t : Tri) (enclosing : Context) (stood : LocatedContext) : Type 0 where
    dependencies : flat_map (lacking names t) enclosing.dependencies ≡ lacking_located names t stood.dependencies
    visibles : flat_map (lacking names t) enclosing.visibles ≡ lacking_located names t stood.visibles

  own_same : (t : Tri) (enclosing : Context) (stood : LocatedContext) (g : Group) → Same t enclosing stood → flat_map (lacking names t) (dependencies_of enclosing g) ≡ lacking_located names t (located_dependencies stood g)
  own_same t enclosing stood g same =
      flat_map-append (lacking names t) enclosing.dependencies (attribute_values depends_of g)
      ∙ ap (λ xs. xs ++ flat_map (lacking names t) (attribute_values depends_of g)) same.dependencies
      ∙ ap (λ xs. lacking_located names t stood.dependencies ++ xs) (located_lack t g depends_of g.attributes)
      ∙ sym (flat_map-append (λ (p : LocatedExpr). lacking names (wanted_of t p) p.expr) stood.dependencies (located_attributes depends_of g))

  if_same : (t : Tri) (g : Group) (line : ℕ) (c : Option Expr) → flat_map (lacking names t) (option_to_list c) ≡ lacking_located names t (option_to_list (option_map (located_at g line) c))
  if_same t g line None = refl
  if_same t g line (Some e) = refl

  attribute_same : (t : Tri) (enclosing : Context) (stood : LocatedContext) (g : Group) (line : ℕ) (c : Option Expr) → Same t enclosing stood
      → lacking names t (attribute_condition enclosing g c) ≡ lacking_located names t (located_condition stood g line c)
  attribute_same t enclosing stood g line c same =
      lacking_all t (dependencies_of enclosing g ++ option_to_list c)
      ∙ flat_map-append (lacking names t) (dependencies_of enclosing g) (option_to_list c)
      ∙ ap (λ xs. xs ++ flat_map (lacking names t) (option_to_list c)) (own_same t enclosing stood g same)
      ∙ ap (λ xs. lacking_located names t (located_dependencies stood g) ++ xs) (if_same t g line c)
      ∙ sym (flat_map-append (λ (p : LocatedExpr). lacking names (wanted_of t p) p.expr) (located_dependencies stood g) (option_to_list (option_map (located_at g line) c)))

  prompt_same : (t : Tri) (enclosing : Context) (stood : LocatedContext) (g : Group) (line : ℕ) (c : Option Expr) → Same t enclosing stood
      → lacking names t (prompt_condition enclosing g c) ≡ lacking_located names t (located_prompt stood g line c)
  prompt_same t enclosing stood g line c same =
      let L : List Expr → List Part = flat_map (lacking names t) in
      let S : List LocatedExpr → List Part = lacking_located names t in
      let inner : L (visible_conjunct enclosing.visibles ++ option_to_list c) ≡ S (stood.visibles ++ option_to_list (option_map (located_at g line) c)) =
      flat_map-append (lacking names t) (visible_conjunct enclosing.visibles) (option_to_list c)
      ∙ ap (λ xs. xs ++ L (option_to_list c)) (conjunct_all t enclosing.visibles ∙ same.visibles)
      ∙ ap (λ xs. S stood.visibles ++ xs) (if_same t g line c)
      ∙ sym (flat_map-append (λ (p : LocatedExpr). lacking names (wanted_of t p) p.expr) stood.visibles (option_to_list (option_map (located_at g line) c))) in
      lacking_all t (dependencies_of enclosing g ++ (visible_conjunct enclosing.visibles ++ option_to_list c))
      ∙ flat_map-append (lacking names t) (dependencies_of enclosing g) (visible_conjunct enclosing.visibles ++ option_to_list c)
      ∙ ap (λ xs. xs ++ L (visible_conjunct enclosing.visibles ++ option_to_list c)) (own_same t enclosing stood g same)
      ∙ ap (λ xs. S (located_dependencies stood g) ++ xs) inner
      ∙ sym (flat_map-append (λ (p : LocatedExpr). lacking names (wanted_of t p) p.expr) (located_dependencies stood g) (stood.visibles ++ option_to_list (option_map (located_at g line) c)))

  -- inside "shown" any value but `n` is wanted
  shown_same : (t : Tri) → is_n t ≡ false → (e : Expr) → lacking names t (shown e) ≡ lacking names M e
  shown_same t some e = ap (λ b. filter (lacks names) (cond b [] (conjuncts M e))) some

  marked : (t : Tri) (parts : List LocatedExpr) → lacking_located names M parts ≡ lacking_located names t (as_choice_parts parts)
  marked t [] = refl
  marked t (p ∷ parts) = ap (λ w. lacking names w p.expr ++ lacking_located names M parts) (either p.of_choice) ∙ ap (λ xs. lacking names M p.expr ++ xs) (marked t parts) where
    either : (b : Bool) → cond b M M ≡ M
    either true = refl
    either false = refl

  -- the first prompt of a choice
  first_prompt : (t : Tri) → is_n t ≡ false → (enclosing : Context) (stood : LocatedContext) (g : Group) → Same M enclosing stood → (ls : List Line)
      → flat_map (lacking names t) (unwrap_or (option_map shown (slice_get (map (prompt_condition enclosing g) (filter_map (λ (l : Line). prompt_of l.attribute) ls)) 0)) (alone (constant N)) ∷ [])
      ≡ lacking_located names t (unwrap_or (option_map as_choice_parts (slice_get (filter_map (λ (l : Line). option_map (located_prompt stood g l.number) (prompt_of l.attribute)) ls) 0)) (located_at g g.at.line (alone (constant N)) ∷ []))
  first_prompt t some enclosing stood g same [] = refl
  first_prompt t some enclosing stood g same (l ∷ ls) = go (prompt_of l.attribute) (first_prompt t some enclosing stood g same ls) where
    go : (o : Option (Option Expr))
        → flat_map (lacking names t) (unwrap_or (option_map shown (slice_get (map (prompt_condition enclosing g) (filter_map (λ (l : Line). prompt_of l.attribute) ls)) 0)) (alone (constant N)) ∷ [])
        ≡ lacking_located names t (unwrap_or (option_map as_choice_parts (slice_get (filter_map (λ (l : Line). option_map (located_prompt stood g l.number) (prompt_of l.attribute)) ls) 0)) (located_at g g.at.line (alone (constant N)) ∷ []))
        → flat_map (lacking names t) (unwrap_or (option_map shown (slice_get (map (prompt_condition enclosing g) (cons_option o (filter_map (λ (l : Line). prompt_of l.attribute) ls))) 0)) (alone (constant N)) ∷ [])
        ≡ lacking_located names t (unwrap_or (option_map as_choice_parts (slice_get (cons_option (option_map (located_prompt stood g l.number) o) (filter_map (λ (l : Line). option_map (located_prompt stood g l.number) (prompt_of l.attribute)) ls)) 0)) (located_at g g.at.line (alone (constant N)) ∷ []))
    go None rest = rest
    go (Some c) rest = append-nil (lacking names t (shown (prompt_condition enclosing g c))) ∙ shown_same t some (prompt_condition enclosing g c) ∙ prompt_same M enclosing stood g l.number c same ∙ marked t (located_prompt stood g l.number c)

  inside_menu_same : (t : Tri) (enclosing : Context) (stood : LocatedContext) (g : Group) → Same t enclosing stood → Same t (inside_menu enclosing g) (located_inside_menu stood g)
  inside_menu_same t enclosing stood g same = record {
    dependencies = own_same t enclosing stood g same;
    visibles = flat_map-append (lacking names t) enclosing.visibles (attribute_values visible_of g)
        ∙ ap (λ xs. xs ++ flat_map (lacking names t) (attribute_values visible_of g)) same.visibles
        ∙ ap (λ xs. lacking_located names t stood.visibles ++ xs) (located_lack t g visible_of g.attributes)
        ∙ sym (flat_map-append (λ (p : LocatedExpr). lacking names (wanted_of t p) p.expr) stood.visibles (located_attributes visible_of g));
  }

  inside_head_same : (t : Tri) → is_n t ≡ false → (through : Bool) (h : Head) (enclosing : Context) (stood : LocatedContext) (g : Group) → Same t enclosing stood → Same M enclosing stood → Same t (inner_context_of_head through h enclosing g) (located_inside_head through h stood g)
  inside_head_same t some true choice enclosing stood g same wide = inside_menu_same t enclosing stood g same
  inside_head_same t some false choice enclosing stood g same wide = record { dependencies = first_prompt t some enclosing stood g wide g.attributes; visibles = refl }
  inside_head_same t some through (menu title) enclosing stood g same wide = inside_menu_same t enclosing stood g same
  inside_head_same t some through (condition e) enclosing stood g same wide = record {
    dependencies = flat_map-append (lacking names t) enclosing.dependencies (e ∷ [])
        ∙ ap (λ xs. xs ++ flat_map (lacking names t) (e ∷ [])) same.dependencies
        ∙ sym (flat_map-append (λ (p : LocatedExpr). lacking names (wanted_of t p) p.expr) stood.dependencies (located_at g g.at.line e ∷ []));
    visibles = same.visibles;
  }
  inside_head_same t some through (config name) enclosing stood g same wide = same
  inside_head_same t some through _ enclosing stood g same wide = same

  inside_same : (t : Tri) → is_n t ≡ false → (through : Bool) (w : GroupHead) (enclosing : Context) (stood : LocatedContext) (g : Group) → Same t enclosing stood → Same M enclosing stood → Same t (inner_context_of_group_head through w enclosing g) (located_inside through w stood g)
  inside_same t some through (of_head h) enclosing stood g same wide = inside_head_same t some through h enclosing stood g same wide
  inside_same t some through file_end enclosing stood g same wide = same

  context_same : (t : Tri) → is_n t ≡ false → (through : Bool) (opened : List Group) → Same t (context through opened) (located_context through opened)
  context_same t some through [] = record { dependencies = refl; visibles = refl }
  context_same t some through (g ∷ outer) = inside_same t some through g.head (context through outer) (located_context through outer) g (context_same t some through outer) (context_same M refl through outer)

pub prompts_located : PromptPartsAreLocated
prompts_located names t through opened g line c some = prompt_same names t (context through opened) (located_context through opened) g line c (context_same names t some through opened)

pub conditions_located : ConditionPartsAreLocated
conditions_located names t through opened g line c some = attribute_same names t (context through opened) (located_context through opened) g line c (context_same names t some through opened)

pub dependencies_located : DependencyPartsAreLocated
dependencies_located names t through opened g some = lacking_all names t (dependencies_of (context through opened) g) ∙ own_same names t (context through opened) (located_context through opened) g (context_same names t some through opened)
