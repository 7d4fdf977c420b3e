-- What the code finds on a group's lines is what the definitions say.
use Rattle.kc_symbol_lines.proofs.Common.{◌≡◌, ℕ, Bool, true, false, cond, List, [], ◌∷◌, ◌++◌, map, Option, Some, None, refl, ap, sym, ◌∙◌, filter_map, option_map, option_to_list, cons_option, map-append, Exprs, node_expr, attribute_in, if_in, line_in, Attribute, Group, Line, Position}
use Rattle.kc_symbol_lines.proofs.Common.{LocatedContext, located_at, located_dependencies, located_prompts, attribute_positions, position_of, Conjuncts, Dependencies, position_view, located_view, all_located, conjunct_given, prompt_of, is_given, EnclosingLists, position_at, located_if, parts_in}
use Rattle.kc_symbol_lines.proofs.Common.{places_in, dependency_parts, prompt_parts, prompt_at, prompts_in, ReadAttribute, CodeLine, CodeLocated}
use Rattle.kc_tree_model.specs.Statements as model
use Rattle.kc_reasons_model.specs.Places.{LocatedExpr, located_attributes, located_prompt}
use Rattle.kc_symbol_lines.specs.declared.own_lines.Given.{Given}
use Rattle.kc_conditions.proofs.Growth.{part_meant, part_is}
use Rattle.kc_statements.proofs.AttributeViews.{prompt_same}

-- the conditions that some of the code represent
abbrev pub context_view : Exprs → EnclosingLists → LocatedContext
context_view e a = record { dependencies = all_located e a.dependencies; visibles = all_located e a.visibles }

module _ (e : Exprs) where
  one_part : (g : Group) (file line : ℕ) (o : Option ℕ) (xs : List CodeLocated) (ys : List LocatedExpr) → g.at.file ≡ file → all_located e xs ≡ ys
      → all_located e (located_if (position_at file line) o ++ xs) ≡ cons_option (option_map (located_at g line) (option_map (node_expr e) o)) ys
  one_part g file line None xs ys f h = h
  one_part g file line (Some i) xs ys f h =
      ap (λ r. located_view e (record { expr = i; at = position_at file line; of_choice = false }) ∷ r) h
      ∙ ap (λ n. record { expr = node_expr e i; at = record { file = n; line = line }; of_choice = false } ∷ ys) (sym f)

  parts_of_lines : (part : Conjuncts) (g : Group) (file : ℕ) (ls : List CodeLine) → g.at.file ≡ file
      → all_located e (parts_in part file ls) ≡ filter_map (λ (l : Line). option_map (located_at g l.number) (part_meant part l.attribute)) (map (line_in e) ls)
  parts_of_lines part g file [] f = refl
  parts_of_lines part g file (l ∷ ls) f =
      let rest : List LocatedExpr = filter_map (λ (k : Line). option_map (located_at g k.number) (part_meant part k.attribute)) (map (line_in e) ls) in
      one_part g file l.number (conjunct_given part l.attribute) (parts_in part file ls) rest f (parts_of_lines part g file ls f)
      ∙ ap (λ o. cons_option (option_map (located_at g l.number) o) rest) (part_is e part l.attribute)

  one_place : (g : Group) (file line : ℕ) (b : Bool) (ys zs : List Position) → g.at.file ≡ file → ys ≡ zs
      → map position_view (cond b (position_at file line ∷ []) []) ++ ys ≡ cons_option (cond b (Some (record { file = g.at.file; line = line })) None) zs
  one_place g file line true ys zs f h = ap (λ r. record { file = file; line = line } ∷ r) h ∙ ap (λ n. record { file = n; line = line } ∷ zs) (sym f)
  one_place g file line false ys zs f h = h

  places_of_lines : {A : Type 0} (given : Given) (D : Attribute → Option A) (g : Group) (file : ℕ) (ls : List CodeLine) → g.at.file ≡ file
      → ((x : Position) (a : ReadAttribute) → option_map (λ _. x) (D (attribute_in e a)) ≡ cond (is_given given a) (Some x) None)
      → map position_view (places_in given file ls) ≡ filter_map (λ (l : Line). option_map (λ a. position_of g l) (D l.attribute)) (map (line_in e) ls)
  places_of_lines given D g file [] f h = refl
  places_of_lines given D g file (l ∷ ls) f h =
      let rest : List Position = filter_map (λ (k : Line). option_map (λ a. position_of g k) (D k.attribute)) (map (line_in e) ls) in
      map-append position_view (cond (is_given given l.attribute) (position_at file l.number ∷ []) []) (places_in given file ls)
      ∙ one_place g file l.number (is_given given l.attribute) (map position_view (places_in given file ls)) rest f (places_of_lines given D g file ls f h)
      ∙ ap (λ o. cons_option o rest) (sym (h (record { file = g.at.file; line = l.number }) l.attribute))

  -- the parts of a group's lines
  module _ (g : Group) (file : ℕ) (ls : List CodeLine) (f : g.at.file ≡ file) (own : g.attributes ≡ map (line_in e) ls) where
    pub parts_located : (part : Conjuncts) → all_located e (parts_in part file ls) ≡ located_attributes (part_meant part) g
    parts_located part =
        parts_of_lines part g file ls f
        ∙ ap (λ xs. filter_map (λ (l : Line). option_map (located_at g l.number) (part_meant part l.attribute)) xs) (sym own)

    pub places_located : {A : Type 0} (given : Given) (D : Attribute → Option A)
        → ((x : Position) (a : ReadAttribute) → option_map (λ _. x) (D (attribute_in e a)) ≡ cond (is_given given a) (Some x) None)
        → map position_view (places_in given file ls) ≡ attribute_positions D g
    places_located given D h =
        places_of_lines given D g file ls f h
        ∙ ap (λ xs. filter_map (λ (l : Line). option_map (λ a. position_of g l) (D l.attribute)) xs) (sym own)

    pub dependencies_located : (a : EnclosingLists) → all_located e (dependency_parts a file ls) ≡ located_dependencies (context_view e a) g
    dependencies_located a =
        map-append (located_view e) a.dependencies (parts_in Dependencies file ls)
        ∙ ap (λ xs. all_located e a.dependencies ++ xs) (parts_located Dependencies)

    if_located : (line : ℕ) (c : Option ℕ) → all_located e (located_if (position_at file line) c) ≡ option_to_list (option_map (located_at g line) (if_in e c))
    if_located line None = refl
    if_located line (Some i) = ap (λ n. record { expr = node_expr e i; at = record { file = n; line = line }; of_choice = false } ∷ []) (sym f)

    prompt_located : (a : EnclosingLists) (line : ℕ) (c : Option ℕ)
        → all_located e (prompt_parts a file ls line c) ≡ located_prompt (context_view e a) g line (if_in e c)
    prompt_located a line c =
        map-append (located_view e) (dependency_parts a file ls) (a.visibles ++ located_if (position_at file line) c)
        ∙ ap (λ xs. xs ++ all_located e (a.visibles ++ located_if (position_at file line) c)) (dependencies_located a)
        ∙ ap (λ xs. located_dependencies (context_view e a) g ++ xs) (map-append (located_view e) a.visibles (located_if (position_at file line) c)
        ∙ ap (λ xs. all_located e a.visibles ++ xs) (if_located line c))

    one_prompt : (a : EnclosingLists) (line : ℕ) (o : Option (Option ℕ)) (ys zs : List (List LocatedExpr)) → ys ≡ zs
        → map (all_located e) (prompt_at a file ls line o) ++ ys ≡ cons_option (option_map (located_prompt (context_view e a) g line) (option_map (if_in e) o)) zs
    one_prompt a line None ys zs h = h
    one_prompt a line (Some c) ys zs h = ap (λ x. x ∷ ys) (prompt_located a line c) ∙ ap (λ r. located_prompt (context_view e a) g line (if_in e c) ∷ r) h

    prompts_of_lines : (a : EnclosingLists) (some : List CodeLine)
        → map (all_located e) (prompts_in a file ls some)
        ≡ filter_map (λ (l : Line). option_map (located_prompt (context_view e a) g l.number) (model.prompt_of l.attribute)) (map (line_in e) some)
    prompts_of_lines a [] = refl
    prompts_of_lines a (l ∷ some) =
        let rest : List (List LocatedExpr) = filter_map (λ (k : Line). option_map (located_prompt (context_view e a) g k.number) (model.prompt_of k.attribute)) (map (line_in e) some) in
        map-append (all_located e) (prompt_at a file ls l.number (prompt_of l.attribute)) (prompts_in a file ls some)
        ∙ one_prompt a l.number (prompt_of l.attribute) (map (all_located e) (prompts_in a file ls some)) rest (prompts_of_lines a some)
        ∙ ap (λ o. cons_option (option_map (located_prompt (context_view e a) g l.number) o) rest) (prompt_same e l.attribute)

    pub prompts_located : (a : EnclosingLists) → map (all_located e) (prompts_in a file ls ls) ≡ located_prompts (context_view e a) g
    prompts_located a =
        prompts_of_lines a ls
        ∙ ap (λ xs. filter_map (λ (l : Line). option_map (located_prompt (context_view e a) g l.number) (model.prompt_of l.attribute)) xs) (sym own)
