-- The rows of choices, group by group.
use Rattle.std.proofs.Common.{◌||◌}
use Rattle.kc_builder.proofs.Common.{◌≡◌, ℕ, suc, ◌+◌, ◌<◌, Bool, true, false, cond, List, [], ◌∷◌, ◌++◌, length, map, reverse, Some, refl, ap, sym, subst, ◌∙◌, arith, append-nil, All, filter, filter_map, slice_get, option_map, length-map, list_any, Language, Exprs, node_expr, Expr, attribute_in}
use Rattle.kc_builder.proofs.Common.{is_prompt, prompt_of, Group, Line, open_blocks, context_of, GroupInContext, group_in_context, groups_in_context, prompt_condition, Listing, line_in, RepresentsGroup, names_defined, opens, IsChoiceRow, AreChoiceRows, conditions_at, own_conditions, read_before}
use Rattle.kc_builder.proofs.Common.{group_at, own_lines, is_choice_code, condition_at, RepresentsConditions, RepresentsAllConditions, ChoiceRow, GroupConditions, shown_at, placed_more, none_before, all_before, count_is, conditioned_at, ReadAttribute, CodeLine, RepresentsListing}
use Rattle.std.proofs.lemmas.List.Elements.{filter-append}
use Rattle.kc_tree_model.specs.Statements.{is_optional}
use Rattle.kc_statements.proofs.AttributeViews.{is_optional_same}
use Rattle.kc_tree_model.specs.declared.statement.Attribute.TheVariants as attributes
use Rattle.kc_tree_model.specs.Conditions.{prompts_of}
use Rattle.kc_builder.specs.checker.ChoiceRows.{is_optional_line, choice_row, group_rows}
use Rattle.kc_conditions.specs.between.Firsts.{first_prompt}
use Rattle.kc_conditions.proofs.GroupConditionLemmas.{conditions_count}
use Rattle.kc_parser.proofs.ChoiceSteps.{begins_is}

same_group : (m n : Group) (a b : List Group) → m ∷ a ≡ n ∷ b → m ≡ n
same_group m n a b e = cc

-- the first prompt
module _ (language : Language) (old far : Exprs) (p : GroupInContext) where
  abbrev prompts_among : List Line → List Expr
  prompts_among lines = map (prompt_condition (context_of language p) p.group) (filter_map (λ (l : Line). prompt_of l.attribute) lines)

  prompt_one : (n : ℕ) (a : ReadAttribute) (o : ℕ) (os : List ℕ) (ls : List CodeLine) (rest : List Line)
      → node_expr far o ≡ condition_at language p (record { number = n; attribute = attribute_in old a })
      → option_map (node_expr far) (first_prompt ls os) ≡ slice_get (prompts_among rest) 0
      → option_map (node_expr far) (first_prompt (record { number = n; attribute = a } ∷ ls) (o ∷ os)) ≡ slice_get
      (prompts_among (record { number = n; attribute = attribute_in old a } ∷ rest)) 0
  prompt_one n (attributes.TypedPrompt k c) o os ls rest e h = ap Some e
  prompt_one n (attributes.Prompt c) o os ls rest e h = ap Some e
  prompt_one n x o os ls rest e h = h

  prompt_first : (ls : List CodeLine) (os : List ℕ) → map (node_expr far) os ≡ map (condition_at language p) (map (line_in old) ls)
      → option_map (node_expr far) (first_prompt ls os) ≡ slice_get (prompts_among (map (line_in old) ls)) 0
  prompt_first [] os e = refl
  prompt_first (l ∷ ls) [] e = absurd (let k : 0 ≡ suc (length (map (condition_at language p) (map (line_in old) ls))) = ap length e in cc)
  prompt_first (l ∷ ls) (o ∷ os) e =
      let rest : map (node_expr far) os ≡ map (condition_at language p) (map (line_in old) ls) = cc in
      let here : node_expr far o ≡ condition_at language p (line_in old l) = cc in
      prompt_one l.number l.attribute o os ls (map (line_in old) ls) here (prompt_first ls os rest)

  pub prompt_shown : (ls : List CodeLine) (os : List ℕ) → p.group.attributes ≡ map (line_in old) ls
      → map (node_expr far) os ≡ map (condition_at language p) p.group.attributes
      → option_map (node_expr far) (first_prompt ls os) ≡ slice_get (prompts_of (context_of language p) p.group) 0
  prompt_shown ls os a e = prompt_first ls os (e ∙ ap (map (condition_at language p)) a) ∙ sym (ap (λ xs. slice_get (prompts_among xs) 0) a)

-- the attribute `optional`
optional_shown : (old : Exprs) (ls : List CodeLine) → list_any is_optional_line ls ≡ list_any (λ (l : Line). is_optional l.attribute) (map (line_in old) ls)
optional_shown old [] = refl
optional_shown old (l ∷ ls) = ap (λ b. b || list_any is_optional_line ls) (is_optional_same old l.attribute)
    ∙ ap (λ b. is_optional (attribute_in old l.attribute) || b) (optional_shown old ls)

prompt_held : (n : ℕ) (ls : List CodeLine) (os : List ℕ) → All (λ i. i < n) os → (i : ℕ) → first_prompt ls os ≡ Some i → i < n
prompt_held n [] os h i e = cc
prompt_held n (l ∷ ls) [] h i e = cc
prompt_held n (l ∷ ls) (o ∷ os) h i e = by (is_prompt l.attribute) (λ j f. prompt_held n ls os (λ k d m. h (suc k) d (omega (arith, m))) j f) e
  where
    by : (b : Bool) → ((j : ℕ) → first_prompt ls os ≡ Some j → j < n) → cond b (Some o) (first_prompt ls os) ≡ Some i → i < n
    by true k e = let s : o ≡ i = cc in let t = h 0 o (omega arith) in omega (arith, s, t)
    by false k e = k i e

-- one row more
rows_pushed : (language : Language) (exprs : Exprs) (ps : List GroupInContext) (rows : List ChoiceRow) (p : GroupInContext) (r : ChoiceRow) → AreChoiceRows language exprs ps rows
    → IsChoiceRow language exprs p r → AreChoiceRows language exprs (ps ++ p ∷ []) (rows ++ r ∷ [])
rows_pushed language exprs [] [] p r h k = (k, tt)
rows_pushed language exprs [] (s ∷ rows) p r h k = absurd h
rows_pushed language exprs (q ∷ ps) [] p r h k = absurd h
rows_pushed language exprs (q ∷ ps) (s ∷ rows) p r h k = (h.0, rows_pushed _ exprs ps rows p r h.1 k)

-- a group and its conditions
module _ (language : Language) (l : Listing) (exprs : Exprs) (groups : List GroupConditions) (conditions : List ℕ) (read : List Group) (s : RepresentsListing l read)
    (k : RepresentsAllConditions language exprs l.texts.items conditions (length conditions) (reverse groups) read) where
  pub as_many_conditions : length groups ≡ length l.groups.items
  unfolding RepresentsListing
  as_many_conditions =
      conditions_count _ exprs l.texts.items conditions groups read k ∙ sym
      (count_is l.names.arena (names_defined read) l.texts.items l.lines.items l.groups.items read s.groups_are)

  -- the listing represents the group with number `i` that was read, and the walk its conditions
  pub record IsBoth (i : ℕ) : Type 0 where
    pub group : Group
    pub now : read_before (i + 1) read ≡ group ∷ read_before i read
    pub shown : RepresentsGroup l.names.arena (names_defined read) l.texts.items (own_lines l i) i (group_at l.groups.items i) group
    pub conditioned : RepresentsConditions language exprs l.texts.items (own_conditions groups conditions i) (conditions_at groups i)
        (group_in_context (open_blocks 0 (read_before i read)) group)

  pub both_at : (i : ℕ) → i < length l.groups.items → IsBoth i
  unfolding RepresentsListing
  both_at i h =
      let a = shown_at l.names.arena (names_defined read) l.texts.items l.lines.items l.groups.items read s.groups_are i h in
      let b = conditioned_at _ exprs l.texts.items conditions groups read k i (omega (arith, as_many_conditions, h)) in
      let e : b.group ≡ a.group = same_group b.group a.group (read_before i read) (read_before i read) (sym b.now ∙ a.now) in
      record {
        group = a.group;
        now = a.now;
        shown = a.shown;
        conditioned = subst (λ m. RepresentsConditions language exprs l.texts.items (own_conditions groups conditions i) (conditions_at groups i)
            (group_in_context (open_blocks 0 (read_before i read)) m)) e b.shown;
      }

  pub as_long : (i : ℕ) → i < length l.groups.items → length (own_conditions groups conditions i) ≡ length (own_lines l i)
  as_long i h =
      let b = both_at i h in
      let p : GroupInContext = group_in_context (open_blocks 0 (read_before i read)) b.group in
      sym (length-map (own_conditions groups conditions i) (node_expr exprs))
      ∙ ap length b.conditioned.own_are
      ∙ length-map b.group.attributes (condition_at language p)
      ∙ ap length b.shown.attributes
      ∙ length-map (own_lines l i) (line_in l.names.arena)

  pub row_shown : (i : ℕ) (h : i < length l.groups.items)
      → IsChoiceRow language exprs (group_in_context (open_blocks 0 (read_before i read)) (both_at i h).group)
      (choice_row (group_at l.groups.items i) (own_lines l i) (own_conditions groups conditions i))
  row_shown i h =
      let b = both_at i h in
      let p : GroupInContext = group_in_context (open_blocks 0 (read_before i read)) b.group in
      record {
        file_is = sym b.shown.file_is;
        line_is = sym b.shown.line_is;
        prompt_is = prompt_shown _ l.names.arena exprs p (own_lines l i) (own_conditions groups conditions i) b.shown.attributes b.conditioned.own_are;
        optional_is = optional_shown l.names.arena (own_lines l i) ∙ ap (list_any (λ (x : Line). is_optional x.attribute)) (sym b.shown.attributes);
        held = prompt_held (length exprs.nodes) (own_lines l i) (own_conditions groups conditions i) b.conditioned.held;
      }

  abbrev pub AreRowsTo : ℕ → List ChoiceRow → Type 0
  AreRowsTo i rows = AreChoiceRows language exprs (filter opens (groups_in_context (read_before i read))) rows

  pub places_more : (i : ℕ) (h : i < length l.groups.items) (b : Bool) → is_choice_code (group_at l.groups.items i).head ≡ b
      → filter opens (groups_in_context (read_before (i + 1) read)) ≡ filter opens (groups_in_context (read_before i read)) ++ cond b
      (group_in_context (open_blocks 0 (read_before i read)) (both_at i h).group ∷ []) []
  places_more i h b e =
      let x = both_at i h in
      let p : GroupInContext = group_in_context (open_blocks 0 (read_before i read)) x.group in
      ap (filter opens) (placed_more read i x.group x.now)
      ∙ filter-append opens (groups_in_context (read_before i read)) (p ∷ [])
      ∙ ap (λ t. filter opens (groups_in_context (read_before i read)) ++ cond t (p ∷ []) [])
      (begins_is l.names.arena (names_defined read) l.texts.items (group_at l.groups.items i).head x.group x.shown.head ∙ e)

  pub rows_more : (i : ℕ) (rows rows2 : List ChoiceRow) → i < length l.groups.items
      → rows2 ≡ rows ++ group_rows (group_at l.groups.items i) (own_lines l i) (own_conditions groups conditions i) → AreRowsTo i rows → AreRowsTo (i + 1) rows2
  rows_more i rows rows2 h e r = subst (AreRowsTo (i + 1)) (sym e) (by (is_choice_code (group_at l.groups.items i).head) refl)
    where
      by : (b : Bool) → is_choice_code (group_at l.groups.items i).head ≡ b
          → AreRowsTo (i + 1) (rows ++ cond b (choice_row (group_at l.groups.items i) (own_lines l i) (own_conditions groups conditions i) ∷ []) [])
      by true t =
          let p : GroupInContext = group_in_context (open_blocks 0 (read_before i read)) (both_at i h).group in
          let row = choice_row (group_at l.groups.items i) (own_lines l i) (own_conditions groups conditions i) in
          subst (λ ps. AreChoiceRows language exprs ps (rows ++ row ∷ [])) (sym (places_more i h true t))
          (rows_pushed _ exprs (filter opens (groups_in_context (read_before i read))) rows p row r (row_shown i h))
      by false t =
          subst (AreRowsTo (i + 1)) (sym (append-nil rows))
          (subst (λ ps. AreChoiceRows language exprs ps rows)
          (sym (places_more i h false t ∙ append-nil (filter opens (groups_in_context (read_before i read))))) r)

  pub no_rows : AreRowsTo 0 []
  no_rows = subst (λ ms. AreChoiceRows language exprs (filter opens (groups_in_context ms)) []) (sym (none_before read)) tt

  pub all_rows : (i : ℕ) (rows : List ChoiceRow) → i ≡ length l.groups.items → AreRowsTo i rows
      → AreChoiceRows language exprs (filter opens (groups_in_context read)) rows
  unfolding RepresentsListing
  all_rows i rows e r =
      let n : i ≡ length read = e ∙ count_is l.names.arena (names_defined read) l.texts.items l.lines.items l.groups.items read s.groups_are in
      subst (λ ms. AreChoiceRows language exprs (filter opens (groups_in_context ms)) rows) (ap (λ j. read_before j read) n ∙ all_before read) r
