-- The items of attributes represent those that the definition of a tree has there.
use Rattle.kc_builder.proofs.Common.{◌≡◌, ℕ, suc, ◌<◌, Bool, true, false, cond, List, [], ◌∷◌, length, map, Option, Some, None, refl, ap, sym, ◌∙◌, subst, arith, filter_map, option_map, option_and_then, All, IfSome, is_some, cons_option, All-nil, All-cons, Language, Exprs, node_expr, Expr}
use Rattle.kc_builder.proofs.Common.{index_of_name, attribute_in, AttributeNodesExist, is_prompt, target_given, Attribute, DefaultAttribute, RangeAttribute, TargetAttribute, prompt_of, default_of, range_of, Line, context_of, GroupInContext, prompt_condition, attribute_condition, get_below}
use Rattle.kc_builder.proofs.Common.{place-get, SymbolTable, HasNames, number_in, text_of_name, LineNodesExist, line_in, DefaultFits, ReverseDependencyFits, gathered_prompt, gathered_default, gathered_range, gathered_target, gathered_reverse_dependency, own_key, target_key, gathered_items}
use Rattle.kc_builder.proofs.Common.{condition_at, ReverseKind, Select, Imply, ReverseDependency, ReadAttribute, CodeLine}
use Rattle.kc_expr.specs.Expr.{Operand}
use Rattle.kc_expr.specs.between.Operand.{operand_alone}
use Rattle.kc_tree_model.specs.declared.statement.Attribute.TheVariants as attributes
use Rattle.kc_statements.specs.between.StatementViews as statement_views
use Rattle.kc_tree_model.specs.Trees as tree
use Rattle.kc_tree_model.specs.Statements.{select_of, imply_of}
use Rattle.kc_tree.specs.between.Views.{RangeFits, HasOperands}
use Rattle.kc_tree.specs.between.Views as views
use Rattle.kc_tree.specs.declared.symbol.Range.{Range}
use Rattle.kc_builder.proofs.ItemSteps.{mapped_cons}
use Rattle.kc_builder.proofs.ItemLaw.{number_of, own_key_of, own_item_of, force_key_of, force_item_of, force_by}

-- what lines with conditions give
pub pairs_keys : (key : CodeLine → ℕ → Option ℕ) (K : Line → Option ℕ) (e : Exprs) (ls : List CodeLine) (cs : List ℕ) → length cs ≡ length ls
    → ((l : CodeLine) (i : ℕ) → key l i ≡ K (line_in e l)) → gathered_items key ls cs ≡ filter_map K (map (line_in e) ls)
pairs_keys key K e [] cs n h = refl
pairs_keys key K e (l ∷ ls) [] n h = absurd (omega arith)
pairs_keys key K e (l ∷ ls) (i ∷ cs) n h =
    ap (λ o. cons_option o (gathered_items key ls cs)) (h l i) ∙ ap (cons_option (K (line_in e l))) (pairs_keys key K e ls cs (omega arith) h)

pub pairs_items : {T M : Type 0} (view : T → M) (item : CodeLine → ℕ → Option T) (I : Line → Option M) (C : Line → Expr) (e : Exprs) (ls : List CodeLine)
    (cs : List ℕ)
    → map (node_expr e) cs ≡ map C (map (line_in e) ls) → All (LineNodesExist e) ls
    → ((l : CodeLine) (i : ℕ) → LineNodesExist e l → node_expr e i ≡ C (line_in e l) → option_map view (item l i) ≡ I (line_in e l))
    → map view (gathered_items item ls cs) ≡ filter_map I (map (line_in e) ls)
pairs_items view item I C e [] cs s w h = refl
pairs_items view item I C e (l ∷ ls) [] s w h = cc
pairs_items view item I C e (l ∷ ls) (i ∷ cs) s w h =
    let here : node_expr e i ≡ C (line_in e l) = cc in
    let rest : map (node_expr e) cs ≡ map C (map (line_in e) ls) = cc in
    mapped_cons view (item l i) (gathered_items item ls cs)
    ∙ ap (λ o. cons_option o (map view (gathered_items item ls cs))) (h l i (w 0 l (omega arith)) here)
    ∙ ap (cons_option (I (line_in e l))) (pairs_items view item I C e ls cs rest (λ k d j. w (suc k) d (omega arith)) h)

all_cons : {T : Type 0} (P : T → Type 0) (o : Option T) (xs : List T) → IfSome o P → All P xs → All P (cons_option o xs)
all_cons P None xs p h = h
all_cons P (Some x) xs p h = All-cons P x xs p h

pub pairs_fit : {T : Type 0} (P : T → Type 0) (item : CodeLine → ℕ → Option T) (e : Exprs) (ls : List CodeLine) (cs : List ℕ) → All (LineNodesExist e) ls
    → All (λ i. i < length e.nodes) cs
    → ((l : CodeLine) (i : ℕ) → LineNodesExist e l → i < length e.nodes → IfSome (item l i) P) → All P (gathered_items item ls cs)
pairs_fit P item e [] cs w v h = All-nil P
pairs_fit P item e (l ∷ ls) [] w v h = All-nil P
pairs_fit P item e (l ∷ ls) (i ∷ cs) w v h =
    all_cons P (item l i) (gathered_items item ls cs) (h l i (w 0 l (omega arith)) (v 0 i (omega arith)))
    (pairs_fit P item e ls cs (λ k d j. w (suc k) d (omega arith)) (λ k d j. v (suc k) d (omega arith)) h)

-- prompts
module _ (language : Language) (e : Exprs) (p : GroupInContext) where
  prompt_by : (a : ReadAttribute) (number i : ℕ) → node_expr e i ≡ condition_at language p (record { number = number; attribute = attribute_in e a })
      → option_map (node_expr e) (cond (is_prompt a) (Some i) None) ≡ option_map (prompt_condition (context_of language p) p.group) (prompt_of (attribute_in e a))
  prompt_by (attributes.TypedPrompt k c) n i s = ap Some s
  prompt_by (attributes.Prompt c) n i s = ap Some s
  prompt_by x n i s = refl

  pub prompt_item : (l : CodeLine) (i : ℕ) → LineNodesExist e l → node_expr e i ≡ condition_at language p (line_in e l)
      → option_map (node_expr e) (gathered_prompt l i) ≡ own_item_of prompt_of (λ q. prompt_condition (context_of language q) q.group) p (line_in e l)
  prompt_item l i w s = prompt_by l.attribute l.number i s

  -- defaults
  default_by : (a : ReadAttribute) (number i : ℕ) → node_expr e i ≡ condition_at language p (record { number = number; attribute = attribute_in e a })
      → option_map (views.default_view e) (gathered_default (record { number = number; attribute = a }) i) ≡ option_map
      (λ (d : DefaultAttribute). let x : tree.Default = record { value = d.value; condition = attribute_condition (context_of language p) p.group d.condition; from_environment = d.from_environment } in x)
      (default_of (attribute_in e a))
  default_by (attributes.TypedDefault k d) n i s = ap (λ x. let y : tree.Default = record { value = node_expr e d.value; condition = x; from_environment = d.from_environment } in Some y) s
  default_by (attributes.Default d) n i s = ap (λ x. let y : tree.Default = record { value = node_expr e d.value; condition = x; from_environment = d.from_environment } in Some y) s
  default_by a n i s = refl

  pub default_item : (l : CodeLine) (i : ℕ) → LineNodesExist e l → node_expr e i ≡ condition_at language p (line_in e l)
      → option_map (views.default_view e) (gathered_default l i) ≡ own_item_of default_of
      (λ q (d : DefaultAttribute). let x : tree.Default = record { value = d.value; condition = attribute_condition (context_of language q) q.group d.condition; from_environment = d.from_environment } in x)
      p (line_in e l)
  default_item l i w s = default_by l.attribute l.number i s

  -- ranges
  operand_same : (id : ℕ) → statement_views.OperandNodeExists e id → views.operand_or_empty (node_expr e id) ≡ statement_views.operand_or_n e id
  operand_same id h = ap views.operand_or_empty h.is

  range_by : (a : ReadAttribute) (number i : ℕ) → AttributeNodesExist e a
      → node_expr e i ≡ condition_at language p (record { number = number; attribute = attribute_in e a })
      → option_map (views.range_view e) (gathered_range (record { number = number; attribute = a }) i) ≡ option_map
      (λ (b : RangeAttribute). let x : tree.Range = record {
        low = b.low;
        high = b.high;
        condition = attribute_condition (context_of language p) p.group b.condition;
      } in x) (range_of (attribute_in e a))
  range_by (attributes.Range r) n i h s =
      let made = λ (a b : Operand) (x : Expr). let y : tree.Range = record { low = a; high = b; condition = x } in Some y in
      ap (λ a. made a (views.operand_or_empty (node_expr e r.high)) (node_expr e i)) (operand_same r.low h.0)
      ∙ ap (λ b. made (statement_views.operand_or_n e r.low) b (node_expr e i)) (operand_same r.high h.1)
      ∙ ap (made (statement_views.operand_or_n e r.low) (statement_views.operand_or_n e r.high)) s
  range_by a n i h s = refl

  pub range_item : (l : CodeLine) (i : ℕ) → LineNodesExist e l → node_expr e i ≡ condition_at language p (line_in e l)
      → option_map (views.range_view e) (gathered_range l i) ≡ own_item_of range_of
      (λ q (b : RangeAttribute). let x : tree.Range = record {
        low = b.low;
        high = b.high;
        condition = attribute_condition (context_of language q) q.group b.condition;
      } in x) p (line_in e l)
  range_item l i w s = range_by l.attribute l.number i w s

-- they are under their symbol
module _ (e : Exprs) (names : List (List ℕ)) (x : List ℕ) (s : ℕ) (number : number_of names x ≡ s) where
  prompt_key_by : (a : ReadAttribute) (i : ℕ)
      → option_map (λ _. s) (cond (is_prompt a) (Some i) None) ≡ option_map (λ _. number_of names x) (prompt_of (attribute_in e a))
  prompt_key_by (attributes.TypedPrompt k c) i = ap Some (sym number)
  prompt_key_by (attributes.Prompt c) i = ap Some (sym number)
  prompt_key_by x i = refl

  pub prompt_key : (l : CodeLine) (i : ℕ) → own_key s gathered_prompt l i ≡ own_key_of prompt_of names x (line_in e l)
  prompt_key l i = prompt_key_by l.attribute i

  default_key_by : (a : ReadAttribute) (n i : ℕ)
      → option_map (λ _. s) (gathered_default (record { number = n; attribute = a }) i) ≡ option_map (λ _. number_of names x) (default_of (attribute_in e a))
  default_key_by (attributes.TypedDefault k d) n i = ap Some (sym number)
  default_key_by (attributes.Default d) n i = ap Some (sym number)
  default_key_by a n i = refl

  pub default_key : (l : CodeLine) (i : ℕ) → own_key s gathered_default l i ≡ own_key_of default_of names x (line_in e l)
  default_key l i = default_key_by l.attribute l.number i

  range_key_by : (a : ReadAttribute) (n i : ℕ)
      → option_map (λ _. s) (gathered_range (record { number = n; attribute = a }) i) ≡ option_map (λ _. number_of names x) (range_of (attribute_in e a))
  range_key_by (attributes.Range r) n i = ap Some (sym number)
  range_key_by a n i = refl

  pub range_key : (l : CodeLine) (i : ℕ) → own_key s gathered_range l i ≡ own_key_of range_of names x (line_in e l)
  range_key l i = range_key_by l.attribute l.number i

-- the numbers are there
prompt_fit_by : (b : Bool) (i nodes : ℕ) → i < nodes → IfSome (cond b (Some i) None) (λ k. k < nodes)
prompt_fit_by true i nodes h = h
prompt_fit_by false i nodes h = tt

pub prompt_fit : (e : Exprs) (l : CodeLine) (i : ℕ) → LineNodesExist e l → i < length e.nodes → IfSome (gathered_prompt l i) (λ k. k < length e.nodes)
prompt_fit e l i w h = prompt_fit_by (is_prompt l.attribute) i (length e.nodes) h

default_fit_by : (e : Exprs) (a : ReadAttribute) (n i : ℕ) → AttributeNodesExist e a → i < length e.nodes
    → IfSome (gathered_default (record { number = n; attribute = a }) i) (DefaultFits (length e.nodes))
default_fit_by e (attributes.TypedDefault k d) n i w h = (w.0, h)
default_fit_by e (attributes.Default d) n i w h = (w.0, h)
default_fit_by e a n i w h = tt

pub default_fit : (e : Exprs) (l : CodeLine) (i : ℕ) → LineNodesExist e l → i < length e.nodes → IfSome (gathered_default l i) (DefaultFits (length e.nodes))
default_fit e l i w h = default_fit_by e l.attribute l.number i w h

-- the expression numbers of a range are nodes of the arena, and its bounds are operands
abbrev pub RangeStands : Exprs → Range → Type 0
RangeStands e r = RangeFits (length e.nodes) r × HasOperands e r

range_fit_by : (e : Exprs) (a : ReadAttribute) (n i : ℕ) → AttributeNodesExist e a → i < length e.nodes
    → IfSome (gathered_range (record { number = n; attribute = a }) i) (RangeStands e)
range_fit_by e (attributes.Range r) n i w h = ((w.0.within, w.1.within, h), (ap is_some (ap operand_alone w.0.is), ap is_some (ap operand_alone w.1.is)))
range_fit_by e a n i w h = tt

pub range_fit : (e : Exprs) (l : CodeLine) (i : ℕ) → LineNodesExist e l → i < length e.nodes → IfSome (gathered_range l i) (RangeStands e)
range_fit e l i w h = range_fit_by e l.attribute l.number i w h

below_by : {T : Type 0} (o : Option T) (s count : ℕ) → s < count → IfSome (option_map (λ _. s) o) (λ k. k < count)
below_by None s count h = tt
below_by (Some x) s count h = h

pub own_below : {T : Type 0} (item : CodeLine → ℕ → Option T) (s count : ℕ) → s < count → (l : CodeLine) (i : ℕ) → IfSome (own_key s item l i) (λ k. k < count)
own_below item s count h l i = below_by (item l i) s count h

-- the target of a `select` or of an `imply`, as the first argument asks; `None` for any other attribute
abbrev pub aim_of : ReverseKind → Attribute → Option TargetAttribute
aim_of Select a = select_of a
aim_of Imply a = imply_of a

module _ (language : Language) (n : SymbolTable) (names : List (List ℕ)) (h : HasNames n.arena n.symbols.items n.numbers.items names) where
  target_by : (f : ReverseKind) (a : ReadAttribute)
      → option_and_then (λ id. number_in n.arena.names n.numbers.items (text_of_name n.arena id)) (target_given f a)
      ≡ option_and_then (λ (b : TargetAttribute). index_of_name b.name names) (aim_of f (attribute_in n.arena a))
  target_by Select (attributes.Select a) = h.numbered (text_of_name n.arena a.name)
  target_by Select a = refl
  target_by Imply (attributes.Imply a) = h.numbered (text_of_name n.arena a.name)
  target_by Imply a = refl

  pub reverse_dependency_key : (f : ReverseKind) (l : CodeLine) (i : ℕ) → target_key n f l i ≡ force_key_of (aim_of f) names (line_in n.arena l)
  reverse_dependency_key f l i = target_by f l.attribute

  made_by : (s i : ℕ) (p : GroupInContext) (o : Option ℕ) (a : TargetAttribute) → node_expr n.arena i ≡ attribute_condition (context_of language p) p.group a.condition
      → option_map (views.reverse_dependency_view n.arena) (option_map (λ _. let y : ReverseDependency = record { by = s; condition = i } in y) o) ≡ option_map
      (λ _. force_by language s p a) o
  made_by s i p None a e = refl
  made_by s i p (Some t) a e = ap (λ c. let y : tree.ReverseDependency = record { by = s; condition = c } in Some y) e

  reverse_dependency_item_by : (f : ReverseKind) (a : ReadAttribute) (number s i : ℕ) (p : GroupInContext)
      → node_expr n.arena i ≡ condition_at language p (record { number = number; attribute = attribute_in n.arena a })
      → option_map (views.reverse_dependency_view n.arena) (option_map (λ _. let y : ReverseDependency = record { by = s; condition = i } in y)
      (option_and_then (λ id. number_in n.arena.names n.numbers.items (text_of_name n.arena id)) (target_given f a)))
      ≡ option_and_then (λ (b : TargetAttribute). option_map (λ _. force_by language s p b) (index_of_name b.name names)) (aim_of f (attribute_in n.arena a))
  reverse_dependency_item_by Select (attributes.Select a) number s i p e =
      made_by s i p (number_in n.arena.names n.numbers.items (text_of_name n.arena a.name)) (statement_views.target_in n.arena a) e
      ∙ ap (option_map (λ _. force_by language s p (statement_views.target_in n.arena a))) (h.numbered (text_of_name n.arena a.name))
  reverse_dependency_item_by Select a number s i p e = refl
  reverse_dependency_item_by Imply (attributes.Imply a) number s i p e =
      made_by s i p (number_in n.arena.names n.numbers.items (text_of_name n.arena a.name)) (statement_views.target_in n.arena a) e
      ∙ ap (option_map (λ _. force_by language s p (statement_views.target_in n.arena a))) (h.numbered (text_of_name n.arena a.name))
  reverse_dependency_item_by Imply a number s i p e = refl

  pub reverse_dependency_item : (f : ReverseKind) (x : List ℕ) (s : ℕ) (p : GroupInContext) → number_of names x ≡ s → (l : CodeLine) (i : ℕ)
      → LineNodesExist n.arena l → node_expr n.arena i ≡ condition_at language p (line_in n.arena l)
      → option_map (views.reverse_dependency_view n.arena) (gathered_reverse_dependency n f s l i) ≡ force_item_of language (aim_of f) names p x (line_in n.arena l)
  reverse_dependency_item f x s p number l i w e =
      reverse_dependency_item_by f l.attribute l.number s i p e
      ∙ ap (λ k. option_and_then (λ (b : TargetAttribute). option_map (λ _. force_by language k p b) (index_of_name b.name names))
      (aim_of f (attribute_in n.arena l.attribute))) (sym number)

  pub reverse_dependency_fit : (f : ReverseKind) (s count : ℕ) → s < count → (l : CodeLine) (i : ℕ) → LineNodesExist n.arena l → i < length n.arena.nodes
      → IfSome (gathered_reverse_dependency n f s l i) (ReverseDependencyFits (length n.arena.nodes) count)
  reverse_dependency_fit f s count b l i w k = by_target (gathered_target n f l)
    where
      by_target : (o : Option ℕ)
          → IfSome (option_map (λ _. let y : ReverseDependency = record { by = s; condition = i } in y) o) (ReverseDependencyFits (length n.arena.nodes) count)
      by_target None = tt
      by_target (Some t) = (b, k)

  pub target_below : (f : ReverseKind) (l : CodeLine) (i : ℕ) → IfSome (target_key n f l i) (λ k. k < length names)
  target_below f l i = subst (λ o. IfSome o (λ k. k < length names)) (sym (target_by f l.attribute)) (by_aim (aim_of f (attribute_in n.arena l.attribute)))
    where
      by_place : (y : List ℕ) (o : Option ℕ) → index_of_name y names ≡ o → IfSome o (λ k. k < length names)
      by_place y None e = tt
      by_place y (Some k) e = get_below names k y (place-get y names k e)

      by_aim : (o : Option TargetAttribute) → IfSome (option_and_then (λ (b : TargetAttribute). index_of_name b.name names) o) (λ k. k < length names)
      by_aim None = tt
      by_aim (Some b) = by_place b.name (index_of_name b.name names) refl
