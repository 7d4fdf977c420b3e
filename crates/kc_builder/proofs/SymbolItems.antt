-- The attributes that all definitions give symbols.
use Rattle.kc_builder.proofs.Common.{Listing, IsWalkOf, RepresentsListing, own_lines, ◌≡◌, inl, inr, ℕ, ◌+◌, ◌<◌, List, [], ◌∷◌, ◌++◌, length, map, Option, Some, None, refl, ap, sym, ◌∙◌, subst, filter_map, option_map, unwrap_or, All, IfSome, All-nil, All-cons, Language, Exprs, Represents}
use Rattle.kc_builder.proofs.Common.{node_expr, Expr, Attribute, DefaultAttribute, RangeAttribute, config, name_of_head, prompt_of, default_of, range_of, Group, GroupHead, of_head, from_head, defined_name, open_blocks, side_of, closing, context_of, GroupInContext, group_in_context}
use Rattle.kc_builder.proofs.Common.{groups_in_context, prompt_condition, attribute_condition, dependency_of, contents_of, names_defined, Differ-once, get_below, SymbolTable, HasNames, RepresentsHead, LineNodesExist, line_in, DefaultFits, ReverseDependencyFits, conditions_at, own_conditions}
use Rattle.kc_builder.proofs.Common.{AreAttributes, gathered_prompt, gathered_default, gathered_range, own_key, target_key, gathered_reverse_dependency, HasAppended, read_before, group_at, condition_at, ReverseKind, Select, Imply, Attributes, ItemsWithKeys, GroupConditions, all_before, none_before}
use Rattle.kc_builder.proofs.Common.{placed_more, CodeLine, CodeHead}
use Rattle.kc_tree_model.specs.Trees as tree
use Rattle.kc_tree_model.specs.Blocks.{inside}
use Rattle.kc_parser.specs.declared.listing.GroupHead.TheVariants as codes
use Rattle.kc_tree.specs.between.Views as views
use Rattle.kc_builder.specs.checker.Definitions.{HasDefinition, HasStatement}
use Rattle.kc_tree.specs.declared.symbol.ReverseDependency.{ReverseDependency as CodeForce}
use Rattle.kc_builder.proofs.ItemLaw.{by_name, AreListed, none_listed, listed_more, listed_same, by_none, number_of, own_key_of, own_item_of, own_keys, own_items, own_law, direct_keys, direct_items, direct_law, force_key_of, force_item_of, force_keys, force_items, reverse_dependency_law}
use Rattle.kc_builder.proofs.ItemViews.{pairs_keys, pairs_items, pairs_fit, prompt_item, default_item, range_item, prompt_key, default_key, range_key, prompt_fit, default_fit, range_fit, RangeStands, own_below, aim_of, reverse_dependency_key, reverse_dependency_item, reverse_dependency_fit, target_below}
use Rattle.kc_builder.proofs.ChoiceRowSteps.{as_long, both_at, IsBoth}
use Rattle.kc_checks.proofs.Symbols.{nameless, place_is}

abbrev pub prompt_meant : Language → GroupInContext → Option Expr → Expr
prompt_meant language p = prompt_condition (context_of language p) p.group

abbrev pub default_meant : Language → GroupInContext → DefaultAttribute → tree.Default
default_meant language p d = record { value = d.value; condition = attribute_condition (context_of language p) p.group d.condition; from_environment = d.from_environment }

abbrev pub range_meant : Language → GroupInContext → RangeAttribute → tree.Range
range_meant language p r = record { low = r.low; high = r.high; condition = attribute_condition (context_of language p) p.group r.condition }

abbrev pub dependency_meant : Language → GroupInContext → Expr
dependency_meant language p = dependency_of (context_of language p) p.group

-- the collected attributes are those that the definitions among the groups in `places` give symbols
pub record AreGathered (language : Language) (e : Exprs) (names : List (List ℕ)) (places : List GroupInContext) (a : Attributes) : Type 0 where
  pub prompts : AreListed (node_expr e) (own_keys prompt_of names) (own_items prompt_of (prompt_meant language)) (λ k. k < length e.nodes)
      (length names) places a.prompts.keys.items a.prompts.items.items
  pub defaults : AreListed (views.default_view e) (own_keys default_of names) (own_items default_of (default_meant language)) (DefaultFits (length e.nodes))
      (length names) places a.defaults.keys.items a.defaults.items.items
  pub ranges : AreListed (views.range_view e) (own_keys range_of names) (own_items range_of (range_meant language)) (RangeStands e)
      (length names) places a.ranges.keys.items a.ranges.items.items
  pub selectors : AreListed (views.reverse_dependency_view e) (force_keys (aim_of Select) names) (force_items language (aim_of Select) names)
      (ReverseDependencyFits (length e.nodes) (length names)) (length names) places a.selectors.keys.items a.selectors.items.items
  pub impliers : AreListed (views.reverse_dependency_view e) (force_keys (aim_of Imply) names) (force_items language (aim_of Imply) names)
      (ReverseDependencyFits (length e.nodes) (length names)) (length names) places a.impliers.keys.items a.impliers.items.items
  pub direct : AreListed (node_expr e) (direct_keys names) (direct_items (dependency_meant language)) (λ k. k < length e.nodes)
      (length names) places a.direct.keys.items a.direct.items.items

-- a definition more
module _ (language : Language) (n : SymbolTable) (names : List (List ℕ)) (h : HasNames n.arena n.symbols.items n.numbers.items names) (prior : List GroupInContext)
    (p : GroupInContext) (x : List ℕ) (s : ℕ) (ls : List CodeLine) (cs : List ℕ)
    (name : defined_name p.group ≡ Some x) (number : number_of names x ≡ s) (below : s < length names) (many : length cs ≡ length ls)
    (held : All (LineNodesExist n.arena) ls) (there : All (λ i. i < length n.arena.nodes) cs)
    (attributes : p.group.attributes ≡ map (line_in n.arena) ls) (conditions : map (node_expr n.arena) cs
    ≡ map (condition_at language p) (map (line_in n.arena) ls)) where
  own_step : {T B M : Type 0} (view : T → M) (G : Attribute → Option B) (m : GroupInContext → B → M) (P : T → Type 0) (item : CodeLine → ℕ → Option T)
      (old new : ItemsWithKeys T)
      → AreListed view (own_keys G names) (own_items G m) P (length names) prior old.keys.items old.items.items
      → HasAppended (own_key s item) item old new ls cs
      → ((l : CodeLine) (i : ℕ) → own_key s item l i ≡ own_key_of G names x (line_in n.arena l))
      → ((l : CodeLine) (i : ℕ) → LineNodesExist n.arena l → node_expr n.arena i ≡ condition_at language p (line_in n.arena l)
      → option_map view (item l i) ≡ own_item_of G m p (line_in n.arena l))
      → ((l : CodeLine) (i : ℕ) → LineNodesExist n.arena l → i < length n.arena.nodes → IfSome (item l i) P)
      → AreListed view (own_keys G names) (own_items G m) P (length names) (prior ++ p ∷ []) new.keys.items new.items.items
  own_step view G m P item old new l more key is fit =
      listed_more p l _ more.keys more.items
      (pairs_keys (own_key s item) (own_key_of G names x) n.arena ls cs many key ∙ ap (filter_map (own_key_of G names x)) (sym attributes)
      ∙ sym (ap (by_name (λ y. filter_map (own_key_of G names y) p.group.attributes)) name))
      (pairs_items view item (own_item_of G m p) (condition_at language p) n.arena ls cs conditions held is ∙ ap (filter_map (own_item_of G m p)) (sym attributes)
      ∙ sym (ap (by_name (λ y. filter_map (own_item_of G m p) p.group.attributes)) name))
      (pairs_fit P item n.arena ls cs held there fit)
      (pairs_fit (λ k. k < length names) (own_key s item) n.arena ls cs held there (λ y i w v. own_below item s (length names) below y i))

  reverse_dependency_step : (f : ReverseKind) (old new : ItemsWithKeys CodeForce)
      → AreListed (views.reverse_dependency_view n.arena) (force_keys (aim_of f) names) (force_items language (aim_of f) names)
      (ReverseDependencyFits (length n.arena.nodes) (length names)) (length names) prior old.keys.items old.items.items
      → HasAppended (target_key n f) (gathered_reverse_dependency n f s) old new ls cs
      → AreListed (views.reverse_dependency_view n.arena) (force_keys (aim_of f) names) (force_items language (aim_of f) names)
      (ReverseDependencyFits (length n.arena.nodes) (length names)) (length names) (prior ++ p ∷ []) new.keys.items new.items.items
  reverse_dependency_step f old new l more =
      listed_more p l _ more.keys more.items
      (pairs_keys (target_key n f) (force_key_of (aim_of f) names) n.arena ls cs many (reverse_dependency_key language n names h f)
      ∙ ap (filter_map (force_key_of (aim_of f) names)) (sym attributes)
      ∙ sym (ap (by_name (λ y. filter_map (force_key_of (aim_of f) names) p.group.attributes)) name))
      (pairs_items (views.reverse_dependency_view n.arena) (gathered_reverse_dependency n f s) (force_item_of language (aim_of f) names p x) (condition_at language p) n.arena ls
      cs conditions held (reverse_dependency_item language n names h f x s p number)
      ∙ ap (filter_map (force_item_of language (aim_of f) names p x)) (sym attributes)
      ∙ sym (ap (by_name (λ y. filter_map (force_item_of language (aim_of f) names p y) p.group.attributes)) name))
      (pairs_fit (ReverseDependencyFits (length n.arena.nodes) (length names)) (gathered_reverse_dependency n f s) n.arena ls cs held there
      (reverse_dependency_fit language n names h f s (length names) below))
      (pairs_fit (λ k. k < length names) (target_key n f) n.arena ls cs held there (λ y i w v. target_below language n names h f y i))

  direct_step : (d : ℕ) (old new : ItemsWithKeys ℕ)
      → AreListed (node_expr n.arena) (direct_keys names) (direct_items (dependency_meant language)) (λ k. k < length n.arena.nodes)
      (length names) prior old.keys.items old.items.items
      → new.keys.items ≡ old.keys.items ++ s ∷ [] → new.items.items ≡ old.items.items ++ d ∷ [] → Represents n.arena d (dependency_meant language p)
      → AreListed (node_expr n.arena) (direct_keys names) (direct_items (dependency_meant language)) (λ k. k < length n.arena.nodes) (length names) (prior ++ p ∷ [])
      new.keys.items new.items.items
  direct_step d old new l k i stands =
      listed_more p l (d ∷ []) k i
      (ap (λ m. m ∷ []) (sym number) ∙ sym (ap (by_name (λ y. number_of names y ∷ [])) name))
      (ap (λ m. m ∷ []) stands.is ∙ sym (ap (by_name (λ y. dependency_meant language p ∷ [])) name))
      (All-cons (λ j. j < length n.arena.nodes) d [] stands.within (All-nil (λ j. j < length n.arena.nodes)))
      (All-cons (λ j. j < length names) s [] below (All-nil (λ j. j < length names)))

  pub definition_step : (d : ℕ) (old new : Attributes) → AreGathered language n.arena names prior old → HasDefinition n s old new ls cs d
      → Represents n.arena d (dependency_meant language p) → AreGathered language n.arena names (prior ++ p ∷ []) new
  definition_step d old new g more stands = record {
    prompts = own_step (node_expr n.arena) prompt_of (prompt_meant language) (λ k. k < length n.arena.nodes) gathered_prompt old.prompts new.prompts g.prompts more.prompts
        (prompt_key n.arena names x s number) (prompt_item _ n.arena p) (prompt_fit n.arena);
    defaults = own_step (views.default_view n.arena) default_of (default_meant language) (DefaultFits (length n.arena.nodes)) gathered_default old.defaults new.defaults
        g.defaults more.defaults (default_key n.arena names x s number) (default_item _ n.arena p) (default_fit n.arena);
    ranges = own_step (views.range_view n.arena) range_of (range_meant language) (RangeStands n.arena) gathered_range old.ranges new.ranges g.ranges more.ranges
        (range_key n.arena names x s number) (range_item _ n.arena p) (range_fit n.arena);
    selectors = reverse_dependency_step Select old.selectors new.selectors g.selectors more.selectors;
    impliers = reverse_dependency_step Imply old.impliers new.impliers g.impliers more.impliers;
    direct = direct_step d old.direct new.direct g.direct more.direct_keys more.direct_items stands;
  }

-- a group that defines no symbol adds nothing to the collected attributes
pub nothing_more : (language : Language) (e : Exprs) (names : List (List ℕ)) (prior : List GroupInContext) (p : GroupInContext) (a : Attributes) → defined_name p.group ≡ None
    → AreGathered language e names prior a → AreGathered language e names (prior ++ p ∷ []) a
nothing_more language e names prior p a none g = record {
  prompts = listed_same p g.prompts (by_none _ none) (by_none _ none);
  defaults = listed_same p g.defaults (by_none _ none) (by_none _ none);
  ranges = listed_same p g.ranges (by_none _ none) (by_none _ none);
  selectors = listed_same p g.selectors (by_none _ none) (by_none _ none);
  impliers = listed_same p g.impliers (by_none _ none) (by_none _ none);
  direct = listed_same p g.direct (by_none _ none) (by_none _ none);
}

-- empty lists are the attributes collected from no groups
pub nothing_gathered : (language : Language) (e : Exprs) (names : List (List ℕ)) (a : Attributes) → (a.prompts.keys.items ≡ []) × (a.prompts.items.items ≡ [])
    → (a.defaults.keys.items ≡ []) × (a.defaults.items.items ≡ []) → (a.ranges.keys.items ≡ []) × (a.ranges.items.items ≡ [])
    → (a.selectors.keys.items ≡ []) × (a.selectors.items.items ≡ []) → (a.impliers.keys.items ≡ []) × (a.impliers.items.items ≡ [])
    → (a.direct.keys.items ≡ []) × (a.direct.items.items ≡ []) → AreGathered language e names [] a
nothing_gathered language e names a p d r s i x = record {
  prompts = rw (p.0, p.1) none_listed;
  defaults = rw (d.0, d.1) none_listed;
  ranges = rw (r.0, r.1) none_listed;
  selectors = rw (s.0, s.1) none_listed;
  impliers = rw (i.0, i.1) none_listed;
  direct = rw (x.0, x.1) none_listed;
}

-- the attributes collected from all groups are those of the symbols
pub all_gathered : (language : Language) (e : Exprs) (read : List Group) (a : Attributes) → AreGathered language e (names_defined read) (groups_in_context read) a
    → AreAttributes language e (contents_of read) a
all_gathered language e read a g = record {
  keys = record {
    prompts = λ i l. g.prompts.below i 0 l;
    defaults = λ i l. g.defaults.below i 0 l;
    ranges = λ i l. g.ranges.below i 0 l;
    selectors = λ i l. g.selectors.below i 0 l;
    impliers = λ i l. g.impliers.below i 0 l;
    direct = λ i l. g.direct.below i 0 l;
  };
  prompts_are = λ s x at. own_law prompt_of (prompt_meant language) read s x g.prompts at;
  defaults_are = λ s x at. own_law default_of (default_meant language) read s x g.defaults at;
  ranges_are = λ s x at. own_law range_of (range_meant language) read s x g.ranges at;
  selectors_are = λ s x at. reverse_dependency_law _ (aim_of Select) read s x g.selectors at;
  impliers_are = λ s x at. reverse_dependency_law _ (aim_of Imply) read s x g.impliers at;
  direct_are = λ s x at. direct_law (dependency_meant language) read s x g.direct at;
  prompts_fit = g.prompts.fit;
  defaults_fit = g.defaults.fit;
  ranges_fit = λ i d l. (g.ranges.fit i d l).0;
  bounds_fit = λ i d l. (g.ranges.fit i d l).1;
  selectors_fit = g.selectors.fit;
  impliers_fit = g.impliers.fit;
  direct_fit = g.direct.fit;
}

-- a definition ends nothing
open_still : (w : GroupHead) (x : List ℕ) → w ≡ of_head (config x) → side_of w ≡ closing → ⊥
open_still w x e c = let d : inside ≡ closing = sym (ap side_of e) ∙ c in cc

-- group by group
module _ (language : Language) (l : Listing) (groups : List GroupConditions) (conditions : List ℕ) (read : List Group)
    (w : IsWalkOf language l groups conditions read) (i : ℕ) (h : i < length l.groups.items) where
  abbrev both : IsBoth language l l.names.arena groups conditions read w.shows w.shown i
  both = both_at language l l.names.arena groups conditions read w.shows w.shown i h

  abbrev place : GroupInContext
  place = group_in_context (open_blocks 0 (read_before i read)) both.group

  abbrev AreFrom : List GroupInContext → Attributes → Type 0
  AreFrom places a = AreGathered language l.names.arena (names_defined read) places a

  gathered_definition : (s : ℕ) (old new : Attributes) → (group_at l.groups.items i).head ≡ codes.Config s
      → All (LineNodesExist l.names.arena) (own_lines l i) → AreFrom (groups_in_context (read_before i read)) old
      → HasDefinition l.names s old new (own_lines l i) (own_conditions groups conditions i) (conditions_at groups i).dependency
      → AreFrom (groups_in_context (read_before (i + 1) read)) new
  unfolding RepresentsListing
  gathered_definition s old new head held g more =
      let c = both.conditioned in
      let what = subst (λ v. RepresentsHead l.names.arena (names_defined read) l.texts.items v both.group.head) head both.shown.head in
      let name : defined_name both.group ≡ Some what.0 = ap (from_head name_of_head) what.2 in
      let number : number_of (names_defined read) what.0 ≡ s = ap (λ o. unwrap_or o 0)
      (place_is (names_defined read) what.0 s (Differ-once (filter_map defined_name read)) what.1) in
      let conds : map (node_expr l.names.arena) (own_conditions groups conditions i) ≡ map (condition_at language place) (map (line_in l.names.arena) (own_lines l i)) =
      c.own_are ∙ ap (map (condition_at language place)) both.shown.attributes in
      let stands : Represents l.names.arena (conditions_at groups i).dependency (dependency_meant language place) = elim c.dependency_is
      [ inl closes ↦ absurd (open_still both.group.head what.0 what.2 closes) | inr d ↦ d ] in
      subst (λ ps. AreFrom ps new) (sym (placed_more read i both.group both.now))
      (definition_step _ l.names (names_defined read) w.shows.names (groups_in_context (read_before i read)) place what.0 s (own_lines l i)
      (own_conditions groups conditions i) name number (get_below (names_defined read) s what.0 what.1)
      (as_long language l l.names.arena groups conditions read w.shows w.shown i h)
      held c.held both.shown.attributes conds (conditions_at groups i).dependency old new g more stands)

  gathered_other : (a : Attributes) → ((s : ℕ) → (group_at l.groups.items i).head ≡ codes.Config s → ⊥) → AreFrom (groups_in_context (read_before i read)) a
      → AreFrom (groups_in_context (read_before (i + 1) read)) a
  gathered_other a other g =
      subst (λ ps. AreFrom ps a) (sym (placed_more read i both.group both.now))
      (nothing_more _ l.names.arena (names_defined read) (groups_in_context (read_before i read)) place a
      (nameless l.names.arena (names_defined read) l.texts.items (group_at l.groups.items i).head both.group.head both.shown.head other) g)

  -- the attributes gathered from the first `i` groups, with those of the next group, are those of the first `i + 1`
  pub gathered_more : (old new : Attributes) → All (LineNodesExist l.names.arena) (own_lines l i)
      → HasStatement (group_at l.groups.items i).head l.names old new (own_lines l i) (own_conditions groups conditions i) (conditions_at groups i).dependency
      → AreFrom (groups_in_context (read_before i read)) old → AreFrom (groups_in_context (read_before (i + 1) read)) new
  gathered_more old new held more g = by (group_at l.groups.items i).head refl more
    where
      by : (v : CodeHead) → (group_at l.groups.items i).head ≡ v
          → HasStatement v l.names old new (own_lines l i) (own_conditions groups conditions i) (conditions_at groups i).dependency
          → AreFrom (groups_in_context (read_before (i + 1) read)) new
      by (codes.Config s) e x = gathered_definition s old new e held g x
      by v e x = subst (AreFrom (groups_in_context (read_before (i + 1) read))) (sym x) (gathered_other old (λ s a. cc) g)

pub gathered_none : (language : Language) (e : Exprs) (names : List (List ℕ)) (read : List Group) (a : Attributes) → AreGathered language e names [] a
    → AreGathered language e names (groups_in_context (read_before 0 read)) a
gathered_none language e names read a g = subst (λ ps. AreGathered language e names ps a) (sym (ap groups_in_context (none_before read))) g

pub gathered_whole : (language : Language) (e : Exprs) (read : List Group) (i : ℕ) (a : Attributes) → i ≡ length read
    → AreGathered language e (names_defined read) (groups_in_context (read_before i read)) a → AreAttributes language e (contents_of read) a
gathered_whole language e read i a n g =
    all_gathered _ e read a (subst (λ ps. AreGathered language e (names_defined read) ps a)
    (ap (λ k. groups_in_context (read_before k read)) n ∙ ap groups_in_context (all_before read)) g)
