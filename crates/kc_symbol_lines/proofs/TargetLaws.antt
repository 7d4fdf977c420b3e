-- The definitions of symbols, and the places of the selects and implies that target them.
use Rattle.std.proofs.Common.{not}
use Rattle.std.specs.Prelude.{slice_index_or, option_and_then, bytes_eq, nat_lt}
use Rattle.std.specs.List.{position_or_len}
use Rattle.kc_symbol_lines.proofs.Common.{◌≡◌, ℕ, suc, ◌+◌, ◌<◌, Bool, true, false, cond, List, [], ◌∷◌, ◌++◌, length, map, Option, Some, None, refl, ap, sym, ◌∙◌, subst, arith, slice_get, filter_map, flat_map, option_map, option_to_list, unwrap_or, All, cons_option, length-map, All-nil, All-cons}
use Rattle.kc_symbol_lines.proofs.Common.{Language, attribute_in, AttributeNodesExist, RepresentsHead, LineNodesExist, line_in, Tree, Symbol, Attribute, TargetAttribute, Group, Line, Position, open_blocks, GroupInContext, group_in_context, groups_in_context, Contents, contents_of, symbol_of}
use Rattle.kc_symbol_lines.proofs.Common.{names_defined, Has, get_below, position_of, attribute_positions, TreeModel, HasLines, TreeLines, shown_at, all_before, read_before, group_at, ReverseKind, GatheredLines, position_view, position_at, target_keys, target_places, AreGathered, lines_at}
use Rattle.kc_symbol_lines.proofs.Common.{ReadAttribute, CodeLine, tree_of_groups}
use Rattle.std.proofs.lemmas.Option.{slice_get-get_or}
use Rattle.kc_expr.specs.Lookup.{index_of_name}
use Rattle.kc_tree_model.specs.declared.statement.Attribute.TheVariants as attributes
use Rattle.kc_parser.specs.declared.listing.GroupHead.TheVariants as codes
use Rattle.kc_tree_model.specs.TreeLookup.{symbol_named}
use Rattle.kc_tree_model.specs.Statements.{select_of, imply_of, name_of_head}
use Rattle.kc_tree_model.specs.Blocks.{from_head, defined_name}
use Rattle.kc_tree_model.proofs.Consistency.Lists.{Differ, Differ-once, has-place, place-get}
use Rattle.kc_reasons_model.specs.SymbolLines.{target_named, target_positions}
use Rattle.kc_tree.specs.between.GroupedItems.{items_of}
use Rattle.kc_tree.specs.between.Views.{symbol_of_name_id}
use Rattle.kc_builder.proofs.ItemLaw.{by_name, AreListed, listed_more, listed_same, by_none, listed_law, by_many, as_many_given, some_mapped, apart, same_number, number_of, direct_keys, direct_items, direct_law, force_key_of, force_keys}
use Rattle.kc_checks.proofs.GroupPlaces.{placed_more}
use Rattle.kc_conditions.proofs.Growth.{option_front}
use Rattle.kc_checks.proofs.Symbols.{named_there, nameless, place_is}
use Rattle.kc_tree_model.specs.declared.statement.ReverseKind.TheVariants.{Select, Imply}
use Rattle.kc_symbol_lines.specs.declared.located.Position.{Position as CodePosition}
use Rattle.kc_symbol_lines.specs.checker.Targets.{target_symbol, HasDefinition}
use Rattle.kc_symbol_lines.proofs.AttributeViews.{target_meant}
use Rattle.kc_symbol_lines.proofs.HeldLines.{own_held}

-- the symbol of a name
same_place : {X Y : Type 0} (f : X → Y) (p : Y → Bool) (xs : List X) → position_or_len p (map f xs) ≡ position_or_len (λ x. p (f x)) xs
same_place f p [] = refl
same_place f p (x ∷ xs) = ap (λ n. cond (not (p (f x))) (1 + n) 0) (same_place f p xs)

pub named_in_tree : (language : Language) (read : List Group) (name : List ℕ) → symbol_named (tree_of_groups language read) name ≡ index_of_name name (names_defined read)
unfolding tree_of_groups index_of_name
named_in_tree language read name =
    let names : List (List ℕ) = names_defined read in
    let make : List ℕ → Symbol = symbol_of language (contents_of read) in
    let place = same_place make (λ (s : Symbol). bytes_eq name s.name) names in
    ap (λ n. cond (nat_lt n (length (map make names))) (Some n) None) place
    ∙ ap (λ k. cond (nat_lt (position_or_len (bytes_eq name) names) k) (Some (position_or_len (bytes_eq name) names)) None) (length-map names make)

-- the place of an attribute line that targets a symbol
abbrev pub place_of : (Attribute → Option TargetAttribute) → List (List ℕ) → GroupInContext → Line → Option Position
place_of S names p l = option_map (λ _. position_of p.group l) (force_key_of S names l)

abbrev pub place_items : (Attribute → Option TargetAttribute) → List (List ℕ) → GroupInContext → List Position
place_items S names p = by_name (λ x. filter_map (place_of S names p) p.group.attributes) (defined_name p.group)

module _ (S : Attribute → Option TargetAttribute) (names : List (List ℕ)) where
  pub places_many : (p : GroupInContext) → length (force_keys S names p) ≡ length (place_items S names p)
  places_many p =
      by_many _ _ (λ x. as_many_given (force_key_of S names) (place_of S names p) (λ l. some_mapped (λ _. position_of p.group l) (force_key_of S names l)) p.group.attributes)
      (defined_name p.group)

  module _ (p : GroupInContext) (t : ℕ) (name : List ℕ) (d : Differ names) (at : slice_get names t ≡ Some name) where
    abbrev targets : List Line → List Position
    targets ls = filter_map (λ (l : Line). option_map (λ a. position_of p.group l) (target_named name (S l.attribute))) ls

    one_target : (l : Line) (a : TargetAttribute) (b : Bool) (o : Option ℕ) (ks : List ℕ) (xs ys : List Position)
        → bytes_eq a.name name ≡ b → index_of_name a.name names ≡ o → items_of t ks xs ≡ ys
        → items_of t (cons_option o ks) (cons_option (option_map (λ _. position_of p.group l) o) xs)
        ≡ cons_option (option_map (λ a. position_of p.group l) (cond b (Some a) None)) ys
    one_target l a true None ks xs ys u e ih = let f = apart names a.name name t d at e in cc
    one_target l a false None ks xs ys u e ih = ih
    one_target l a true (Some j) ks xs ys u e ih = rw (same_number names a.name name j t d e at ∙ u) (ap (λ r. position_of p.group l ∷ r) ih)
    one_target l a false (Some j) ks xs ys u e ih = rw (same_number names a.name name j t d e at ∙ u) ih

    on_lines : (ls : List Line) → items_of t (filter_map (force_key_of S names) ls) (filter_map (place_of S names p) ls) ≡ targets ls
    on_lines [] = refl
    on_lines (l ∷ ls) = by_aim (S l.attribute) (on_lines ls)
      where
        by_aim : (o : Option TargetAttribute) → items_of t (filter_map (force_key_of S names) ls) (filter_map (place_of S names p) ls) ≡ targets ls
            → items_of t (cons_option (option_and_then (λ (a : TargetAttribute). index_of_name a.name names) o) (filter_map (force_key_of S names) ls))
            (cons_option (option_map (λ _. position_of p.group l) (option_and_then (λ (a : TargetAttribute). index_of_name a.name names) o)) (filter_map (place_of S names p) ls))
            ≡ cons_option (option_map (λ a. position_of p.group l) (target_named name o)) (targets ls)
        by_aim None ih = ih
        by_aim (Some a) ih =
            one_target l a (bytes_eq a.name name) (index_of_name a.name names) (filter_map (force_key_of S names) ls) (filter_map (place_of S names p) ls) (targets ls) refl refl ih

places_here : (S : Attribute → Option TargetAttribute) (c : Contents) (p : GroupInContext) (o : Option (List ℕ)) (name : List ℕ) (t : ℕ)
    → Differ c.names → slice_get c.names t ≡ Some name → ((x : List ℕ) → o ≡ Some x → Has x c.names)
    → items_of t (by_name (λ x. filter_map (force_key_of S c.names) p.group.attributes) o) (by_name (λ x. filter_map (place_of S c.names p) p.group.attributes) o)
    ≡ elim o as (λ _. List Position) [
      | None ↦ []
      | Some by ↦ elim (index_of_name by c.names) as (λ _. List Position) [ None ↦ [] | Some s ↦ attribute_positions (λ a. target_named name (S a)) p.group ]
    ]
places_here S c p None name t d at named = refl
places_here S c p (Some x) name t d at named =
    let j = has-place x c.names (named x refl) in
    on_lines S c.names p t name d at p.group.attributes
    ∙ sym (ap (λ o. elim o as (λ _. List Position) [ None ↦ [] | Some s ↦ attribute_positions (λ a. target_named name (S a)) p.group ]) j.1)

-- the places listed under a symbol's number are those of the attributes that target it
pub places_law : (S : Attribute → Option TargetAttribute) {count : ℕ} (read : List Group) {keys : List ℕ} {items : List CodePosition} (t : ℕ) (name : List ℕ)
    → AreListed position_view (force_keys S (names_defined read)) (place_items S (names_defined read)) (λ _. Unit {0}) count (groups_in_context read) keys items
    → slice_get (names_defined read) t ≡ Some name
    → map position_view (items_of t keys items) ≡ flat_map (target_positions S (contents_of read) name) (groups_in_context read)
places_law S read t name l at =
    listed_law (target_positions S (contents_of read) name) t l (places_many S (names_defined read))
    (λ p k. places_here S (contents_of read) p (defined_name p.group) name t (Differ-once (filter_map defined_name read)) at (λ x e. named_there read p x k e))

-- what is gathered from groups in places
pub record AreGatheredOf (names : List (List ℕ)) (places : List GroupInContext) (found : GatheredLines) : Type 0 where
  pub definitions : AreListed (λ n. n) (direct_keys names) (direct_items (λ (p : GroupInContext). p.group.number)) (λ _. Unit {0}) (length names) places
      found.definitions.keys.items found.definitions.items.items
  pub selectors : AreListed position_view (force_keys select_of names) (place_items select_of names) (λ _. Unit {0}) (length names) places
      found.selectors.keys.items found.selectors.items.items
  pub impliers : AreListed position_view (force_keys imply_of names) (place_items imply_of names) (λ _. Unit {0}) (length names) places
      found.impliers.keys.items found.impliers.items.items

-- any list has what is asked of nothing
all_items : {X : Type 0} (xs : List X) → All (λ _. Unit {0}) xs
all_items xs = λ i d l. tt

-- a definition more
module _ (t : TreeModel) (read : List Group) (tree_is : t.tree ≡ tree_of_groups t.tree.language read) where
  abbrev names : List (List ℕ)
  names = names_defined read

  name_found : (id : ℕ) → id < length t.exprs.names → symbol_of_name_id t.tree t.exprs.names id ≡ index_of_name (slice_index_or t.exprs.names id []) names
  name_found id h =
      ap (option_and_then (symbol_named t.tree)) (slice_get-get_or t.exprs.names id [] h)
      ∙ ap (λ (w : Tree). symbol_named w (slice_index_or t.exprs.names id [])) tree_is
      ∙ named_in_tree t.tree.language read (slice_index_or t.exprs.names id [])

  target_is : (f : ReverseKind) (a : ReadAttribute) → AttributeNodesExist t.exprs a
      → target_symbol t f a ≡ option_and_then (λ (b : TargetAttribute). index_of_name b.name names) (target_meant f (attribute_in t.exprs a))
  target_is Select (attributes.Select s) h = name_found s.name h.0
  target_is Select a h = refl
  target_is Imply (attributes.Imply s) h = name_found s.name h.0
  target_is Imply a h = refl

  keys_are : (f : ReverseKind) (ls : List CodeLine) → All (LineNodesExist t.exprs) ls
      → target_keys t f ls ≡ filter_map (force_key_of (target_meant f) names) (map (line_in t.exprs) ls)
  keys_are f [] h = refl
  keys_are f (l ∷ ls) h =
      option_front (target_symbol t f l.attribute) (target_keys t f ls)
      ∙ ap (λ o. cons_option o (target_keys t f ls)) (target_is f l.attribute (h 0 l (omega arith)))
      ∙ ap (cons_option (force_key_of (target_meant f) names (line_in t.exprs l))) (keys_are f ls (λ i d b. h (suc i) d (omega arith)))

  one_item : (g : Group) (file line : ℕ) (o : Option ℕ) (xs : List CodePosition) (ys : List Position) → g.at.file ≡ file → map position_view xs ≡ ys
      → map position_view (option_to_list (option_map (λ _. position_at file line) o) ++ xs)
      ≡ cons_option (option_map (λ _. let x : Position = record { file = g.at.file; line = line } in x) o) ys
  one_item g file line None xs ys e h = h
  one_item g file line (Some k) xs ys e h =
      ap (λ r. position_view (position_at file line) ∷ r) h
      ∙ ap (λ n. let x : Position = record { file = n; line = line } in x ∷ ys) (sym e)

  items_are : (f : ReverseKind) (p : GroupInContext) (file : ℕ) (ls : List CodeLine) → p.group.at.file ≡ file → All (LineNodesExist t.exprs) ls
      → map position_view (target_places t f file ls) ≡ filter_map (place_of (target_meant f) names p) (map (line_in t.exprs) ls)
  items_are f p file [] e h = refl
  items_are f p file (l ∷ ls) e h =
      one_item p.group file l.number (target_symbol t f l.attribute) (target_places t f file ls)
      (filter_map (place_of (target_meant f) names p) (map (line_in t.exprs) ls)) e (items_are f p file ls e (λ i d b. h (suc i) d (omega arith)))
      ∙ ap (λ o. cons_option (option_map (λ _. position_of p.group (line_in t.exprs l)) o) (filter_map (place_of (target_meant f) names p) (map (line_in t.exprs) ls)))
      (target_is f l.attribute (h 0 l (omega arith)))

  key_below : (f : ReverseKind) (ls : List Line) → All (λ k. k < length names) (filter_map (force_key_of (target_meant f) names) ls)
  key_below f [] = All-nil (λ k. k < length names)
  key_below f (l ∷ ls) = by_aim (target_meant f l.attribute) (key_below f ls)
    where
      by_place : (y : List ℕ) (o : Option ℕ) → index_of_name y names ≡ o → All (λ k. k < length names) (filter_map (force_key_of (target_meant f) names) ls)
          → All (λ k. k < length names) (cons_option o (filter_map (force_key_of (target_meant f) names) ls))
      by_place y None e r = r
      by_place y (Some k) e r = All-cons (λ n. n < length names) k _ (get_below names k y (place-get y names k e)) r

      by_aim : (o : Option TargetAttribute) → All (λ k. k < length names) (filter_map (force_key_of (target_meant f) names) ls)
          → All (λ k. k < length names) (cons_option (option_and_then (λ (b : TargetAttribute). index_of_name b.name names) o) (filter_map (force_key_of (target_meant f) names) ls))
      by_aim None r = r
      by_aim (Some b) r = by_place b.name (index_of_name b.name names) refl r

  module _ (prior : List GroupInContext) (p : GroupInContext) (x : List ℕ) (s file : ℕ) (ls : List CodeLine) (old new : GatheredLines)
      (named : defined_name p.group ≡ Some x) (at : slice_get names s ≡ Some x) (f : p.group.at.file ≡ file)
      (own : p.group.attributes ≡ map (line_in t.exprs) ls) (held : All (LineNodesExist t.exprs) ls)
      (g : AreGatheredOf names prior old) (more : HasDefinition t s p.group.number file ls old new) where
    force_step : (k : ReverseKind) {keys keys2 : List ℕ} {items items2 : List CodePosition}
        → AreListed position_view (force_keys (target_meant k) names) (place_items (target_meant k) names) (λ _. Unit {0}) (length names) prior keys items
        → keys2 ≡ keys ++ target_keys t k ls → items2 ≡ items ++ target_places t k file ls
        → AreListed position_view (force_keys (target_meant k) names) (place_items (target_meant k) names) (λ _. Unit {0}) (length names) (prior ++ p ∷ []) keys2 items2
    force_step k l a b =
        listed_more p l (target_places t k file ls) a b
        (keys_are k ls held ∙ ap (filter_map (force_key_of (target_meant k) names)) (sym own)
        ∙ sym (ap (by_name (λ y. filter_map (force_key_of (target_meant k) names) p.group.attributes)) named))
        (items_are k p file ls f held ∙ ap (filter_map (place_of (target_meant k) names p)) (sym own)
        ∙ sym (ap (by_name (λ y. filter_map (place_of (target_meant k) names p) p.group.attributes)) named))
        (all_items (target_places t k file ls))
        (subst (All (λ n. n < length names)) (sym (keys_are k ls held)) (key_below k (map (line_in t.exprs) ls)))

    number : number_of names x ≡ s
    number = ap (λ o. unwrap_or o 0) (place_is names x s (Differ-once (filter_map defined_name read)) at)

    pub definition_more : AreGatheredOf names (prior ++ p ∷ []) new
    definition_more = record {
      definitions = listed_more p g.definitions (p.group.number ∷ []) more.symbols more.numbers
          (ap (λ m. m ∷ []) (sym number) ∙ sym (ap (by_name (λ y. number_of names y ∷ [])) named))
          (sym (ap (by_name (λ y. p.group.number ∷ [])) named))
          (all_items (p.group.number ∷ []))
          (All-cons (λ j. j < length names) s [] (get_below names s x at) (All-nil (λ j. j < length names)));
      selectors = force_step Select g.selectors more.selected more.selectors;
      impliers = force_step Imply g.impliers more.implied more.impliers;
    }

-- a group that defines no symbol adds nothing
pub nothing_more : (names : List (List ℕ)) (prior : List GroupInContext) (p : GroupInContext) (found : GatheredLines) → defined_name p.group ≡ None
    → AreGatheredOf names prior found → AreGatheredOf names (prior ++ p ∷ []) found
nothing_more names prior p found none g = record {
  definitions = listed_same p g.definitions (by_none _ none) (by_none _ none);
  selectors = listed_same p g.selectors (by_none _ none) (by_none _ none);
  impliers = listed_same p g.impliers (by_none _ none) (by_none _ none);
}

unmapped : (ns : List ℕ) → map (λ n. n) ns ≡ ns
unmapped [] = refl
unmapped (n ∷ ns) = ap (λ r. n ∷ r) (unmapped ns)

-- from all groups
pub all_gathered : (read : List Group) (found : GatheredLines) → AreGatheredOf (names_defined read) (groups_in_context read) found → AreGathered read found
all_gathered read found g = record {
  symbols = g.definitions.below;
  selected = g.selectors.below;
  implied = g.impliers.below;
  definitions = λ s name at.
      sym (unmapped (items_of s found.definitions.keys.items found.definitions.items.items))
      ∙ direct_law (λ (p : GroupInContext). p.group.number) read s name g.definitions at;
  selectors = λ s name at. places_law select_of read s name g.selectors at;
  impliers = λ s name at. places_law imply_of read s name g.impliers at;
}

-- group by group
module _ (t : TreeModel) (lines : TreeLines) (read : List Group) where
  pub gathered_definition : t.tree ≡ tree_of_groups t.tree.language read → (h : HasLines t.exprs lines read) (i s : ℕ) (old new : GatheredLines)
      → i < length lines.groups.items → (group_at lines.groups.items i).head ≡ codes.Config s
      → AreGatheredOf (names_defined read) (groups_in_context (read_before i read)) old
      → HasDefinition t s i (group_at lines.groups.items i).file (lines_at lines.groups.items lines.lines.items i) old new
      → AreGatheredOf (names_defined read) (groups_in_context (read_before (i + 1) read)) new
  gathered_definition tree_is h i s old new l is g more =
      let k = shown_at t.exprs (names_defined read) h.texts lines.lines.items lines.groups.items read h.groups_are i l in
      let prior : List Group = read_before i read in
      let p : GroupInContext = group_in_context (open_blocks 0 prior) k.group in
      let what = subst (λ v. RepresentsHead t.exprs (names_defined read) h.texts v k.group.head) is k.shown.head in
      let named : defined_name k.group ≡ Some what.0 = ap (from_head name_of_head) what.2 in
      subst (λ ps. AreGatheredOf (names_defined read) ps new) (sym (placed_more read i k.group k.now))
      (definition_more t read tree_is (groups_in_context prior) p what.0 s (group_at lines.groups.items i).file (lines_at lines.groups.items lines.lines.items i) old new
      named what.1 k.shown.file_is k.shown.attributes (own_held t.exprs lines.groups.items lines.lines.items i h.held) g
      (subst (λ n. HasDefinition t s n (group_at lines.groups.items i).file (lines_at lines.groups.items lines.lines.items i) old new) (sym k.shown.number_is) more))

  pub gathered_other : (h : HasLines t.exprs lines read) (i : ℕ) (found : GatheredLines) → i < length lines.groups.items
      → ((s : ℕ) → (group_at lines.groups.items i).head ≡ codes.Config s → ⊥)
      → AreGatheredOf (names_defined read) (groups_in_context (read_before i read)) found
      → AreGatheredOf (names_defined read) (groups_in_context (read_before (i + 1) read)) found
  gathered_other h i found l other g =
      let k = shown_at t.exprs (names_defined read) h.texts lines.lines.items lines.groups.items read h.groups_are i l in
      let prior : List Group = read_before i read in
      let p : GroupInContext = group_in_context (open_blocks 0 prior) k.group in
      subst (λ ps. AreGatheredOf (names_defined read) ps found) (sym (placed_more read i k.group k.now))
      (nothing_more (names_defined read) (groups_in_context prior) p found
      (nameless t.exprs (names_defined read) h.texts (group_at lines.groups.items i).head k.group.head k.shown.head other) g)

pub gathered_whole : (read : List Group) (i : ℕ) (found : GatheredLines) → i ≡ length read
    → AreGatheredOf (names_defined read) (groups_in_context (read_before i read)) found → AreGathered read found
gathered_whole read i found e g =
    all_gathered read found (subst (λ ms. AreGatheredOf (names_defined read) (groups_in_context ms) found) (ap (λ k. read_before k read) e ∙ all_before read) g)
