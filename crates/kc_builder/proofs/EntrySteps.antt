-- The entries of what was read, group by group.
use Rattle.kc_builder.proofs.Common.{◌≡◌, ◌⊎◌, inl, inr, ℕ, ◌+◌, ◌-◌, ◌<◌, true, List, [], ◌∷◌, ◌++◌, length, map, reverse, Option, Some, None, ap, sym, subst, ◌∙◌, All, filter_map, slice_get, option_map, option_to_list, map-append, All-append, All-cons, All-nil, Language, Exprs, Represents}
use Rattle.kc_builder.proofs.Common.{node_expr, Expr, block_of_head, Group, GroupHead, closing, side_of, from_head, defined_name, is_some_block, open_blocks, context_of, GroupInContext, group_in_context, groups_in_context, dependency_of, attribute_values, Contents, contents_of, choice_number}
use Rattle.kc_builder.proofs.Common.{names_defined, Differ, Differ-once, get_below, number-get, Listing, RepresentsHead, IsWalkOf, EntryRowFits, entry_from_row, conditions_at, own_conditions, RepresentsConditions, GroupConditions, choices_before, group_at, read_before, placed_more, append-nil}
use Rattle.kc_builder.proofs.Common.{CodeHead, RepresentsListing, option_front}
use Rattle.std.specs.Prelude.{slice_index_or}
use Rattle.std.proofs.lemmas.Option.{get_or_from_slice_get}
use Rattle.std.proofs.lemmas.List.Elements.{filter_map-append}
use Rattle.kc_tree_model.specs.declared.keyword.Block.TheVariants as blocks
use Rattle.kc_tree_model.specs.Trees as tree
use Rattle.kc_tree_model.specs.Statements.{title_of_head, visible_of}
use Rattle.kc_tree_model.specs.Blocks.{opening, opens_choice}
use Rattle.kc_tree_model.specs.Conditions.{conjunction_of}
use Rattle.kc_tree_model.specs.Contents.{entry_of_head, menu_end_of}
use Rattle.kc_parser.specs.declared.listing.GroupHead.TheVariants as codes
use Rattle.kc_builder.specs.checker.Entries.{entry_row}
use Rattle.kc_conditions.specs.between.Walks.{RepresentsEnd}
use Rattle.kc_tree.specs.declared.rows.EntryRow.{EntryRow}
use Rattle.kc_tree.specs.declared.rows.EntryRow.TheVariants.{Definition, ChoiceBegins, MenuBegins, MenuEnds, Comment}
use Rattle.kc_checks.proofs.GroupPlaces.{are_numbers, numbers_before}
use Rattle.kc_checks.proofs.Rounds.{number_counts}
use Rattle.kc_checks.proofs.Symbols.{place_is}
use Rattle.kc_builder.proofs.ChoiceRowSteps.{both_at, IsBoth}
use Rattle.kc_builder.proofs.ItemSteps.{map_option}

filter_map-snoc : {A B : Type 0} (f : A → Option B) (xs : List A) (x : A) → filter_map f (xs ++ x ∷ []) ≡ filter_map f xs ++ option_to_list (f x)
filter_map-snoc f xs x =
    filter_map-append f xs (x ∷ []) ∙ ap (λ ys. filter_map f xs ++ ys) (sym (option_front (f x) []) ∙ append-nil (option_to_list (f x)))

abbrev pub entry_at : Language → Contents → GroupInContext → Option tree.Entry
entry_at language C p = from_head (entry_of_head language C p) p.group.head

-- an entry represents that of the definition
module _ (language : Language) (e e2 : Exprs) (texts : List (List ℕ)) (C : Contents) (d : Differ C.names) (p : GroupInContext) (n : ℕ) where
  abbrev at_place : GroupHead → Option tree.Entry
  at_place = from_head (entry_of_head language C p)

  text_is : (t : ℕ) (title : List ℕ) → slice_get texts t ≡ Some title → slice_index_or texts t [] ≡ title
  text_is t title h = get_or_from_slice_get texts t title [] h

  represented_unless_closing : (id : ℕ) (x : Expr) → side_of p.group.head ≡ closing ⊎ Represents e2 id x
      → (side_of p.group.head ≡ closing → ⊥) → Represents e2 id x
  represented_unless_closing id x (inl a) away = absurd (away a)
  represented_unless_closing id x (inr s) away = s

  end_shown : (o : Option ℕ) (a v : ℕ) (x : Option tree.Entry) → RepresentsEnd e2 texts o a v x
      → option_map (entry_from_row e2 texts) (option_map (λ t. MenuEnds t a v) o) ≡ x
  end_shown None a v x h = sym h
  end_shown (Some t) a v x h = ap (λ title. Some (tree.menu_ends title (node_expr e2 a) (node_expr e2 v))) (text_is t h.0 h.1) ∙ sym h.4

  pub entry_shown : (w : CodeHead) (c : GroupConditions) (own : List ℕ) → RepresentsHead e C.names texts w p.group.head → RepresentsConditions language e2 texts own c p
      → (opens_choice p.group ≡ true → choice_number C p.group.number ≡ Some n) → option_map (entry_from_row e2 texts) (entry_row w c n) ≡ entry_at language C p
  entry_shown (codes.Config s) c own h k o = sym (ap at_place h.2 ∙ ap (option_map tree.definition) (place_is C.names h.0 s d h.1))
  entry_shown codes.Choice c own h k o =
      let opened : opens_choice p.group ≡ true = ap (λ v. is_some_block blocks.Choice (from_head block_of_head v)) h in
      sym (ap at_place h ∙ ap (option_map tree.choice_begins) (o opened))
  entry_shown (codes.Menu t) c own h k o =
      let away : side_of p.group.head ≡ closing → ⊥ = λ q. let z : opening ≡ closing = sym (ap side_of h.2) ∙ q in cc in
      let a = represented_unless_closing c.dependency (dependency_of (context_of language p) p.group) k.dependency_is away in
      let v = represented_unless_closing c.visible (conjunction_of ((context_of language p).visibles ++ attribute_values visible_of p.group)) k.visible_is away in
      ap (λ title. Some (tree.menu_begins title (node_expr e2 c.dependency) (node_expr e2 c.visible))) (text_is t h.0 h.1)
      ∙ ap (λ x. Some (tree.menu_begins h.0 x (node_expr e2 c.visible))) a.is
      ∙ ap (λ x. Some (tree.menu_begins h.0 (dependency_of (context_of language p) p.group) x)) v.is
      ∙ sym (ap at_place h.2 ∙ ap (λ w. option_map (λ title. tree.menu_begins title (dependency_of (context_of language p) p.group)
      (conjunction_of ((context_of language p).visibles ++ attribute_values visible_of p.group))) (from_head title_of_head w)) h.2)
  entry_shown (codes.Condition id) c own h k o = sym (ap at_place h.1)
  entry_shown (codes.Comment t) c own h k o =
      let away : side_of p.group.head ≡ closing → ⊥ = λ q. let z = sym (ap side_of h.2) ∙ q in cc in
      let a = represented_unless_closing c.dependency (dependency_of (context_of language p) p.group) k.dependency_is away in
      ap (λ title. Some (tree.comment title (node_expr e2 c.dependency))) (text_is t h.0 h.1)
      ∙ ap (λ x. Some (tree.comment h.0 x)) a.is
      ∙ sym (ap at_place h.2)
  entry_shown (codes.Source t) c own h k o = sym (ap at_place h.2)
  entry_shown (codes.Ends blocks.Menu) c own h k o =
      end_shown c.ended c.dependency c.visible (menu_end_of language p.opened) (k.ended_is (ap side_of h)) ∙ sym (ap at_place h)
  entry_shown x c own h k o = sym (ap at_place h)

  -- its numbers are there
  abbrev Fits : EntryRow → Type 0
  Fits = EntryRowFits (length e2.nodes) (length C.names) (length C.choices) (length texts)

  one_fits : (r : EntryRow) → Fits r → All Fits (option_to_list (Some r))
  one_fits r h = All-cons Fits r [] h (All-nil Fits)

  end_fits : (o : Option ℕ) (a v : ℕ) (x : Option tree.Entry) → RepresentsEnd e2 texts o a v x → All Fits (option_to_list (option_map (λ t. MenuEnds t a v) o))
  end_fits None a v x h = All-nil Fits
  end_fits (Some t) a v x h = one_fits (MenuEnds t a v) (get_below texts t h.0 h.1, h.2, h.3)

  pub entry_fits : (w : CodeHead) (c : GroupConditions) (own : List ℕ) → RepresentsHead e C.names texts w p.group.head → RepresentsConditions language e2 texts own c p
      → (opens_choice p.group ≡ true → n < length C.choices) → All Fits (option_to_list (entry_row w c n))
  entry_fits (codes.Config s) c own h k o = one_fits (Definition s) (get_below C.names s h.0 h.1)
  entry_fits codes.Choice c own h k o =
      let opened : opens_choice p.group ≡ true = ap (λ v. is_some_block blocks.Choice (from_head block_of_head v)) h in
      one_fits (ChoiceBegins n) (o opened)
  entry_fits (codes.Menu t) c own h k o =
      let away : side_of p.group.head ≡ closing → ⊥ = λ q. let z : opening ≡ closing = sym (ap side_of h.2) ∙ q in cc in
      one_fits (MenuBegins t c.dependency c.visible) (
        get_below texts t h.0 h.1,
        (represented_unless_closing c.dependency (dependency_of (context_of language p) p.group) k.dependency_is away).within,
        (represented_unless_closing c.visible (conjunction_of ((context_of language p).visibles ++ attribute_values visible_of p.group)) k.visible_is away).within,
      )
  entry_fits (codes.Comment t) c own h k o =
      let away : side_of p.group.head ≡ closing → ⊥ = λ q. let z = sym (ap side_of h.2) ∙ q in cc in
      one_fits (Comment t c.dependency)
      (get_below texts t h.0 h.1, (represented_unless_closing c.dependency (dependency_of (context_of language p) p.group) k.dependency_is away).within)
  entry_fits (codes.Ends blocks.Menu) c own h k o = end_fits c.ended c.dependency c.visible (menu_end_of language p.opened) (k.ended_is (ap side_of h))
  entry_fits x c own h k o = All-nil Fits

-- the entries of the first groups and that of the next one
module _ (language : Language) (l : Listing) (groups : List GroupConditions) (conditions : List ℕ) (read : List Group)
    (w : IsWalkOf language l groups conditions read) (i n : ℕ) (h : i < length l.groups.items) (count : n ≡ choices_before i read) (old new : List EntryRow)
    (more : new ≡ old ++ option_to_list (entry_row (group_at l.groups.items i).head (conditions_at groups i) n)) where
  abbrev c : Contents
  c = contents_of read

  abbrev prior : List GroupInContext
  prior = groups_in_context (read_before i read)

  abbrev both : IsBoth language l l.names.arena groups conditions read w.shows w.shown i
  both = both_at language l l.names.arena groups conditions read w.shows w.shown i h

  abbrev place : GroupInContext
  place = group_in_context (open_blocks 0 (read_before i read)) both.group

  abbrev rows : List EntryRow
  rows = option_to_list (entry_row (group_at l.groups.items i).head (conditions_at groups i) n)

  numbered : opens_choice place.group ≡ true → choice_number c place.group.number ≡ Some n
  unfolding RepresentsListing
  numbered opens =
      let a = are_numbers l.names.arena (names_defined read) l.texts.items l.lines.items (length l.lines.items) (reverse l.groups.items) read w.shows.groups_are in
      number_counts read i both.group a (numbers_before (length read - (i + 1)) read a) both.now opens ∙ ap Some (sym count)

  pub entries_more : map (entry_from_row l.names.arena l.texts.items) old ≡ filter_map (entry_at language c) prior
      → map (entry_from_row l.names.arena l.texts.items) new ≡ filter_map (entry_at language c) (groups_in_context (read_before (i + 1) read))
  entries_more k =
      let f = entry_from_row l.names.arena l.texts.items in
      let row = entry_row (group_at l.groups.items i).head (conditions_at groups i) n in
      ap (map f) more
      ∙ map-append f old rows
      ∙ ap (λ t. t ++ map f rows) k
      ∙ ap (λ t. filter_map (entry_at language c) prior ++ t) (map_option f row ∙ ap option_to_list
      (entry_shown language l.names.arena l.names.arena l.texts.items c (Differ-once (filter_map defined_name read)) place n (group_at l.groups.items i).head
      (conditions_at groups i) (own_conditions groups conditions i) both.shown.head both.conditioned numbered))
      ∙ sym (ap (filter_map (entry_at language c)) (placed_more read i both.group both.now) ∙ filter_map-snoc (entry_at language c) prior place)

  pub fits_more : All (EntryRowFits (length l.names.arena.nodes) (length c.names) (length c.choices) (length l.texts.items)) old
      → All (EntryRowFits (length l.names.arena.nodes) (length c.names) (length c.choices) (length l.texts.items)) new
  fits_more k =
      let F = EntryRowFits (length l.names.arena.nodes) (length c.names) (length c.choices) (length l.texts.items) in
      subst (All F) (sym more) (All-append F old rows k
      (entry_fits language l.names.arena l.names.arena l.texts.items c (Differ-once (filter_map defined_name read)) place n (group_at l.groups.items i).head
      (conditions_at groups i) (own_conditions groups conditions i) both.shown.head both.conditioned
      (λ opens. get_below c.choices n place.group.number (number-get place.group.number c.choices n (numbered opens)))))
