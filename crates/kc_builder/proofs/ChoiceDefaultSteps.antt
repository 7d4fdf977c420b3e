-- The defaults of choices, as they are collected.
use Rattle.std.specs.Prelude.{slice_index}
use Rattle.kc_builder.proofs.Common.{◌≡◌, ℕ, zero, suc, ◌+◌, ◌<◌, ◌==◌, Bool, true, false, cond, List, [], ◌∷◌, ◌++◌, length, map, Option, Some, None, refl, ap, sym, subst, ◌∙◌, arith, append-nil, All, slice_get, option_map, option_and_then, filter, filter_map, flat_map, is_none, cons_option}
use Rattle.kc_builder.proofs.Common.{eq-eqb, eqb-true, map-append, length-map, All-append, All-cons, All-nil, Language, Exprs, node_expr, Expr, index_of_name, attribute_in, SymbolTable, number_in, HasNames, line_in, RepresentsHead, Listing, as_many_names, names_defined, DefaultAttribute, default_of}
use Rattle.kc_builder.proofs.Common.{Group, Line, of_head, open_blocks, context_of, GroupInContext, group_in_context, groups_in_context, attribute_condition, Contents, contents_of, place-get, faults_of_group, HasNoFaults, member_default_view, member_default_row, member_default_rows}
use Rattle.kc_builder.proofs.Common.{choice_defaults_of, AreDefaultsOf, IsWalkOf, opens, own_conditions, read_before, group_at, own_lines, is_choice_code, ItemsWithKeys, GroupConditions, none_before, all_before, count_is, AreKeys, items_of, condition_at, ReadAttribute, CodeLine, RepresentsListing}
use Rattle.kc_builder.proofs.Common.{CodeHead}
use Rattle.std.proofs.lemmas.Bool.{false≢true}
use Rattle.std.proofs.lemmas.Option.{slice_get_within, slice_get_past}
use Rattle.std.proofs.lemmas.List.Concat.{flat_map-cons}
use Rattle.kc_expr.specs.between.Names.{name_alone}
use Rattle.kc_statements.specs.between.StatementViews.{default_in}
use Rattle.kc_tree_model.specs.declared.statement.Attribute.TheVariants as attributes
use Rattle.kc_parser.specs.declared.listing.GroupHead.TheVariants as codes
use Rattle.kc_tree_model.specs.Trees as tree
use Rattle.kc_tree_model.specs.declared.fault.TreeKind.{TreeKind}
use Rattle.kc_tree_model.specs.declared.fault.TreeKind.TheVariants.{ChoiceDefault}
use Rattle.kc_tree_model.specs.declared.statement.Head.TheVariants.{Choice as choice}
use Rattle.kc_tree_model.specs.Contents.{bare_name, member_named, member_names, member_default, name_among}
use Rattle.kc_tree_model.specs.TreeFaults.{when, second_prompt, choice_faults, is_no_member, faults_at, faults_of_lines, tree_faults}
use Rattle.kc_tree.specs.between.Views.{MemberDefaultFits}
use Rattle.kc_builder.specs.checker.ChoiceDefaults.{default_value_view, symbol_bare, group_default_rows}
use Rattle.kc_checks.proofs.GroupPlaces.{place_numbered}
use Rattle.kc_builder.proofs.ChoiceRowSteps.{as_many_conditions, as_long, both_at, places_more}
use Rattle.kc_checks.proofs.Rounds.{numbers_of_choices, all_counted}
use Rattle.kc_tree.specs.declared.symbol.MemberDefault.{MemberDefault}
use Rattle.kc_checks.proofs.Symbols.{bare_is}
use Rattle.kc_parser.proofs.ListingGrowth.{get_last}
use Rattle.kc_builder.proofs.ItemLaw.{items_append}
use Rattle.kc_builder.proofs.ItemSteps.{mapped_cons}

-- a choice's attributes have no fault
append_none : {X : Type 0} (xs ys : List X) → xs ++ ys ≡ [] → (xs ≡ []) × (ys ≡ [])
append_none [] ys e = (refl, e)
append_none (x ∷ xs) ys e = cc

map_none : {X Y : Type 0} (f : X → Y) (xs : List X) → map f xs ≡ [] → xs ≡ []
map_none f [] e = refl
map_none f (x ∷ xs) e = cc

when_none : (b : Bool) (k : TreeKind) → when b k ≡ [] → b ≡ false
when_none true k e = cc
when_none false k e = refl

pub flat_none : {X Y : Type 0} (f : X → List Y) (xs : List X) (i : ℕ) (x : X) → flat_map f xs ≡ [] → slice_get xs i ≡ Some x → f x ≡ []
flat_none f [] i x e h = cc
flat_none f (y ∷ ys) zero x e h =
    let p = append_none (f y) (flat_map f ys) (sym (flat_map-cons f y ys) ∙ e) in let s : y ≡ x = cc in subst (λ z. f z ≡ []) s p.0
flat_none f (y ∷ ys) (suc i) x e h = let p = append_none (f y) (flat_map f ys) (sym (flat_map-cons f y ys) ∙ e) in flat_none f ys i x p.1 h

-- each default of a choice without faults names a member
abbrev NamesMember : List (List ℕ) → Option DefaultAttribute → Type 0
NamesMember members None = Unit {0}
NamesMember members (Some d) = (x : List ℕ) × (member_named members d ≡ Some x) × (bare_name d.value ≡ Some x)

among_same : (names : List (List ℕ)) (x y : List ℕ) → name_among names x ≡ Some y → x ≡ y
among_same names x y e = by (index_of_name x names) e
  where
    by : (o : Option ℕ) → option_map (λ _. x) o ≡ Some y → x ≡ y
    by None f = cc
    by (Some i) f = cc

member_by : (members : List (List ℕ)) (d : DefaultAttribute) (b : Bool) (o : Option (List ℕ)) → bare_name d.value ≡ o
    → is_none (cond b (option_and_then (name_among members) o) None) ≡ false
    → (x : List ℕ) × (cond b (option_and_then (name_among members) o) None ≡ Some x) × (o ≡ Some x)
member_by members d false o e f = cc
member_by members d true None e f = cc
member_by members d true (Some y) e f = by (name_among members y) refl f
  where
    by : (p : Option (List ℕ)) → name_among members y ≡ p → is_none p ≡ false → (x : List ℕ) × (p ≡ Some x) × (Some y ≡ Some x)
    by None g h = cc
    by (Some x) g h = (x, refl, ap Some (among_same members y x g))

names_by : (members : List (List ℕ)) (o : Option DefaultAttribute) → is_no_member members o ≡ false → NamesMember members o
names_by members None e = tt
names_by members (Some d) e =
    let r = member_by members d d.single (bare_name d.value) refl e in
    (r.0, r.1, r.2)

pub no_line_faults : (g : Group) (members : List (List ℕ)) (prompted : Bool) (l : Line) (ls : List Line)
    → faults_of_lines g (choice_faults members) prompted (l ∷ ls) ≡ []
    → NamesMember members (default_of l.attribute) × ((b : Bool) × (faults_of_lines g (choice_faults members) b ls ≡ []))
no_line_faults g members prompted l ls e =
    let p = append_none (faults_at g l.number (choice_faults members prompted l.attribute)) _ e in
    let q = append_none (second_prompt prompted l.attribute) (when (is_no_member members (default_of l.attribute)) ChoiceDefault)
    (map_none _ (choice_faults members prompted l.attribute) p.0) in
    (names_by members (default_of l.attribute) (when_none (is_no_member members (default_of l.attribute)) ChoiceDefault q.1), (_, p.1))

-- the default of an attribute, by the code and by the definition
view_option : (e : Exprs) (o : Option ℕ) (x : ℕ) (y : Expr) → node_expr e x ≡ y
    → option_map (member_default_view e) (option_map (λ s. (let d : MemberDefault = record { member = s; condition = x } in d)) o) ≡ option_map
    (λ s. (let d : tree.MemberDefault = record { member = s; condition = y } in d)) o
view_option e None x y h = refl
view_option e (Some s) x y h = ap (λ z. (let d : Option tree.MemberDefault = Some (record { member = s; condition = z }) in d)) h

module _ (language : Language) (n : SymbolTable) (symbols : List ℕ) (c : Contents) (has : HasNames n.arena symbols n.numbers.items c.names) where
  default_value : (p : GroupInContext) (v : ℕ) (d : DefaultAttribute) (x : ℕ) → node_expr n.arena v ≡ d.value
      → node_expr n.arena x ≡ attribute_condition (context_of language p) p.group d.condition → NamesMember (member_names c p.group.number) (Some d)
      → option_map (member_default_view n.arena) (option_map (λ s. (let m : MemberDefault = record { member = s; condition = x } in m)) (symbol_bare n v))
      ≡ member_default language c p d
  default_value p v d x e f m =
      let alone : name_alone (node_expr n.arena v) ≡ Some m.0 = ap name_alone e ∙ bare_is d.value ∙ m.2 in
      let symbol : symbol_bare n v ≡ index_of_name m.0 c.names = ap (option_and_then (number_in n.arena.names n.numbers.items)) alone ∙ has.numbered m.0 in
      view_option n.arena (symbol_bare n v) x (attribute_condition (context_of language p) p.group d.condition) f
      ∙ ap (option_map (λ s. (let m : tree.MemberDefault = record { member = s; condition = attribute_condition (context_of language p) p.group d.condition } in m)))
      (symbol ∙ sym (ap (option_and_then (λ y. index_of_name y c.names)) m.1))

  one_default : (p : GroupInContext) (k : ℕ) (a : ReadAttribute) (x : ℕ)
      → node_expr n.arena x ≡ condition_at language p (record { number = k; attribute = attribute_in n.arena a })
      → NamesMember (member_names c p.group.number) (default_of (attribute_in n.arena a))
      → option_map (member_default_view n.arena) (option_map (λ s. (let m : MemberDefault = record { member = s; condition = x } in m))
      (option_and_then (symbol_bare n) (default_value_view a))) ≡ option_and_then (member_default language c p) (default_of (attribute_in n.arena a))
  one_default p k (attributes.TypedDefault t d) x f m = default_value p d.value (default_in n.arena d) x refl f m
  one_default p k (attributes.Default d) x f m = default_value p d.value (default_in n.arena d) x refl f m
  one_default p k y x f m = refl

  statement_cons : (p : GroupInContext) (o : Option DefaultAttribute) (l : Line) (ls : List Line) → default_of l.attribute ≡ o
      → filter_map (member_default language c p) (filter_map (λ (l : Line). default_of l.attribute) (l ∷ ls)) ≡ cons_option (option_and_then (member_default language c p) o)
      (filter_map (member_default language c p) (filter_map (λ (l : Line). default_of l.attribute) ls))
  statement_cons p None l ls e = rw e refl
  statement_cons p (Some d) l ls e = rw e refl

  pub all_defaults : (p : GroupInContext) (ls : List CodeLine) (xs : List ℕ) (prompted : Bool)
      → map (node_expr n.arena) xs ≡ map (condition_at language p) (map (line_in n.arena) ls)
      → faults_of_lines p.group (choice_faults (member_names c p.group.number)) prompted (map (line_in n.arena) ls) ≡ []
      → map (member_default_view n.arena) (member_default_rows n ls xs) ≡ filter_map (member_default language c p)
      (filter_map (λ (l : Line). default_of l.attribute) (map (line_in n.arena) ls))
  all_defaults p [] xs prompted e f = refl
  all_defaults p (l ∷ ls) [] prompted e f = absurd (let k : 0 ≡ suc (length (map (condition_at language p) (map (line_in n.arena) ls))) = ap length e in cc)
  all_defaults p (l ∷ ls) (x ∷ xs) prompted e f =
      let rest : map (node_expr n.arena) xs ≡ map (condition_at language p) (map (line_in n.arena) ls) = cc in
      let here : node_expr n.arena x ≡ condition_at language p (line_in n.arena l) = cc in
      let q = no_line_faults p.group (member_names c p.group.number) prompted (line_in n.arena l) (map (line_in n.arena) ls) f in
      mapped_cons (member_default_view n.arena) (member_default_row n l x) (member_default_rows n ls xs)
      ∙ ap (λ o. cons_option o (map (member_default_view n.arena) (member_default_rows n ls xs))) (one_default p l.number l.attribute x here q.0)
      ∙ ap (cons_option (option_and_then (member_default language c p) (default_of (attribute_in n.arena l.attribute)))) (all_defaults p ls xs q.1.0 rest q.1.1)
      ∙ sym (statement_cons p (default_of (attribute_in n.arena l.attribute)) (line_in n.arena l) (map (line_in n.arena) ls) refl)

  -- their numbers are there
  kept_fits : (l : CodeLine) (x : ℕ) (o : Option ℕ) → option_and_then (symbol_bare n) (default_value_view l.attribute) ≡ o → x < length n.arena.nodes
      → (xs : List MemberDefault) → All (MemberDefaultFits (length n.arena.nodes) (length c.names)) xs
      → All (MemberDefaultFits (length n.arena.nodes) (length c.names))
      (cons_option (option_map (λ s. (let m : MemberDefault = record { member = s; condition = x } in m)) o) xs)
  kept_fits l x None e h xs a = a
  kept_fits l x (Some s) e h xs a =
      All-cons (MemberDefaultFits (length n.arena.nodes) (length c.names)) (record { member = s; condition = x }) xs
      (symbol_small (default_value_view l.attribute) s e, h) a
    where
      by_name : (o : Option (List ℕ)) (s : ℕ) → option_and_then (number_in n.arena.names n.numbers.items) o ≡ Some s → s < length c.names
      by_name None s f = cc
      by_name (Some y) s f = slice_get_within c.names s y (place-get y c.names s (sym (has.numbered y) ∙ f))

      symbol_small : (v : Option ℕ) (s : ℕ) → option_and_then (symbol_bare n) v ≡ Some s → s < length c.names
      symbol_small None s f = cc
      symbol_small (Some v) s f = by_name (name_alone (node_expr n.arena v)) s f

  pub all_fit : (ls : List CodeLine) (xs : List ℕ) → All (λ i. i < length n.arena.nodes) xs
      → All (MemberDefaultFits (length n.arena.nodes) (length c.names)) (member_default_rows n ls xs)
  all_fit [] xs h = All-nil (MemberDefaultFits (length n.arena.nodes) (length c.names))
  all_fit (l ∷ ls) [] h = All-nil (MemberDefaultFits (length n.arena.nodes) (length c.names))
  all_fit (l ∷ ls) (x ∷ xs) h =
      kept_fits l x (option_and_then (symbol_bare n) (default_value_view l.attribute)) refl (h 0 x (omega arith)) (member_default_rows n ls xs)
      (all_fit ls xs (λ k d i. h (suc k) d (omega arith)))

-- items under one key are all those of this key, and none of another
under_one : {T : Type 0} (k m : ℕ) (b : Bool) → (m == k) ≡ b → (xs : List T) → items_of k (map (λ (_ : T). m) xs) xs ≡ cond b xs []
under_one k m true e [] = refl
under_one k m false e [] = refl
under_one k m true e (x ∷ xs) = rw e (ap (λ r. x ∷ r) (under_one k m true e xs))
under_one k m false e (x ∷ xs) = rw e (under_one k m false e xs)

-- items appended under key `m` come after those of `k` if the keys are equal, and don't change those of `k` if not
items_after : {T : Type 0} (k m : ℕ) (keys : List ℕ) (items xs : List T) → length items ≡ length keys
    → items_of k (keys ++ map (λ (_ : T). m) xs) (items ++ xs) ≡ items_of k keys items ++ cond (m == k) xs []
items_after {T} k m keys items xs e =
    items_append k keys (map (λ (_ : T). m) xs) items xs (sym e) ∙ ap (λ ys. items_of k keys items ++ ys) (under_one k m (m == k) refl xs)

const_keys : {T : Type 0} (m : ℕ) (xs : List T) (i : ℕ) → i < length (map (λ (_ : T). m) xs) → slice_index (map (λ (_ : T). m) xs) i < m + 1
const_keys m [] i h = absurd (omega arith)
const_keys m (x ∷ xs) zero h = omega arith
const_keys m (x ∷ xs) (suc i) h = const_keys m xs i (omega arith)

pub keys_after : {T : Type 0} (m : ℕ) (keys : List ℕ) (xs : List T) → AreKeys m keys → AreKeys (m + 1) (keys ++ map (λ (_ : T). m) xs)
keys_after {T} m [] xs h = const_keys m xs
keys_after {T} m (k ∷ keys) xs h = by (keys_after m keys xs (λ i l. h (suc i) (omega arith)))
  where
    by : AreKeys (m + 1) (keys ++ map (λ (_ : T). m) xs) → (i : ℕ) → i < length (k ∷ (keys ++ map (λ (_ : T). m) xs))
        → slice_index (k ∷ (keys ++ map (λ (_ : T). m) xs)) i < m + 1
    by rest zero l = let a = h 0 (omega arith) in omega arith
    by rest (suc i) l = rest i (omega arith)

pub get_other : {X : Type 0} (xs : List X) (y : X) (k : ℕ) → (k ≡ length xs → ⊥) → slice_get (xs ++ y ∷ []) k ≡ slice_get xs k
get_other [] y zero h = absurd (h refl)
get_other [] y (suc k) h = refl
get_other (x ∷ xs) y zero h = refl
get_other (x ∷ xs) y (suc k) h = get_other xs y k (λ e. h (omega arith))

choice_given : (exprs : Exprs) (names texts : List (List ℕ)) (c : CodeHead) (m : Group) → RepresentsHead exprs names texts c m.head → is_choice_code c ≡ true
    → m.head ≡ of_head choice
choice_given exprs names texts codes.Choice m h e = h
choice_given exprs names texts x m h e = cc

choice_group_faults : (language : Language) (c : Contents) (p : GroupInContext) → p.group.head ≡ of_head choice
    → faults_of_group language c p ≡ faults_of_lines p.group (choice_faults (member_names c p.group.number)) false p.group.attributes
choice_group_faults language c p e = rw e refl

-- the defaults of the choices among the groups that were visited
module _ (language : Language) (l : Listing) (groups : List GroupConditions) (conditions : List ℕ) (read : List Group) (w : IsWalkOf language l groups conditions read) where
  abbrev pub AreTo : ℕ → ℕ → ItemsWithKeys MemberDefault → Type 0
  AreTo i n found = AreDefaultsOf language l (contents_of read) (groups_in_context (read_before i read)) n found

  pub as_many : length groups ≡ length l.groups.items
  as_many = as_many_conditions _ l l.names.arena groups conditions read w.shows w.shown

  pub as_long_own : (i : ℕ) → i < length l.groups.items → length (own_conditions groups conditions i) ≡ length (own_lines l i)
  as_long_own i h = as_long _ l l.names.arena groups conditions read w.shows w.shown i h

  pub no_defaults : (found : ItemsWithKeys MemberDefault) → found.keys.items ≡ [] → found.items.items ≡ [] → AreTo 0 0 found
  no_defaults found e f = record {
    keys = rw e (λ i h. absurd (omega arith));
    fits = rw f (All-nil (MemberDefaultFits (length l.names.arena.nodes) (length l.names.symbols.items)));
    are = λ k. rw e (ap (λ r. choice_defaults_of language (contents_of read) (slice_get (filter opens (groups_in_context r)) k)) (sym (none_before read)));
  }

  same_defaults : (i n : ℕ) (old new : ItemsWithKeys MemberDefault) → i < length l.groups.items → is_choice_code (group_at l.groups.items i).head ≡ false
      → new.keys.items ≡ old.keys.items → new.items.items ≡ old.items.items → AreTo i n old → AreTo (i + 1) n new
  same_defaults i n old new h b e f d =
      let same = places_more _ l l.names.arena groups conditions read w.shows w.shown i h false b
      ∙ append-nil (filter opens (groups_in_context (read_before i read))) in
      record {
        keys = rw e d.keys;
        fits = rw f d.fits;
        are = λ k. rw (e, f) (d.are k) ∙ ap (λ ps. choice_defaults_of language (contents_of read) (slice_get ps k)) (sym same);
      }

  own_defaults : (i : ℕ) (h : i < length l.groups.items) → is_choice_code (group_at l.groups.items i).head ≡ true → HasNoFaults read
      → map (member_default_view l.names.arena) (member_default_rows l.names (own_lines l i) (own_conditions groups conditions i))
      ≡ choice_defaults_of language (contents_of read) (Some (group_in_context (open_blocks 0 (read_before i read))
      (both_at _ l l.names.arena groups conditions read w.shows w.shown i h).group))
  unfolding RepresentsListing tree_faults
  own_defaults i h b none =
      let x = both_at _ l l.names.arena groups conditions read w.shows w.shown i h in
      let p : GroupInContext = group_in_context (open_blocks 0 (read_before i read)) x.group in
      let n = count_is l.names.arena (names_defined read) l.texts.items l.lines.items l.groups.items read w.shows.groups_are in
      let faults = flat_none (faults_of_group none.0 (contents_of read)) (groups_in_context read) i p none.1
      (place_numbered read i x.group (omega (arith, n, h)) x.now) in
      let what = choice_given l.names.arena (names_defined read) l.texts.items (group_at l.groups.items i).head x.group x.shown.head b in
      let lines : faults_of_lines p.group (choice_faults (member_names (contents_of read) p.group.number)) false p.group.attributes ≡ [] =
      sym (choice_group_faults none.0 (contents_of read) p what) ∙ faults in
      let own : map (node_expr l.names.arena) (own_conditions groups conditions i) ≡ map (condition_at language p) (map (line_in l.names.arena) (own_lines l i)) =
      x.conditioned.own_are ∙ ap (map (condition_at language p)) x.shown.attributes in
      all_defaults _ l.names l.names.symbols.items (contents_of read) w.shows.names p (own_lines l i) (own_conditions groups conditions i) false own
      (ap (λ ls. faults_of_lines p.group (choice_faults (member_names (contents_of read) p.group.number)) false ls) (sym x.shown.attributes) ∙ lines)
      ∙ ap (λ ls. filter_map (member_default language (contents_of read) p) (filter_map (λ (l : Line). default_of l.attribute) ls)) (sym x.shown.attributes)

  own_fit : (i : ℕ) → i < length l.groups.items
      → All (MemberDefaultFits (length l.names.arena.nodes) (length l.names.symbols.items))
      (member_default_rows l.names (own_lines l i) (own_conditions groups conditions i))
  unfolding RepresentsListing
  own_fit i h =
      let x = both_at language l l.names.arena groups conditions read w.shows w.shown i h in
      let many = as_many_names l.names.arena l.names.symbols.items l.names.numbers.items (names_defined read) w.shows.names in
      subst (λ m. All (MemberDefaultFits (length l.names.arena.nodes) m) (member_default_rows l.names (own_lines l i) (own_conditions groups conditions i)))
      (sym many)
      (all_fit language l.names l.names.symbols.items (contents_of read) w.shows.names (own_lines l i) (own_conditions groups conditions i) x.conditioned.held)

  by_key : (m k : ℕ) (b : Bool) (F : List GroupInContext) (p : GroupInContext) (old : List tree.MemberDefault) (xs : List MemberDefault) → (m == k) ≡ b
      → m ≡ length F
      → old ≡ choice_defaults_of language (contents_of read) (slice_get F k) → map (member_default_view l.names.arena) xs ≡ choice_defaults_of language (contents_of read)
      (Some p)
      → old ++ map (member_default_view l.names.arena) (cond b xs []) ≡ choice_defaults_of language (contents_of read) (slice_get (F ++ p ∷ []) k)
  by_key m k true F p old xs e n o x =
      let same : k ≡ length F = sym (eqb-true m k e) ∙ n in
      let none : slice_get F k ≡ None = slice_get_past F k (omega arith) in
      let empty : old ≡ [] = o ∙ ap (choice_defaults_of language (contents_of read)) none in
      ap (λ ys. ys ++ map (member_default_view l.names.arena) xs) empty ∙ x
      ∙ ap (choice_defaults_of language (contents_of read)) (sym (ap (slice_get (F ++ p ∷ [])) same ∙ get_last F p))
  by_key m k false F p old xs e n o x =
      append-nil old ∙ o ∙ ap (choice_defaults_of language (contents_of read)) (sym (get_other F p k (λ same. false≢true (sym e ∙ eq-eqb m k (n ∙ sym same)))))

  more_defaults : (i n : ℕ) (old new : ItemsWithKeys MemberDefault) → i < length l.groups.items → is_choice_code (group_at l.groups.items i).head ≡ true
      → n ≡ length (filter opens (groups_in_context (read_before i read))) → HasNoFaults read
      → new.keys.items ≡ old.keys.items ++ map (λ (_ : MemberDefault). n) (member_default_rows l.names (own_lines l i) (own_conditions groups conditions i))
      → new.items.items ≡ old.items.items ++ member_default_rows l.names (own_lines l i) (own_conditions groups conditions i) → AreTo i n old
      → AreTo (i + 1) (n + 1) new
  more_defaults i n old new h b c none e f d =
      let xs = member_default_rows l.names (own_lines l i) (own_conditions groups conditions i) in
      let p : GroupInContext = group_in_context (open_blocks 0 (read_before i read))
      (both_at _ l l.names.arena groups conditions read w.shows w.shown i h).group in
      let F : List GroupInContext = filter opens (groups_in_context (read_before i read)) in
      let places = places_more _ l l.names.arena groups conditions read w.shows w.shown i h true b in
      record {
        keys = rw e (keys_after n old.keys.items xs d.keys);
        fits = rw f (All-append (MemberDefaultFits (length l.names.arena.nodes) (length l.names.symbols.items)) old.items.items xs d.fits (own_fit i h));
        are = λ k. (let cut : items_of k new.keys.items new.items.items ≡ items_of k old.keys.items old.items.items ++ cond (n == k) xs [] = rw (e, f)
            (items_after k n old.keys.items old.items.items xs old.even) in
            ap (map (member_default_view l.names.arena)) cut ∙ map-append (member_default_view l.names.arena) (items_of k old.keys.items old.items.items)
            (cond (n == k) xs [])
            ∙ by_key n k (n == k) F p (map (member_default_view l.names.arena) (items_of k old.keys.items old.items.items)) xs refl c (d.are k)
            (own_defaults i h b none)
            ∙ ap (λ ps. choice_defaults_of language (contents_of read) (slice_get ps k)) (sym places));
      }

  -- the defaults collected from the first `i` groups, with those of the next group, are those of the first `i + 1`
  pub one_more : (i n n2 : ℕ) (old new : ItemsWithKeys MemberDefault) → i < length l.groups.items
      → n ≡ length (numbers_of_choices (read_before i read)) → n2 ≡ cond (is_choice_code (group_at l.groups.items i).head) (n + 1) n → HasNoFaults read
      → new.keys.items ≡ old.keys.items ++ map (λ (_ : MemberDefault). n)
      (group_default_rows (group_at l.groups.items i).head l.names (own_lines l i) (own_conditions groups conditions i))
      → new.items.items ≡ old.items.items ++ group_default_rows (group_at l.groups.items i).head l.names (own_lines l i) (own_conditions groups conditions i)
      → AreTo i n old → AreTo (i + 1) n2 new
  one_more i n n2 old new h c m none e f d = subst (λ k. AreTo (i + 1) k new) (sym m) (by (is_choice_code (group_at l.groups.items i).head) refl e f)
    where
      by : (b : Bool) → is_choice_code (group_at l.groups.items i).head ≡ b
          → new.keys.items ≡ old.keys.items ++ map (λ (_ : MemberDefault). n)
          (cond b (member_default_rows l.names (own_lines l i) (own_conditions groups conditions i)) [])
          → new.items.items ≡ old.items.items ++ cond b (member_default_rows l.names (own_lines l i) (own_conditions groups conditions i)) []
          → AreTo (i + 1) (cond b (n + 1) n) new
      by true t e f =
          let count : n ≡ length (filter opens (groups_in_context (read_before i read))) = c
          ∙ length-map (filter opens (groups_in_context (read_before i read))) (λ (p : GroupInContext). p.group.number) in
          more_defaults i n old new h t count none e f d
      by false t e f = same_defaults i n old new h t (e ∙ append-nil old.keys.items) (f ∙ append-nil old.items.items) d

  pub all_gathered : (i n : ℕ) (found : ItemsWithKeys MemberDefault) → i ≡ length l.groups.items → n ≡ length (numbers_of_choices (read_before i read))
      → AreTo i n found
      → AreDefaultsOf language l (contents_of read) (groups_in_context read) (length (contents_of read).choices) found
  unfolding RepresentsListing
  all_gathered i n found e c d =
      let k = count_is l.names.arena (names_defined read) l.texts.items l.lines.items l.groups.items read w.shows.groups_are in
      let j : i ≡ length read = e ∙ k in
      let all : read_before i read ≡ read = ap (λ m. read_before m read) j ∙ all_before read in
      subst (λ r. AreDefaultsOf language l (contents_of read) (groups_in_context r) (length (contents_of read).choices) found) all
      (subst (λ m. AreTo i m found) (c ∙ all_counted read i j) d)
