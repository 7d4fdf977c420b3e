-- The first definitions of symbols in a listing are those among the statements that it represents.
use Rattle.std.proofs.Common.{◌⊎◌}
use Rattle.std.specs.Prelude.{bytes_eq}
use Rattle.kmin_faults.proofs.Common.{◌≡◌, inl, inr, ℕ, zero, suc, ◌+◌, ◌≤◌, Bool, true, false, cond, ◌&&◌, ◌||◌, ◌==◌, List, [], ◌∷◌, ◌++◌, length, map, reverse, Option, Some, None, refl, ap, sym, subst, ◌∙◌, arith, filter_map, find, is_some, nat_le, option_and_then, option_map, slice_get}
use Rattle.kmin_faults.proofs.Common.{slice_range, list_any, range_with_len, cases_Bool, eq-eqb, ne_eqb, false≢true, reverse-append, reverse-reverse, Exprs, Group, GroupHead, from_head, Listing, RepresentsHead, RepresentsGroups, group_at, later, TextPlace, begins_before, defined_by, definition_at}
use Rattle.kmin_faults.proofs.Common.{defines, gives_type, is_typed, last_line, position_of}
use Rattle.std.specs.Option.{option_or}
use Rattle.std.proofs.lemmas.List.Folds.{find-append}
use Rattle.kc_statements.specs.between.StatementViews.{ReadAttribute, attribute_in}
use Rattle.kc_statements.proofs.AttributeViews.{type_same}
use Rattle.kc_tree_model.specs.Statements.{name_of_head, type_of}
use Rattle.kc_tree_model.specs.Blocks.{Line, Position, defined_name}
use Rattle.kc_tree_model.specs.Limits.{names_defined}
use Rattle.kc_tree_model.proofs.Consistency.Lists.{Differ, Differ-once, at_most_once, same_text, text_same}
use Rattle.kc_parser.specs.declared.listing.Group.{Group as CodeGroup}
use Rattle.kc_parser.specs.declared.listing.Line.{Line as CodeLine}
use Rattle.kc_parser.specs.declared.listing.GroupHead.{GroupHead as CodeHead}
use Rattle.kc_parser.specs.declared.listing.GroupHead.TheVariants as codes
use Rattle.kc_parser.specs.between.ListingView.{RepresentsListing, RepresentsGroup, line_in}
use Rattle.kc_checks.specs.between.Summaries.{attributes_end, read_before}
use Rattle.kc_checks.proofs.GroupPlaces.{IsShownAt, all_before, count_is, none_before, shown_at}
use Rattle.kmin_faults.specs.FirstPlaces as model
use Rattle.kmin_faults.specs.between.StoredDefinitions.{first_of, first_type_in, first_typed, other_definition_in, other_place, place_of, unless_same}
use Rattle.kmin_faults.proofs.StoredTypes.{has_type_within}

-- an attribute gives a type if the one that it represents does
typed_is : (e : Exprs) (a : ReadAttribute) → gives_type a ≡ is_some (type_of (attribute_in e a))
typed_is e a = ap is_some (type_same e a)

typed_lines : (e : Exprs) (own : List CodeLine)
    → list_any (λ (l : CodeLine). gives_type l.attribute) own ≡ list_any (λ (l : Line). is_some (type_of l.attribute)) (map (line_in e) own)
typed_lines e [] = refl
typed_lines e (l ∷ own) =
    ap (λ b. b || list_any (λ (l : CodeLine). gives_type l.attribute) own) (typed_is e l.attribute)
    ∙ ap (λ b. is_some (type_of (attribute_in e l.attribute)) || b) (typed_lines e own)

some_is_none : {A : Type 0} (x : A) → Some x ≡ None → ⊥
some_is_none x e = cc

-- numbers one after another, and one more
range_more : (a n : ℕ) → range_with_len a (suc n) ≡ range_with_len a n ++ (a + n) ∷ []
range_more a zero = let same : a ≡ a + 0 = omega arith in ap (λ x. x ∷ []) same
range_more a (suc n) =
    let same : a + 1 + n ≡ a + suc n = omega arith in
    ap (λ xs. a ∷ xs) (range_more (a + 1) n ∙ ap (λ x. range_with_len (a + 1) n ++ x ∷ []) same)

-- a stored statement is found, and the one that it represents, or neither is
data AreFound (e : Exprs) (names texts : List (List ℕ)) (x : Option CodeGroup) (y : Option Group) : Type 0 where
  neither : x ≡ None → y ≡ None → AreFound e names texts x y
  shown : (own : List CodeLine) (n : ℕ) (g : CodeGroup) (m : Group) → x ≡ Some g → y ≡ Some m → RepresentsGroup e names texts own n g m
      → AreFound e names texts x y

-- a place is that of a statement that is represented
module _ (e : Exprs) (names texts : List (List ℕ)) where
  place_is : (own : List CodeLine) (n : ℕ) (g : CodeGroup) (m : Group) → RepresentsGroup e names texts own n g m → position_of (place_of g) ≡ m.at
  place_is own n g m r =
      ap (λ f. let p : Position = record { file = f; line = g.line } in p) (sym r.file_is)
      ∙ ap (λ l. let p : Position = record { file = m.at.file; line = l } in p) (sym r.line_is)

  -- the number of a symbol that a statement defines has the name that the represented one defines
  abbrev IsNumberOf : Option ℕ → Option (List ℕ) → Type 0
  IsNumberOf number name =
      ((number ≡ None) × (name ≡ None)) ⊎ ((s : ℕ) × (x : List ℕ) × (number ≡ Some s) × (name ≡ Some x) × (slice_get names s ≡ Some x))

  number_is : (c : CodeHead) (w : GroupHead) → RepresentsHead e names texts c w → IsNumberOf (defined_by c) (from_head name_of_head w)
  number_is (codes.Config s) w h = inr (s, h.0, refl, ap (from_head name_of_head) h.2, h.1)
  number_is codes.Choice w h = inl (refl, ap (from_head name_of_head) h)
  number_is (codes.Menu t) w h = inl (refl, ap (from_head name_of_head) h.2)
  number_is (codes.Condition id) w h = inl (refl, ap (from_head name_of_head) h.1)
  number_is (codes.Comment t) w h = inl (refl, ap (from_head name_of_head) h.2)
  number_is (codes.Source t) w h = inl (refl, ap (from_head name_of_head) h.2)
  number_is codes.Mainmenu w h = inl (refl, ap (from_head name_of_head) h)
  number_is (codes.Ends b) w h = inl (refl, ap (from_head name_of_head) h)
  number_is codes.FileEnd w h = inl (refl, ap (from_head name_of_head) h)

  begins_by : (number : Option ℕ) (name : Option (List ℕ)) (b : Bool) → IsNumberOf number name
      → elim number as (λ _. Bool) [ None ↦ false | Some s ↦ b ] ≡ elim name as (λ _. Bool) [ None ↦ false | Some x ↦ b ]
  begins_by number name b (inl h) =
      ap (λ (o : Option ℕ). elim o as (λ _. Bool) [ None ↦ false | Some s ↦ b ]) h.0
      ∙ sym (ap (λ (o : Option (List ℕ)). elim o as (λ _. Bool) [ None ↦ false | Some x ↦ b ]) h.1)
  begins_by number name b (inr h) =
      ap (λ (o : Option ℕ). elim o as (λ _. Bool) [ None ↦ false | Some s ↦ b ]) h.2
      ∙ sym (ap (λ (o : Option (List ℕ)). elim o as (λ _. Bool) [ None ↦ false | Some x ↦ b ]) h.3)

  begins_is : (at : TextPlace) (own : List CodeLine) (n : ℕ) (g : CodeGroup) (m : Group) → RepresentsGroup e names texts own n g m
      → begins_before at g ≡ model.begins_before (position_of at) m
  begins_is at own n g m r =
      begins_by (defined_by g.head) (defined_name m) (g.file == at.file && nat_le g.line at.line) (number_is g.head m.head r.head)
      ∙ ap (λ (p : Position). elim (defined_name m) as (λ _. Bool) [ None ↦ false | Some x ↦ p.file == at.file && nat_le p.line at.line ])
      (place_is own n g m r)

  lines_are : (at : TextPlace) (lines : List CodeLine) (end : ℕ) (gs : List CodeGroup) (ms : List Group) → RepresentsGroups e names texts lines end gs ms
      → last_line at gs ≡ model.last_line (position_of at) ms
  lines_are at lines end [] [] h = refl
  lines_are at lines end [] (m ∷ ms) h = absurd h
  lines_are at lines end (g ∷ gs) [] h = absurd h
  lines_are at lines end (g ∷ gs) (m ∷ ms) h =
      let p = position_of at in
      ap (λ b. cond b (later g.line (last_line at gs)) (last_line at gs)) (begins_is at _ _ g m h.0)
      ∙ ap (λ n. cond (model.begins_before p m) (later g.line n) n) (lines_are at lines g.attributes gs ms h.2)
      ∙ ap (λ n. cond (model.begins_before p m) (later n (model.last_line p ms)) (model.last_line p ms)) (sym h.0.line_is)

  -- the same with these names and texts
  abbrev Found : Option CodeGroup → Option Group → Type 0
  Found x y = AreFound e names texts x y

  one_first : (own : List CodeLine) (n : ℕ) (g : CodeGroup) (m : Group) (x : Option CodeGroup) (y : Option Group) (a b : Bool)
      → RepresentsGroup e names texts own n g m → a ≡ b → Found x y → Found (cond a (Some g) x) (cond b (Some m) y)
  one_first own n g m x y a true r s found = subst (λ c. Found (cond c (Some g) x) (Some m)) (sym s) (shown own n g m refl refl r)
  one_first own n g m x y a false r s found = subst (λ c. Found (cond c (Some g) x) y) (sym s) found

  one_last : (x z : Option CodeGroup) (y w : Option Group) → Found x y → Found z w → Found (option_or x z) (option_or y w)
  one_last x z y w (neither a b) last =
      subst (λ o. Found (option_or o z) (option_or y w)) (sym a) (subst (λ o. Found z (option_or o w)) (sym b) last)
  one_last x z y w (shown own n g m a b r) last = shown own n g m (ap (λ o. option_or o z) a) (ap (λ o. option_or o w) b) r

  module _ (p : CodeGroup → Bool) (q : Group → Bool)
      (same : (own : List CodeLine) (n : ℕ) (g : CodeGroup) (m : Group) → RepresentsGroup e names texts own n g m → p g ≡ q m) where
    newest_found : (lines : List CodeLine) (end : ℕ) (gs : List CodeGroup) (ms : List Group) → RepresentsGroups e names texts lines end gs ms
        → Found (find p gs) (find q ms)
    newest_found lines end [] [] h = neither refl refl
    newest_found lines end [] (m ∷ ms) h = absurd h
    newest_found lines end (g ∷ gs) [] h = absurd h
    newest_found lines end (g ∷ gs) (m ∷ ms) h =
        one_first _ _ g m (find p gs) (find q ms) (p g) (q m) h.0 (same _ _ g m h.0) (newest_found lines g.attributes gs ms h.2)

    first_found : (lines : List CodeLine) (end : ℕ) (gs : List CodeGroup) (ms : List Group) → RepresentsGroups e names texts lines end gs ms
        → Found (find p (reverse gs)) (find q (reverse ms))
    first_found lines end [] [] h = neither refl refl
    first_found lines end [] (m ∷ ms) h = absurd h
    first_found lines end (g ∷ gs) [] h = absurd h
    first_found lines end (g ∷ gs) (m ∷ ms) h =
        subst (λ o. Found o (find q (reverse (m ∷ ms)))) (sym (ap (find p) (reverse-append (g ∷ []) gs) ∙ find-append p (reverse gs) (g ∷ [])))
        (subst (λ o. Found (option_or (find p (reverse gs)) (find p (g ∷ []))) o)
        (sym (ap (find q) (reverse-append (m ∷ []) ms) ∙ find-append q (reverse ms) (m ∷ [])))
        (one_last (find p (reverse gs)) (find p (g ∷ [])) (find q (reverse ms)) (find q (m ∷ [])) (first_found lines g.attributes gs ms h.2)
        (one_first _ _ g m None None (p g) (q m) h.0 (same _ _ g m h.0) (neither refl refl))))

  found_number : (x : Option CodeGroup) (y : Option Group) → Found x y
      → IsNumberOf (option_and_then (λ (g : CodeGroup). defined_by g.head) x) (option_and_then defined_name y)
  found_number x y (neither a b) = inl (ap (option_and_then (λ (g : CodeGroup). defined_by g.head)) a, ap (option_and_then defined_name) b)
  found_number x y (shown own n g m a b r) =
      subst (λ o. IsNumberOf o (option_and_then defined_name y)) (sym (ap (option_and_then (λ (g : CodeGroup). defined_by g.head)) a))
      (subst (λ o. IsNumberOf (defined_by g.head) o) (sym (ap (option_and_then defined_name) b)) (number_is g.head m.head r.head))

  found_place : (x : Option CodeGroup) (y : Option Group) → Found x y
      → option_map position_of (option_map place_of x) ≡ option_map (λ (m : Group). m.at) y
  found_place x y (neither a b) = ap (λ o. option_map position_of (option_map place_of o)) a ∙ sym (ap (option_map (λ (m : Group). m.at)) b)
  found_place x y (shown own n g m a b r) =
      ap (λ o. option_map position_of (option_map place_of o)) a ∙ ap Some (place_is own n g m r) ∙ sym (ap (option_map (λ (m : Group). m.at)) b)

  -- the symbol whose definition has a place
  definition_is : (at : TextPlace) (lines : List CodeLine) (end : ℕ) (gs : List CodeGroup) (ms : List Group) → RepresentsGroups e names texts lines end gs ms
      → IsNumberOf (definition_at at gs) (model.name_at ms (position_of at))
  definition_is at lines end gs ms h =
      let p = position_of at in
      found_number _ _ (newest_found (λ g. begins_before at g && (g.line == last_line at gs))
      (λ m. model.begins_before p m && (m.at.line == model.last_line p ms))
      (λ own n g m r. ap (λ b. b && (g.line == last_line at gs)) (begins_is at own n g m r)
      ∙ ap (λ l. model.begins_before p m && (l == last_line at gs)) (sym r.line_is)
      ∙ ap (λ l. model.begins_before p m && (m.at.line == l)) (lines_are at lines end gs ms h)) lines end gs ms h)

  -- names differ, so the same number has the same name
  module _ (differ : Differ names) (s : ℕ) (name : List ℕ) (has : slice_get names s ≡ Some name) where
    same_symbol : (t : ℕ) (x : List ℕ) → slice_get names t ≡ Some x → (t == s) ≡ bytes_eq x name
    same_symbol t x h = elim (cases_Bool (bytes_eq x name)) [
      | inl same ↦ eq-eqb t s (at_most_once x names t s differ h (has ∙ ap (λ (y : List ℕ). Some y) (sym (same_text x name same)))) ∙ sym same
      | inr other ↦ ne_eqb t s (λ e. false≢true (sym other ∙ text_same x name (one_name x name (sym h ∙ ap (slice_get names) e ∙ has)))) ∙ sym other
    ]
      where
        one_name : (x y : List ℕ) → Some x ≡ Some y → x ≡ y
        one_name x y e = cc

    defines_by : (number : Option ℕ) (n : Option (List ℕ)) → IsNumberOf number n
        → elim number as (λ _. Bool) [ None ↦ false | Some t ↦ t == s ] ≡ elim n as (λ _. Bool) [ None ↦ false | Some x ↦ bytes_eq x name ]
    defines_by number n (inl h) =
        ap (λ (o : Option ℕ). elim o as (λ _. Bool) [ None ↦ false | Some t ↦ t == s ]) h.0
        ∙ sym (ap (λ (o : Option (List ℕ)). elim o as (λ _. Bool) [ None ↦ false | Some x ↦ bytes_eq x name ]) h.1)
    defines_by number n (inr h) =
        ap (λ (o : Option ℕ). elim o as (λ _. Bool) [ None ↦ false | Some t ↦ t == s ]) h.2
        ∙ same_symbol h.0 h.1 h.4
        ∙ sym (ap (λ (o : Option (List ℕ)). elim o as (λ _. Bool) [ None ↦ false | Some x ↦ bytes_eq x name ]) h.3)

    defines_is : (own : List CodeLine) (n : ℕ) (g : CodeGroup) (m : Group) → RepresentsGroup e names texts own n g m → defines s g ≡ model.defines name m
    defines_is own n g m r = defines_by (defined_by g.head) (defined_name m) (number_is g.head m.head r.head)

    -- the first definition
    first_is : (lines : List CodeLine) (groups : List CodeGroup) (read : List Group) → RepresentsGroups e names texts lines (length lines) (reverse groups) read
        → option_map position_of (first_of groups s) ≡ model.first_definition read name
    first_is lines groups read h =
        ap (λ gs. option_map position_of (option_map place_of (find (defines s) gs))) (sym (reverse-reverse groups))
        ∙ found_place _ _ (first_found (defines s) (model.defines name) defines_is lines (length lines) (reverse groups) read h)

    -- the first definition with a type, by its number
    module _ (listing : Listing) (read : List Group)
        (h : RepresentsGroups e names texts listing.lines.items (length listing.lines.items) (reverse listing.groups.items) read) where
      abbrev groups : List CodeGroup
      groups = listing.groups.items

      abbrev lines : List CodeLine
      lines = listing.lines.items

      typed_at : (i : ℕ) (r : IsShownAt e names texts lines groups read i) → is_typed listing i ≡ model.has_type r.group
      typed_at i r =
          has_type_within lines (group_at groups i).attributes (attributes_end groups lines i) r.rising r.within
          ∙ typed_lines e (slice_range lines (group_at groups i).attributes (attributes_end groups lines i))
          ∙ ap (list_any (λ (l : Line). is_some (type_of l.attribute))) (sym r.shown.attributes)

      test_at : (i : ℕ) (r : IsShownAt e names texts lines groups read i)
          → (defines s (group_at groups i) && is_typed listing i) ≡ (model.defines name r.group && model.has_type r.group)
      test_at i r =
          ap (λ b. b && is_typed listing i) (defines_is _ _ (group_at groups i) r.group r.shown)
          ∙ ap (λ b. model.defines name r.group && b) (typed_at i r)

      abbrev number_test : ℕ → Bool
      number_test i = defines s (group_at groups i) && is_typed listing i

      abbrev group_test : Group → Bool
      group_test m = model.defines name m && model.has_type m

      abbrev place_found : Option ℕ → Option Position
      place_found o = option_map position_of (option_map (λ i. place_of (group_at groups i)) o)

      abbrev group_found : Option Group → Option Position
      group_found o = option_map (λ (m : Group). m.at) o

      with_last : (i : ℕ) (r : IsShownAt e names texts lines groups read i) (x : Option ℕ) (y : Option Group) → place_found x ≡ group_found y
          → place_found (option_or x (cond (number_test i) (Some i) None)) ≡ group_found (option_or y (cond (group_test r.group) (Some r.group) None))
      with_last i r (Some j) (Some m) e = e
      with_last i r (Some j) None e = absurd (some_is_none _ e)
      with_last i r None (Some m) e = absurd (some_is_none _ (sym e))
      with_last i r None None e =
          ap (λ b. place_found (cond b (Some i) None)) (test_at i r) ∙ by_test (group_test r.group)
        where
          by_test : (b : Bool) → place_found (cond b (Some i) None) ≡ group_found (cond b (Some r.group) None)
          by_test true = ap Some (place_is _ _ (group_at groups i) r.group r.shown)
          by_test false = refl

      typed_before : (k : ℕ) → k ≤ length groups → place_found (find number_test (range_with_len 0 k)) ≡ group_found (find group_test (reverse (read_before k read)))
      typed_before zero l = sym (ap (λ ms. group_found (find group_test (reverse ms))) (none_before read))
      typed_before (suc k) l =
          let r = shown_at e names texts lines groups read h k (omega arith) in
          let next : suc k ≡ k + 1 = omega arith in
          let at_k : 0 + k ≡ k = omega arith in
          ap (λ is. place_found (find number_test is)) (range_more 0 k ∙ ap (λ i. range_with_len 0 k ++ i ∷ []) at_k)
          ∙ ap place_found (find-append number_test (range_with_len 0 k) (k ∷ []))
          ∙ with_last k r (find number_test (range_with_len 0 k)) (find group_test (reverse (read_before k read))) (typed_before k (omega arith))
          ∙ sym (ap (λ ms. group_found (find group_test (reverse ms))) (ap (λ n. read_before n read) next ∙ r.now)
          ∙ ap (λ ms. group_found (find group_test ms)) (reverse-append (r.group ∷ []) (read_before k read))
          ∙ ap group_found (find-append group_test (reverse (read_before k read)) (r.group ∷ [])))

      typed_first : option_map position_of (first_typed listing s) ≡ model.first_typed read name
      typed_first =
          typed_before (length groups) (omega arith)
          ∙ ap (λ ms. group_found (find group_test (reverse ms)))
          (ap (λ n. read_before n read) (count_is e names texts lines groups read h) ∙ all_before read)

-- a place, unless it is another
unless_is : (at : TextPlace) (o : Option TextPlace) → option_map position_of (unless_same o at) ≡ model.unless_at (position_of at) (option_map position_of o)
unless_is at None = refl
unless_is at (Some place) = by_test (place.file == at.file && (place.line == at.line))
  where
    by_test : (b : Bool) → option_map position_of (cond b None (Some place)) ≡ cond b None (Some (position_of place))
    by_test true = refl
    by_test false = refl

either_is : (x y : Option TextPlace) → option_map position_of (option_or x y) ≡ option_or (option_map position_of x) (option_map position_of y)
either_is None y = refl
either_is (Some x) y = refl

-- the places that are found in a listing are those among the statements that were read
module _ (listing : Listing) (read : List Group) (is_shown : RepresentsListing listing read) (at : TextPlace) where
  found_for : (f : ℕ → Option TextPlace) (g : List ℕ → Option Position)
      → ((s : ℕ) (name : List ℕ) → slice_get (names_defined read) s ≡ Some name → option_map position_of (f s) ≡ g name)
      → option_map position_of (option_and_then f (definition_at at (reverse listing.groups.items))) ≡ option_and_then g (model.name_at read (position_of at))
  unfolding RepresentsListing
  found_for f g same = by_number
      (definition_is listing.names.arena (names_defined read) listing.texts.items at listing.lines.items (length listing.lines.items)
      (reverse listing.groups.items) read is_shown.groups_are)
    where
      by_number : IsNumberOf listing.names.arena (names_defined read) listing.texts.items (definition_at at (reverse listing.groups.items)) (model.name_at read (position_of at))
          → option_map position_of (option_and_then f (definition_at at (reverse listing.groups.items))) ≡ option_and_then g (model.name_at read (position_of at))
      by_number (inl h) = ap (λ o. option_map position_of (option_and_then f o)) h.0 ∙ sym (ap (option_and_then g) h.1)
      by_number (inr h) = ap (λ o. option_map position_of (option_and_then f o)) h.2 ∙ same h.0 h.1 h.4 ∙ sym (ap (option_and_then g) h.3)

  differ : Differ (names_defined read)
  differ = Differ-once (filter_map defined_name read)

  typed_of : (s : ℕ) (name : List ℕ) → slice_get (names_defined read) s ≡ Some name
      → option_map position_of (first_typed listing s) ≡ model.first_typed read name
  unfolding RepresentsListing
  typed_of s name has = typed_first listing.names.arena (names_defined read) listing.texts.items differ s name has listing read is_shown.groups_are

  other_of : (s : ℕ) (name : List ℕ) → slice_get (names_defined read) s ≡ Some name
      → option_map position_of (other_place listing at s) ≡ model.other_place read (position_of at) name
  unfolding RepresentsListing
  other_of s name has =
      either_is (unless_same (first_of listing.groups.items s) at) (unless_same (first_typed listing s) at)
      ∙ ap (λ o. option_or o (option_map position_of (unless_same (first_typed listing s) at)))
      (unless_is at (first_of listing.groups.items s) ∙ ap (model.unless_at (position_of at))
      (first_is listing.names.arena (names_defined read) listing.texts.items differ s name has listing.lines.items listing.groups.items read is_shown.groups_are))
      ∙ ap (λ o. option_or (model.unless_at (position_of at) (model.first_definition read name)) o)
      (unless_is at (first_typed listing s) ∙ ap (model.unless_at (position_of at)) (typed_of s name has))

  pub first_type_is : option_map position_of (first_type_in listing at) ≡ model.first_type read (position_of at)
  first_type_is = found_for (first_typed listing) (model.first_typed read) typed_of

  pub other_definition_is : option_map position_of (other_definition_in listing at) ≡ model.other_definition read (position_of at)
  other_definition_is = found_for (other_place listing at) (model.other_place read (position_of at)) other_of
