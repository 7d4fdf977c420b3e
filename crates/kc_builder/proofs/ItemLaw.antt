-- The items that places give symbols, each under its number, are those that the symbols have.
use Rattle.std.specs.Prelude.{bytes_eq}
use Rattle.kc_builder.proofs.Common.{◌≡◌, inl, inr, ℕ, suc, ◌<◌, Bool, true, false, cond, ◌==◌, List, [], ◌∷◌, ◌++◌, length, map, Option, Some, None, refl, ap, sym, ◌∙◌, subst, arith, append-nil, slice_get, filter_map, flat_map, option_map, option_and_then, unwrap_or, All, cons_option, eqb-true}
use Rattle.kc_builder.proofs.Common.{is_some, eq-eqb, map-append, All-nil, All-append, Language, index_of_name, Attribute, TargetAttribute, Group, Line, defined_name, context_of, GroupInContext, groups_in_context, attribute_values, attribute_condition, Contents, contents_of, defines, definitions_of}
use Rattle.kc_builder.proofs.Common.{names_defined, Has, place-get, Differ, Differ-once, items_of, filter}
use Rattle.std.proofs.lemmas.Grind.{flat_map-append}
use Rattle.std.proofs.lemmas.List.Concat.{flat_map_single}
use Rattle.kc_tree_model.specs.Trees.{ReverseDependency}
use Rattle.kc_tree_model.specs.Contents.{reverse_dependencies_of, reverse_dependencies_by}
use Rattle.kc_tree_model.proofs.Consistency.Lists.{has-place, same_text, text_same, at_most_once}
use Rattle.kc_checks.proofs.Symbols.{named_there, place_is}

-- the values that a function gives for an optional name; none for `None`
abbrev pub by_name : {A : Type 0} → (List ℕ → List A) → Option (List ℕ) → List A
by_name f None = []
by_name f (Some x) = f x

-- the keys and the items are those that groups give, in order; each item satisfies `P`, and each key is below `count`
pub record AreListed {T M : Type 0} (view : T → M) (ks : GroupInContext → List ℕ) (xs : GroupInContext → List M) (P : T → Type 0) (count : ℕ)
    (places : List GroupInContext) (keys : List ℕ) (items : List T) : Type 0 where
  pub keys_are : keys ≡ flat_map ks places
  pub items_are : map view items ≡ flat_map xs places
  pub fit : All P items
  pub below : All (λ k. k < count) keys

pub none_listed : {T M : Type 0} {view : T → M} {ks : GroupInContext → List ℕ} {xs : GroupInContext → List M} {P : T → Type 0} {count : ℕ}
    → AreListed view ks xs P count [] [] []
none_listed {P = P} {count = count} = record { keys_are = refl; items_are = refl; fit = All-nil P; below = All-nil (λ k. k < count) }

-- no values for an optional name that is `None`
pub by_none : {A : Type 0} {o : Option (List ℕ)} (f : List ℕ → List A) → o ≡ None → by_name f o ≡ []
by_none f none = ap (by_name f) none

flat_map-one : {A B : Type 0} (f : A → List B) (us : List A) (a : A) → flat_map f (us ++ a ∷ []) ≡ flat_map f us ++ f a
flat_map-one f us a = flat_map-append f us (a ∷ []) ∙ ap (λ bs. flat_map f us ++ bs) (append-nil (f a))

-- one more place
module _ {T M : Type 0} {view : T → M} {ks : GroupInContext → List ℕ} {xs : GroupInContext → List M} {P : T → Type 0} {count : ℕ}
    {places : List GroupInContext} {keys : List ℕ} {items : List T} (p : GroupInContext) (l : AreListed view ks xs P count places keys items) where
  pub listed_more : (mine : List T) {keys2 own : List ℕ} {items2 : List T} → keys2 ≡ keys ++ own → items2 ≡ items ++ mine → own ≡ ks p
      → map view mine ≡ xs p → All P mine → All (λ k. k < count) own → AreListed view ks xs P count (places ++ p ∷ []) keys2 items2
  listed_more mine {own = own} k i ko io pm po = record {
    keys_are = k ∙ ap (λ z. z ++ own) l.keys_are ∙ ap (λ z. flat_map ks places ++ z) ko ∙ sym (flat_map-one ks places p);
    items_are = ap (map view) i ∙ map-append view items mine ∙ ap (λ z. z ++ map view mine) l.items_are ∙ ap (λ z. flat_map xs places ++ z) io
        ∙ sym (flat_map-one xs places p);
    fit = subst (All P) (sym i) (All-append P items mine l.fit pm);
    below = subst (All (λ n. n < count)) (sym k) (All-append (λ n. n < count) keys own l.below po);
  }

  pub listed_same : ks p ≡ [] → xs p ≡ [] → AreListed view ks xs P count (places ++ p ∷ []) keys items
  listed_same k i = record {
    keys_are = l.keys_are ∙ sym (flat_map-one ks places p ∙ ap (λ z. flat_map ks places ++ z) k ∙ append-nil (flat_map ks places));
    items_are = l.items_are ∙ sym (flat_map-one xs places p ∙ ap (λ z. flat_map xs places ++ z) i ∙ append-nil (flat_map xs places));
    fit = l.fit;
    below = l.below;
  }

-- the items of a key among joined lists
kept_or : {T : Type 0} (b : Bool) (x : T) (us bs : List T) → cond b (x ∷ (us ++ bs)) (us ++ bs) ≡ cond b (x ∷ us) us ++ bs
kept_or true x us bs = refl
kept_or false x us bs = refl

pub items_append : {T : Type 0} (t : ℕ) (us ks : List ℕ) (bs xs : List T) → length us ≡ length bs
    → items_of t (us ++ ks) (bs ++ xs) ≡ items_of t us bs ++ items_of t ks xs
items_append t [] ks [] xs e = refl
items_append t [] ks (b ∷ bs) xs e = absurd (omega arith)
items_append t (a ∷ us) ks [] xs e = absurd (omega arith)
items_append t (a ∷ us) ks (b ∷ bs) xs e =
    ap (λ r. cond (a == t) (b ∷ r) r) (items_append t us ks bs xs (omega arith))
    ∙ kept_or (a == t) b (items_of t us bs) (items_of t ks xs)

mapped_or : {T M : Type 0} (view : T → M) (b : Bool) (x : T) (us : List T) → map view (cond b (x ∷ us) us) ≡ cond b (view x ∷ map view us) (map view us)
mapped_or view true x us = refl
mapped_or view false x us = refl

items_mapped : {T M : Type 0} (view : T → M) (t : ℕ) (ks : List ℕ) (xs : List T) → map view (items_of t ks xs) ≡ items_of t ks (map view xs)
items_mapped view t [] xs = refl
items_mapped view t (k ∷ ks) [] = refl
items_mapped view t (k ∷ ks) (x ∷ xs) = mapped_or view (k == t) x (items_of t ks xs) ∙ ap (λ r. cond (k == t) (view x ∷ r) r) (items_mapped view t ks xs)

places_apart : {M : Type 0} (t : ℕ) (ks : GroupInContext → List ℕ) (xs : GroupInContext → List M) (ps : List GroupInContext)
    → ((p : GroupInContext) → length (ks p) ≡ length (xs p)) → items_of t (flat_map ks ps) (flat_map xs ps) ≡ flat_map (λ p. items_of t (ks p) (xs p)) ps
places_apart t ks xs [] e = refl
places_apart t ks xs (p ∷ ps) e =
    items_append t (ks p) (flat_map ks ps) (xs p) (flat_map xs ps) (e p) ∙ ap (λ r. items_of t (ks p) (xs p) ++ r) (places_apart t ks xs ps e)

pointwise : {M : Type 0} (f h : GroupInContext → List M) (ps : List GroupInContext) → ((p : GroupInContext) → Has p ps → f p ≡ h p)
    → flat_map f ps ≡ flat_map h ps
pointwise f h [] e = refl
pointwise f h (p ∷ ps) e = ap (λ r. r ++ flat_map f ps) (e p (inl refl)) ∙ ap (λ r. h p ++ r) (pointwise f h ps (λ q k. e q (inr k)))

-- the items listed under key `t` are those that each group gives under this key, in order
pub listed_law : {T M : Type 0} {view : T → M} {ks : GroupInContext → List ℕ} {xs : GroupInContext → List M} {P : T → Type 0} {count : ℕ}
    {places : List GroupInContext} {keys : List ℕ} {items : List T} (h : GroupInContext → List M) (t : ℕ)
    → AreListed view ks xs P count places keys items → ((p : GroupInContext) → length (ks p) ≡ length (xs p))
    → ((p : GroupInContext) → Has p places → items_of t (ks p) (xs p) ≡ h p)
    → map view (items_of t keys items) ≡ flat_map h places
listed_law {view = view} {ks = ks} {xs = xs} {places = places} {keys = keys} {items = items} h t l e k =
    items_mapped view t keys items
    ∙ ap (λ r. items_of t r (map view items)) l.keys_are
    ∙ ap (items_of t (flat_map ks places)) l.items_are
    ∙ places_apart t ks xs places e
    ∙ pointwise (λ p. items_of t (ks p) (xs p)) h places k

-- the values given for the groups that pass a test, and none for all other groups, are those of the filtered groups
pub among_some : {M : Type 0} (test : GroupInContext → Bool) (f : GroupInContext → List M) (ps : List GroupInContext)
    → flat_map (λ p. cond (test p) (f p) []) ps ≡ flat_map f (filter test ps)
among_some test f [] = refl
among_some test f (p ∷ ps) = ap (λ r. cond (test p) (f p) [] ++ r) (among_some test f ps) ∙ by_test (test p)
  where
    by_test : (b : Bool) → cond b (f p) [] ++ flat_map f (filter test ps) ≡ flat_map f (cond b (p ∷ filter test ps) (filter test ps))
    by_test true = refl
    by_test false = refl

-- the index of a name in a list of names, or 0 if the list doesn't have it
abbrev pub number_of : List (List ℕ) → List ℕ → ℕ
number_of names x = unwrap_or (index_of_name x names) 0

pub same_number : (names : List (List ℕ)) (x name : List ℕ) (j t : ℕ) → Differ names → index_of_name x names ≡ Some j → slice_get names t ≡ Some name
    → (j == t) ≡ bytes_eq x name
same_number names x name j t d e at = by_both (j == t) (bytes_eq x name) refl refl
  where
    by_both : (a b : Bool) → (j == t) ≡ a → bytes_eq x name ≡ b → a ≡ b
    by_both true true s u = refl
    by_both false false s u = refl
    by_both true false s u =
        let i : j ≡ t = eqb-true j t s in
        let q : slice_get names t ≡ Some x = ap (slice_get names) (sym i) ∙ place-get x names j e in
        let same : x ≡ name = cc in
        let w = text_same x name same in
        cc
    by_both false true s u =
        let same : x ≡ name = same_text x name u in
        let i : j ≡ t = at_most_once x names j t d (place-get x names j e) (at ∙ ap Some (sym same)) in
        let w = eq-eqb j t i in
        cc

-- a name that isn't among distinct names is none of them
pub apart : (names : List (List ℕ)) (x name : List ℕ) (t : ℕ) → Differ names → slice_get names t ≡ Some name → index_of_name x names ≡ None
    → bytes_eq x name ≡ false
apart names x name t d at e = by_same (bytes_eq x name) refl
  where
    by_same : (b : Bool) → bytes_eq x name ≡ b → b ≡ false
    by_same false u = refl
    by_same true u =
        let q = place_is names name t d at in
        let r = ap (λ y. index_of_name y names) (same_text x name u) in
        cc

-- as many values of two kinds
pub by_many : {A B : Type 0} (f : List ℕ → List A) (g : List ℕ → List B) → ((x : List ℕ) → length (f x) ≡ length (g x)) → (o : Option (List ℕ))
    → length (by_name f o) ≡ length (by_name g o)
by_many f g e None = refl
by_many f g e (Some x) = e x

pub as_many_given : {A B C : Type 0} (f : A → Option B) (g : A → Option C) → ((a : A) → is_some (f a) ≡ is_some (g a)) → (xs : List A)
    → length (filter_map f xs) ≡ length (filter_map g xs)
as_many_given f g e [] = refl
as_many_given {B = B} {C = C} f g e (x ∷ xs) = by (f x) (g x) (e x) (as_many_given f g e xs)
  where
    by : (o : Option B) (p : Option C) → is_some o ≡ is_some p → length (filter_map f xs) ≡ length (filter_map g xs)
        → length (cons_option o (filter_map f xs)) ≡ length (cons_option p (filter_map g xs))
    by None None s k = k
    by (Some y) (Some z) s k = ap suc k
    by None (Some z) s k = cc
    by (Some y) None s k = cc

pub some_mapped : {A B : Type 0} (f : A → B) (o : Option A) → is_some o ≡ is_some (option_map f o)
some_mapped f None = refl
some_mapped f (Some a) = refl

-- the index of the defined name, as the key of the item that an attribute line gives; `None` if the line gives no item
abbrev pub own_key_of : {B : Type 0} → (Attribute → Option B) → List (List ℕ) → List ℕ → Line → Option ℕ
own_key_of G names x l = option_map (λ _. number_of names x) (G l.attribute)

abbrev pub own_item_of : {B M : Type 0} → (Attribute → Option B) → (GroupInContext → B → M) → GroupInContext → Line → Option M
own_item_of G h p l = option_map (h p) (G l.attribute)

abbrev pub own_keys : {B : Type 0} → (Attribute → Option B) → List (List ℕ) → GroupInContext → List ℕ
own_keys G names p = by_name (λ x. filter_map (own_key_of G names x) p.group.attributes) (defined_name p.group)

abbrev pub own_items : {B M : Type 0} → (Attribute → Option B) → (GroupInContext → B → M) → GroupInContext → List M
own_items G h p = by_name (λ x. filter_map (own_item_of G h p) p.group.attributes) (defined_name p.group)

module _ {B M : Type 0} (G : Attribute → Option B) (h : GroupInContext → B → M) (names : List (List ℕ)) where
  pub own_many : (p : GroupInContext) → length (own_keys G names p) ≡ length (own_items G h p)
  own_many p =
      by_many _ _ (λ x. as_many_given (own_key_of G names x) (own_item_of G h p)
      (λ l. sym (some_mapped (λ _. number_of names x) (G l.attribute)) ∙ some_mapped (h p) (G l.attribute)) p.group.attributes) (defined_name p.group)

  own_by : (b : Bool) (o : Option B) (p : GroupInContext) (n t : ℕ) (ks : List ℕ) (xs : List M) (bs : List B) → (n == t) ≡ b
      → items_of t ks xs ≡ cond b (map (h p) bs) []
      → items_of t (cons_option (option_map (λ _. n) o) ks) (cons_option (option_map (h p) o) xs) ≡ cond b (map (h p) (cons_option o bs)) []
  own_by b None p n t ks xs bs e ih = ih
  own_by true (Some y) p n t ks xs bs e ih = rw e (ap (λ r. h p y ∷ r) ih)
  own_by false (Some y) p n t ks xs bs e ih = rw e ih

  own_lines : (p : GroupInContext) (n t : ℕ) (b : Bool) (ls : List Line) → (n == t) ≡ b
      → items_of t (filter_map (λ (l : Line). option_map (λ _. n) (G l.attribute)) ls) (filter_map (own_item_of G h p) ls) ≡ cond b
      (map (h p) (filter_map (λ (l : Line). G l.attribute) ls)) []
  own_lines p n t true [] e = refl
  own_lines p n t false [] e = refl
  own_lines p n t b (l ∷ ls) e =
      own_by b (G l.attribute) p n t (filter_map (λ (q : Line). option_map (λ _. n) (G q.attribute)) ls) (filter_map (own_item_of G h p) ls)
      (filter_map (λ (q : Line). G q.attribute) ls) e (own_lines p n t b ls e)

  own_here : (p : GroupInContext) (o : Option (List ℕ)) (name : List ℕ) (t : ℕ) → Differ names → slice_get names t ≡ Some name
      → ((x : List ℕ) → o ≡ Some x → Has x names)
      → items_of t (by_name (λ x. filter_map (own_key_of G names x) p.group.attributes) o) (by_name (λ x. filter_map (own_item_of G h p) p.group.attributes) o)
      ≡ cond (elim o as (λ _. Bool) [ None ↦ false | Some x ↦ bytes_eq x name ]) (map (h p) (attribute_values G p.group)) []
  own_here p None name t d at named = refl
  own_here p (Some x) name t d at named =
      let j = has-place x names (named x refl) in
      let n : number_of names x ≡ j.0 = ap (λ o. unwrap_or o 0) j.1 in
      own_lines p (number_of names x) t (bytes_eq x name) p.group.attributes (ap (λ k. k == t) n ∙ same_number names x name j.0 t d j.1 at)

-- the items listed under a symbol's number are those that the attributes of its definitions give, in order
pub own_law : {T B M : Type 0} {view : T → M} (G : Attribute → Option B) (h : GroupInContext → B → M) {P : T → Type 0} {count : ℕ} (read : List Group)
    {keys : List ℕ} {items : List T} (t : ℕ) (name : List ℕ)
    → AreListed view (own_keys G (names_defined read)) (own_items G h) P count (groups_in_context read) keys items
    → slice_get (names_defined read) t ≡ Some name
    → map view (items_of t keys items) ≡ flat_map (λ p. map (h p) (attribute_values G p.group)) (definitions_of (contents_of read) name)
own_law G h read t name l at =
    let names = names_defined read in
    listed_law (λ p. cond (defines name p) (map (h p) (attribute_values G p.group)) []) t l (own_many G h names)
    (λ p k. own_here G h names p (defined_name p.group) name t (Differ-once (filter_map defined_name read)) at (λ x e. named_there read p x k e))
    ∙ among_some (defines name) (λ p. map (h p) (attribute_values G p.group)) (groups_in_context read)

-- the number of the symbol that a group defines, as the key of its dependency; empty if it defines none
abbrev pub direct_keys : List (List ℕ) → GroupInContext → List ℕ
direct_keys names p = by_name (λ x. number_of names x ∷ []) (defined_name p.group)

abbrev pub direct_items : {M : Type 0} → (GroupInContext → M) → GroupInContext → List M
direct_items f p = by_name (λ x. f p ∷ []) (defined_name p.group)

one_of : {M : Type 0} (b : Bool) (y : M) (n t : ℕ) → (n == t) ≡ b → cond (n == t) (y ∷ []) [] ≡ cond b (y ∷ []) []
one_of b y n t e = ap (λ c. cond c (y ∷ []) []) e

direct_here : {M : Type 0} (f : GroupInContext → M) (names : List (List ℕ)) (p : GroupInContext) (o : Option (List ℕ)) (name : List ℕ) (t : ℕ) → Differ names
    → slice_get names t ≡ Some name → ((x : List ℕ) → o ≡ Some x → Has x names)
    → items_of t (by_name (λ x. number_of names x ∷ []) o) (by_name (λ x. f p ∷ []) o) ≡ cond
    (elim o as (λ _. Bool) [ None ↦ false | Some x ↦ bytes_eq x name ]) (f p ∷ []) []
direct_here f names p None name t d at named = refl
direct_here f names p (Some x) name t d at named =
    let j = has-place x names (named x refl) in
    let n : number_of names x ≡ j.0 = ap (λ o. unwrap_or o 0) j.1 in
    one_of (bytes_eq x name) (f p) (number_of names x) t (ap (λ k. k == t) n ∙ same_number names x name j.0 t d j.1 at)

pub direct_law : {T M : Type 0} {view : T → M} (f : GroupInContext → M) {P : T → Type 0} {count : ℕ} (read : List Group) {keys : List ℕ} {items : List T}
    (t : ℕ) (name : List ℕ)
    → AreListed view (direct_keys (names_defined read)) (direct_items f) P count (groups_in_context read) keys items
    → slice_get (names_defined read) t ≡ Some name
    → map view (items_of t keys items) ≡ map f (definitions_of (contents_of read) name)
direct_law f read t name l at =
    let names = names_defined read in
    listed_law (λ p. cond (defines name p) (f p ∷ []) []) t l (λ p. by_many (λ x. number_of names x ∷ []) (λ _. f p ∷ []) (λ x. refl) (defined_name p.group))
    (λ p k. direct_here f names p (defined_name p.group) name t (Differ-once (filter_map defined_name read)) at (λ x e. named_there read p x k e))
    ∙ among_some (defines name) (λ p. f p ∷ []) (groups_in_context read)
    ∙ flat_map_single f (definitions_of (contents_of read) name)

-- the number of the target symbol of an attribute line, as the key of its reverse dependency; `None` without a target
abbrev pub force_key_of : (Attribute → Option TargetAttribute) → List (List ℕ) → Line → Option ℕ
force_key_of S names l = option_and_then (λ (a : TargetAttribute). index_of_name a.name names) (S l.attribute)

abbrev pub force_by : Language → ℕ → GroupInContext → TargetAttribute → ReverseDependency
force_by language s p a = record { by = s; condition = attribute_condition (context_of language p) p.group a.condition }

abbrev pub force_item_of : Language → (Attribute → Option TargetAttribute) → List (List ℕ) → GroupInContext → List ℕ → Line → Option ReverseDependency
force_item_of language S names p x l =
    option_and_then (λ (a : TargetAttribute). option_map (λ _. force_by language (number_of names x) p a) (index_of_name a.name names)) (S l.attribute)

abbrev pub force_keys : (Attribute → Option TargetAttribute) → List (List ℕ) → GroupInContext → List ℕ
force_keys S names p = by_name (λ x. filter_map (force_key_of S names) p.group.attributes) (defined_name p.group)

abbrev pub force_items : Language → (Attribute → Option TargetAttribute) → List (List ℕ) → GroupInContext → List ReverseDependency
force_items language S names p = by_name (λ x. filter_map (force_item_of language S names p x) p.group.attributes) (defined_name p.group)

module _ (language : Language) (S : Attribute → Option TargetAttribute) (names : List (List ℕ)) where
  pub reverse_dependency_many : (p : GroupInContext) → length (force_keys S names p) ≡ length (force_items language S names p)
  reverse_dependency_many p =
      by_many _ _ (λ x. as_many_given (force_key_of S names) (force_item_of language S names p x) (λ l. by_aim x (S l.attribute)) p.group.attributes)
      (defined_name p.group)
    where
      by_aim : (x : List ℕ) (o : Option TargetAttribute) → is_some (option_and_then (λ (a : TargetAttribute). index_of_name a.name names) o)
          ≡ is_some (option_and_then (λ (a : TargetAttribute). option_map (λ _. force_by language (number_of names x) p a) (index_of_name a.name names)) o)
      by_aim x None = refl
      by_aim x (Some a) = some_mapped (λ _. force_by language (number_of names x) p a) (index_of_name a.name names)

  module _ (p : GroupInContext) (s t : ℕ) (name : List ℕ) (d : Differ names) (at : slice_get names t ≡ Some name) where
    selected_here : (b : Bool) (o : Option ℕ) (a : TargetAttribute) (ks : List ℕ) (xs : List ReverseDependency) (us : List TargetAttribute)
        → bytes_eq a.name name ≡ b → index_of_name a.name names ≡ o → items_of t ks xs ≡ map (force_by language s p) us
        → items_of t (cons_option o ks) (cons_option (option_map (λ _. force_by language s p a) o) xs) ≡ map (force_by language s p) (cond b (a ∷ us) us)
    selected_here true None a ks xs us u e ih = let f = apart names a.name name t d at e in cc
    selected_here false None a ks xs us u e ih = ih
    selected_here true (Some j) a ks xs us u e ih = rw (same_number names a.name name j t d e at ∙ u) (ap (λ r. force_by language s p a ∷ r) ih)
    selected_here false (Some j) a ks xs us u e ih = rw (same_number names a.name name j t d e at ∙ u) ih

    selected_lines : (x : List ℕ) (ls : List Line) → number_of names x ≡ s
        → items_of t (filter_map (force_key_of S names) ls) (filter_map (force_item_of language S names p x) ls)
        ≡ map (force_by language s p) (filter (λ (a : TargetAttribute). bytes_eq a.name name) (filter_map (λ (l : Line). S l.attribute) ls))
    selected_lines x [] e = refl
    selected_lines x (l ∷ ls) e = by_aim (S l.attribute) (selected_lines x ls e)
      where
        by_aim : (o : Option TargetAttribute)
            → items_of t (filter_map (force_key_of S names) ls) (filter_map (force_item_of language S names p x) ls)
            ≡ map (force_by language s p) (filter (λ (a : TargetAttribute). bytes_eq a.name name) (filter_map (λ (q : Line). S q.attribute) ls))
            → items_of t (cons_option (option_and_then (λ (a : TargetAttribute). index_of_name a.name names) o) (filter_map (force_key_of S names) ls))
            (cons_option (option_and_then (λ (a : TargetAttribute). option_map (λ _. force_by language (number_of names x) p a) (index_of_name a.name names)) o)
            (filter_map (force_item_of language S names p x) ls))
            ≡ map (force_by language s p) (filter (λ (a : TargetAttribute). bytes_eq a.name name) (cons_option o (filter_map (λ (q : Line). S q.attribute) ls)))
        by_aim None ih = ih
        by_aim (Some a) ih =
            ap (λ n. items_of t (cons_option (index_of_name a.name names) (filter_map (force_key_of S names) ls))
            (cons_option (option_map (λ _. force_by language n p a) (index_of_name a.name names)) (filter_map (force_item_of language S names p x) ls))) e
            ∙ selected_here (bytes_eq a.name name) (index_of_name a.name names) a (filter_map (force_key_of S names) ls)
            (filter_map (force_item_of language S names p x) ls) (filter (λ (b : TargetAttribute). bytes_eq b.name name)
            (filter_map (λ (q : Line). S q.attribute) ls)) refl refl ih

-- the items under a symbol are its reverse dependencies
reverse_dependency_here : (language : Language) (S : Attribute → Option TargetAttribute) (c : Contents) (p : GroupInContext) (o : Option (List ℕ)) (name : List ℕ) (t : ℕ)
    → Differ c.names → slice_get c.names t ≡ Some name → ((x : List ℕ) → o ≡ Some x → Has x c.names)
    → items_of t (by_name (λ x. filter_map (force_key_of S c.names) p.group.attributes) o)
    (by_name (λ x. filter_map (force_item_of language S c.names p x) p.group.attributes) o)
    ≡ elim o as (λ _. List ReverseDependency) [
      | None ↦ []
      | Some by ↦ reverse_dependencies_by language c p
          (filter (λ (a : TargetAttribute). bytes_eq a.name name) (attribute_values S p.group)) by
    ]
reverse_dependency_here language S c p None name t d at named = refl
reverse_dependency_here language S c p (Some x) name t d at named =
    let j = has-place x c.names (named x refl) in
    let n : number_of c.names x ≡ j.0 = ap (λ o. unwrap_or o 0) j.1 in
    selected_lines _ S c.names p j.0 t name d at x p.group.attributes n
    ∙ sym (ap (λ o. elim o as (λ _. List ReverseDependency) [
      | None ↦ []
      | Some s ↦ map (force_by language s p)
          (filter (λ (a : TargetAttribute). bytes_eq a.name name) (attribute_values S p.group))
    ]) j.1)

pub reverse_dependency_law : (language : Language) {T : Type 0} {view : T → ReverseDependency} (S : Attribute → Option TargetAttribute) {P : T → Type 0}
    {count : ℕ} (read : List Group) {keys : List ℕ} {items : List T} (t : ℕ) (name : List ℕ)
    → AreListed view (force_keys S (names_defined read)) (force_items language S (names_defined read)) P count (groups_in_context read) keys items
    → slice_get (names_defined read) t ≡ Some name
    → map view (items_of t keys items) ≡ flat_map (reverse_dependencies_of language S (contents_of read) name) (groups_in_context read)
reverse_dependency_law language S read t name l at =
    listed_law (reverse_dependencies_of language S (contents_of read) name) t l (reverse_dependency_many _ S (names_defined read))
    (λ p k. reverse_dependency_here _ S (contents_of read) p (defined_name p.group) name t (Differ-once (filter_map defined_name read))
    at (λ x e. named_there read p x k e))
