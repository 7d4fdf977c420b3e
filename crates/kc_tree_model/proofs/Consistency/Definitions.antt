-- The definitions of a tree without a fault, and what is known of its contents.
use Rattle.kc_tree_model.proofs.Common.{◌≡◌, ◌⊎◌, inl, inr, ℕ, Bool, true, false, not, ◌&&◌, ◌||◌, List, [], ◌∷◌, ◌++◌, Option, Some, None, refl, ap, sym, ◌∙◌, subst, map, filter, list_all, slice_get, filter_map, flat_map, is_some, is_none, bytes_eq, ◌==◌, eqb-true, Language, Strict, Linux}
use Rattle.kc_tree_model.proofs.Common.{TreeKind, ChoiceMember, TreeFault, Symbol, Choice, config, Group, Line, of_head, file_end, from_head, defined_name, opens_choice, GroupInContext, Contents, contents_of, defines, type_given, choice_of_symbol, symbol_of, choice_of, is_first_definition}
use Rattle.kc_tree_model.proofs.Common.{choice_of_first_definition, unit_of_head, when, is_no_member_kind, only_extends_member, definition_faults, faults_of_head, faults_of_group}
use Rattle.kc_tree_model.specs.declared.ids.Unit.{Unit as TreeUnit}
use Rattle.kc_tree_model.specs.Contents.{first_definition}
use Rattle.kc_tree_model.specs.TreeFaults.{is_added_attribute, is_addition, is_same_choice}
use Rattle.kc_tree_model.proofs.Consistency.Lists.{Has, has-filter_map, filter_map-has, same_text, text_same, Differ, has-once, once-has, Differ-once}
use Rattle.kc_tree_model.proofs.Consistency.Places.{IsWord, NamesWord, AreValues, IsRead, read_after, group-placed, placed-group, NumbersDiffer, numbers_differ, choice_read, what_of_name}

-- if two lists joined are empty, each of them is empty
pub nothing_left : {A : Type 0} (xs ys : List A) → xs ++ ys ≡ [] → (xs ≡ []) × (ys ≡ [])
nothing_left [] ys h = (refl, h)
nothing_left (x ∷ xs) ys h = cc

pub nothing_at : {A B : Type 0} (f : A → List B) (xs : List A) (x : A) → flat_map f xs ≡ [] → Has x xs → f x ≡ []
nothing_at f [] x h k = absurd k
nothing_at f (y ∷ ys) x h (inl e) = ap f (sym e) ∙ (nothing_left (f y) (flat_map f ys) h).0
nothing_at f (y ∷ ys) x h (inr k) = nothing_at f ys x (nothing_left (f y) (flat_map f ys) h).1 k

pub no_first : {A : Type 0} (xs : List A) → slice_get xs 0 ≡ None → xs ≡ []
no_first [] h = refl
no_first (x ∷ xs) h = cc

pub nothing_mapped : {A B : Type 0} (f : A → B) (xs : List A) → map f xs ≡ [] → xs ≡ []
nothing_mapped f [] h = refl
nothing_mapped f (x ∷ xs) h = cc

pub not_when : (b : Bool) (k : TreeKind) → when b k ≡ [] → b ≡ false
not_when true k h = cc
not_when false k h = refl

pub neither : (a b : Bool) → (a || b) ≡ false → (a ≡ false) × (b ≡ false)
neither true b h = cc
neither false b h = (refl, h)

pub right_false : (a b : Bool) → (a && b) ≡ false → a ≡ true → b ≡ false
right_false true b h e = h
right_false false b h e = cc

pub not_not : (b : Bool) → not b ≡ false → b ≡ true
not_not true h = refl
not_not false h = cc

in_same : (o q : Option ℕ) (n : ℕ) → q ≡ Some n → is_same_choice o q ≡ true → o ≡ Some n
in_same None (Some m) n e h = cc
in_same None None n e h = cc
in_same (Some g) None n e h = cc
in_same (Some g) (Some m) n e h = ap Some (eqb-true g m h) ∙ e

right_true : (a b : Bool) → a ≡ false → (a || b) ≡ true → b ≡ true
right_true false b e h = h
right_true true b e h = cc

-- a definition in a choice that may follow another one is in the choice of the first
may_follow : (l : Language) (c : Contents) (name : List ℕ) (p : GroupInContext) (n : ℕ) → p.choice ≡ Some n → only_extends_member l c name p ≡ true
    → choice_of_first_definition c name ≡ Some n
may_follow Strict c name p n i h = cc
may_follow (Linux version) c name p n i h =
    in_same (choice_of_first_definition c name) p.choice n i (right_true (is_addition p) _
    (ap (λ o. is_none o && list_all (λ (l : Line). is_added_attribute l.attribute) p.group.attributes) i) h)

by_first : {A : Type 0} (f o m : Bool) → (not f && o && not m) ≡ false → o ≡ true → (m ≡ true → A) → (f ≡ true) ⊎ A
by_first true o m h e again = inl refl
by_first false o m h e again = inr (again (not_not m (right_false o (not m) h e)))

module _ (language : Language) (c : Contents) (none : (p : GroupInContext) → Has p c.places → faults_of_group language c p ≡ []) where
  -- if the checks on the whole tree find no fault, a definition of a name has no fault at its own line
  pub sound : (p : GroupInContext) (name : List ℕ) → Has p c.places → defined_name p.group ≡ Some name → definition_faults language c p name ≡ []
  sound p name h e =
      let what : p.group.head ≡ of_head (config name) = what_of_name p.group.head name e in
      let here : faults_of_head language c p (config name) ≡ [] =
      sym (ap (λ w. elim w as (λ _. List TreeFault) [ of_head x ↦ faults_of_head language c p x | file_end ↦ [] ]) what) ∙ none p h in
      nothing_mapped (λ k. record { file = Some p.group.at.file; line = p.group.at.line; kind = k }) (definition_faults language c p name)
      (nothing_left _ _ here).0

  pub member_rule : (p : GroupInContext) (name : List ℕ) → Has p c.places → defined_name p.group ≡ Some name
      → ((is_some p.choice && is_no_member_kind language (type_given c name)) ≡ false)
      × ((not (is_first_definition c name p) && is_some (choice_of_symbol c name) && not (only_extends_member language c name p)) ≡ false)
  member_rule p name h e = neither _ _ (not_when _ ChoiceMember (nothing_left _ _ (nothing_left _ _ (sound p name h e)).0).1)

  -- in a tree without a fault, a definition within a choice is its symbol's first definition, or in the same choice as that
  pub is_first_or_again : (p : GroupInContext) (name : List ℕ) (k n : ℕ) → Has p c.places → defined_name p.group ≡ Some name
      → choice_of_symbol c name ≡ Some k → p.choice ≡ Some n
      → (is_first_definition c name p ≡ true) ⊎ (choice_of_first_definition c name ≡ Some n)
  is_first_or_again p name k n h e m i =
      by_first (is_first_definition c name p) (is_some (choice_of_symbol c name)) (only_extends_member language c name p) (member_rule p name h e).1 (ap is_some m)
      (may_follow language c name p n i)

-- a group that `defines` a name has this name as its defined name
pub defined : (p : GroupInContext) (name : List ℕ) → defines name p ≡ true → defined_name p.group ≡ Some name
defined p name h = by_name (defined_name p.group) h
  where
    by_name : (o : Option (List ℕ)) → elim o [ None ↦ false | Some x ↦ bytes_eq x name ] ≡ true → o ≡ Some name
    by_name None k = cc
    by_name (Some x) k = ap Some (same_text x name k)

pub defining : (p : GroupInContext) (name : List ℕ) → defined_name p.group ≡ Some name → defines name p ≡ true
defining p name h = by_name (defined_name p.group) h
  where
    by_name : (o : Option (List ℕ)) → o ≡ Some name → elim o [ None ↦ false | Some x ↦ bytes_eq x name ] ≡ true
    by_name None k = cc
    by_name (Some x) k = text_same x name cc

pub first_number : (c : Contents) (name : List ℕ) (p : GroupInContext) → is_first_definition c name p ≡ true
    → (g : Group) × (first_definition c name ≡ Some g) × (g.number ≡ p.group.number)
first_number c name p h = by_first (first_definition c name) refl h
  where
    by_first : (o : Option Group) → first_definition c name ≡ o → elim o [ None ↦ false | Some g ↦ g.number == p.group.number ] ≡ true
        → (g : Group) × (first_definition c name ≡ Some g) × (g.number ≡ p.group.number)
    by_first None e k = cc
    by_first (Some g) e k = (g, e, eqb-true g.number p.group.number k)

pub one_number : (c : Contents) (name : List ℕ) (p q : GroupInContext) → is_first_definition c name p ≡ true → is_first_definition c name q ≡ true
    → p.group.number ≡ q.group.number
one_number c name p q h k =
    let a = first_number c name p h in
    let b = first_number c name q k in
    let same : a.0 ≡ b.0 = cc in
    sym a.2 ∙ ap (λ (g : Group). g.number) same ∙ b.2

-- the symbols of the tree of this language with these contents, in order of first definition
unfoldable pub symbols_of : Language → Contents → List Symbol
symbols_of language c = map (symbol_of language c) c.names

unfoldable pub choice_places : Contents → List GroupInContext
choice_places c = filter (λ (p : GroupInContext). opens_choice p.group) c.places

unfoldable pub choices_of : Language → Contents → List Choice
choices_of language c = map (choice_of language c) (choice_places c)

unfoldable pub unit_at : Contents → GroupInContext → Option TreeUnit
unit_at c p = from_head (unit_of_head c p) p.group.head

unfoldable pub units_of : Contents → List TreeUnit
units_of c = filter_map (unit_at c) c.places

-- contents are sound: group numbers and names differ, names are words and exactly those that groups define, default values are
-- one line of UTF-8, and the choices are the groups that open one, each enclosing choice among them
pub record IsSound (c : Contents) : Type 0 where
  pub numbers : NumbersDiffer c.places
  pub names : Differ c.names
  pub words : (name : List ℕ) → Has name c.names → IsWord name
  pub defined_once : (name : List ℕ) → Has name c.names → (p : GroupInContext) × Has p c.places × (defined_name p.group ≡ Some name)
  pub named : (p : GroupInContext) (name : List ℕ) → Has p c.places → defined_name p.group ≡ Some name → Has name c.names
  pub values : (p : GroupInContext) → Has p c.places → AreValues p.group.attributes
  pub choices : c.choices ≡ map (λ (p : GroupInContext). p.group.number) (filter (λ (p : GroupInContext). opens_choice p.group) c.places)
  pub choice_there : (p : GroupInContext) (n : ℕ) → Has p c.places → p.choice ≡ Some n
      → (q : GroupInContext) × Has q c.places × (q.group.number ≡ n) × (opens_choice q.group ≡ true)

pub sound_contents : (read : List Group) → IsRead read → IsSound (contents_of read)
sound_contents read r = record {
  numbers = numbers_differ read r;
  names = Differ-once (filter_map defined_name read);
  words = λ name h.
      let g = has-filter_map defined_name read name (has-once name (filter_map defined_name read) h) in
      let after = read_after g.0 read r g.1 in
      subst NamesWord (what_of_name g.0.head name g.2) after.1.word;
  defined_once = λ name h.
      let g = has-filter_map defined_name read name (has-once name (filter_map defined_name read) h) in
      let p = placed-group g.0 read g.1 in
      (p.0, p.1, ap defined_name p.2 ∙ g.2);
  named = λ p name h e. once-has name (filter_map defined_name read) (filter_map-has defined_name read p.group name (group-placed p read h) e);
  values = λ p h. (let after = read_after p.group read r (group-placed p read h) in after.1.values);
  choices = refl;
  choice_there = λ p n h e. choice_read p read n h e;
}
