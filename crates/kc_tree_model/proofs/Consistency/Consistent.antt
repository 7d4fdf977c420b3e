-- A tree that is read without a fault is consistent.
use Rattle.kc_tree_model.proofs.Common.{Language, DefaultAttribute, default_of, ◌≡◌, ◌&&◌, ℕ, ◌<◌, true, List, [], Option, Some, None, refl, ap, sym, ◌∙◌, subst, length, filter, not, cond, Bool, false, slice_get, filter_map, flat_map, ◌==◌, option_map, option_and_then, option_or, list_any, list_all}
use Rattle.kc_tree_model.proofs.Common.{TreeFault, Symbol, Choice, Default, has_newline, IsConsistent, is_name_byte, own_text, Files, defined_name, Line, context_of, GroupInContext, attribute_condition, attribute_values, Contents, contents_of, choice_number, symbol_of, type_given, is_member_of}
use Rattle.kc_tree_model.proofs.Common.{is_first_definition, choice_of, definitions_of, defines, faults_of_group}
use Rattle.kc_value.specs.declared.value.Kind.TheVariants.{Bool as Boolean}
use Rattle.kc_expr.specs.Lookup.{index_of_name}
use Rattle.kc_tree_model.specs.Trees.{MemberDefault}
use Rattle.kc_tree_model.specs.declared.ids.Unit.{Unit as TreeUnit}
use Rattle.kc_tree_model.specs.declared.ids.Unit.TheVariants.{Symbol as of_symbol, Choice as of_choice}
use Rattle.kc_tree_model.specs.TreeReading.{reading}
use Rattle.kc_tree_model.specs.Contents.{kind_in_tree, member_names, own_member_names, begins_symbol, tree_of_groups, tree_of_files, defaults_at, bare_name, name_among, member_named, member_default}
use Rattle.kc_tree_model.specs.TreeFaults.{tree_faults, first_tree_fault}
use Rattle.kc_tree_model.proofs.Consistency.Lists.{Has, has-at, has-filter, filter-has, has-filter_map, filter_map-has, has-any, any-has, place-get, number-get, at_most_once, all_pass, has_flat_map}
use Rattle.kc_tree_model.proofs.Consistency.Places.{IsWord, is_read, value_of_group}
use Rattle.kc_tree_model.proofs.Consistency.Definitions.{IsSound, choice_places, choices_of, no_first, nothing_at, sound_contents, symbols_of, unit_at, units_of}
use Rattle.kc_tree_model.proofs.Consistency.Units.{at_number, choice_around, choice_at, first_in_choice, first_of_choice, two_true, choice_of_member, choice_of_name, choice_place, choice_there_at, choice_unit, choice_unit_at, first_defined, is_member, member_is, number_at, place_is, symbol_at, symbol_there, symbol_unit, symbol_unit_at, unique_in, unit_listed, unit_place, and_then_some, has_mapped}
use Rattle.kc_tree_model.proofs.Consistency.Numbers.{entry_choices, entry_symbols, impliers_there, selectors_there, units_of_choices}
use Rattle.kc_tree_model.proofs.Consistency.Entries.{symbols_have_entries}
use Rattle.kc_tree_model.proofs.Consistency.EntryTitles.{entry_titles_plain}
use Rattle.kc_tree_model.proofs.Consistency.NameLimits.{few_symbols, short_names}
use Rattle.kc_tree_model.proofs.Consistency.PlainTexts.{IsPlainText}
use Rattle.std.specs.Str.{is_utf8}
use Rattle.std.proofs.lemmas.Str.{is_utf8-from_IsUtf8}

-- the members of a choice
member_number : (c : Contents) (n s : ℕ) → Has s (filter_map (λ x. index_of_name x c.names) (own_member_names c n))
    → (q : GroupInContext) × (x : List ℕ) × Has q c.places × (defined_name q.group ≡ Some x) × (q.choice ≡ Some n)
    × (index_of_name x c.names ≡ Some s)
member_number c n s h =
    let first : GroupInContext → Bool = λ p. is_member_of n p && begins_symbol c p in
    let a = has-filter_map (λ x. index_of_name x c.names) (own_member_names c n) s h in
    let b = has-filter_map (λ (p : GroupInContext). defined_name p.group) (filter first c.places) a.0 a.1 in
    let d = has-filter first c.places b.0 b.1 in
    (b.0, a.0, d.0, b.2, member_is n b.0 (two_true _ _ d.1).0, a.2)

both_true : (a b : Bool) → a ≡ true → b ≡ true → (a && b) ≡ true
both_true true b e f = f
both_true false b e f = cc

number_of_member : (c : Contents) (n s : ℕ) (q : GroupInContext) (x : List ℕ) → Has q c.places → defined_name q.group ≡ Some x
    → is_first_definition c x q ≡ true → q.choice ≡ Some n → index_of_name x c.names ≡ Some s
    → Has s (filter_map (λ x. index_of_name x c.names) (own_member_names c n))
number_of_member c n s q x h e f m k =
    let first : GroupInContext → Bool = λ p. is_member_of n p && begins_symbol c p in
    let begins : begins_symbol c q ≡ true = ap (λ o. elim o as (λ _. Bool) [ None ↦ false | Some name ↦ is_first_definition c name q ]) e ∙ f in
    filter_map-has (λ x. index_of_name x c.names) (own_member_names c n) x s
    (filter_map-has (λ (p : GroupInContext). defined_name p.group) (filter first c.places) q x
    (filter-has first c.places q h (both_true _ _ (is_member n q m) begins)) e) k

module _ (language : Language) (c : Contents) (s : IsSound c) (none : (p : GroupInContext) → Has p c.places → faults_of_group language c p ≡ []) where
  words : (i : ℕ) (symbol : Symbol) → slice_get (symbols_of language c) i ≡ Some symbol → (0 < length symbol.name) × (list_all is_name_byte symbol.name ≡ true)
  words i symbol h =
      let r = symbol_at _ c i symbol h in
      subst (λ (x : Symbol). IsWord x.name) r.2 (s.words r.0 (has-at r.0 c.names i r.1))

  names_differ : (i j : ℕ) (a b : Symbol) → slice_get (symbols_of language c) i ≡ Some a → slice_get (symbols_of language c) j ≡ Some b → a.name ≡ b.name → i ≡ j
  names_differ i j a b h k e =
      let x = symbol_at _ c i a h in
      let y = symbol_at _ c j b k in
      let same : x.0 ≡ y.0 = ap (λ (z : Symbol). z.name) x.2 ∙ e ∙ sym (ap (λ (z : Symbol). z.name) y.2) in
      at_most_once x.0 c.names i j s.names x.1 (y.1 ∙ ap Some (sym same))

  units_differ : (u w : ℕ) (unit : TreeUnit) → slice_get (units_of c) u ≡ Some unit → slice_get (units_of c) w ≡ Some unit → u ≡ w
  unfolding units_of
  units_differ u w unit h k = unique_in c s unit c.places u w s.numbers h k

  symbol_units : (u i : ℕ) → slice_get (units_of c) u ≡ Some (of_symbol i)
      → (symbol : Symbol) × (slice_get (symbols_of language c) i ≡ Some symbol) × (symbol.choice ≡ None)
  unfolding unit_at
  symbol_units u i h =
      let p = unit_place c u (of_symbol i) h in
      let r = symbol_unit c p.0 p.0.group.head i refl p.2 in
      (symbol_of language c r.name, symbol_there _ c i r.name (place-get r.name c.names i r.number), r.alone)

  choice_units : (u k : ℕ) → slice_get (units_of c) u ≡ Some (of_choice k) → (choice : Choice) × (slice_get (choices_of language c) k ≡ Some choice)
  unfolding unit_at
  choice_units u k h =
      let p = unit_place c u (of_choice k) h in
      let n = number-get p.0.group.number c.choices k (choice_unit c p.0 p.0.group.head k refl p.2) in
      let q = number_at c s k p.0.group.number n in
      (choice_of language c q.0, choice_there_at _ c k q.0 q.1)

  own_units : (i : ℕ) (symbol : Symbol) → slice_get (symbols_of language c) i ≡ Some symbol → symbol.choice ≡ None
      → (u : ℕ) × (slice_get (units_of c) u ≡ Some (of_symbol i))
  own_units i symbol h e =
      let r = symbol_at _ c i symbol h in
      let p = first_defined c s r.0 (has-at r.0 c.names i r.1) in
      unit_listed c p.0 (of_symbol i) p.1 (symbol_unit_at c p.0 r.0 i p.2 p.3 (choice_of_name _ c r.0 symbol None r.2 e) (place_is c s r.0 i r.1))

  units_of_members : (i k : ℕ) (symbol : Symbol) → slice_get (symbols_of language c) i ≡ Some symbol → symbol.choice ≡ Some k
      → (u : ℕ) × (slice_get (units_of c) u ≡ Some (of_choice k))
  units_of_members i k symbol h e =
      let r = symbol_at _ c i symbol h in
      let m = choice_around c r.0 k (choice_of_name _ c r.0 symbol (Some k) r.2 e) in
      let p = number_at c s k m.1 (number-get m.1 c.choices k m.5) in
      let there = choice_place c k p.0 p.1 in
      unit_listed c p.0 (of_choice k) there.0 (choice_unit_at c p.0 k there.1 (ap (choice_number c) p.2 ∙ m.5))

  bool_members : (i k : ℕ) (symbol : Symbol) → slice_get (symbols_of language c) i ≡ Some symbol → symbol.choice ≡ Some k → symbol.kind ≡ Boolean
  bool_members i k symbol h e =
      let r = symbol_at _ c i symbol h in
      sym (ap (λ (x : Symbol). x.kind) r.2) ∙ ap (λ o. kind_in_tree o (type_given c r.0)) (choice_of_name _ c r.0 symbol (Some k) r.2 e)

  members : (k i : ℕ) (choice : Choice) → slice_get (choices_of language c) k ≡ Some choice → list_any (λ m. m == i) choice.members ≡ true
      → (symbol : Symbol) × (slice_get (symbols_of language c) i ≡ Some symbol) × (symbol.choice ≡ Some k)
  members k i x h e =
      let p = choice_at _ c k x h in
      let m = member_number c p.0.group.number i (has-any i (filter_map (λ x. index_of_name x c.names) (own_member_names c p.0.group.number))
      (subst (λ (x : Choice). list_any (λ m. m == i) x.members ≡ true) (sym p.2) e)) in (
        symbol_of language c m.1,
        symbol_there _ c i m.1 (place-get m.1 c.names i m.5),
        choice_of_member language c s none m.0 m.1 p.0.group.number k m.2 m.3 m.4
            (at_number c s k p.0 p.1),
      )

  listed : (i k : ℕ) (symbol : Symbol) → slice_get (symbols_of language c) i ≡ Some symbol → symbol.choice ≡ Some k
      → (choice : Choice) × (slice_get (choices_of language c) k ≡ Some choice) × (list_any (λ m. m == i) choice.members ≡ true)
  listed i k symbol h e =
      let r = symbol_at _ c i symbol h in
      let m = choice_around c r.0 k (choice_of_name _ c r.0 symbol (Some k) r.2 e) in
      let f = first_of_choice c r.0 m.1 (first_in_choice language c s none m.0 r.0 m.1 k m.2 m.3 m.4 (choice_of_name _ c r.0 symbol (Some k) r.2 e)) in
      let p = number_at c s k m.1 (number-get m.1 c.choices k m.5) in (
        choice_of language c p.0,
        choice_there_at _ c k p.0 p.1,
        any-has i (filter_map (λ x. index_of_name x c.names) (own_member_names c p.0.group.number))
            (number_of_member c p.0.group.number i f.0 r.0 f.1 f.2 f.3 (f.4 ∙ ap Some (sym p.2)) (place_is c s r.0 i r.1)),
      )

-- a default of a choice is of a member
mapped_from : {A B : Type 0} (f : A → B) (o : Option A) (y : B) → option_map f o ≡ Some y → (x : A) × (o ≡ Some x) × (f x ≡ y)
mapped_from f None y h = cc
mapped_from f (Some x) y h = (x, refl, cc)

named_member : (members : List (List ℕ)) (b : Bool) (o : Option (List ℕ)) (x : List ℕ) → cond b (option_and_then (name_among members) o) None ≡ Some x
    → Has x members
named_member members true o x h =
    let a = and_then_some (name_among members) o x h in
    let b = mapped_from (λ _. a.0) (index_of_name a.0 members) x a.2 in
    subst (λ y. Has y members) b.2 (has-at a.0 members b.0 (place-get a.0 members b.0 b.1))
named_member members false o x h = cc

-- a name that a definition in a choice defines
named_in : (c : Contents) (n : ℕ) (x : List ℕ) → Has x (member_names c n)
    → (q : GroupInContext) × Has q c.places × (defined_name q.group ≡ Some x) × (q.choice ≡ Some n)
named_in c n x h =
    let b = has-filter_map (λ (p : GroupInContext). defined_name p.group) (filter (is_member_of n) c.places) x h in
    let d = has-filter (is_member_of n) c.places b.0 b.1 in
    (b.0, d.0, b.2, member_is n b.0 d.1)

module _ (language : Language) (c : Contents) (s : IsSound c) (none : (p : GroupInContext) → Has p c.places → faults_of_group language c p ≡ []) where
  default_of_member : (p : GroupInContext) (k : ℕ) (v : DefaultAttribute) (d : MemberDefault) → slice_get c.choices k ≡ Some p.group.number
      → member_default language c p v ≡ Some d → Has d.member (filter_map (λ x. index_of_name x c.names) (own_member_names c p.group.number))
  default_of_member p k v d at h =
      let n = p.group.number in
      let a = mapped_from (λ s. record { member = s; condition = attribute_condition (context_of language p) p.group v.condition }) _ d h in
      let b = and_then_some (λ x. index_of_name x c.names) (member_named (member_names c n) v) a.0 a.1 in
      let m : Has b.0 (member_names c n) = named_member (member_names c n) v.single (bare_name v.value) b.0 b.1 in
      let q = named_in c n b.0 m in
      let f = first_of_choice c b.0 n (first_in_choice language c s none q.0 b.0 n k q.1 q.2 q.3 (choice_of_member language c s none q.0 b.0 n k q.1 q.2 q.3 at)) in
      subst (λ i. Has i (filter_map (λ x. index_of_name x c.names) (own_member_names c n))) (ap (λ (y : MemberDefault). y.member) a.2)
      (number_of_member c n a.0 f.0 b.0 f.1 f.2 f.3 f.4 b.2)

  default_members : (k : ℕ) (x : Choice) → slice_get (choices_of language c) k ≡ Some x
      → list_all (λ (d : MemberDefault). list_any (λ m. m == d.member) x.members) x.defaults ≡ true
  default_members k x h =
      let p = choice_at _ c k x h in
      subst (λ (y : Choice). list_all (λ (d : MemberDefault). list_any (λ m. m == d.member) y.members) y.defaults ≡ true) p.2
      (all_pass (λ (d : MemberDefault). list_any (λ m. m == d.member) (choice_of language c p.0).members) (choice_of language c p.0).defaults
      (λ d e. let r = has-filter_map (member_default language c p.0) (attribute_values default_of p.0.group) d e in any-has d.member (choice_of language c p.0).members
      (default_of_member p.0 k r.0 d (at_number c s k p.0 p.1) r.2)))

-- the own texts of defaults are one line of UTF-8
default_is_plain : (language : Language) (c : Contents) (s : IsSound c) (p : GroupInContext) (d : Default) → Has p c.places → Has d (defaults_at language p) → IsPlainText (own_text d.value)
default_is_plain language c s p d h k =
    let a = has_mapped (λ (v : DefaultAttribute). record { value = v.value; condition = attribute_condition (context_of language p) p.group v.condition; from_environment = v.from_environment })
    (attribute_values default_of p.group) d k in
    let b = has-filter_map (λ (l : Line). default_of l.attribute) p.group.attributes a.0 a.1 in
    subst (λ (y : Default). IsPlainText (own_text y.value)) a.2 (value_of_group p.group.attributes b.0 a.0 (s.values p h) b.1 b.2)

defaults_pass : (language : Language) (test : Default → Bool) → ((d : Default) → IsPlainText (own_text d.value) → test d ≡ true)
    → (c : Contents) (s : IsSound c) (i : ℕ) (symbol : Symbol) → slice_get (symbols_of language c) i ≡ Some symbol → list_all test symbol.defaults ≡ true
defaults_pass language test holds c s i symbol h =
    let r = symbol_at _ c i symbol h in
    subst (λ (y : Symbol). list_all test y.defaults ≡ true) r.2
    (all_pass test (symbol_of language c r.0).defaults
    (λ d e. let a = has_flat_map (defaults_at language) (definitions_of c r.0) d e in holds d
    (default_is_plain _ c s a.0 d (has-filter (defines r.0) c.places a.0 a.1).0 a.2)))

-- the reading and the checks of a tree without a fault
no_reading_fault : (o : Option TreeFault) (t : Option TreeFault) → option_or o t ≡ None → t ≡ None
no_reading_fault None t h = h
no_reading_fault (Some f) t h = cc

no_faults : (files : Files) (root : List ℕ) → first_tree_fault files root ≡ None → (p : GroupInContext) → Has p (contents_of (reading files root).read).places
    → faults_of_group files.language (contents_of (reading files root).read) p ≡ []
unfolding first_tree_fault tree_faults
no_faults files root h p k =
    let read = (reading files root).read in
    nothing_at (faults_of_group files.language (contents_of read)) (contents_of read).places p
    (no_first (flat_map (faults_of_group files.language (contents_of read)) (contents_of read).places) (no_reading_fault (reading files root).fault _ h)) k

pub tree_is_consistent : (files : Files) (root : List ℕ) → first_tree_fault files root ≡ None → IsConsistent (tree_of_files files root)
unfolding tree_of_files tree_of_groups symbols_of choices_of choice_places units_of unit_at
tree_is_consistent files root h =
    let c = contents_of (reading files root).read in
    let s = sound_contents (reading files root).read (is_read files root) in
    let none = no_faults files root h in
    record {
      words = words files.language c s none;
      names_differ = names_differ files.language c s none;
      units_differ = units_differ files.language c s none;
      symbol_units = symbol_units files.language c s none;
      choice_units = choice_units files.language c s none;
      own_units = own_units files.language c s none;
      units_of_members = units_of_members files.language c s none;
      bool_members = bool_members files.language c s none;
      members = members files.language c s none;
      listed = listed files.language c s none;
      default_members = default_members files.language c s none;
      one_line = defaults_pass _ (λ (d : Default). not (has_newline (own_text d.value))) (λ d plain. ap not plain.0) c s;
      own_utf8 = defaults_pass _ (λ (d : Default). is_utf8 (own_text d.value)) (λ d plain. is_utf8-from_IsUtf8 (own_text d.value) plain.1) c s;
      selectors_there = selectors_there _ c s;
      impliers_there = impliers_there _ c s;
      units_of_choices = units_of_choices _ c s;
      few_symbols = few_symbols files root;
      short_names = short_names files root;
      defined = symbols_have_entries files root;
      entry_symbols = entry_symbols _ c s;
      entry_choices = entry_choices _ c s;
      titles_one_line = λ k entry title at told. (entry_titles_plain files root k entry title at told).0;
      titles_utf8 = λ k entry title at told. is_utf8-from_IsUtf8 title (entry_titles_plain files root k entry title at told).1;
    }
