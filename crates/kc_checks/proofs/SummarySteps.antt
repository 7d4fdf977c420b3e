-- The summary of the first groups of a listing, group by group.
use Rattle.kc_checks.proofs.Common.{◌≡◌, inl, ℕ, ◌+◌, ◌-◌, ◌<◌, Bool, true, false, cond, ◌&&◌, List, [], ◌∷◌, ◌++◌, length, set, replicate, map, reverse, Option, Some, None, refl, ap, sym, subst, ◌∙◌, arith, append-nil, append_assoc, filter, slice_get, slice_range, filter_map, flat_map, is_none}
use Rattle.kc_checks.proofs.Common.{option_map, option_to_list, ◌==◌, cons_option, eq-eqb, flat_map-append, filter-append, get_or_from_slice_get, Kind, Exprs, index_of_name, name_of_head, type_of, Group, from_head, defined_name, open_blocks, opens_choice, GroupInContext}
use Rattle.kc_checks.proofs.Common.{group_in_context, groups_in_context, attribute_values, Contents, begins_symbol, contents_of, choice_number, defines, is_first_definition, names_defined, Has, Differ-once, has-filter, map-get, text_same, group-placed, RepresentsGroups, RepresentsHead}
use Rattle.kc_checks.proofs.Common.{attributes_end, enclosing_choice, first_summary, group_at, is_choice_code, member_in, member_key, member_keys_at, members_at, number_at, own_choice, read_before, summary_in, symbol_summaries, type_in}
use Rattle.kc_checks.proofs.Common.{nothing_known, Summary, SymbolSummary, CodeGroup, CodeLine, CodeHead}
use Rattle.kc_tree_model.specs.declared.ids.Unit.{Unit as TreeUnit}
use Rattle.kc_tree_model.specs.declared.ids.Unit.TheVariants.{Symbol as of_symbol, Choice as of_choice}
use Rattle.kc_parser.specs.declared.listing.GroupHead.TheVariants as codes
use Rattle.kc_tree.specs.declared.items_with_keys.ItemsWithKeys.{ItemsWithKeys}
use Rattle.kc_checks.specs.between.Summaries.{choice_begun, own_unit, AreMembers, IsSummary, IsSummaryOf}
use Rattle.kc_checks.specs.checker.SummarySteps.{choice_if_first, summary_at, unit_if_first, HasMember}
use Rattle.kc_checks.proofs.GroupPlaces.{IsShownAt, all_before, are_numbers, count_before, count_is, none_before, numbers_before, place_numbered, placed_before, placed_more, shown_at}
use Rattle.kc_checks.proofs.MemberMarks.{marked_test}
use Rattle.kc_parser.specs.between.EnclosingChoices.{HaveChoices}
use Rattle.kc_parser.proofs.ChoiceSteps.{begins_is}
use Rattle.kc_checks.proofs.Rounds.{counted, enclosing_got, number_counts, number_small, numbers_of_choices}
use Rattle.kc_checks.proofs.SymbolSummaries.{about_at, abouts_more, abouts_same, defines_by}
use Rattle.kc_checks.proofs.Symbols.{nameless, none_known, place_is, types_at}

-- one element more
one_mapped : {A : Type 0} (f : GroupInContext → List A) (ps : List GroupInContext) (p : GroupInContext)
    → flat_map f (ps ++ p ∷ []) ≡ flat_map f ps ++ f p
one_mapped f ps p = flat_map-append f ps (p ∷ []) ∙ ap (λ xs. flat_map f ps ++ xs) (append-nil (f p))

more_by : {B : Type 0} (o : Option B) (xs zs ts : List B) → xs ≡ zs ++ ts → cons_option o xs ≡ cons_option o zs ++ ts
more_by None xs zs ts h = h
more_by (Some z) xs zs ts h = ap (λ t. z ∷ t) h

more_one : {B : Type 0} (o : Option B) → cons_option o [] ≡ option_to_list o
more_one None = refl
more_one (Some y) = refl

one_filtered : {A B : Type 0} (f : A → Option B) (xs : List A) (x : A) → filter_map f (xs ++ x ∷ []) ≡ filter_map f xs ++ option_to_list (f x)
one_filtered f [] x = more_one (f x)
one_filtered f (y ∷ ys) x = more_by (f y) (filter_map f (ys ++ x ∷ [])) (filter_map f ys) (option_to_list (f x)) (one_filtered f ys x)

-- the members after one group more
module _ (f : GroupInContext → Option ℕ) (c : Contents) (ps : List GroupInContext) (p : GroupInContext) where
  none_named : (o : Option ℕ) → member_in c o None ≡ []
  none_named None = refl
  none_named (Some k) = refl

  members_kept : (m : ItemsWithKeys ℕ) → AreMembers f c ps m → defined_name p.group ≡ None → AreMembers f c (ps ++ p ∷ []) m
  members_kept m a e =
      let none : members_at f c p ≡ [] = ap (member_in c (f p)) e ∙ none_named (f p) in
      let keys : member_keys_at f c p ≡ [] = ap (map (λ _. member_key f p)) none in
      record {
        member_keys = a.member_keys
            ∙ sym (one_mapped (member_keys_at f c) ps p ∙ ap (λ ks. flat_map (member_keys_at f c) ps ++ ks) keys ∙ append-nil (flat_map (member_keys_at f c) ps));
        members = a.members
            ∙ sym (one_mapped (members_at f c) ps p ∙ ap (λ ks. flat_map (members_at f c) ps ++ ks) none ∙ append-nil (flat_map (members_at f c) ps));
      }

  member_here : (choice : Option ℕ) (name : List ℕ) (s : ℕ) → f p ≡ choice → defined_name p.group ≡ Some name → index_of_name name c.names ≡ Some s
      → (members_at f c p ≡ map (λ _. s) (option_to_list choice)) × (member_keys_at f c p ≡ option_to_list choice)
  member_here None name s e n x =
      let none : members_at f c p ≡ [] = ap (λ o. member_in c o (defined_name p.group)) e in
      (none, ap (map (λ _. member_key f p)) none)
  member_here (Some k) name s e n x =
      let one : members_at f c p ≡ s ∷ [] = ap (λ o. member_in c o (defined_name p.group)) e ∙ ap (member_in c (Some k)) n ∙ ap option_to_list x in
      (one, ap (map (λ _. member_key f p)) one ∙ ap (λ o. elim o as (λ _. ℕ) [ None ↦ 0 | Some j ↦ j ] ∷ []) e)

  members_more : (choice : Option ℕ) (name : List ℕ) (s : ℕ) (old new : ItemsWithKeys ℕ) → f p ≡ choice → defined_name p.group ≡ Some name
      → index_of_name name c.names ≡ Some s → AreMembers f c ps old → HasMember choice s old new → AreMembers f c (ps ++ p ∷ []) new
  members_more choice name s old new e n x a m =
      let here = member_here choice name s e n x in
      record {
        member_keys = m.keys
            ∙ ap (λ ks. ks ++ option_to_list choice) a.member_keys
            ∙ ap (λ ks. flat_map (member_keys_at f c) ps ++ ks) (sym here.1)
            ∙ sym (one_mapped (member_keys_at f c) ps p);
        members = m.members
            ∙ ap (λ ks. ks ++ map (λ _. s) (option_to_list choice)) a.members
            ∙ ap (λ ks. flat_map (members_at f c) ps ++ ks) (sym here.0)
            ∙ sym (one_mapped (members_at f c) ps p);
      }

-- a definition is its symbol's first exactly if there is none before it
first_by : (p : GroupInContext) (ds rest : List GroupInContext) → ((d : GroupInContext) → Has d ds → d.group.number < p.group.number)
    → is_none (slice_get (flat_map number_at ds) 0) ≡ elim (option_map (λ (q : GroupInContext). q.group) (slice_get (ds ++ p ∷ rest) 0)) as (λ _. Bool)
    [ None ↦ false | Some g ↦ g.number == p.group.number ]
first_by p [] rest small = sym (eq-eqb p.group.number p.group.number refl)
first_by p (d ∷ ds) rest small = sym (marked_test d.group.number p.group.number (small d (inl refl)))

first_so_far : (c : Contents) (ps rest : List GroupInContext) (p : GroupInContext) (name : List ℕ) → c.places ≡ ps ++ p ∷ rest → defines name p ≡ true
    → ((d : GroupInContext) → Has d ps → d.group.number < p.group.number) → is_none (summary_in c ps name).first ≡ is_first_definition c name p
first_so_far c ps rest p name places own small =
    let test = defines name in
    let split : filter test c.places ≡ filter test ps ++ p ∷ filter test rest = ap (filter test) places ∙ filter-append test ps (p ∷ rest)
    ∙ ap (λ b. filter test ps ++ cond b (p ∷ filter test rest) (filter test rest)) own in
    first_by p (filter test ps) (filter test rest) (λ d h. small d (has-filter test ps d h).0)
    ∙ ap (λ ds. elim (option_map (λ (q : GroupInContext). q.group) (slice_get ds 0)) as (λ _. Bool) [ None ↦ false | Some g ↦ g.number == p.group.number ])
    (sym split)

-- the choice that a group opens
begun_by : (c : Contents) (p : GroupInContext) (n : ℕ) (b : Bool) → opens_choice p.group ≡ b → (b ≡ true → choice_number c p.group.number ≡ Some n)
    → choice_begun c p ≡ cond b (Some (of_choice n)) None
begun_by c p n true o number = ap (λ b. cond b (option_map of_choice (choice_number c p.group.number)) None) o ∙ ap (option_map of_choice) (number refl)
begun_by c p n false o number = ap (λ b. cond b (option_map of_choice (choice_number c p.group.number)) None) o

pub no_choice : (what : CodeHead) → (what ≡ codes.Choice → ⊥) → is_choice_code what ≡ false
no_choice codes.Choice other = absurd (other refl)
no_choice what other = refl

module _ (e : Exprs) (texts : List (List ℕ)) (lines : List CodeLine) (groups : List CodeGroup) (read : List Group)
    (h : RepresentsGroups e (names_defined read) texts lines (length lines) (reverse groups) read) (i : ℕ) (within : i < length groups)
    (enclosed : HaveChoices (reverse groups)) (old new : Summary) (k : IsSummaryOf (contents_of read) (groups_in_context (read_before i read)) old) where
  abbrev c : Contents
  c = contents_of read

  abbrev prior : List GroupInContext
  prior = groups_in_context (read_before i read)

  abbrev t : IsShownAt e (names_defined read) texts lines groups read i
  t = shown_at e (names_defined read) texts lines groups read h i within

  abbrev place : GroupInContext
  place = group_in_context (open_blocks 0 (read_before i read)) t.group

  around : (group_at groups i).choice ≡ enclosing_choice c place
  around =
      let n = count_is e (names_defined read) texts lines groups read h in
      enclosing_got e (names_defined read) texts lines groups read h enclosed i place (place_numbered read i t.group (omega arith) t.now)

  small : (d : GroupInContext) → Has d prior → d.group.number < place.group.number
  small d own =
      let a = are_numbers e (names_defined read) texts lines (length lines) (reverse groups) read h in
      let n = count_is e (names_defined read) texts lines groups read h in
      let l = number_small (read_before i read) (numbers_before (length read - i) read a) d.group (group-placed d (read_before i read) own) in
      let m = count_before read i (omega arith) in
      let q = t.shown.number_is in
      omega arith

  number_here : (b : Bool) → opens_choice t.group ≡ b → b ≡ true → choice_number c place.group.number ≡ Some old.choices
  number_here b opens is =
      let a = are_numbers e (names_defined read) texts lines (length lines) (reverse groups) read h in
      number_counts read i t.group a (numbers_before (length read - (i + 1)) read a) t.now (opens ∙ is) ∙ ap Some (sym k.choices)

  -- the summary with one group more, part by part
  one_more : (what : CodeHead) → what ≡ (group_at groups i).head → new.symbols.items ≡ symbol_summaries c (prior ++ place ∷ [])
      → new.choices ≡ cond (is_choice_code what) (old.choices + 1) old.choices
      → AreMembers (enclosing_choice c) c (prior ++ place ∷ []) new.members → AreMembers (own_choice c) c (prior ++ place ∷ []) new.own_members
      → new.units.items ≡ old.units.items ++ option_to_list (own_unit c place) → IsSummaryOf c (groups_in_context (read_before (i + 1) read)) new
  one_more what w symbols choices members own units =
      let shown : RepresentsHead e (names_defined read) texts what t.group.head = subst (λ v. RepresentsHead e (names_defined read) texts v t.group.head)
      (sym w) t.shown.head in
      let begins = begins_is e (names_defined read) texts what t.group shown in
      subst (λ ps. IsSummaryOf c ps new) (sym (placed_more read i t.group t.now)) (record {
        symbols = symbols;
        choices = choices ∙ counted read i t.group (is_choice_code what) old.choices t.now begins k.choices
            ∙ ap (λ r. length (numbers_of_choices r)) t.now;
        members = members;
        own_members = own;
        units = units ∙ ap (λ xs. xs ++ option_to_list (own_unit c place)) k.units ∙ sym (one_filtered (own_unit c) prior place);
      })

  -- after a definition
  pub definition_more : (s : ℕ) (given : Option Kind) (choice : Option ℕ) → (group_at groups i).head ≡ codes.Config s
      → given ≡ slice_get (filter_map (type_in e) (slice_range lines (group_at groups i).attributes (attributes_end groups lines i))) 0
      → choice ≡ (group_at groups i).choice
      → (let here : SymbolSummary = record { first = Some i; given = given; choice = choice } in
      let symbol_summary : SymbolSummary = summary_at old.symbols.items s in
      new.symbols.items ≡ set old.symbols.items s (first_summary symbol_summary here)
      → new.choices ≡ old.choices
      → HasMember choice s old.members new.members → HasMember (choice_if_first symbol_summary here) s old.own_members new.own_members
      → new.units.items ≡ old.units.items ++ option_to_list (unit_if_first symbol_summary here s) → IsSummaryOf c (groups_in_context (read_before (i + 1) read)) new)
  definition_more s given choice w given_is choice_is = λ symbols choices members own units.
      let here : SymbolSummary = record { first = Some i; given = given; choice = choice } in
      let symbol_summary : SymbolSummary = summary_at old.symbols.items s in
      let what = subst (λ v. RepresentsHead e (names_defined read) texts v t.group.head) w t.shown.head in
      let name = what.0 in
      let named : defined_name place.group ≡ Some name = ap (from_head name_of_head) what.2 in
      let number = place_is (names_defined read) name s (Differ-once (filter_map defined_name read)) what.1 in
      let lines_here = slice_range lines (group_at groups i).attributes (attributes_end groups lines i) in
      let chosen : choice ≡ enclosing_choice c place = choice_is ∙ around in
      let is : here ≡ about_at c place =
      ap (λ f. let x : SymbolSummary = record { first = Some f; given = given; choice = choice } in x) (sym t.shown.number_is)
      ∙ ap (λ f. let x : SymbolSummary = record { first = Some t.group.number; given = f; choice = choice } in x)
      (given_is ∙ ap (λ xs. slice_get xs 0) (sym (types_at e t.group lines_here t.shown.attributes)))
      ∙ ap (λ f. let x : SymbolSummary = record { first = Some t.group.number; given = slice_get (attribute_values type_of t.group) 0; choice = f } in x) chosen in
      let was : symbol_summary ≡ summary_in c prior name = get_or_from_slice_get old.symbols.items s _ nothing_known (ap (λ xs. slice_get xs s) k.symbols
      ∙ map-get (summary_in c prior) (names_defined read) s name what.1) in
      let rest = placed_before (length read - (i + 1)) read in
      let places : c.places ≡ prior ++ place ∷ rest.0 = rest.1 ∙ ap (λ ps. ps ++ rest.0) (placed_more read i t.group t.now)
      ∙ append_assoc prior (place ∷ []) rest.0 in
      let own_name : defines name place ≡ true = defines_by place name name what.2 ∙ text_same name name refl in
      let first : is_none symbol_summary.first ≡ is_first_definition c name place = ap (λ (x : SymbolSummary). is_none x.first) was
      ∙ first_so_far c prior rest.0 place name places own_name small in
      let begins : begins_symbol c place ≡ is_first_definition c name place =
      ap (λ o. elim o as (λ _. Bool) [ None ↦ false | Some x ↦ is_first_definition c x place ]) named in
      let own_is : own_choice c place ≡ choice_if_first symbol_summary here = ap (λ b. cond b (enclosing_choice c place) None) (begins ∙ sym first)
      ∙ ap (λ o. cond (is_none symbol_summary.first) o None) (sym chosen) in
      let unit_is : own_unit c place ≡ unit_if_first symbol_summary here s =
      ap (λ o. elim o as (λ _. Option TreeUnit) [ None ↦ choice_begun c place | Some x ↦ cond (is_first_definition c x place && is_none (enclosing_choice c place)) (option_map of_symbol (index_of_name x c.names)) None ]) named
      ∙ ap (λ b. cond (b && is_none (enclosing_choice c place)) (option_map of_symbol (index_of_name name c.names)) None) (sym first)
      ∙ ap (λ o. cond (is_none symbol_summary.first && is_none o) (option_map of_symbol (index_of_name name c.names)) None) (sym chosen)
      ∙ ap (λ o. cond (is_none symbol_summary.first && is_none choice) (option_map of_symbol o) None) number in
      one_more (codes.Config s) (sym w)
      (symbols
      ∙ ap (λ x. set old.symbols.items s (first_summary x here)) was
      ∙ ap (λ x. set old.symbols.items s (first_summary (summary_in c prior name) x)) is
      ∙ ap (λ xs. set xs s (first_summary (summary_in c prior name) (about_at c place))) k.symbols
      ∙ sym (abouts_more c prior place name s (Differ-once (filter_map defined_name read)) what.2 what.1))
      choices
      (members_more (enclosing_choice c) c prior place choice name s old.members new.members (sym chosen) named number k.members members)
      (members_more (own_choice c) c prior place (choice_if_first symbol_summary here) name s old.own_members new.own_members own_is named number k.own_members own)
      (units ∙ ap (λ o. old.units.items ++ option_to_list o) (sym unit_is))

  -- after another group
  pub other_more : (what : CodeHead) (b : Bool) → what ≡ (group_at groups i).head → ((s : ℕ) → what ≡ codes.Config s → ⊥) → is_choice_code what ≡ b
      → new.symbols.items ≡ old.symbols.items → new.choices ≡ cond b (old.choices + 1) old.choices → new.members ≡ old.members → new.own_members ≡ old.own_members
      → new.units.items ≡ old.units.items ++ option_to_list (cond b (Some (of_choice old.choices)) None)
      → IsSummaryOf c (groups_in_context (read_before (i + 1) read)) new
  other_more what b w other is symbols choices members own units =
      let shown : RepresentsHead e (names_defined read) texts what t.group.head = subst (λ v. RepresentsHead e (names_defined read) texts v t.group.head)
      (sym w) t.shown.head in
      let begins : opens_choice place.group ≡ b = begins_is e (names_defined read) texts what t.group shown ∙ is in
      let none : defined_name place.group ≡ None = nameless e (names_defined read) texts what t.group.head shown other in
      let unit_is : own_unit c place ≡ cond b (Some (of_choice old.choices)) None =
      ap (λ o. elim o as (λ _. Option TreeUnit) [ None ↦ choice_begun c place | Some x ↦ cond (is_first_definition c x place && is_none (enclosing_choice c place)) (option_map of_symbol (index_of_name x c.names)) None ]) none
      ∙ begun_by c place old.choices b begins (number_here b begins) in
      one_more what w
      (symbols ∙ k.symbols ∙ sym (abouts_same c prior place none))
      (choices ∙ ap (λ x. cond x (old.choices + 1) old.choices) (sym is))
      (subst (AreMembers (enclosing_choice c) c (prior ++ place ∷ [])) (sym members) (members_kept (enclosing_choice c) c prior place old.members k.members none))
      (subst (AreMembers (own_choice c) c (prior ++ place ∷ [])) (sym own) (members_kept (own_choice c) c prior place old.own_members k.own_members none))
      (units ∙ ap (λ o. old.units.items ++ option_to_list o) (sym unit_is))

-- before the first group
pub none_summed : (read : List Group) (s : Summary) → s.symbols.items ≡ replicate (length (names_defined read)) nothing_known → s.choices ≡ 0 → s.members.keys.items ≡ [] → s.members.items.items ≡ [] → s.own_members.keys.items ≡ [] → s.own_members.items.items ≡ []
    → s.units.items ≡ [] → IsSummaryOf (contents_of read) (groups_in_context (read_before 0 read)) s
none_summed read s symbols choices keys members own_keys own units =
    let c : Contents = contents_of read in
    subst (λ ps. IsSummaryOf c ps s) (sym (ap groups_in_context (none_before read))) (record {
      symbols = symbols ∙ none_known c c.names;
      choices = choices;
      members = record { member_keys = keys; members = members };
      own_members = record { member_keys = own_keys; members = own };
      units = units;
    })

-- after the last one
pub all_summed : (read : List Group) (i : ℕ) (s : Summary) → i ≡ length read → IsSummaryOf (contents_of read) (groups_in_context (read_before i read)) s
    → IsSummary read s
unfolding IsSummary
all_summed read i s e k =
    subst (λ ps. IsSummaryOf (contents_of read) ps s) (ap groups_in_context (ap (λ n. read_before n read) e ∙ all_before read)) k
