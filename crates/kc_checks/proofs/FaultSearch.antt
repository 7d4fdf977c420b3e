-- The faults of a group, from the summary of its symbol.
use Rattle.std.specs.Prelude.{IfSome}
use Rattle.kc_checks.proofs.Common.{◌≡◌, inl, ◌&&◌, ℕ, zero, suc, ◌+◌, ◌-◌, ◌<◌, ◌≤◌, Bool, true, false, cond, List, [], ◌∷◌, length, get_or, map, replicate, reverse, Option, Some, None, refl, ap, sym, subst, ◌∙◌, arith, filter, slice_get, slice_index, slice_range, filter_map, flat_map, is_some}
use Rattle.kc_checks.proofs.Common.{nat_lt, option_and_then, option_map, bytes_eq, All, list_any, option_or, flat_map-append, length-map, get_or_from_slice_get, Language, Exprs, index_of_name, TreeFault, config, choice, Group, GroupHead, of_head, defined_name, open_blocks, opens_choice}
use Rattle.kc_checks.proofs.Common.{GroupInContext, group_in_context, groups_in_context, Contents, contents_of, choice_number, defines, definitions_of, is_first_definition, member_names, names_defined, is_again_in_choice, is_no_member_kind, only_extends_member, attribute_faults, choice_faults}
use Rattle.kc_checks.proofs.Common.{definition_faults, faults_at, faults_of_lines, kind_of, Has, Differ-once, get_below, has-at, has-filter, map-get, number-get, text_of_name, Listing, RepresentsGroups, RepresentsHead, line_in, choice_around, definition_kind, AreMarked, WereMarked, AreSmall}
use Rattle.kc_checks.proofs.Common.{choices_before, summary_in, attributes_end, enclosing_choice, first_is, first_in_definitions, group_at, member_keys_at, members_at, number_at, read_before, SymbolSummary, ◌==◌, modules_name, CodeGroup, CodeLine, CodeHead, RepresentsListing}
use Rattle.std.proofs.lemmas.Bool.{ltb-true}
use Rattle.std.proofs.lemmas.List.{get_or_past}
use Rattle.kc_tree_model.specs.Blocks.{file_end}
use Rattle.kc_tree_model.specs.Contents.{choice_of_first_definition}
use Rattle.kc_tree_model.specs.TreeFaults.{is_same_choice, faults_of_group, faults_of_head, tree_faults}
use Rattle.kc_tree_model.proofs.Consistency.Lists.{at-has, get-map}
use Rattle.kc_parser.specs.declared.listing.GroupHead.TheVariants as codes
use Rattle.kc_parser.specs.between.SymbolTable.{HasNames}
use Rattle.kc_tree.specs.between.GroupedItems.{items_at, IsGrouped}
use Rattle.kc_tree_model.proofs.Consistency.Units.{first_of_choice}
use Rattle.kc_checks.specs.between.FaultSearch.{AreFaultless, AreMembersByChoice}
use Rattle.kc_checks.specs.declared.search.Checks.{Checks}
use Rattle.kc_checks.proofs.SymbolSummaries.{first_of_both, first_number_is}
use Rattle.kc_checks.proofs.GroupPlaces.{all_before, are_numbers, count_is, none_before, numbers_before, place_numbered, placed_before, placed_count, shown_at}
use Rattle.kc_checks.proofs.FaultKinds.{definition_is, fault_of, first_mapped}
use Rattle.kc_parser.specs.between.EnclosingChoices.{HaveChoices}
use Rattle.kc_parser.proofs.ChoiceSteps.{begins_is}
use Rattle.kc_checks.proofs.Rounds.{choices_enclose, enclosing_numbered, number_counts}
use Rattle.kc_checks.proofs.MemberMarks.{are_marked, enclosing_below, keys_small, member_defined}
use Rattle.kc_checks.proofs.MemberLaw.{members_are, same_choice}
use Rattle.kc_checks.proofs.Symbols.{choice_is, place_is, statement_by}

-- the stored group `i` and its lines represent the group of `p`, which was read with this number
pub record IsPlaceAt (e : Exprs) (names texts : List (List ℕ)) (lines : List CodeLine) (groups : List CodeGroup) (read : List Group) (i : ℕ)
    (p : GroupInContext) : Type 0 where
  pub number : p.group.number ≡ i
  pub file : p.group.at.file ≡ (group_at groups i).file
  pub line : p.group.at.line ≡ (group_at groups i).line
  pub head : RepresentsHead e names texts (group_at groups i).head p.group.head
  pub attributes : p.group.attributes ≡ map (line_in e) (slice_range lines (group_at groups i).attributes (attributes_end groups lines i))
  pub has : Has p (groups_in_context read)

module _ (e : Exprs) (names texts : List (List ℕ)) (lines : List CodeLine) (groups : List CodeGroup) (read : List Group)
    (h : RepresentsGroups e names texts lines (length lines) (reverse groups) read) where
  pub place_at : (i : ℕ) (p : GroupInContext) → i < length groups → slice_get (groups_in_context read) i ≡ Some p
      → IsPlaceAt e names texts lines groups read i p
  place_at i p l at =
      let t = shown_at e names texts lines groups read h i l in
      let n = count_is e names texts lines groups read h in
      let found = place_numbered read i t.group (omega arith) t.now in
      let same : group_in_context (open_blocks 0 (read_before i read)) t.group ≡ p = cc in
      let group : t.group ≡ p.group = ap (λ (q : GroupInContext). q.group) same in
      record {
        number = sym (ap (λ (g : Group). g.number) group) ∙ t.shown.number_is;
        file = sym (ap (λ (g : Group). g.at.file) group) ∙ t.shown.file_is;
        line = sym (ap (λ (g : Group). g.at.line) group) ∙ t.shown.line_is;
        head = subst (λ (g : Group). RepresentsHead e names texts (group_at groups i).head g.head) group t.shown.head;
        attributes = sym (ap (λ (g : Group). g.attributes) group) ∙ t.shown.attributes;
        has = has-at p (groups_in_context read) i at;
      }

  pub place_there : (i : ℕ) → i < length groups → (p : GroupInContext) × (slice_get (groups_in_context read) i ≡ Some p)
  place_there i l =
      let t = shown_at e names texts lines groups read h i l in
      let n = count_is e names texts lines groups read h in
      (group_in_context (open_blocks 0 (read_before i read)) t.group, place_numbered read i t.group (omega arith) t.now)

-- a stored `config` of symbol `s` represents a `config` of the name at index `s`
pub config_there : (e : Exprs) (names texts : List (List ℕ)) (code : CodeHead) (s : ℕ) (w : GroupHead) → RepresentsHead e names texts code w
    → code ≡ codes.Config s → (name : List ℕ) × (slice_get names s ≡ Some name) × (w ≡ of_head (config name))
config_there e names texts code s w h k = subst (λ v. RepresentsHead e names texts v w) k h

pub choice_there : (e : Exprs) (names texts : List (List ℕ)) (code : CodeHead) (w : GroupHead) → RepresentsHead e names texts code w → code ≡ codes.Choice
    → w ≡ of_head choice
choice_there e names texts code w h k = subst (λ v. RepresentsHead e names texts v w) k h

-- the stored name of symbol `s` is the name at index `s` among the defined names
pub word_is : (e : Exprs) (symbols numbers : List ℕ) (names : List (List ℕ)) (s : ℕ) (name : List ℕ) (d : ℕ) → HasNames e symbols numbers names
    → slice_get names s ≡ Some name → text_of_name e (get_or symbols s d) ≡ name
word_is e symbols numbers names s name d h at =
    let r = get-map (text_of_name e) symbols s name (ap (λ xs. slice_get xs s) h.words ∙ at) in
    ap (text_of_name e) (get_or_from_slice_get symbols s r.0 d r.1) ∙ r.2

-- whether a choice encloses a place
enclosing_by : (c : Contents) (o : Option ℕ) → ((n : ℕ) → o ≡ Some n → (k : ℕ) × (choice_number c n ≡ Some k))
    → is_some (option_and_then (choice_number c) o) ≡ is_some o
enclosing_by c None k = refl
enclosing_by c (Some n) k = let j = k n refl in ap is_some j.1

pub enclosing_some : (read : List Group) (p : GroupInContext) → Has p (groups_in_context read)
    → is_some (enclosing_choice (contents_of read) p) ≡ is_some p.choice
enclosing_some read p h = enclosing_by (contents_of read) p.choice (λ n e. enclosing_numbered read p n h e)

pub first_reported : (c : Contents) (name : List ℕ) (p : GroupInContext) (i : ℕ) → p.group.number ≡ i
    → first_is (first_in_definitions number_at c.places name) i ≡ is_first_definition c name p
first_reported c name p i e = ap (first_is (first_in_definitions number_at c.places name)) (sym e) ∙ first_number_is (definitions_of c name) p.group.number

-- two places are in the same choice exactly if the choices around them have the same number
same_by : (c : Contents) (a b : Option ℕ) → ((n : ℕ) → a ≡ Some n → (k : ℕ) × (choice_number c n ≡ Some k))
    → ((n : ℕ) → b ≡ Some n → (k : ℕ) × (choice_number c n ≡ Some k))
    → is_same_choice (option_and_then (choice_number c) a) (option_and_then (choice_number c) b) ≡ is_same_choice a b
same_by c None None f g = refl
same_by c None (Some m) f g = let y = g m refl in ap (λ o. is_same_choice None o) y.1
same_by c (Some n) None f g = let x = f n refl in ap (λ o. is_same_choice o None) x.1
same_by c (Some n) (Some m) f g =
    let x = f n refl in
    let y = g m refl in
    ap (λ o. is_same_choice o (choice_number c m)) x.1 ∙ ap (is_same_choice (Some x.0)) y.1 ∙ same_choice c y.0 m y.1 n x.0 x.1

-- the number of the choice around the first definition of a symbol
first_choice_by : (read : List Group) (groups : List CodeGroup) (name : List ℕ) (ds : List GroupInContext) → definitions_of (contents_of read) name ≡ ds
    → map (λ (g : CodeGroup). g.choice) groups ≡ map (enclosing_choice (contents_of read)) (groups_in_context read)
    → ((d : GroupInContext) → Has d (definitions_of (contents_of read) name) → slice_get (groups_in_context read) d.group.number ≡ Some d)
    → choice_around groups (slice_get (flat_map number_at ds) 0)
    ≡ option_and_then (choice_number (contents_of read)) (option_and_then (λ (p : GroupInContext). p.choice) (slice_get ds 0))
first_choice_by read groups name [] e own at = refl
first_choice_by read groups name (d ∷ ds) e own at =
    let r = get-map (λ (g : CodeGroup). g.choice) groups d.group.number (enclosing_choice (contents_of read) d)
    (ap (λ xs. slice_get xs d.group.number) own ∙ map-get (enclosing_choice (contents_of read)) (groups_in_context read) d.group.number d
    (at d (subst (Has d) (sym e) (inl refl)))) in
    ap (option_and_then (λ (g : CodeGroup). g.choice)) r.1 ∙ r.2

module _ (e : Exprs) (names texts : List (List ℕ)) (lines : List CodeLine) (groups : List CodeGroup) (read : List Group)
    (h : RepresentsGroups e names texts lines (length lines) (reverse groups) read) where
  numbered_at : (name : List ℕ) (d : GroupInContext) → Has d (definitions_of (contents_of read) name)
      → slice_get (groups_in_context read) d.group.number ≡ Some d
  numbered_at name d own =
      let i = at-has d (groups_in_context read) (has-filter (defines name) (groups_in_context read) d own).0 in
      let n = count_is e names texts lines groups read h in
      let below = get_below (groups_in_context read) i.0 d i.1 in
      let many = placed_count read in
      let a = place_at e names texts lines groups read h i.0 d (omega arith) i.1 in
      ap (slice_get (groups_in_context read)) a.number ∙ i.1

  first_choice_numbered : (name : List ℕ) (n : ℕ) → choice_of_first_definition (contents_of read) name ≡ Some n
      → (k : ℕ) × (choice_number (contents_of read) n ≡ Some k)
  first_choice_numbered name n f =
      let d = first_of_choice (contents_of read) name n f in
      enclosing_numbered read d.0 n d.1 d.4

  -- a definition is in the choice of its symbol's first definition exactly if the numbers of the choices around them are the same
  pub again_is : (name : List ℕ) (p : GroupInContext) (first here : Option ℕ) (is_again : Bool) → Has p (groups_in_context read)
      → HaveChoices (reverse groups) → first ≡ choice_around groups (summary_in (contents_of read) (groups_in_context read) name).first
      → here ≡ enclosing_choice (contents_of read) p → is_again ≡ is_same_choice first here → is_again ≡ is_again_in_choice (contents_of read) name p
  again_is name p first here is_again has own f g w =
      let c = contents_of read in
      w
      ∙ ap (λ o. is_same_choice o here) (f ∙ first_choice_by read groups name (definitions_of c name) refl
      (choices_enclose e names texts lines groups read h own) (numbered_at name))
      ∙ ap (is_same_choice (option_and_then (choice_number c) (choice_of_first_definition c name))) g
      ∙ same_by c (choice_of_first_definition c name) p.choice (first_choice_numbered name) (λ n o. enclosing_numbered read p n has o)

-- the kind of fault found in a definition that was read is the first of the model's faults of the definition
pub definition_reported : (language : Language) (read : List Group) (p : GroupInContext) (name : List ℕ) (i : ℕ) (symbol_summary : SymbolSummary)
    (is_member is_misfit is_first is_modules may_follow : Bool) → Has p (groups_in_context read) → p.group.number ≡ i
    → symbol_summary ≡ summary_in (contents_of read) (groups_in_context read) name
    → is_member ≡ is_some (enclosing_choice (contents_of read) p) → is_misfit ≡ (is_member && is_no_member_kind language symbol_summary.given)
    → is_first ≡ first_is symbol_summary.first i → is_modules ≡ bytes_eq name modules_name
    → may_follow ≡ only_extends_member language (contents_of read) name p → definition_kind symbol_summary is_misfit is_first is_modules may_follow
    ≡ slice_get (definition_faults language (contents_of read) p name) 0
definition_reported language read p name i symbol_summary is_member is_misfit is_first is_modules may_follow has n a m s f o w =
    definition_is language (contents_of read) p name symbol_summary is_misfit is_first is_modules may_follow
    (ap (λ (x : SymbolSummary). x.given) a)
    (ap (λ (x : SymbolSummary). is_some x.choice) a ∙ ap is_some (choice_is read name))
    (s ∙ ap (λ b. b && is_no_member_kind language symbol_summary.given) (m ∙ enclosing_some read p has)
    ∙ ap (λ (x : SymbolSummary). is_some p.choice && is_no_member_kind language x.given) a)
    (f ∙ ap (λ (x : SymbolSummary). first_is x.first i) a ∙ first_reported (contents_of read) name p i n)
    o
    w

-- the first fault of a `config` group is that of the definition itself, or if it has none, that of its attribute lines
pub config_first : (language : Language) (c : Contents) (p : GroupInContext) (name : List ℕ) → p.group.head ≡ of_head (config name)
    → slice_get (faults_of_group language c p) 0
    ≡ option_or (option_map (fault_of p.group p.group.at.line) (slice_get (definition_faults language c p name) 0))
    (slice_get (faults_of_lines p.group (attribute_faults c name (kind_of c name)) false p.group.attributes) 0)
config_first language c p name e =
    ap (λ w. slice_get (elim w as (λ _. List TreeFault) [ of_head h ↦ faults_of_head language c p h | file_end ↦ [] ]) 0) e
    ∙ first_of_both (faults_at p.group p.group.at.line (definition_faults language c p name))
    (faults_of_lines p.group (attribute_faults c name (kind_of c name)) false p.group.attributes)
    ∙ ap (λ o. option_or o (slice_get (faults_of_lines p.group (attribute_faults c name (kind_of c name)) false p.group.attributes) 0))
    (first_mapped (fault_of p.group p.group.at.line) (definition_faults language c p name))

pub choice_first : (language : Language) (c : Contents) (p : GroupInContext) → p.group.head ≡ of_head choice
    → slice_get (faults_of_group language c p) 0 ≡ slice_get (faults_of_lines p.group (choice_faults (member_names c p.group.number)) false
    p.group.attributes) 0
choice_first language c p e = ap (λ w. slice_get (elim w as (λ _. List TreeFault) [ of_head h ↦ faults_of_head language c p h | file_end ↦ [] ]) 0) e

-- the members of a choice at a place are those with its mark
module _ (e : Exprs) (texts : List (List ℕ)) (lines : List CodeLine) (groups : List CodeGroup) (read : List Group)
    (h : RepresentsGroups e (names_defined read) texts lines (length lines) (reverse groups) read) where
  pub choice_counted : (i choices : ℕ) (p : GroupInContext) → i < length groups → (group_at groups i).head ≡ codes.Choice
      → slice_get (groups_in_context read) i ≡ Some p → choices ≡ choices_before i read → choice_number (contents_of read) p.group.number ≡ Some choices
  choice_counted i choices p l w at c =
      let t = shown_at e (names_defined read) texts lines groups read h i l in
      let n = count_is e (names_defined read) texts lines groups read h in
      let a = are_numbers e (names_defined read) texts lines (length lines) (reverse groups) read h in
      let what = subst (λ v. RepresentsHead e (names_defined read) texts v t.group.head) w t.shown.head in
      let begins : opens_choice t.group ≡ true = begins_is e (names_defined read) texts codes.Choice t.group what in
      let found = place_numbered read i t.group (omega arith) t.now in
      let same : group_in_context (open_blocks 0 (read_before i read)) t.group ≡ p = cc in
      sym (ap (λ (q : GroupInContext). choice_number (contents_of read) q.group.number) same)
      ∙ number_counts read i t.group a (numbers_before (length read - (i + 1)) read a) t.now begins ∙ ap Some (sym c)

  pub choice_below : (i choices : ℕ) → i < length groups → (group_at groups i).head ≡ codes.Choice → choices ≡ choices_before i read
      → choices < length (contents_of read).choices
  choice_below i choices l w c =
      let t = shown_at e (names_defined read) texts lines groups read h i l in
      let n = count_is e (names_defined read) texts lines groups read h in
      let found = place_numbered read i t.group (omega arith) t.now in
      let p : GroupInContext = group_in_context (open_blocks 0 (read_before i read)) t.group in
      get_below (contents_of read).choices choices p.group.number (number-get p.group.number (contents_of read).choices choices
      (choice_counted i choices p l w found c))

  pub members_kept : (starts items : List ℕ) (i choices : ℕ) (p : GroupInContext) → AreMembersByChoice (contents_of read) starts items
      → i < length groups → (group_at groups i).head ≡ codes.Choice → slice_get (groups_in_context read) i ≡ Some p → choices ≡ choices_before i read
      → items_at starts items choices ≡ filter_map (λ x. index_of_name x (names_defined read)) (member_names (contents_of read) p.group.number)
  members_kept starts items i choices p m l w at c =
      m.of_key choices (choice_below i choices l w c) ∙ members_are (contents_of read) choices p.group.number (choice_counted i choices p l w at c)

pub are_marked_in : (read : List Group) (p : GroupInContext) (members old new : List ℕ) (choices : ℕ)
    → members ≡ filter_map (λ x. index_of_name x (names_defined read)) (member_names (contents_of read) p.group.number)
    → length old ≡ length (names_defined read) → AreSmall old choices → WereMarked old members (choices + 1) new
    → AreMarked (names_defined read) (member_names (contents_of read) p.group.number) new (choices + 1)
are_marked_in read p members old new choices e many small were =
    are_marked (names_defined read) (member_names (contents_of read) p.group.number) old new (choices + 1) many (λ s. let k = small s in omega arith)
    (subst (λ ms. WereMarked old ms (choices + 1) new) e were)
    (λ x n. member_defined read p.group.number x n)
    (λ s x at. place_is (names_defined read) x s (Differ-once (filter_map defined_name read)) at)

-- after members were marked with `choices + 1`, no mark is greater than `choices + 1`
pub marks_small : (members old new : List ℕ) (choices : ℕ) → AreSmall old choices → WereMarked old members (choices + 1) new → AreSmall new (choices + 1)
marks_small members old new choices small were = λ s. by_any s (list_any (λ m. m == s) members) refl
  where
    by_any : (s : ℕ) (b : Bool) → list_any (λ m. m == s) members ≡ b → slice_index new s ≤ choices + 1
    by_any s false e = let k = were.kept s e in let l = small s in omega arith
    by_any s true e = by_length s e (nat_lt s (length old)) refl
      where
        by_length : (s : ℕ) → list_any (λ m. m == s) members ≡ true → (b : Bool) → nat_lt s (length old) ≡ b → slice_index new s ≤ choices + 1
        by_length s e true l = let below = ltb-true s (length old) l in let k = were.marked s below e in omega arith
        by_length s e false l =
            let past : length old ≤ s = grind arith in
            let n = were.len in
            let k : slice_index new s ≡ 0 = get_or_past new s 0 (omega arith) in
            omega arith

-- if the first `i` groups have no fault, the first fault of the first `i + 1` groups is that of the last of them
pub fault_more : (language : Language) (read : List Group) (i : ℕ) (m : Group) → read_before (i + 1) read ≡ m ∷ read_before i read
    → slice_get (flat_map (faults_of_group language (contents_of read)) (groups_in_context (read_before i read))) 0 ≡ None
    → slice_get (flat_map (faults_of_group language (contents_of read)) (groups_in_context (read_before (i + 1) read))) 0
    ≡ slice_get (faults_of_group language (contents_of read) (group_in_context (open_blocks 0 (read_before i read)) m)) 0
fault_more language read i m now none =
    let f = faults_of_group language (contents_of read) in
    let p : GroupInContext = group_in_context (open_blocks 0 (read_before i read)) m in
    ap (λ xs. slice_get xs 0) (statement_by f read i m now)
    ∙ first_of_both (flat_map f (groups_in_context (read_before i read))) (f p)
    ∙ ap (λ o. option_or o (slice_get (f p) 0)) none

pub fault_all : (language : Language) (read : List Group) (i : ℕ) (t : TreeFault)
    → slice_get (flat_map (faults_of_group language (contents_of read)) (groups_in_context (read_before i read))) 0 ≡ Some t
    → slice_get (flat_map (faults_of_group language (contents_of read)) (groups_in_context read)) 0 ≡ Some t
fault_all language read i t reported =
    let f = faults_of_group language (contents_of read) in
    let r = placed_before (length read - i) read in
    ap (λ ps. slice_get (flat_map f ps) 0) r.1
    ∙ ap (λ xs. slice_get xs 0) (flat_map-append f (groups_in_context (read_before i read)) r.0)
    ∙ first_of_both (flat_map f (groups_in_context (read_before i read))) (flat_map f r.0)
    ∙ ap (λ o. option_or o (slice_get (flat_map f r.0) 0)) reported

pub fault_none : (language : Language) (read : List Group) (i : ℕ) → i ≡ length read
    → slice_get (flat_map (faults_of_group language (contents_of read)) (groups_in_context (read_before i read))) 0 ≡ None
    → slice_get (flat_map (faults_of_group language (contents_of read)) (groups_in_context read)) 0 ≡ None
fault_none language read i e none = ap (λ r. slice_get (flat_map (faults_of_group language (contents_of read)) (groups_in_context r)) 0)
    (sym (ap (λ n. read_before n read) e ∙ all_before read)) ∙ none

pub no_fault_yet : (language : Language) (read : List Group) → slice_get
    (flat_map (faults_of_group language (contents_of read)) (groups_in_context (read_before 0 read))) 0 ≡ None
no_fault_yet language read = ap (λ r. slice_get (flat_map (faults_of_group language (contents_of read)) (groups_in_context r)) 0) (none_before read)

-- other groups have no fault
other_first : (language : Language) (c : Contents) (p : GroupInContext) (w : GroupHead) → p.group.head ≡ w
    → slice_get (faults_of_group language c p) 0 ≡ slice_get (elim w as (λ _. List TreeFault) [ of_head h ↦ faults_of_head language c p h | file_end ↦ [] ]) 0
other_first language c p w e = ap (λ v. slice_get (elim v as (λ _. List TreeFault) [ of_head h ↦ faults_of_head language c p h | file_end ↦ [] ]) 0) e

pub nothing_reported : (language : Language) (e : Exprs) (names texts : List (List ℕ)) (code : CodeHead) (c : Contents) (p : GroupInContext)
    → RepresentsHead e names texts code p.group.head → ((s : ℕ) → code ≡ codes.Config s → ⊥) → (code ≡ codes.Choice → ⊥)
    → slice_get (faults_of_group language c p) 0 ≡ None
nothing_reported language e names texts (codes.Config s) c p h n m = absurd (n s refl)
nothing_reported language e names texts codes.Choice c p h n m = absurd (m refl)
nothing_reported language e names texts (codes.Menu t) c p h n m = other_first language c p _ h.2
nothing_reported language e names texts (codes.Condition id) c p h n m = other_first language c p _ h.1
nothing_reported language e names texts (codes.Comment t) c p h n m = other_first language c p _ h.2
nothing_reported language e names texts (codes.Source t) c p h n m = other_first language c p _ h.2
nothing_reported language e names texts x c p h n m = other_first language c p _ h

pub at_most_more : (b : Bool) (m n : ℕ) → m ≤ n → m ≤ cond b (n + 1) n
at_most_more true m n h = omega arith
at_most_more false m n h = h

pub at_most_choice : (b : Bool) (m n : ℕ) → b ≡ true → m ≤ n + 1 → m ≤ cond b (n + 1) n
at_most_choice true m n e h = h
at_most_choice false m n e h = cc

pub at_most_count : (b : Bool) (m n i : ℕ) → m ≡ cond b (n + 1) n → n ≤ i → m ≤ i + 1
at_most_count true m n i e h = omega arith
at_most_count false m n i e h = omega arith

-- the marks at the beginning
zero_at : (n s : ℕ) → get_or {A = ℕ} (replicate n 0) s 0 ≡ 0
zero_at zero s = refl
zero_at (suc n) zero = refl
zero_at (suc n) (suc s) = zero_at n s

pub zeros_small : (n : ℕ) → AreSmall (replicate n 0) 0
zeros_small n = λ s. let e = zero_at n s in omega arith

-- the choice number of each collected member is below the number of choices
pub keys_fit : (read : List Group) (keys : List ℕ) (choices : ℕ)
    → keys ≡ flat_map (member_keys_at (enclosing_choice (contents_of read)) (contents_of read)) (groups_in_context read)
    → choices ≡ length (contents_of read).choices → (i : ℕ) → i < length keys → slice_index keys i < choices
keys_fit read keys choices known n i h =
    let all = keys_small (contents_of read) (enclosing_choice (contents_of read)) (λ p j e. enclosing_below (contents_of read) p.choice j e) (groups_in_context read) in
    let small = subst (All (λ k. k < length (contents_of read).choices)) (sym known) all i 0 h in
    omega arith

-- what is grouped by the keys of members are the members of each choice
pub grouped_are : (c : Contents) (count : ℕ) (keys items starts together : List ℕ) → count ≡ length c.choices
    → keys ≡ flat_map (member_keys_at (enclosing_choice c) c) c.places → items ≡ flat_map (members_at (enclosing_choice c) c) c.places
    → IsGrouped count keys items starts together → AreMembersByChoice c starts together
grouped_are c count keys items starts together n k m g =
    subst (λ xs. IsGrouped (length c.choices) (flat_map (member_keys_at (enclosing_choice c) c) c.places) xs starts together) m
    (subst (λ ks. IsGrouped (length c.choices) ks items starts together) k (subst (λ x. IsGrouped x keys items starts together) n g))

-- there are at most as many choices as groups
small_by : {A : Type 0} (b : Bool) (x : A) (xs : List A) (n : ℕ) → length xs ≤ n → length (cond b (x ∷ xs) xs) ≤ suc n
small_by true x xs n h = omega arith
small_by false x xs n h = omega arith

filter_small : {A : Type 0} (test : A → Bool) (xs : List A) → length (filter test xs) ≤ length xs
filter_small test [] = omega arith
filter_small test (x ∷ xs) = small_by (test x) x (filter test xs) (length xs) (filter_small test xs)

pub few_choices : (read : List Group) → length (contents_of read).choices ≤ length read
few_choices read =
    let k = filter_small (λ (p : GroupInContext). opens_choice p.group) (groups_in_context read) in
    let n = length-map (filter (λ (p : GroupInContext). opens_choice p.group) (groups_in_context read)) (λ (p : GroupInContext). p.group.number) in
    let m = placed_count read in
    omega arith

-- the faults of one more group
module _ (e : Exprs) (texts : List (List ℕ)) (lines : List CodeLine) (groups : List CodeGroup) (read : List Group)
    (h : RepresentsGroups e (names_defined read) texts lines (length lines) (reverse groups) read) where
  pub fault_here : (language : Language) (i : ℕ) (reported : Option TreeFault) → i < length groups → slice_get
      (flat_map (faults_of_group language (contents_of read)) (groups_in_context (read_before i read))) 0 ≡ None
      → ((p : GroupInContext) → slice_get (groups_in_context read) i ≡ Some p → reported ≡ slice_get (faults_of_group language (contents_of read) p) 0)
      → reported ≡ slice_get (flat_map (faults_of_group language (contents_of read)) (groups_in_context (read_before (i + 1) read))) 0
  fault_here language i reported l none t =
      let s = shown_at e (names_defined read) texts lines groups read h i l in
      let n = count_is e (names_defined read) texts lines groups read h in
      let p : GroupInContext = group_in_context (open_blocks 0 (read_before i read)) s.group in
      t p (place_numbered read i s.group (omega arith) s.now) ∙ sym (fault_more language read i s.group s.now none)

-- a fault that is the first among the first groups is the first of all
pub reported_first : (language : Language) (read : List Group) (i : ℕ) (o : Option TreeFault)
    → o ≡ slice_get (flat_map (faults_of_group language (contents_of read)) (groups_in_context (read_before i read))) 0
    → IfSome o (λ f. Some f ≡ slice_get (tree_faults language read) 0)
unfolding tree_faults
reported_first language read i None e = tt
reported_first language read i (Some t) e = sym (fault_all language read i t (sym e))

-- where the checks have found no fault among all groups, there is none
pub checked_all : (language : Language) (l : Listing) (i : ℕ) (c : Checks) → length l.groups.items ≤ i → i ≤ length l.groups.items
    → AreFaultless language l i c → (read : List Group) → RepresentsListing l read → None ≡ slice_get (tree_faults language read) 0
unfolding tree_faults RepresentsListing
checked_all language l i c past end k read h =
    let n = count_is l.names.arena (names_defined read) l.texts.items l.lines.items l.groups.items read h.groups_are in
    sym (fault_none language read i (omega arith) (k.none read h))
