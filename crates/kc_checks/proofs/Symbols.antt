-- The symbols of a listing, and their summaries.
use Rattle.kc_checks.proofs.Common.{◌≡◌, inl, inr, ℕ, ◌+◌, ◌<◌, Bool, true, cond, List, [], ◌∷◌, ◌++◌, length, get_or, replicate, map, reverse, Option, Some, None, refl, ap, sym, subst, ◌∙◌, arith, append-nil, slice_get, filter_map, flat_map, is_some, option_and_then, option_map, option_to_list}
use Rattle.kc_checks.proofs.Common.{cons_option, flat_map-append, length-map, get_or_from_slice_get, Kind, Exprs, index_of_name, name_of_head, type_of, Group, Line, GroupHead, from_head, defined_name, open_blocks, GroupInContext, group_in_context, groups_in_context, attribute_values, Contents}
use Rattle.kc_checks.proofs.Common.{contents_of, bare_name, choice_number, choice_of_symbol, defines, definitions_of, type_given, names_defined, kind_of, Has, Differ, at_most_once, has-at, get_below, has-filter, has-place, map-get, place-get, filter_map-has, group-placed, RepresentsGroups}
use Rattle.kc_checks.proofs.Common.{RepresentsHead, line_in, summary_in, symbol_summaries, choices_at, group_at, read_before, type_in, SymbolSummary, CodeGroup, CodeLine, CodeHead}
use Rattle.kc_expr.specs.Expr.{Expr, constant, alone}
use Rattle.kc_expr.specs.between.Names.{name_alone}
use Rattle.kc_tree_model.specs.between.Attributes.{DefaultAttribute}
use Rattle.kc_tree_model.specs.Contents.{member_named, name_among}
use Rattle.kc_tree_model.specs.TreeFaults.{kind_or_bool, is_selectable}
use Rattle.kc_value.specs.Kinds.{is_tri_kind}
use Rattle.kc_tree_model.proofs.Consistency.Definitions.{defined}
use Rattle.kc_tree_model.proofs.Consistency.Lists.{once-has}
use Rattle.kc_parser.specs.declared.listing.GroupHead.TheVariants as codes
use Rattle.kc_checks.proofs.SymbolSummaries.{types_of_lines}
use Rattle.kc_checks.proofs.GroupPlaces.{placed_more, shown_at}
use Rattle.kc_checks.proofs.Rounds.{enclosing_numbered}

-- a name that a group defines is one of the defined names
pub named_there : (read : List Group) (p : GroupInContext) (name : List ℕ) → Has p (groups_in_context read) → defined_name p.group ≡ Some name
    → Has name (names_defined read)
named_there read p name h e = once-has name (filter_map defined_name read) (filter_map-has defined_name read p.group name (group-placed p read h) e)

-- a name that isn't among them has no definition
no_places : (read : List Group) (name : List ℕ) (ds : List GroupInContext) → definitions_of (contents_of read) name ≡ ds
    → index_of_name name (names_defined read) ≡ None → ds ≡ []
no_places read name [] e n = refl
no_places read name (d ∷ ds) e n =
    let own : Has d (definitions_of (contents_of read) name) = subst (Has d) (sym e) (inl refl) in
    let q = has-filter (defines name) (groups_in_context read) d own in
    let i = has-place name (names_defined read) (named_there read d name q.0 (defined d name q.1)) in
    let there : index_of_name name (names_defined read) ≡ Some i.0 = i.1 in
    cc

pub no_definitions : (read : List Group) (name : List ℕ) → index_of_name name (names_defined read) ≡ None → definitions_of (contents_of read) name ≡ []
no_definitions read name n = no_places read name (definitions_of (contents_of read) name) refl n

-- the type by the definitions
abbrev kind_by : Contents → List GroupInContext → Option Kind
kind_by c ds =
    kind_or_bool (slice_get (flat_map (λ (p : GroupInContext). attribute_values type_of p.group) ds) 0)
    (is_some (option_and_then (choice_number c) (slice_get (filter_map (λ (p : GroupInContext). p.choice) ds) 0)))

selectable_by : (o : Option Kind) → Bool
selectable_by None = true
selectable_by (Some k) = is_tri_kind k

selectable_is : (c : Contents) (name : List ℕ) → is_selectable c name ≡ selectable_by (kind_of c name)
unfolding selectable_by
selectable_is c name = by_kind (kind_of c name)
  where
    by_kind : (o : Option Kind) → elim o as (λ _. Bool) [ None ↦ true | Some k ↦ is_tri_kind k ] ≡ selectable_by o
    by_kind None = refl
    by_kind (Some k) = refl

pub undefined_selectable : (read : List Group) (name : List ℕ) → index_of_name name (names_defined read) ≡ None → is_selectable (contents_of read) name ≡ true
unfolding selectable_by
undefined_selectable read name n = selectable_is (contents_of read) name ∙ ap selectable_by (ap (kind_by (contents_of read)) (no_definitions read name n))

pub selectable_some : (c : Contents) (name : List ℕ) (k : Kind) → kind_of c name ≡ Some k → is_selectable c name ≡ is_tri_kind k
unfolding selectable_by
selectable_some c name k e = selectable_is c name ∙ ap selectable_by e

pub selectable_none : (c : Contents) (name : List ℕ) → kind_of c name ≡ None → is_selectable c name ≡ true
unfolding selectable_by
selectable_none c name e = selectable_is c name ∙ ap selectable_by e

-- the choice of a symbol
choice_by : (c : Contents) (p : GroupInContext) (o : Option ℕ) → p.choice ≡ o → ((n : ℕ) → o ≡ Some n → (k : ℕ) × (choice_number c n ≡ Some k))
    → (xs ys : List ℕ)
    → slice_get xs 0 ≡ option_and_then (choice_number c) (slice_get ys 0)
    → slice_get (option_to_list (option_and_then (choice_number c) o) ++ xs) 0 ≡ option_and_then (choice_number c) (slice_get (cons_option o ys) 0)
choice_by c p None e numbered xs ys ih = ih
choice_by c p (Some n) e numbered xs ys ih = let k = numbered n refl in ap (λ m. slice_get (option_to_list m ++ xs) 0) k.1 ∙ sym k.1

choice_first : (c : Contents) (ds : List GroupInContext)
    → ((p : GroupInContext) (n : ℕ) → Has p ds → p.choice ≡ Some n → (k : ℕ) × (choice_number c n ≡ Some k))
    → slice_get (flat_map (choices_at c) ds) 0 ≡ option_and_then (choice_number c) (slice_get (filter_map (λ (p : GroupInContext). p.choice) ds) 0)
choice_first c [] numbered = refl
choice_first c (p ∷ ds) numbered =
    choice_by c p p.choice refl (λ n e. numbered p n (inl refl) e) (flat_map (choices_at c) ds)
    (filter_map (λ (q : GroupInContext). q.choice) ds) (choice_first c ds (λ q n h e. numbered q n (inr h) e))

pub choice_is : (read : List Group) (name : List ℕ)
    → (summary_in (contents_of read) (groups_in_context read) name).choice ≡ choice_of_symbol (contents_of read) name
choice_is read name =
    choice_first (contents_of read) (definitions_of (contents_of read) name)
    (λ p n h e. enclosing_numbered read p n (has-filter (defines name) (groups_in_context read) p h).0 e)

pub kind_is : (read : List Group) (name : List ℕ) (a : SymbolSummary) → a ≡ summary_in (contents_of read) (groups_in_context read) name
    → kind_or_bool a.given (is_some a.choice) ≡ kind_of (contents_of read) name
kind_is read name a e =
    ap (λ (x : SymbolSummary). kind_or_bool x.given (is_some x.choice)) e
    ∙ ap (λ o. kind_or_bool (type_given (contents_of read) name) (is_some o)) (choice_is read name)

-- a statement whose stored form is no `config` defines no name
pub nameless : (e : Exprs) (names texts : List (List ℕ)) (code : CodeHead) (w : GroupHead) → RepresentsHead e names texts code w
    → ((s : ℕ) → code ≡ codes.Config s → ⊥) → from_head name_of_head w ≡ None
nameless e names texts (codes.Config s) w h n = absurd (n s refl)
nameless e names texts (codes.Menu t) w h n = ap (from_head name_of_head) h.2
nameless e names texts (codes.Condition id) w h n = ap (from_head name_of_head) h.1
nameless e names texts (codes.Comment t) w h n = ap (from_head name_of_head) h.2
nameless e names texts (codes.Source t) w h n = ap (from_head name_of_head) h.2
nameless e names texts x w h n = ap (from_head name_of_head) h

-- the symbols as they are kept
module _ (read : List Group) (symbols : List SymbolSummary) (h : symbols ≡ symbol_summaries (contents_of read) (groups_in_context read)) where
  pub as_many_symbols : length symbols ≡ length (names_defined read)
  as_many_symbols = ap length h ∙ length-map (names_defined read) (summary_in (contents_of read) (groups_in_context read))

  pub symbol_below : (s : ℕ) (name : List ℕ) → slice_get (names_defined read) s ≡ Some name → s < length symbols
  symbol_below s name e = let l = get_below (names_defined read) s name e in let m = as_many_symbols in omega arith

  pub symbol_summary_is : (s : ℕ) (name : List ℕ) (d : SymbolSummary) → slice_get (names_defined read) s ≡ Some name
      → get_or symbols s d ≡ summary_in (contents_of read) (groups_in_context read) name
  symbol_summary_is s name d e =
      get_or_from_slice_get symbols s _ d (ap (λ xs. slice_get xs s) h
      ∙ map-get (summary_in (contents_of read) (groups_in_context read)) (names_defined read) s name e)

-- `name_alone` and `bare_name` find the same name in an expression
pub bare_is : (e : Expr) → name_alone e ≡ bare_name e
bare_is (alone (constant t)) = refl
bare_is e = refl

pub name_some : (members : List (List ℕ)) (d : DefaultAttribute) (x : List ℕ) → d.single ≡ true → bare_name d.value ≡ Some x
    → is_some (member_named members d) ≡ is_some (index_of_name x members)
name_some members d x s e =
    ap (λ b. is_some (cond b (option_and_then (name_among members) (bare_name d.value)) None)) s
    ∙ ap (λ o. is_some (option_and_then (name_among members) o)) e
    ∙ mapped (index_of_name x members)
  where
    mapped : (o : Option ℕ) → is_some (option_map (λ _. x) o) ≡ is_some o
    mapped None = refl
    mapped (Some i) = refl

-- the types that the attributes of a group give are those that its stored lines give
pub types_at : (e : Exprs) (m : Group) (own : List CodeLine) → m.attributes ≡ map (line_in e) own → attribute_values type_of m ≡ filter_map (type_in e) own
types_at e m own a = ap (filter_map (λ (l : Line). type_of l.attribute)) a ∙ types_of_lines e own

module _ (e : Exprs) (texts : List (List ℕ)) (lines : List CodeLine) (groups : List CodeGroup) (read : List Group)
    (h : RepresentsGroups e (names_defined read) texts lines (length lines) (reverse groups) read) where
  pub symbol_there : (i s : ℕ) → i < length groups → (group_at groups i).head ≡ codes.Config s → s < length (names_defined read)
  symbol_there i s l w =
      let t = shown_at e (names_defined read) texts lines groups read h i l in
      let what = subst (λ v. RepresentsHead e (names_defined read) texts v t.group.head) w t.shown.head in
      get_below (names_defined read) s what.0 what.1

-- before any group is read, the summary of each symbol is empty
pub none_known : (c : Contents) (names : List (List ℕ))
    → replicate (length names) (let x : SymbolSummary = record { first = None; given = None; choice = None } in x) ≡ map (summary_in c []) names
none_known c [] = refl
none_known c (x ∷ names) = ap (λ xs. (let y : SymbolSummary = record { first = None; given = None; choice = None } in y) ∷ xs) (none_known c names)

pub as_many_abouts : (c : Contents) (ps : List GroupInContext) (symbols : List SymbolSummary) → symbols ≡ symbol_summaries c ps
    → length symbols ≡ length c.names
as_many_abouts c ps symbols e = ap length e ∙ length-map c.names (summary_in c ps)

-- what a function gives for the first `i + 1` groups is what it gives for the first `i` and, after it, for group `i`
pub statement_by : {A : Type 0} (f : GroupInContext → List A) (read : List Group) (i : ℕ) (m : Group) → read_before (i + 1) read ≡ m ∷ read_before i read
    → flat_map f (groups_in_context (read_before (i + 1) read)) ≡ flat_map f (groups_in_context (read_before i read)) ++ f
    (group_in_context (open_blocks 0 (read_before i read)) m)
statement_by f read i m now =
    let p : GroupInContext = group_in_context (open_blocks 0 (read_before i read)) m in
    ap (flat_map f) (placed_more read i m now) ∙ flat_map-append f (groups_in_context (read_before i read)) (p ∷ [])
    ∙ ap (λ xs. flat_map f (groups_in_context (read_before i read)) ++ xs) (append-nil (f p))

-- in a list of distinct names, the index found for the name at index `s` is `s`
pub place_is : (names : List (List ℕ)) (name : List ℕ) (s : ℕ) → Differ names → slice_get names s ≡ Some name → index_of_name name names ≡ Some s
place_is names name s differ at =
    let r = has-place name names (has-at name names s at) in
    r.1 ∙ ap Some (at_most_once name names r.0 s differ (place-get name names r.0 r.1) at)
