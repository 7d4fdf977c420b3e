-- The summaries of symbols.
use Rattle.kc_checks.proofs.Common.{◌≡◌, ℕ, zero, suc, Bool, true, false, cond, List, [], ◌∷◌, ◌++◌, set, map, filter, Option, Some, None, refl, ap, sym, ◌∙◌, arith, append-nil, slice_get, filter_map, flat_map, option_map, bytes_eq, option_to_list, ◌==◌, cons_option, option_or, flat_map-append}
use Rattle.kc_checks.proofs.Common.{filter-append, Kind, Exprs, attribute_in, config, name_of_head, type_of, Line, of_head, from_head, defined_name, GroupInContext, attribute_values, Contents, defines, text_same, Differ, at_most_once, first_in_definitions, first_is, number_at, choices_at}
use Rattle.kc_checks.proofs.Common.{enclosing_choice, summary_in, first_summary, symbol_summaries, type_in, SymbolSummary, CodeLine}
use Rattle.kc_tree_model.proofs.Consistency.Lists.{same_text}

-- the first element of two joined lists is the first of the front list, or if that is empty, of the back list
pub first_of_both : {A : Type 0} (xs ys : List A) → slice_get (xs ++ ys) 0 ≡ option_or (slice_get xs 0) (slice_get ys 0)
first_of_both [] ys = refl
first_of_both (x ∷ xs) ys = refl

pub or_nothing : {A : Type 0} (o : Option A) → option_or o None ≡ o
or_nothing None = refl
or_nothing (Some x) = refl

pub first_of_option : {A : Type 0} (o : Option A) → slice_get (option_to_list o) 0 ≡ o
first_of_option None = refl
first_of_option (Some x) = refl

-- whether the number of the first of these definitions is a given number
pub first_number_is : (ds : List GroupInContext) (n : ℕ)
    → first_is (slice_get (flat_map number_at ds) 0) n ≡ elim (option_map (λ (p : GroupInContext). p.group) (slice_get ds 0)) as (λ _. Bool)
    [ None ↦ false | Some g ↦ g.number == n ]
first_number_is [] n = refl
first_number_is (d ∷ ds) n = refl

one_place : {A : Type 0} (f : GroupInContext → List A) (b : Bool) (p : GroupInContext)
    → slice_get (flat_map f (cond b (p ∷ []) [])) 0 ≡ cond b (slice_get (f p) 0) None
one_place f true p = ap (λ xs. slice_get xs 0) (append-nil (f p))
one_place f false p = refl

statement_more : {A : Type 0} (f : GroupInContext → List A) (ps : List GroupInContext) (p : GroupInContext) (name : List ℕ)
    → first_in_definitions f (ps ++ p ∷ []) name ≡ option_or (first_in_definitions f ps name) (cond (defines name p) (slice_get (f p) 0) None)
statement_more f ps p name =
    ap (λ qs. slice_get (flat_map f qs) 0) (filter-append (defines name) ps (p ∷ []))
    ∙ ap (λ xs. slice_get xs 0) (flat_map-append f (filter (defines name) ps) (cond (defines name p) (p ∷ []) []))
    ∙ first_of_both (flat_map f (filter (defines name) ps)) (flat_map f (cond (defines name p) (p ∷ []) []))
    ∙ ap (option_or (first_in_definitions f ps name)) (one_place f (defines name p) p)

-- the summary that one definition alone gives its symbol
abbrev pub about_at : Contents → GroupInContext → SymbolSummary
about_at c p = record { first = Some p.group.number; given = slice_get (attribute_values type_of p.group) 0; choice = enclosing_choice c p }

pub about_same : (c : Contents) (ps : List GroupInContext) (p : GroupInContext) (name : List ℕ) → defines name p ≡ false
    → summary_in c (ps ++ p ∷ []) name ≡ summary_in c ps name
about_same c ps p name e = ap (λ (a : SymbolSummary). a) (
    let first : first_in_definitions number_at (ps ++ p ∷ []) name ≡ first_in_definitions number_at ps name = statement_more number_at ps p name
    ∙ ap (λ b. option_or (first_in_definitions number_at ps name) (cond b (slice_get (number_at p) 0) None)) e
    ∙ or_nothing (first_in_definitions number_at ps name) in
    let types : GroupInContext → List Kind = λ (q : GroupInContext). attribute_values type_of q.group in
    let given : first_in_definitions types (ps ++ p ∷ []) name ≡ first_in_definitions types ps name = statement_more types ps p name
    ∙ ap (λ b. option_or (first_in_definitions types ps name) (cond b (slice_get (types p) 0) None)) e ∙ or_nothing (first_in_definitions types ps name) in
    let choice : first_in_definitions (choices_at c) (ps ++ p ∷ []) name ≡ first_in_definitions (choices_at c) ps name = statement_more (choices_at c) ps p name
    ∙ ap (λ b. option_or (first_in_definitions (choices_at c) ps name) (cond b (slice_get (choices_at c p) 0) None)) e
    ∙ or_nothing (first_in_definitions (choices_at c) ps name) in
    ap (λ o. record { first = o; given = first_in_definitions types (ps ++ p ∷ []) name; choice = first_in_definitions (choices_at c) (ps ++ p ∷ []) name })
    first
    ∙ ap (λ o. record { first = first_in_definitions number_at ps name; given = o; choice = first_in_definitions (choices_at c) (ps ++ p ∷ []) name }) given
    ∙ ap (λ o. record { first = first_in_definitions number_at ps name; given = first_in_definitions types ps name; choice = o }) choice)

pub about_more : (c : Contents) (ps : List GroupInContext) (p : GroupInContext) (name : List ℕ) → defines name p ≡ true
    → summary_in c (ps ++ p ∷ []) name ≡ first_summary (summary_in c ps name) (about_at c p)
about_more c ps p name e =
    let types : GroupInContext → List Kind = λ (q : GroupInContext). attribute_values type_of q.group in
    let first : first_in_definitions number_at (ps ++ p ∷ []) name ≡ option_or (first_in_definitions number_at ps name) (Some p.group.number) = statement_more
    number_at ps p name ∙ ap (λ b. option_or (first_in_definitions number_at ps name) (cond b (slice_get (number_at p) 0) None)) e in
    let given : first_in_definitions types (ps ++ p ∷ []) name ≡ option_or (first_in_definitions types ps name) (slice_get (types p) 0) = statement_more types
    ps p name ∙ ap (λ b. option_or (first_in_definitions types ps name) (cond b (slice_get (types p) 0) None)) e in
    let choice : first_in_definitions (choices_at c) (ps ++ p ∷ []) name ≡ option_or (first_in_definitions (choices_at c) ps name) (enclosing_choice c p) =
    statement_more (choices_at c) ps p name ∙ ap (λ b. option_or (first_in_definitions (choices_at c) ps name) (cond b (slice_get (choices_at c p) 0) None)) e
    ∙ ap (option_or (first_in_definitions (choices_at c) ps name)) (first_of_option (enclosing_choice c p)) in
    ap (λ o. record { first = o; given = first_in_definitions types (ps ++ p ∷ []) name; choice = first_in_definitions (choices_at c) (ps ++ p ∷ []) name })
    first
    ∙ ap (λ o. record {
      first = option_or (first_in_definitions number_at ps name) (Some p.group.number);
      given = o;
      choice = first_in_definitions
          (choices_at c) (ps ++ p ∷ []) name;
    }) given
    ∙ ap (λ o. record {
      first = option_or (first_in_definitions number_at ps name) (Some p.group.number);
      given = option_or (first_in_definitions types ps name)
          (slice_get (types p) 0);
      choice = o;
    }) choice

-- one element of a list that is mapped changes
map_unchanged : {X Y : Type 0} (f h : X → Y) (zs : List X) → ((j : ℕ) (z : X) → slice_get zs j ≡ Some z → h z ≡ f z) → map h zs ≡ map f zs
map_unchanged f h [] k = refl
map_unchanged f h (z ∷ zs) k = rw (k 0 z refl, map_unchanged f h zs (λ j w g. k (suc j) w g)) refl

pub map_changed : {X Y : Type 0} (f h : X → Y) (xs : List X) (s : ℕ) (x : X) → slice_get xs s ≡ Some x
    → ((j : ℕ) (y : X) → slice_get xs j ≡ Some y → (j ≡ s → ⊥) → h y ≡ f y) → map h xs ≡ set (map f xs) s (h x)
map_changed f h [] s x e other = cc
map_changed f h (y ∷ xs) zero x e other =
    let same : y ≡ x = cc in
    ap (λ z. h z ∷ map h xs) same ∙ ap (λ zs. h x ∷ zs) (map_unchanged f h xs (λ j z g. other (suc j) z g (λ n. let k : suc j ≡ 0 = n in omega arith)))
map_changed f h (y ∷ xs) (suc s) x e other =
    let head : h y ≡ f y = other 0 y refl (λ n. let k : 0 ≡ suc s = n in omega arith) in
    ap (λ z. z ∷ map h xs) head ∙ ap (λ zs. f y ∷ zs) (map_changed f h xs s x e
    (λ j z g n. other (suc j) z g (λ m. let k : suc j ≡ suc s = m in n (omega arith))))

pub map_same : {X Y : Type 0} (f h : X → Y) (xs : List X) → ((y : X) → h y ≡ f y) → map h xs ≡ map f xs
map_same f h [] k = refl
map_same f h (x ∷ xs) k = rw (k x, map_same f h xs k) refl

-- a `config` group defines a name exactly if its own name equals it
pub defines_by : (p : GroupInContext) (name y : List ℕ) → p.group.head ≡ of_head (config name) → defines y p ≡ bytes_eq name y
defines_by p name y e = ap (λ w. elim (from_head name_of_head w) as (λ _. Bool) [ None ↦ false | Some x ↦ bytes_eq x y ]) e

pub defines_none : (p : GroupInContext) (y : List ℕ) → defined_name p.group ≡ None → defines y p ≡ false
defines_none p y e = ap (λ o. elim o as (λ _. Bool) [ None ↦ false | Some x ↦ bytes_eq x y ]) e

not_same : (b : Bool) → (b ≡ true → ⊥) → b ≡ false
not_same true h = absurd (h refl)
not_same false h = refl

-- one more definition changes only its own symbol's summary, where it fills in the values still missing
pub abouts_more : (c : Contents) (ps : List GroupInContext) (p : GroupInContext) (name : List ℕ) (s : ℕ) → Differ c.names → p.group.head ≡ of_head (config name)
    → slice_get c.names s ≡ Some name
    → symbol_summaries c (ps ++ p ∷ []) ≡ set (symbol_summaries c ps) s (first_summary (summary_in c ps name) (about_at c p))
abouts_more c ps p name s differ w at =
    map_changed (summary_in c ps) (summary_in c (ps ++ p ∷ [])) c.names s name at
    (λ j y g n. about_same c ps p y (defines_by p name y w ∙ not_same (bytes_eq name y)
    (λ b. n (at_most_once name c.names j s differ (g ∙ ap Some (sym (same_text name y b))) at))))
    ∙ ap (set (symbol_summaries c ps) s) (about_more c ps p name (defines_by p name name w ∙ text_same name name refl))

pub abouts_same : (c : Contents) (ps : List GroupInContext) (p : GroupInContext) → defined_name p.group ≡ None
    → symbol_summaries c (ps ++ p ∷ []) ≡ symbol_summaries c ps
abouts_same c ps p e = map_same (summary_in c ps) (summary_in c (ps ++ p ∷ [])) c.names (λ y. about_same c ps p y (defines_none p y e))

-- the types that attribute lines of the model give are those that the stored lines give
pub types_of_lines : (e : Exprs) (ls : List CodeLine)
    → filter_map (λ (l : Line). type_of l.attribute) (map (λ (l : CodeLine). record { number = l.number; attribute = attribute_in e l.attribute }) ls)
    ≡ filter_map (type_in e) ls
types_of_lines e [] = refl
types_of_lines e (l ∷ ls) = ap (cons_option (type_of (attribute_in e l.attribute))) (types_of_lines e ls)
