-- The enclosing choice of each group.
use Rattle.kc_checks.proofs.Common.{◌≡◌, inl, inr, ℕ, zero, suc, ◌+◌, ◌-◌, ◌<◌, Bool, true, false, cond, List, [], ◌∷◌, ◌++◌, length, drop, map, reverse, Option, Some, refl, ap, sym, subst, ◌∙◌, arith, append-nil, length-append, filter, option_and_then, option_map, ◌==◌, eq-eqb, eqb-true, map-append}
use Rattle.kc_checks.proofs.Common.{filter-append, Exprs, choice, Group, GroupHead, of_head, open_blocks, opens_choice, GroupInContext, group_in_context, groups_in_context, Contents, contents_of, choice_number, Has, has-filter, group-placed, has_mapped, RepresentsHead, RepresentsGroups, read_before}
use Rattle.kc_checks.proofs.Common.{enclosing_choice, get_or_from_slice_get, group_at, is_choice_code, map-get, no_group, slice_get, CodeHead, CodeGroup, CodeLine}
use Rattle.std.proofs.lemmas.List.{reverse-append, reverse-reverse}
use Rattle.kc_tree_model.specs.declared.statement.Head.TheVariants.{Menu as menu, Source as source}
use Rattle.kc_tree_model.specs.Blocks.{side_of, opening, closing, inside}
use Rattle.kc_tree_model.specs.Conditions.{choice_among}
use Rattle.kc_tree_model.specs.Contents.{index_of_number}
use Rattle.kc_tree_model.proofs.NestedTrees.OpenBlocks.{open_inside, popped, pushed}
use Rattle.kc_tree_model.proofs.Consistency.Lists.{filter-has, get-map, has-number, number_of_more}
use Rattle.kc_tree_model.proofs.Consistency.Places.{choice_read}
use Rattle.kc_tree_model.proofs.Consistency.Units.{mapped_has}
use Rattle.kc_parser.specs.declared.listing.GroupHead.TheVariants as codes
use Rattle.kc_parser.specs.between.EnclosingChoices.{HaveChoices, begins_choice, choices_opened, choices_opened_after, innermost_choice}
use Rattle.kc_parser.proofs.ChoiceSteps.{begins_is}
use Rattle.kc_checks.proofs.GroupPlaces.{AreNumbers, all_before, are_numbers, none_before, numbers_before, placed_before, shown_at}

abbrev choice_of : CodeGroup → Option ℕ
choice_of g = g.choice

-- the numbers of the groups that open choices, in reading order
abbrev pub numbers_of_choices : List Group → List ℕ
numbers_of_choices read = map (λ (p : GroupInContext). p.group.number) (filter (λ (p : GroupInContext). opens_choice p.group) (groups_in_context read))

abbrev opens : GroupInContext → Bool
opens p = opens_choice p.group

abbrev number : GroupInContext → ℕ
number p = p.group.number

own_number : Bool → ℕ → List ℕ
own_number true n = n ∷ []
own_number false n = []

one_choice : (b : Bool) (p : GroupInContext) → map number (cond b (p ∷ []) []) ≡ own_number b p.group.number
unfolding own_number
one_choice true p = refl
one_choice false p = refl

numbers_more : (g : Group) (before : List Group) → numbers_of_choices (g ∷ before) ≡ numbers_of_choices before ++ own_number (opens_choice g) g.number
numbers_more g before =
    ap (map number) (filter-append opens (groups_in_context before) (group_in_context (open_blocks 0 before) g ∷ []))
    ∙ map-append number (filter opens (groups_in_context before)) (filter opens (group_in_context (open_blocks 0 before) g ∷ []))
    ∙ ap (λ ns. numbers_of_choices before ++ ns) (one_choice (opens_choice g) (group_in_context (open_blocks 0 before) g))

pub choices_more : (g : Group) (before : List Group) → opens_choice g ≡ true → numbers_of_choices (g ∷ before) ≡ numbers_of_choices before ++ g.number ∷ []
unfolding own_number
choices_more g before e = numbers_more g before ∙ ap (λ b. numbers_of_choices before ++ own_number b g.number) e

pub choices_same : (g : Group) (before : List Group) → opens_choice g ≡ false → numbers_of_choices (g ∷ before) ≡ numbers_of_choices before
unfolding own_number
choices_same g before e = numbers_more g before ∙ ap (λ b. numbers_of_choices before ++ own_number b g.number) e ∙ append-nil (numbers_of_choices before)

pub count_more : (g : Group) (before : List Group) → opens_choice g ≡ true → length (numbers_of_choices (g ∷ before)) ≡ length (numbers_of_choices before) + 1
count_more g before e = ap length (choices_more g before e) ∙ length-append (numbers_of_choices before) (g.number ∷ [])

-- they are numbers of groups that were read
pub number_small : (read : List Group) → AreNumbers read → (g : Group) → Has g read → g.number < length read
number_small [] a g h = absurd h
number_small (x ∷ before) a g (inl e) = let same : x.number ≡ g.number = ap (λ (y : Group). y.number) e in let n = a.0 in omega arith
number_small (x ∷ before) a g (inr h) = let k = number_small before a.1 g h in omega arith

choices_small : (read : List Group) → AreNumbers read → (n : ℕ) → Has n (numbers_of_choices read) → n < length read
choices_small read a n h =
    let p = has_mapped number (filter opens (groups_in_context read)) n h in
    let q = has-filter opens (groups_in_context read) p.0 p.1 in
    let l = number_small read a p.0.group (group-placed p.0 read q.0) in
    let e = p.2 in
    omega arith

numbers_before_others : (k : ℕ) (read : List Group) → (rest : List ℕ) × (numbers_of_choices read ≡ numbers_of_choices (drop k read) ++ rest)
numbers_before_others k read =
    let r = placed_before k read in (
      map number (filter opens r.0),
      ap (λ ps. map number (filter opens ps)) r.1
          ∙ ap (map number) (filter-append opens (groups_in_context (drop k read)) r.0)
          ∙ map-append number (filter opens (groups_in_context (drop k read))) (filter opens r.0),
    )

place_after : (n k : ℕ) (ks rest : List ℕ) (b : Bool) → (k == n) ≡ b → (b ≡ true → ⊥) → index_of_number n ((ks ++ n ∷ []) ++ rest) ≡ Some (length ks)
    → cond b (Some 0) (option_map suc (index_of_number n ((ks ++ n ∷ []) ++ rest))) ≡ Some (suc (length ks))
place_after n k ks rest true e away ih = absurd (away refl)
place_after n k ks rest false e _ ih = ap (option_map suc) ih

place_first : (n : ℕ) (rest : List ℕ) (b : Bool) (o : Option ℕ) → b ≡ true → cond b (Some 0) (option_map suc o) ≡ Some 0
place_first n rest true o e = refl
place_first n rest false o e = cc

place_there : (n : ℕ) (ks rest : List ℕ) → (Has n ks → ⊥) → index_of_number n ((ks ++ n ∷ []) ++ rest) ≡ Some (length ks)
place_there n [] rest _ = number_of_more n n rest ∙ place_first n rest (n == n) (index_of_number n rest) (eq-eqb n n refl)
place_there n (k ∷ ks) rest away =
    number_of_more n k ((ks ++ n ∷ []) ++ rest)
    ∙ place_after n k ks rest (k == n) refl (λ e. away (inl (eqb-true k n e))) (place_there n ks rest (λ h. away (inr h)))

-- the number of a choice is how many choices begin before it
number_after : (read : List Group) (k : ℕ) (m : Group) (prior : List Group) → AreNumbers (drop k read) → drop k read ≡ m ∷ prior → opens_choice m ≡ true
    → choice_number (contents_of read) m.number ≡ Some (length (numbers_of_choices prior))
number_after read k m prior b now e =
    let r = numbers_before_others k read in
    let d : AreNumbers (m ∷ prior) = subst AreNumbers now b in
    let apart : Has m.number (numbers_of_choices prior) → ⊥ = λ h. let l = choices_small prior d.1 m.number h in let n = d.0 in omega arith in
    ap (index_of_number m.number) (r.1 ∙ ap (λ ns. ns ++ r.0) (ap numbers_of_choices now ∙ choices_more m prior e))
    ∙ place_there m.number (numbers_of_choices prior) r.0 apart

pub number_counts : (read : List Group) (i : ℕ) (m : Group) → AreNumbers read → AreNumbers (read_before (i + 1) read)
    → read_before (i + 1) read ≡ m ∷ read_before i read → opens_choice m ≡ true
    → choice_number (contents_of read) m.number ≡ Some (length (numbers_of_choices (read_before i read)))
number_counts read i m a b now e =
    number_after read (length read - (i + 1)) m (read_before i read) b now e

-- each choice that encloses a group has a number among the choices
pub enclosing_numbered : (read : List Group) (p : GroupInContext) (n : ℕ) → Has p (groups_in_context read) → p.choice ≡ Some n
    → (k : ℕ) × (choice_number (contents_of read) n ≡ Some k)
enclosing_numbered read p n h e =
    let q = choice_read p read n h e in
    let there : Has q.0.group.number (numbers_of_choices read) = mapped_has number (filter opens (groups_in_context read)) q.0
    (filter-has opens (groups_in_context read) q.0 q.1 q.3) in
    has-number n (numbers_of_choices read) (subst (λ m. Has m (numbers_of_choices read)) q.2 there)

-- for each open block, innermost first, the number of the choice that encloses it or is it
abbrev open_choices : Contents → List Group → List (Option ℕ)
open_choices c [] = []
open_choices c (g ∷ outer) = option_and_then (choice_number c) (choice_among (g ∷ outer)) ∷ open_choices c outer

-- the first of the choices of the open blocks, innermost first, is the enclosing choice of the context inside these blocks
innermost_is : (c : Contents) (opened : List Group) → innermost_choice (open_choices c opened) ≡ option_and_then (choice_number c) (choice_among opened)
innermost_is c [] = refl
innermost_is c (g ∷ outer) = refl

dropped : (c : Contents) (opened : List Group) → open_choices c (drop 1 opened) ≡ drop 1 (open_choices c opened)
dropped c [] = refl
dropped c (g ∷ outer) = refl

opens_same : (c : Contents) (g : Group) (before : List Group) (w : GroupHead) → g.head ≡ w → side_of w ≡ opening → opens_choice g ≡ false
    → open_choices c (open_blocks 0 (g ∷ before)) ≡ innermost_choice (open_choices c (open_blocks 0 before)) ∷ open_choices c (open_blocks 0 before)
opens_same c g before w e side other =
    let outer : List Group = open_blocks 0 before in
    ap (open_choices c) (pushed g before (ap side_of e ∙ side))
    ∙ ap (λ o. o ∷ open_choices c outer)
    (ap (λ b. option_and_then (choice_number c) (cond b (Some g.number) (choice_among outer))) other ∙ sym (innermost_is c outer))

opens_own : (c : Contents) (g : Group) (before : List Group) (n : ℕ) → g.head ≡ of_head choice → choice_number c g.number ≡ Some n
    → open_choices c (open_blocks 0 (g ∷ before)) ≡ Some n ∷ open_choices c (open_blocks 0 before)
opens_own c g before n e number =
    let outer : List Group = open_blocks 0 before in
    let own : opens_choice g ≡ true = rw e refl in
    ap (open_choices c) (pushed g before (ap side_of e))
    ∙ ap (λ o. o ∷ open_choices c outer) (ap (λ b. option_and_then (choice_number c) (cond b (Some g.number) (choice_among outer))) own ∙ number)

closes : (c : Contents) (g : Group) (before : List Group) → side_of g.head ≡ closing
    → open_choices c (open_blocks 0 (g ∷ before)) ≡ drop 1 (open_choices c (open_blocks 0 before))
closes c g before e = ap (open_choices c) (popped g before e) ∙ dropped c (open_blocks 0 before)

stays : (c : Contents) (g : Group) (before : List Group) → side_of g.head ≡ inside
    → open_choices c (open_blocks 0 (g ∷ before)) ≡ open_choices c (open_blocks 0 before)
stays c g before e = ap (open_choices c) (open_inside 0 g before e)

opened_is : (c : Contents) (e : Exprs) (names texts : List (List ℕ)) (what : CodeHead) (g : Group) (before : List Group) (n : ℕ)
    → RepresentsHead e names texts what g.head
    → (is_choice_code what ≡ true → choice_number c g.number ≡ Some n)
    → open_choices c (open_blocks 0 (g ∷ before)) ≡ choices_opened_after what n (open_choices c (open_blocks 0 before))
opened_is c e names texts (codes.Config s) g before n h number = stays c g before (ap side_of h.2)
opened_is c e names texts codes.Choice g before n h number = opens_own c g before n h (number refl)
opened_is c e names texts (codes.Menu t) g before n h number = opens_same c g before (of_head (menu h.0)) h.2 refl (rw h.2 refl)
opened_is c e names texts (codes.Condition id) g before n h number = opens_same c g before _ h.1 refl (rw h.1 refl)
opened_is c e names texts (codes.Comment t) g before n h number = stays c g before (ap side_of h.2)
opened_is c e names texts (codes.Source t) g before n h number = opens_same c g before (of_head (source h.0)) h.2 refl (rw h.2 refl)
opened_is c e names texts codes.Mainmenu g before n h number = stays c g before (ap side_of h)
opened_is c e names texts (codes.Ends b) g before n h number = closes c g before (ap side_of h)
opened_is c e names texts codes.FileEnd g before n h number = closes c g before (ap side_of h)

-- how many choices the first `i + 1` groups open
pub counted : (read : List Group) (i : ℕ) (m : Group) (b : Bool) (n : ℕ) → read_before (i + 1) read ≡ m ∷ read_before i read → opens_choice m ≡ b
    → n ≡ length (numbers_of_choices (read_before i read)) → cond b (n + 1) n ≡ length (numbers_of_choices (read_before (i + 1) read))
counted read i m true n now o e = ap (λ k. k + 1) e ∙ sym (ap (λ r. length (numbers_of_choices r)) now ∙ count_more m (read_before i read) o)
counted read i m false n now o e = e ∙ sym (ap (λ r. length (numbers_of_choices r)) now ∙ ap length (choices_same m (read_before i read) o))

-- before the first group no choice is counted
pub none_counted : (read : List Group) → 0 ≡ length (numbers_of_choices (read_before 0 read))
none_counted read = sym (ap (λ r. length (numbers_of_choices r)) (none_before read))

pub one_counted : (e : Exprs) (names texts : List (List ℕ)) (lines : List CodeLine) (groups : List CodeGroup) (read : List Group)
    → RepresentsGroups e names texts lines (length lines) (reverse groups) read → (i n n2 : ℕ) (what : CodeHead) → i < length groups
    → what ≡ (group_at groups i).head
    → n ≡ length (numbers_of_choices (read_before i read)) → n2 ≡ cond (is_choice_code what) (n + 1) n
    → n2 ≡ length (numbers_of_choices (read_before (i + 1) read))
one_counted e names texts lines groups read h i n n2 what l w c k =
    let s = shown_at e names texts lines groups read h i l in
    let shown : RepresentsHead e names texts what s.group.head = subst (λ v. RepresentsHead e names texts v s.group.head) (sym w) s.shown.head in
    k ∙ counted read i s.group (is_choice_code what) n s.now (begins_is e names texts what s.group shown) c

pub all_counted : (read : List Group) (i : ℕ) → i ≡ length read → length (numbers_of_choices (read_before i read)) ≡ length (contents_of read).choices
all_counted read i e = ap (λ r. length (numbers_of_choices r)) (ap (λ n. read_before n read) e ∙ all_before read)

-- the newest groups of a listing, up to some group, agree with those that were read: the choices of the open blocks, the number of
-- choices, and the choice of each group
record AreEnclosed (c : Contents) (gs : List CodeGroup) (ms : List Group) : Type 0 where
  blocks : choices_opened gs ≡ open_choices c (open_blocks 0 ms)
  count : length (filter begins_choice gs) ≡ length (numbers_of_choices ms)
  choices : map choice_of gs ≡ reverse (map (enclosing_choice c) (groups_in_context ms))

mapped_back : (gs : List CodeGroup) → map choice_of (reverse gs) ≡ reverse (map choice_of gs)
mapped_back [] = refl
mapped_back (g ∷ gs) =
    ap (map choice_of) (reverse-append (g ∷ []) gs)
    ∙ map-append choice_of (reverse gs) (g ∷ [])
    ∙ ap (λ cs. cs ++ choice_of g ∷ []) (mapped_back gs)
    ∙ sym (reverse-append (choice_of g ∷ []) (map choice_of gs))

dropped_one : (k : ℕ) (read : List Group) (m : Group) (ms : List Group) → drop k read ≡ m ∷ ms → drop (suc k) read ≡ ms
dropped_one zero [] m ms e = cc
dropped_one zero (x ∷ read) m ms e = ap (drop 1) e
dropped_one (suc k) [] m ms e = cc
dropped_one (suc k) (x ∷ read) m ms e = dropped_one k read m ms e

counts_more : (g : CodeGroup) (m : Group) (gs : List CodeGroup) (ms : List Group) (b : Bool) → begins_choice g ≡ b → opens_choice m ≡ b
    → length (filter begins_choice gs) ≡ length (numbers_of_choices ms) → length (filter begins_choice (g ∷ gs)) ≡ length (numbers_of_choices (m ∷ ms))
counts_more g m gs ms true w o e =
    ap (λ b. length (cond b (g ∷ filter begins_choice gs) (filter begins_choice gs))) w
    ∙ (let n : suc (length (filter begins_choice gs)) ≡ length (numbers_of_choices ms) + 1 = omega (arith, e) in n)
    ∙ sym (count_more m ms o)
counts_more g m gs ms false w o e =
    ap (λ b. length (cond b (g ∷ filter begins_choice gs) (filter begins_choice gs))) w ∙ e ∙ sym (ap length (choices_same m ms o))

module _ (e : Exprs) (names texts : List (List ℕ)) (lines : List CodeLine) (read : List Group) (a : AreNumbers read) where
  enclosed : (k end : ℕ) (gs : List CodeGroup) (ms : List Group) → RepresentsGroups e names texts lines end gs ms → HaveChoices gs → drop k read ≡ ms
      → AreEnclosed (contents_of read) gs ms
  enclosed k end [] [] h own r = record { blocks = refl; count = refl; choices = refl }
  enclosed k end [] (m ∷ ms) h own r = absurd h
  enclosed k end (g ∷ gs) [] h own r = absurd h
  enclosed k end (g ∷ gs) (m ∷ ms) h own r =
      let c : Contents = contents_of read in
      let outer : List Group = open_blocks 0 ms in
      let p : GroupInContext = group_in_context outer m in
      let n : ℕ = length (numbers_of_choices ms) in
      let i = enclosed (suc k) g.attributes gs ms h.2 own.1 (dropped_one k read m ms r) in
      let begins = begins_is e names texts g.head m h.0.head in
      record {
        blocks = ap (λ j. choices_opened_after g.head j (choices_opened gs)) i.count
            ∙ ap (choices_opened_after g.head n) i.blocks
            ∙ sym (opened_is c e names texts g.head m ms n h.0.head (λ w. number_after read k m ms (numbers_before k read a) r (begins ∙ w)));
        count = counts_more g m gs ms (begins_choice g) refl begins i.count;
        choices = ap (λ x. x ∷ map choice_of gs) (own.0 ∙ ap innermost_choice i.blocks ∙ innermost_is c outer)
            ∙ ap (λ xs. enclosing_choice c p ∷ xs) i.choices
            ∙ sym (ap reverse (map-append (enclosing_choice c) (groups_in_context ms) (p ∷ []))
            ∙ reverse-append (map (enclosing_choice c) (groups_in_context ms)) (enclosing_choice c p ∷ []));
      }

module _ (e : Exprs) (names texts : List (List ℕ)) (lines : List CodeLine) (groups : List CodeGroup) (read : List Group)
    (h : RepresentsGroups e names texts lines (length lines) (reverse groups) read) (own : HaveChoices (reverse groups)) where
  -- the groups of a listing have the numbers of the choices that enclose them
  pub choices_enclose : map choice_of groups ≡ map (enclosing_choice (contents_of read)) (groups_in_context read)
  choices_enclose =
      let a = are_numbers e names texts lines (length lines) (reverse groups) read h in
      let i = enclosed e names texts lines read a 0 (length lines) (reverse groups) read h own refl in
      sym (reverse-reverse (map choice_of groups))
      ∙ ap reverse (sym (mapped_back groups) ∙ i.choices)
      ∙ reverse-reverse (map (enclosing_choice (contents_of read)) (groups_in_context read))

  -- the group of a number has that of the choice that encloses it
  pub enclosing_got : (i : ℕ) (p : GroupInContext) → slice_get (groups_in_context read) i ≡ Some p
      → (group_at groups i).choice ≡ enclosing_choice (contents_of read) p
  enclosing_got i p at =
      let r = get-map choice_of groups i (enclosing_choice (contents_of read) p) (ap (λ xs. slice_get xs i) choices_enclose
      ∙ map-get (enclosing_choice (contents_of read)) (groups_in_context read) i p at) in
      ap choice_of (get_or_from_slice_get groups i r.0 no_group r.1) ∙ r.2
