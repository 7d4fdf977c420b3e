-- A statement appended to those that were read before.
use Rattle.kc_parser.proofs.Common.{◌≡◌, ◌↔◌, ℕ, suc, ◌+◌, ◌-◌, ◌<◌, ◌≤◌, Bool, true, false, List, [], ◌∷◌, ◌++◌, length, drop, take, map, Option, Some, None, Result, Ok, Err, OnOk, refl, ap, sym, subst, ◌∙◌, arith, reverse, cond, ◌||◌, length-append, length-drop, slice_get, slice_range, filter}
use Rattle.kc_parser.proofs.Common.{filter_map, All, IsSome, is_some, option_map, bytes_eq, append-nil, drop-append-le, map-append, take-length, sum_by-cons, Exprs, Grows, Attribute, same_block, config, choice, menu, condition, comment, source, mainmenu, ends, path_of_head, Block, Group, GroupHead}
use Rattle.kc_parser.proofs.Common.{of_head, file_end, open_blocks, from_head, defined_name, sourced_path, opens_choice, is_in_list, FileSource, names_defined, size_in, with_group, place_of_more, place_of_none, index_of_name, with_name, attribute_in, bytes_eq-Decides, All-append, All-cons, All-nil}
use Rattle.kc_parser.proofs.Common.{OpenBlock, HasNames, RepresentsHead, line_in, LineNodesExist, RepresentsGroup, RepresentsGroups, RepresentsLists, RepresentsOpenBlock, RepresentsOpenBlocks, IsCounted, at_line, HaveChoices, choices_opened, innermost_choice}
use Rattle.std.specs.Prelude.{option_to_list}
use Rattle.std.proofs.lemmas.List.{reverse-append, take_all}
use Rattle.kc_tree_model.specs.Statements.{name_of_head, block_of_head}
use Rattle.kc_tree_model.specs.declared.keyword.Block.TheVariants as blocks
use Rattle.kc_tree_model.specs.Blocks.{Side, side_of, opening, closing, inside}
use Rattle.kc_tree_model.specs.Limits.{without_repeats}
use Rattle.kc_tree_model.specs.TreeReading.{with_attribute}
use Rattle.kc_tree_model.proofs.NestedTrees.OpenBlocks.{pushed, popped, open_inside}
use Rattle.kc_parser.specs.declared.listing.Group.{Group as CodeGroup}
use Rattle.kc_parser.specs.declared.listing.Line.{Line as CodeLine}
use Rattle.kc_parser.specs.declared.listing.GroupHead.{GroupHead as CodeHead}
use Rattle.kc_parser.specs.declared.listing.GroupHead.TheVariants as codes
use Rattle.std.proofs.lemmas.Bool.Decides.{same_from_decides}
use Rattle.std.proofs.lemmas.List.Folds.{list_any-append}
use Rattle.kc_parser.specs.declared.state.OpenBlock.TheVariants as opens
use Rattle.kc_parser.proofs.ListingGrowth.{groups_later, lines_held, get_more}
use Rattle.kc_parser.proofs.NameLemmas.{names_later}

pub on_both : {A E : Type 0} (r : Result A E) (P R Q : Type 0) → (P → R → Q) → OnOk r P → OnOk r R → OnOk r Q
on_both (Ok x) P R Q f h k = f h k
on_both (Err e) P R Q f h k = tt

empty_range : {A : Type 0} (xs : List A) (n : ℕ) → slice_range xs n n ≡ []
empty_range xs n = let e : n - n ≡ 0 = omega arith in rw e refl

pub reverse_push : {A : Type 0} (xs : List A) (x : A) → reverse (xs ++ x ∷ []) ≡ x ∷ reverse xs
reverse_push xs x = reverse-append xs (x ∷ [])

pub grows_same : (e : Exprs) → Grows e e
grows_same e = record { names = take-length e.names; nodes = take-length e.nodes }

-- a listing represents the same statements after more expressions and texts were appended to its arena and its texts
pub lists_grown : (old new : Exprs) (symbols numbers : List ℕ) (texts ts texts2 : List (List ℕ)) (lines : List CodeLine) (groups : List CodeGroup)
    (read : List Group)
    → Grows old new → texts2 ≡ texts ++ ts
    → RepresentsLists old symbols numbers texts lines groups read → RepresentsLists new symbols numbers texts2 lines groups read
lists_grown old new symbols numbers texts ts texts2 lines groups read grows e h = record {
  names = names_later old new symbols numbers (names_defined read) grows h.names;
  held = lines_held old new grows lines h.held;
  groups_are = groups_later old new grows (names_defined read) [] (names_defined read) texts ts texts2 lines [] lines (sym (append-nil (names_defined read))) e
      (sym (append-nil lines)) h.held (reverse groups) read (length lines) (omega arith) h.groups_are;
  choices_are = h.choices_are;
}

-- a listing represents the same statements after its arena has grown, with any tables of symbols that have the same names
pub lists_names : (old new : Exprs) (symbols numbers symbols2 numbers2 : List ℕ) (texts : List (List ℕ)) (lines : List CodeLine) (groups : List CodeGroup)
    (read : List Group)
    → Grows old new → HasNames new symbols2 numbers2 (names_defined read)
    → RepresentsLists old symbols numbers texts lines groups read → RepresentsLists new symbols2 numbers2 texts lines groups read
lists_names old new symbols numbers symbols2 numbers2 texts lines groups read grows has h =
    let k = lists_grown old new symbols numbers texts [] texts lines groups read grows (sym (append-nil texts)) h in
    record { names = has; held = k.held; groups_are = k.groups_are; choices_are = k.choices_are }

-- a listing with one more group at its end, which may define a new symbol, represents the statements with the group's
-- statement appended
pub lists_pushed : (old new : Exprs) (symbols numbers symbols2 numbers2 : List ℕ) (ns texts : List (List ℕ)) (lines : List CodeLine)
    (groups groups2 : List CodeGroup) (read : List Group) (file line n : ℕ) (what : CodeHead) (around : Option ℕ) (m : GroupHead)
    → Grows old new
    → n ≡ length lines → groups2 ≡ groups ++ record { file = file; line = line; head = what; attributes = n; choice = around } ∷ []
    → RepresentsLists old symbols numbers texts lines groups read → names_defined (with_group (at_line file line) m read) ≡ names_defined read ++ ns
    → HasNames new symbols2 numbers2 (names_defined read ++ ns)
    → RepresentsHead new (names_defined read ++ ns) texts what m
    → around ≡ innermost_choice (choices_opened (reverse groups))
    → RepresentsLists new symbols2 numbers2 texts lines groups2 (with_group (at_line file line) m read)
lists_pushed old new symbols numbers symbols2 numbers2 ns texts lines groups groups2 read file line n what around m grows len push h names has shown enclosed =
    let kept : RepresentsGroups new (names_defined read ++ ns) texts lines (length lines) (reverse groups) read =
    groups_later old new grows (names_defined read) ns (names_defined read ++ ns) texts [] texts lines [] lines refl (sym (append-nil texts))
    (sym (append-nil lines)) h.held (reverse groups) read (length lines) (omega arith) h.groups_are in
    let own : RepresentsGroup new (names_defined read ++ ns) texts (slice_range lines (length lines) (length lines)) (length read)
    (record { file = file; line = line; head = what; attributes = length lines; choice = around })
    (record { number = length read; at = at_line file line; head = m; attributes = [] }) =
    record { number_is = refl; file_is = refl; line_is = refl; head = shown; attributes = sym (ap (map (line_in new)) (empty_range lines (length lines))) } in
    record {
      names = rw names has;
      held = lines_held old new grows lines h.held;
      groups_are = rw (names, push, reverse_push groups (record { file = file; line = line; head = what; attributes = n; choice = around }), len)
          (own, (let k : length lines ≤ length lines = omega arith in k), kept);
      choices_are = subst HaveChoices (sym (ap reverse push ∙ reverse_push groups (record { file = file; line = line; head = what; attributes = n; choice = around })))
          (enclosed, h.choices_are);
    }

-- the end of a block or of a sourced file defines no symbol
pub closing_name : (m : GroupHead) → side_of m ≡ closing → from_head name_of_head m ≡ None
closing_name (of_head (ends b)) e = refl
closing_name (of_head x) e = cc
closing_name file_end e = refl

closing_block : (m : GroupHead) → side_of m ≡ closing → from_head block_of_head m ≡ None
closing_block (of_head (ends b)) e = refl
closing_block (of_head x) e = cc
closing_block file_end e = refl

closing_path : (m : GroupHead) → side_of m ≡ closing → from_head path_of_head m ≡ None
closing_path (of_head (ends b)) e = refl
closing_path (of_head x) e = cc
closing_path file_end e = refl

-- a group that defines no symbol leaves the names of the defined symbols as they are
pub same_names : (file line : ℕ) (m : GroupHead) (read : List Group) → from_head name_of_head m ≡ None
    → names_defined (with_group (at_line file line) m read) ≡ names_defined read ++ []
same_names file line m read e = rw e (sym (append-nil (names_defined read)))

-- a listing with one more group at its end, which defines no symbol, represents the statements with the group's
-- statement appended
pub lists_put_same : (e : Exprs) (symbols numbers : List ℕ) (texts : List (List ℕ)) (lines : List CodeLine) (groups groups2 : List CodeGroup)
    (read : List Group) (file line n : ℕ) (what : CodeHead) (around : Option ℕ) (m : GroupHead)
    → n ≡ length lines → groups2 ≡ groups ++ record { file = file; line = line; head = what; attributes = n; choice = around } ∷ []
    → RepresentsLists e symbols numbers texts lines groups read → from_head name_of_head m ≡ None
    → RepresentsHead e (names_defined read) texts what m
    → around ≡ innermost_choice (choices_opened (reverse groups))
    → RepresentsLists e symbols numbers texts lines groups2 (with_group (at_line file line) m read)
lists_put_same e symbols numbers texts lines groups groups2 read file line n what around m len push h none shown enclosed =
    lists_pushed e e symbols numbers symbols numbers [] texts lines groups groups2 read file line n what around m (grows_same e) len push h
    (same_names file line m read none)
    (rw (append-nil (names_defined read)) h.names) (rw (append-nil (names_defined read)) shown) enclosed

-- nor does a statement inside a block, but for a name
inside_block : (m : GroupHead) → side_of m ≡ inside → from_head block_of_head m ≡ None
inside_block (of_head (config name)) e = refl
inside_block (of_head (comment title)) e = refl
inside_block (of_head mainmenu) e = refl
inside_block (of_head x) e = cc
inside_block file_end e = cc

inside_path : (m : GroupHead) → side_of m ≡ inside → from_head path_of_head m ≡ None
inside_path (of_head (config name)) e = refl
inside_path (of_head (comment title)) e = refl
inside_path (of_head mainmenu) e = refl
inside_path (of_head x) e = cc
inside_path file_end e = cc

-- what opens a block is no file, and defines nothing
block_path : (m : GroupHead) (b : Block) → from_head block_of_head m ≡ Some b → from_head path_of_head m ≡ None
block_path (of_head (source path)) b e = cc
block_path (of_head x) b e = refl
block_path file_end b e = refl

block_side : (m : GroupHead) (b : Block) → from_head block_of_head m ≡ Some b → side_of m ≡ opening
block_side (of_head choice) b e = refl
block_side (of_head (menu title)) b e = refl
block_side (of_head (condition x)) b e = refl
block_side (of_head x) b e = cc
block_side file_end b e = cc

pub block_name : (m : GroupHead) (b : Block) → from_head block_of_head m ≡ Some b → from_head name_of_head m ≡ None
block_name (of_head (config name)) b e = cc
block_name (of_head x) b e = refl
block_name file_end b e = refl

-- a `config` with the number of its symbol
bytes_same : (x y : List ℕ) → bytes_eq x y ≡ bytes_eq y x
bytes_same x y =
    same_from_decides (bytes_eq x y) (bytes_eq y x) (bytes_eq-Decides x y) ((λ e. sym ((bytes_eq-Decides y x).0 e)), (λ p. (bytes_eq-Decides y x).1 (sym p)))

among_any : (x : List ℕ) (xs : List (List ℕ)) → is_some (index_of_name x xs) ≡ is_in_list x xs
among_any x [] = ap is_some (place_of_none x)
among_any x (y ∷ ys) =
    ap is_some (place_of_more x y ys)
    ∙ step (bytes_eq x y) (bytes_eq y x) (bytes_same x y) (index_of_name x ys) (is_in_list x ys) (among_any x ys)
  where
    step : (a b : Bool) → a ≡ b → (o : Option ℕ) (r : Bool) → is_some o ≡ r → is_some (cond a (Some 0) (option_map suc o)) ≡ (b || r)
    step true b e o r f = rw (← e) refl
    step false b e None r f = rw (← e) f
    step false b e (Some i) r f = rw (← e) f

among_append : (x : List ℕ) (xs ys : List (List ℕ)) → is_in_list x (xs ++ ys) ≡ (is_in_list x xs || is_in_list x ys)
among_append x xs ys = list_any-append (λ y. bytes_eq y x) xs ys

among_once : (x : List ℕ) (xs : List (List ℕ)) → is_in_list x (without_repeats xs) ≡ is_in_list x xs
among_once x [] = refl
among_once x (y ∷ ys) = by_among (is_in_list y ys) refl (among_once x ys)
  where
    seen : (b : Bool) → bytes_eq y x ≡ b → is_in_list y ys ≡ true → is_in_list x ys ≡ (b || is_in_list x ys)
    seen false e h = refl
    seen true e h = ap (λ z. is_in_list z ys) (sym ((bytes_eq-Decides y x).0 e)) ∙ h

    either_way : (a b : Bool) → (a || (b || false)) ≡ (b || a)
    either_way true true = refl
    either_way true false = refl
    either_way false true = refl
    either_way false false = refl

    by_among : (b : Bool) → is_in_list y ys ≡ b → is_in_list x (without_repeats ys) ≡ is_in_list x ys
        → is_in_list x (cond b (without_repeats ys) (without_repeats ys ++ y ∷ [])) ≡ (bytes_eq y x || is_in_list x ys)
    by_among true h ih = ih ∙ seen (bytes_eq y x) refl h
    by_among false h ih =
        among_append x (without_repeats ys) (y ∷ []) ∙ either_way (is_in_list x (without_repeats ys)) (bytes_eq y x) ∙ ap (λ a. bytes_eq y x || a) ih

pub place_among : (x : List ℕ) (read : List Group) → is_some (index_of_name x (names_defined read)) ≡ is_in_list x (filter_map defined_name read)
place_among x read = among_any x (names_defined read) ∙ among_once x (filter_map defined_name read)

more_names : Bool → List ℕ → List (List ℕ)
more_names true x = []
more_names false x = x ∷ []

with_more : (x : List ℕ) (names : List (List ℕ)) → with_name x names ≡ names ++ more_names (is_some (index_of_name x names)) x
unfolding more_names
with_more x names = by_there (is_some (index_of_name x names))
  where
    by_there : (b : Bool) → cond b names (names ++ x ∷ []) ≡ names ++ more_names b x
    by_there true = sym (append-nil names)
    by_there false = refl

pub names_with : (file line : ℕ) (x : List ℕ) (read : List Group)
    → names_defined (with_group (at_line file line) (of_head (config x)) read) ≡ with_name x (names_defined read)
names_with file line x read = ap (λ b. cond b (names_defined read) (names_defined read ++ x ∷ [])) (sym (place_among x read))

pub lists_put_config : (old new : Exprs) (symbols numbers symbols2 numbers2 : List ℕ) (texts : List (List ℕ)) (lines : List CodeLine)
    (groups groups2 : List CodeGroup) (read : List Group) (file line n s : ℕ) (around : Option ℕ) (x : List ℕ)
    → Grows old new
    → n ≡ length lines → groups2 ≡ groups ++ record { file = file; line = line; head = codes.Config s; attributes = n; choice = around } ∷ []
    → RepresentsLists old symbols numbers texts lines groups read
    → HasNames new symbols2 numbers2 (with_name x (names_defined read))
    → slice_get (with_name x (names_defined read)) s ≡ Some x
    → around ≡ innermost_choice (choices_opened (reverse groups))
    → RepresentsLists new symbols2 numbers2 texts lines groups2 (with_group (at_line file line) (of_head (config x)) read)
lists_put_config old new symbols numbers symbols2 numbers2 texts lines groups groups2 read file line n s around x grows len push h has at enclosed =
    let e = with_more x (names_defined read) in
    lists_pushed old new symbols numbers symbols2 numbers2 (more_names (is_some (index_of_name x (names_defined read))) x) texts lines groups groups2 read file
    line n (codes.Config s) around (of_head (config x)) grows len push h
    (names_with file line x read ∙ e) (subst (HasNames new symbols2 numbers2) e has) (x, subst (λ names. slice_get names s ≡ Some x) e at, refl) enclosed

-- an attribute of the newest group
range_more : {A : Type 0} (xs : List A) (x : A) (a : ℕ) → a ≤ length xs → slice_range (xs ++ x ∷ []) a (length xs + 1) ≡ slice_range xs a (length xs) ++ x ∷ []
range_more xs x a h =
    let d = length-drop a xs in
    ap (take (length xs + 1 - a)) (drop-append-le a xs (x ∷ []) h)
    ∙ take_all (length xs + 1 - a) (drop a xs ++ x ∷ []) (omega (arith, d, length-append (drop a xs) (x ∷ [])))
    ∙ ap (λ ys. ys ++ x ∷ []) (sym (take_all (length xs - a) (drop a xs) (omega (arith, d))))

pub lists_attribute : (e : Exprs) (symbols numbers : List ℕ) (texts : List (List ℕ)) (lines lines2 : List CodeLine) (groups : List CodeGroup)
    (read : List Group) (l : CodeLine)
    → lines2 ≡ lines ++ l ∷ [] → LineNodesExist e l → RepresentsLists e symbols numbers texts lines groups read
    → RepresentsLists e symbols numbers texts lines2 groups (with_attribute l.number (attribute_in e l.attribute) read)
lists_attribute e symbols numbers texts lines lines2 groups read l push held h = by_newest read (reverse groups) h.names h.groups_are refl
  where
    all : All (LineNodesExist e) lines2
    all =
        subst (All (LineNodesExist e)) (sym push) (All-append (LineNodesExist e) lines (l ∷ []) h.held
        (All-cons (LineNodesExist e) l [] held (All-nil (LineNodesExist e))))

    long : length lines2 ≡ length lines + 1
    long = ap length push ∙ length-append lines (l ∷ [])

    shown : (read : List Group) (gs : List CodeGroup) → RepresentsGroups e (names_defined read) texts lines (length lines) gs read
        → RepresentsGroups e (names_defined (with_attribute l.number (attribute_in e l.attribute) read)) texts lines2 (length lines2) gs
        (with_attribute l.number (attribute_in e l.attribute) read)
    shown [] [] k = tt
    shown [] (g ∷ gs) k = absurd k
    shown (m ∷ ms) [] k = absurd k
    shown (m ∷ ms) (g ∷ gs) k =
        let a = k.1 in (
          record {
            number_is = k.0.number_is;
            file_is = k.0.file_is;
            line_is = k.0.line_is;
            head = k.0.head;
            attributes = rw (long, push, range_more lines l g.attributes a, map-append (line_in e) (slice_range lines g.attributes (length lines)) (l ∷ []))
                (ap (λ ls. ls ++ line_in e l ∷ []) k.0.attributes);
          },
          omega (arith, long),
          groups_later e e (grows_same e) (names_defined (m ∷ ms)) [] (names_defined (m ∷ ms)) texts [] texts lines (l ∷ []) lines2
              (sym (append-nil (names_defined (m ∷ ms)))) (sym (append-nil texts)) push h.held gs ms g.attributes a k.2,
        )

    by_newest : (read : List Group) (gs : List CodeGroup) → HasNames e symbols numbers (names_defined read)
        → RepresentsGroups e (names_defined read) texts lines (length lines) gs read → (gs ≡ reverse groups)
        → RepresentsLists e symbols numbers texts lines2 groups (with_attribute l.number (attribute_in e l.attribute) read)
    by_newest [] gs n k f =
        record {
          names = n;
          held = all;
          groups_are = subst (λ ks. RepresentsGroups e (names_defined []) texts lines2 (length lines2) ks []) f (shown [] gs k);
          choices_are = h.choices_are;
        }
    by_newest (m ∷ ms) gs n k f =
        record {
          names = n;
          held = all;
          groups_are = subst (λ ks. RepresentsGroups e (names_defined (m ∷ ms)) texts lines2 (length lines2) ks
              (with_attribute l.number (attribute_in e l.attribute) (m ∷ ms))) f (shown (m ∷ ms) gs k);
          choices_are = h.choices_are;
        }

-- a stack whose top is taken off
popped_shown : (texts : List (List ℕ)) (old new : List OpenBlock) (o : Option OpenBlock) (bs : List Group) → old ≡ new ++ option_to_list o
    → IsSome o ↔ (0 < length old) → RepresentsOpenBlocks texts (reverse old) bs → RepresentsOpenBlocks texts (reverse new) (drop 1 bs)
popped_shown texts old new (Some o) bs e v h = top bs (subst (λ os. RepresentsOpenBlocks texts os bs) (ap reverse e ∙ reverse_push new o) h)
  where
    top : (bs : List Group) → RepresentsOpenBlocks texts (o ∷ reverse new) bs → RepresentsOpenBlocks texts (reverse new) (drop 1 bs)
    top [] h = absurd h
    top (b ∷ bs) h = h.1
popped_shown texts [] new None bs e v h = none new bs (sym (append-nil new) ∙ sym e) h
  where
    none : (new : List OpenBlock) (bs : List Group) → new ≡ [] → RepresentsOpenBlocks texts [] bs → RepresentsOpenBlocks texts (reverse new) (drop 1 bs)
    none new [] e h = rw e tt
    none new (b ∷ bs) e h = absurd h
popped_shown texts (o ∷ old) new None bs e v h = let f : false ≡ true = v.1 (omega arith) in cc

open_grown : (texts ts : List (List ℕ)) (o : OpenBlock) (g : Group) → RepresentsOpenBlock texts o g → RepresentsOpenBlock (texts ++ ts) o g
open_grown texts ts (opens.Block b l c) g h = h
open_grown texts ts (opens.Source t c) g h = (h.0, get_more texts ts t h.0 h.1, h.2, h.3)

stack_grown : (texts ts : List (List ℕ)) (os : List OpenBlock) (gs : List Group) → RepresentsOpenBlocks texts os gs → RepresentsOpenBlocks (texts ++ ts) os gs
stack_grown texts ts [] [] h = tt
stack_grown texts ts [] (g ∷ gs) h = absurd h
stack_grown texts ts (o ∷ os) [] h = absurd h
stack_grown texts ts (o ∷ os) (g ∷ gs) h = (open_grown texts ts o g h.0, stack_grown texts ts os gs h.1)

pub counted_grown : (r : FileSource) (texts ts texts2 : List (List ℕ)) (opened : List OpenBlock) (choices files bytes : ℕ) (read : List Group)
    → texts2 ≡ texts ++ ts
    → IsCounted r texts opened choices files bytes read → IsCounted r texts2 opened choices files bytes read
counted_grown r texts ts texts2 opened choices files bytes read e h = record {
  stack = rw e (stack_grown texts ts (reverse opened) (open_blocks 0 read) h.stack);
  choices_are = h.choices_are;
  files_are = h.files_are;
  bytes_are = h.bytes_are;
}

module _ (r : FileSource) (texts : List (List ℕ)) (old : List OpenBlock) (choices files bytes : ℕ) (read : List Group) (file line : ℕ) (m : GroupHead)
    (h : IsCounted r texts old choices files bytes read) where
  -- the reader's stack and counts are right (`IsCounted`) after the end of a block or file, if the innermost one was
  -- taken off the stack
  pub counted_end : (new : List OpenBlock) (o : Option OpenBlock) → side_of m ≡ closing → old ≡ new ++ option_to_list o → IsSome o ↔ (0 < length old)
      → IsCounted r texts new choices files bytes (with_group (at_line file line) m read)
  counted_end new o e p v =
      let b = closing_block m e in
      let q = closing_path m e in
      record {
        stack = rw (popped (record { number = length read; at = at_line file line; head = m; attributes = [] }) read e)
            (popped_shown texts old new o (open_blocks 0 read) p v h.stack);
        choices_are = rw b h.choices_are;
        files_are = rw q h.files_are;
        bytes_are = rw q h.bytes_are;
      }

  -- the reader's stack and counts stay right (`IsCounted`) after a statement that opens and closes nothing
  pub counted_inside : side_of m ≡ inside → IsCounted r texts old choices files bytes (with_group (at_line file line) m read)
  counted_inside e =
      let b = inside_block m e in
      let q = inside_path m e in
      record {
        stack = rw (open_inside 0 (record { number = length read; at = at_line file line; head = m; attributes = [] }) read e) h.stack;
        choices_are = rw b h.choices_are;
        files_are = rw q h.files_are;
        bytes_are = rw q h.bytes_are;
      }

  stack_push : (o : OpenBlock) (new : List OpenBlock) → side_of m ≡ opening → new ≡ old ++ o ∷ []
      → RepresentsOpenBlock texts o (record { number = length read; at = at_line file line; head = m; attributes = [] })
      → RepresentsOpenBlocks texts (reverse new) (open_blocks 0 (with_group (at_line file line) m read))
  stack_push o new e p s =
      rw (pushed (record { number = length read; at = at_line file line; head = m; attributes = [] }) read e, p, reverse_push old o) (s, h.stack)

  -- the reader's stack and counts are right (`IsCounted`) after a menu or an `if`, if it was pushed onto the stack
  pub counted_block : (b : Block) (c : Option ℕ) (new : List OpenBlock) → new ≡ old ++ opens.Block b line c ∷ [] → from_head block_of_head m ≡ Some b
      → same_block blocks.Choice b ≡ false
      → IsCounted r texts new choices files bytes (with_group (at_line file line) m read)
  counted_block b c new p e n =
      let q = block_path m b e in
      record {
        stack = stack_push (opens.Block b line c) new (block_side m b e) p (e, refl, q);
        choices_are = rw (e, n) h.choices_are;
        files_are = rw q h.files_are;
        bytes_are = rw q h.bytes_are;
      }

  -- the reader's stack and counts are right (`IsCounted`) after a choice, if it was pushed onto the stack and counted
  pub counted_choice : (own : Option ℕ) (new : List OpenBlock) (choices2 : ℕ) → m ≡ of_head choice → new ≡ old ++ opens.Block blocks.Choice line own ∷ [] → choices2 ≡ choices + 1
      → IsCounted r texts new choices2 files bytes (with_group (at_line file line) m read)
  counted_choice own new choices2 e p n =
      let c = h.choices_are in
      let block : from_head block_of_head m ≡ Some blocks.Choice = rw e refl in
      let q = block_path m blocks.Choice block in
      record {
        stack = stack_push (opens.Block blocks.Choice line own) new (block_side m blocks.Choice block) p (block, refl, q);
        choices_are = rw block (omega arith);
        files_are = rw q h.files_are;
        bytes_are = rw q h.bytes_are;
      }

  -- the reader's stack and counts are right (`IsCounted`) after a `source`, if its file was pushed onto the stack and
  -- counted with its bytes
  pub counted_source : (t : ℕ) (path : List ℕ) (c : Option ℕ) (new : List OpenBlock) (files2 bytes2 : ℕ) → m ≡ of_head (source path) → slice_get texts t ≡ Some path
      → new ≡ old ++ opens.Source t c ∷ [] → files2 ≡ files + 1 → bytes2 ≡ bytes + size_in r path
      → IsCounted r texts new choices files2 bytes2 (with_group (at_line file line) m read)
  counted_source t path c new files2 bytes2 e s p f b =
      let fs = h.files_are in
      let bs = h.bytes_are in
      record {
        stack = stack_push (opens.Source t c) new (rw e refl) p (path, s, rw e refl, rw e refl);
        choices_are = rw e h.choices_are;
        files_are = rw e (omega arith);
        bytes_are = rw e (let u = sum_by-cons (size_in r) r.root (path ∷ filter_map sourced_path read) in let v = sum_by-cons (size_in r) path
            (filter_map sourced_path read) in let w = sum_by-cons (size_in r) r.root (filter_map sourced_path read) in omega (arith, u, v, w));
      }

-- an attribute opens and closes nothing
stack_attribute : (texts : List (List ℕ)) (os : List OpenBlock) (line : ℕ) (a : Attribute) (read : List Group)
    → RepresentsOpenBlocks texts os (open_blocks 0 read) → RepresentsOpenBlocks texts os (open_blocks 0 (with_attribute line a read))
stack_attribute texts os line a [] h = h
stack_attribute texts os line a (g ∷ before) h = by_side (side_of g.head) refl
  where
    by_side : (s : Side) → side_of g.head ≡ s → RepresentsOpenBlocks texts os (open_blocks 0 (with_attribute line a (g ∷ before)))
    by_side opening e =
        rw (pushed (record g { attributes = g.attributes ++ record { number = line; attribute = a } ∷ [] }) before e) (top os (rw (pushed g before e) at h))
      where
        same : (o : OpenBlock) → RepresentsOpenBlock texts o g
            → RepresentsOpenBlock texts o (record g { attributes = g.attributes ++ record { number = line; attribute = a } ∷ [] })
        same (opens.Block b l c) k = k
        same (opens.Source t c) k = k

        top : (os : List OpenBlock) → RepresentsOpenBlocks texts os (g ∷ open_blocks 0 before)
            → RepresentsOpenBlocks texts os (record g { attributes = g.attributes ++ record { number = line; attribute = a } ∷ [] } ∷ open_blocks 0 before)
        top [] k = absurd k
        top (o ∷ os) k = (same o k.0, k.1)
    by_side closing e =
        rw (popped (record g { attributes = g.attributes ++ record { number = line; attribute = a } ∷ [] }) before e) (rw (popped g before e) at h)
    by_side inside e =
        rw (open_inside 0 (record g { attributes = g.attributes ++ record { number = line; attribute = a } ∷ [] }) before e)
        (rw (open_inside 0 g before e) at h)

same_length : (b : Bool) (g k : Group) (gs : List Group) → length (cond b (g ∷ gs) gs) ≡ length (cond b (k ∷ gs) gs)
same_length true g k gs = refl
same_length false g k gs = refl

pub counted_attribute : (r : FileSource) (texts : List (List ℕ)) (opened : List OpenBlock) (choices files bytes : ℕ) (read : List Group) (line : ℕ)
    (a : Attribute)
    → IsCounted r texts opened choices files bytes read
    → IsCounted r texts opened choices files bytes (with_attribute line a read)
counted_attribute r texts opened choices files bytes [] line a h = h
counted_attribute r texts opened choices files bytes (g ∷ before) line a h = record {
  stack = stack_attribute texts (reverse opened) line a (g ∷ before) h.stack;
  choices_are = h.choices_are ∙ same_length (opens_choice g) g (record g { attributes = g.attributes ++ record { number = line; attribute = a } ∷ [] })
      (filter opens_choice before);
  files_are = h.files_are;
  bytes_are = h.bytes_are;
}
