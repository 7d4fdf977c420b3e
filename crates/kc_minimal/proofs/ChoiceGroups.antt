-- Lines of members, grouped by the units of their choices.
use Rattle.std.proofs.Common.{◌≢◌, ◌==◌, Result, IfOk}
use Rattle.kc_minimal.proofs.Common.{◌≡◌, inl, inr, ℕ, zero, suc, ◌+◌, ◌<◌, ◌≤◌, Bool, true, false, cond, List, [], ◌∷◌, ◌++◌, length, map, take, drop, get_or, Option, Some, None, refl, sym, ◌∙◌, ap, arith, Vec, IfOk-weaker, unwrap_or, slice_get, lines_at, by_group, filter_map, range_with_len}
use Rattle.kc_minimal.proofs.Common.{cons_option, option_map, append-nil, map-append, filter-append, Tree, UnitValue, ChoiceLine, has_no_version, placed_from, lines_of, last_line, other_places, place_of}
use Rattle.std.specs.declared.alloc.AllocError.{AllocError}
use Rattle.std.proofs.lemmas.Bool.{cases_eq}
use Rattle.kc_minimal.specs.checker.LineGroups.{line_from}
use Rattle.std.specs.List.{AllByRecursion}
use Rattle.std.specs.List.Sorted.{IsStrictlySortedBy}
use Rattle.std.specs.Map.{lookup, keys_of}
use Rattle.std.specs.BTreeMap.{is_at}
use Rattle.std.specs.Ordering.{nat_cmp}
use Rattle.std.specs.declared.cmp.Ordering.TheVariants.{Less}
use Rattle.std.proofs.lemmas.Cmp.{ranked}
use Rattle.std.proofs.lemmas.Map.Keys.{sorted_head, sorted_tail}
use Rattle.std.proofs.lemmas.Option.{slice_get_past}
use Rattle.std.specs.Option.{option_or, option_and_then}
use Rattle.std.proofs.lemmas.List.{append_assoc, take_more, at_drop_more}
use Rattle.kc_dotconfig.proofs.GatheredLines.{at_same, at_other}
use Rattle.kc_solver.proofs.Lists.{get-some}
use Rattle.kc_tree_model.specs.Trees.{Choice}
use Rattle.kc_tree_model.specs.declared.ids.Unit.{Unit as TreeUnit}
use Rattle.kc_tree_model.specs.declared.ids.Unit.TheVariants.{Symbol as of_symbol, Choice as of_choice}
use Rattle.kc_dotconfig_model.specs.OtherChoices.{noticed_line, other_line, other_line_of_unit, other_choices_of}

-- files with one more
pub placed_more : (f : ℕ) (files : List (List ChoiceLine)) (lines : List ChoiceLine)
    → placed_from f (files ++ lines ∷ []) ≡ placed_from f files ++ map (λ (l : ChoiceLine). (f + length files, l)) lines
placed_more f [] lines =
    append-nil (map (λ (l : ChoiceLine). (f, l)) lines) ∙ ap (λ n. map (λ (l : ChoiceLine). (n, l)) lines) (let e : f ≡ f + 0 = omega arith in e)
placed_more f (own ∷ files) lines =
    ap (λ ls. map (λ (l : ChoiceLine). (f, l)) own ++ ls)
    (placed_more (f + 1) files lines ∙ ap (λ n. placed_from (f + 1) files ++ map (λ (l : ChoiceLine). (n, l)) lines)
    (let e : (f + 1) + length files ≡ f + suc (length files) = omega arith in e))
    ∙ sym (append_assoc (map (λ (l : ChoiceLine). (f, l)) own) (placed_from (f + 1) files) (map (λ (l : ChoiceLine). (f + length (own ∷ files), l)) lines))

-- the lines of a choice with one line more
pub lines_more : (u : ℕ) (lines : List (ℕ × ChoiceLine)) (i : ℕ) (d : ℕ × ChoiceLine) → i < length lines
    → lines_of u (take (i + 1) lines) ≡ lines_of u (take i lines) ++ cond ((get_or lines i d).1.unit == u) (get_or lines i d ∷ []) []
lines_more u lines i d h =
    ap (lines_of u) (take_more lines i d h)
    ∙ filter-append (λ (l : ℕ × ChoiceLine). l.1.unit == u) (take i lines) (get_or lines i d ∷ [])

-- the last line of a member, where none after it is of the member
last_stays : (s : ℕ) (lines : List (ℕ × ChoiceLine)) (i : ℕ) (l : ℕ × ChoiceLine) → last_line s (drop i lines) ≡ Some l → last_line s lines ≡ Some l
last_stays s [] zero l e = e
last_stays s [] (suc i) l e = e
last_stays s (k ∷ lines) zero l e = e
last_stays s (k ∷ lines) (suc i) l e = ap (λ o. option_or o (cond (k.1.given.member == s) (Some k) None)) (last_stays s lines i l e)

pub last_at : (s : ℕ) (lines : List (ℕ × ChoiceLine)) (i : ℕ) (l : ℕ × ChoiceLine) → i < length lines → l ≡ get_or lines i l
    → (l.1.given.member == s) ≡ true → last_line s (drop (i + 1) lines) ≡ None → last_line s lines ≡ Some l
last_at s lines i l within is passes none =
    last_stays s lines i l
    (at_drop_more (last_line s) lines i l within ∙ ap (λ k. last_line s (k ∷ drop (i + 1) lines)) (sym is)
    ∙ ap (λ o. option_or o (cond (l.1.given.member == s) (Some l) None)) none ∙ ap (λ b. cond b (Some l) None) passes)

-- a choice without lines has no notice
no_line : (own other : Option ℕ) → noticed_line own other [] ≡ None
no_line None None = refl
no_line None (Some r) = refl
no_line (Some s) None = refl
no_line (Some s) (Some r) = refl

none_either : (b : Bool) (o : Option (ℕ × ChoiceLine)) → o ≡ None → cond b o None ≡ None
none_either true o e = e
none_either false o e = refl

none_of_choice : (o : Option Choice) (f : Choice → Option (ℕ × ChoiceLine)) → ((choice : Choice) → f choice ≡ None) → option_and_then f o ≡ None
none_of_choice None f none = refl
none_of_choice (Some choice) f none = none choice

module _ (tree : Tree) (values : List UnitValue) where
  pub none_without_lines : (u : ℕ) (unit : Option TreeUnit) (lines : List (ℕ × ChoiceLine)) → lines_of u lines ≡ []
      → other_line_of_unit tree values u unit lines ≡ None
  none_without_lines u None lines e = refl
  none_without_lines u (Some (of_symbol s)) lines e = refl
  none_without_lines u (Some (of_choice c)) lines e =
      ap (λ own. option_and_then (λ (choice : Choice). other_line tree values choice (slice_get values u) own) (slice_get tree.choices c)) e
      ∙ none_of_choice (slice_get tree.choices c) (λ (choice : Choice). other_line tree values choice (slice_get values u) [])
      (λ choice. none_either _ _ (no_line _ _))

  nothing_found : (f : ℕ → Option (ℕ × ChoiceLine)) → ((u : ℕ) → f u ≡ None) → (us : List ℕ) → filter_map f us ≡ []
  nothing_found f none [] = refl
  nothing_found f none (u ∷ us) = ap (λ o. cons_option o (filter_map f us)) (none u) ∙ nothing_found f none us

  -- without lines there are no places
  pub no_places : other_places tree values [] ≡ []
  no_places =
      ap (map place_of) (nothing_found (λ u. other_line_of_unit tree values u (slice_get tree.units u) [])
      (λ u. none_without_lines u (slice_get tree.units u) [] refl) (range_with_len 0 (length tree.units)))

-- numbers from one on are from each smaller one on
from_less : (a b : ℕ) (us : List ℕ) → a ≤ b → AllByRecursion (λ u. b ≤ u) us → AllByRecursion (λ u. a ≤ u) us
from_less a b [] h all = tt
from_less a b (u ∷ us) h all = ((let more = all.0 in omega arith), from_less a b us h all.1)

from_zero : (us : List ℕ) → AllByRecursion (λ u. 0 ≤ u) us
from_zero [] = tt
from_zero (u ∷ us) = (omega arith, from_zero us)

-- where units ascend, all after the first are greater
above_first : (u : ℕ) (us : List ℕ) → IsStrictlySortedBy nat_cmp (u ∷ us) → AllByRecursion (λ w. suc u ≤ w) us
above_first u us rising = each us (sorted_head nat_cmp u us rising) where
  each : (ws : List ℕ) → AllByRecursion (λ w. nat_cmp u w ≡ Less) ws → AllByRecursion (λ w. suc u ≤ w) ws
  each [] all = tt
  each (w ∷ ws) all = ((let less : u < w = ranked u w Less (sym all.0) in omega arith), each ws all.1)

-- the lines of the first group, and of the others
first_group : (g : ℕ × Vec (ℕ × ChoiceLine)) (groups : List (ℕ × Vec (ℕ × ChoiceLine))) → lines_at (g ∷ groups) g.0 ≡ g.1.items
first_group g groups = ap (λ b. unwrap_or (option_map (λ (group : Vec (ℕ × ChoiceLine)). group.items) (cond b (Some g.1) (lookup (is_at (nat_cmp g.0)) groups))) []) (at_same g.0)

other_group : (u : ℕ) (g : ℕ × Vec (ℕ × ChoiceLine)) (groups : List (ℕ × Vec (ℕ × ChoiceLine))) → u ≢ g.0 → lines_at (g ∷ groups) u ≡ lines_at groups u
other_group u g groups apart = ap (λ b. unwrap_or (option_map (λ (group : Vec (ℕ × ChoiceLine)). group.items) (cond b (Some g.1) (lookup (is_at (nat_cmp u)) groups))) []) (at_other u g.0 apart)

-- a unit below those of all groups has no lines
none_below : (u : ℕ) (groups : List (ℕ × Vec (ℕ × ChoiceLine))) → AllByRecursion (λ w. suc u ≤ w) (keys_of groups) → lines_at groups u ≡ []
none_below u [] all = refl
none_below u (g ∷ groups) all =
    let apart : u ≢ g.0 = (let more = all.0 in omega arith) in
    other_group u g groups apart ∙ none_below u groups all.1

module _ (tree : Tree) (values : List UnitValue) (lines : List (ℕ × ChoiceLine)) where
  abbrev by_unit : ℕ → Option (ℕ × ChoiceLine)
  by_unit u = other_line_of_unit tree values u (slice_get tree.units u) lines

  same_line : (u : ℕ) (unit : Option TreeUnit) (group : List (ℕ × ChoiceLine)) → group ≡ lines_of u lines
      → line_from tree values u unit group ≡ other_line_of_unit tree values u unit lines
  same_line u None group e = refl
  same_line u (Some (of_symbol s)) group e = refl
  same_line u (Some (of_choice c)) group e =
      ap (λ own. option_and_then (λ (choice : Choice). other_line tree values choice (slice_get values u) own) (slice_get tree.choices c)) e

  -- groups past the last unit give no line
  past_units : (a : ℕ) (groups : List (ℕ × Vec (ℕ × ChoiceLine))) → length tree.units ≤ a → AllByRecursion (λ u. a ≤ u) (keys_of groups)
      → filter_map (by_group tree values) groups ≡ []
  past_units a [] h all = refl
  past_units a (g ∷ groups) h all =
      let past : slice_get tree.units g.0 ≡ None = slice_get_past tree.units g.0 (let more = all.0 in omega arith) in
      ap (λ o. cons_option o (filter_map (by_group tree values) groups)) (ap (λ unit. line_from tree values g.0 unit g.1.items) past)
      ∙ past_units a groups h all.1

  -- a unit without lines gives no line
  skipped : (n a : ℕ) → lines_of a lines ≡ [] → filter_map by_unit (range_with_len a (suc n)) ≡ filter_map by_unit (range_with_len (a + 1) n)
  skipped n a none =
      ap (λ o. cons_option o (filter_map by_unit (range_with_len (a + 1) n))) (none_without_lines tree values a (slice_get tree.units a) lines none)

  -- the groups are in order of units, from this one on, and have the lines of these units
  abbrev FromUnit : ℕ → List (ℕ × Vec (ℕ × ChoiceLine)) → Type 0
  FromUnit a groups = IsStrictlySortedBy nat_cmp (keys_of groups) × AllByRecursion (λ u. a ≤ u) (keys_of groups) × ((u : ℕ) → a ≤ u → lines_at groups u ≡ lines_of u lines)

  -- one unit more before those that groups give the lines of
  one_unit : (n a : ℕ) (groups : List (ℕ × Vec (ℕ × ChoiceLine))) → FromUnit a groups
      → ((others : List (ℕ × Vec (ℕ × ChoiceLine))) → FromUnit (a + 1) others → filter_map (by_group tree values) others ≡ filter_map by_unit (range_with_len (a + 1) n))
      → filter_map (by_group tree values) groups ≡ filter_map by_unit (range_with_len a (suc n))
  one_unit n a [] from next = next [] (from.0, tt, λ u h. from.2 u (omega arith)) ∙ sym (skipped n a (sym (from.2 a (omega arith))))
  one_unit n a (g ∷ groups) from next = elim (cases_eq a g.0) [
    | inl here ↦
        let further : AllByRecursion (λ u. suc g.0 ≤ u) (keys_of groups) = above_first g.0 (keys_of groups) from.0 in
        let own_lines : g.1.items ≡ lines_of g.0 lines = sym (first_group g groups) ∙ from.2 g.0 (omega arith) in
        ap (λ o. cons_option o (filter_map (by_group tree values) groups)) (same_line g.0 (slice_get tree.units g.0) g.1.items own_lines ∙ ap by_unit (sym here))
        ∙ ap (cons_option (by_unit a))
        (next groups (
          sorted_tail nat_cmp g.0 (keys_of groups) from.0,
          from_less (a + 1) (suc g.0) (keys_of groups) (omega arith) further,
          λ u h. let apart : u ≢ g.0 = omega arith in sym (other_group u g groups apart) ∙ from.2 u (omega arith),
        ))
    | inr apart ↦
        let first : suc a ≤ g.0 = (let more = from.1.0 in omega arith) in
        let further : AllByRecursion (λ u. suc a ≤ u) (keys_of (g ∷ groups)) =
        (first, from_less (suc a) (suc g.0) (keys_of groups) (omega arith) (above_first g.0 (keys_of groups) from.0)) in
        next (g ∷ groups) (from.0, from_less (a + 1) (suc a) (keys_of (g ∷ groups)) (omega arith) further, λ u h. from.2 u (omega arith))
        ∙ sym (skipped n a (sym (from.2 a (omega arith)) ∙ none_below a (g ∷ groups) further))
  ]

  -- groups in order of units give the lines that all units give
  by_groups : (n a : ℕ) (groups : List (ℕ × Vec (ℕ × ChoiceLine))) → FromUnit a groups → a + n ≡ length tree.units
      → filter_map (by_group tree values) groups ≡ filter_map by_unit (range_with_len a n)
  by_groups zero a groups from count = past_units a groups (omega arith) from.1
  by_groups (suc n) a groups from count = one_unit n a groups from (λ others further. by_groups n (a + 1) others further (omega arith))

  pub places_of_groups : (groups : List (ℕ × Vec (ℕ × ChoiceLine))) (found : List (ℕ × ℕ)) → IsStrictlySortedBy nat_cmp (keys_of groups)
      → ((u : ℕ) → lines_at groups u ≡ lines_of u lines) → found ≡ map place_of (filter_map (by_group tree values) groups) → found ≡ other_places tree values lines
  places_of_groups groups found rising own is =
      is ∙ ap (map place_of) (by_groups (length tree.units) 0 groups (rising, from_zero (keys_of groups), λ u h. own u) (omega arith))

taken_length : (files : List (Vec ChoiceLine)) (k : ℕ) → k < length files → length (map (λ (f : Vec ChoiceLine). f.items) (take k files)) ≡ k
taken_length [] k h = absurd (omega arith)
taken_length (f ∷ files) zero h = refl
taken_length (f ∷ files) (suc k) h = let rest = taken_length files k (omega arith) in omega arith

-- the lines of one file more
pub placed_next : (files : List (Vec ChoiceLine)) (k : ℕ) (own : Vec ChoiceLine) (added : List ChoiceLine) (lines new : List (ℕ × ChoiceLine)) → k < length files
    → own ≡ get_or files k own → added ≡ own.items → lines ≡ placed_from 0 (map (λ (f : Vec ChoiceLine). f.items) (take k files))
    → new ≡ lines ++ map (λ (l : ChoiceLine). (k, l)) added → new ≡ placed_from 0 (map (λ (f : Vec ChoiceLine). f.items) (take (k + 1) files))
placed_next files k own added lines new h is same before after =
    let front = map (λ (f : Vec ChoiceLine). f.items) (take k files) in
    let count = taken_length files k h in
    let number : k ≡ 0 + length front = omega arith in
    after ∙ ap (λ ls. ls ++ map (λ (l : ChoiceLine). (k, l)) added) before
    ∙ ap (λ ls. placed_from 0 front ++ map (λ (l : ChoiceLine). (k, l)) ls) same
    ∙ ap (λ n. placed_from 0 front ++ map (λ (l : ChoiceLine). (n, l)) own.items) number
    ∙ sym (placed_more 0 front own.items)
    ∙ ap (placed_from 0)
    (sym (map-append (λ (f : Vec ChoiceLine). f.items) (take k files) (own ∷ []))
    ∙ ap (λ (f : Vec ChoiceLine). map (λ (f : Vec ChoiceLine). f.items) (take k files ++ f ∷ [])) is
    ∙ ap (map (λ (f : Vec ChoiceLine). f.items)) (sym (take_more files k own h)))

-- the line with the notice on a unit that is a choice, from that of the choice
pub line_of_choice : (tree : Tree) (values : List UnitValue) (u c : ℕ) (lines : List (ℕ × ChoiceLine)) (r : Result (Option (ℕ × ChoiceLine)) AllocError)
    → slice_get tree.units u ≡ Some (of_choice c) → c < length tree.choices
    → ((choice : Choice) → slice_get tree.choices c ≡ Some choice → IfOk r (λ line. line ≡ other_line tree values choice (slice_get values u) lines))
    → IfOk r (λ line. line ≡ line_from tree values u (slice_get tree.units u) lines)
line_of_choice tree values u c lines r unit within found =
    let some = get-some tree.choices c within in
    IfOk-weaker r (λ line. line ≡ other_line tree values some.0 (slice_get values u) lines)
    (λ line. line ≡ line_from tree values u (slice_get tree.units u) lines)
    (λ line is. is
    ∙ sym (ap (λ o. line_from tree values u o lines) unit
    ∙ ap (λ o. option_and_then (λ (choice : Choice). other_line tree values choice (slice_get values u) lines) o) some.1))
    (found some.0 some.1)

-- without lines there are no notices
pub no_choices : (tree : Tree) (values : List UnitValue) (lines : List (ℕ × ChoiceLine)) → lines ≡ [] → other_choices_of tree values lines ≡ []
no_choices tree values lines e = ap (other_choices_of tree values) e ∙ go (has_no_version tree.language) where
  go : (b : Bool) → cond b (other_places tree values []) [] ≡ []
  go true = no_places tree values
  go false = refl
