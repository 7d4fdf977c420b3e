-- The places of lines that files keep are those of the files' lines.
use Rattle.std.proofs.Common.{zero, not, append_assoc}
use Rattle.std.specs.Global.{Vec}
use Rattle.std.specs.Prelude.{option_to_list, find}
use Rattle.std.specs.Borrow.{Bor}
use Rattle.kc_config_reasons.proofs.Common.{◌≡◌, ℕ, suc, ◌+◌, ◌<◌, Bool, true, false, cond, List, [], ◌∷◌, ◌++◌, map, drop, length, Option, Some, None, refl, sym, ◌∙◌, ap, arith, get_or, Result, Ok, Err, IfOk, option_map, reverse, option_or, option_copied, AllZip, Tree, unit_of, UserValue}
use Rattle.kc_config_reasons.proofs.Common.{LineMeaning, assigning_place, overridden, AskingLine, FileLines, line_view, line_kept, KeepsLines, place_view, overridden_view, place_kept, places_kept, place_asking_otherwise, place_at, overridden_at, AskingPlace, Overridden}
use Rattle.std.proofs.Math.Seq.{drop-cons, drop-length}
use Rattle.std.proofs.lemmas.List.{map-append, reverse-append, length-map, length-drop}
use Rattle.kc_rules_model.specs.Equality.{same_user}
use Rattle.kc_rules_model.specs.checker.EqualityLaws.{users_decided}
use Rattle.kc_reasons_model.specs.AssigningLines.{AssigningPlace, place_giving}
use Rattle.kc_reasons_model.specs.OverriddenLines.{OverriddenPlace, places_of, asks_otherwise, overriding}
use Rattle.kc_config_reasons.specs.checker.PlaceSteps.{place_in}

-- ---- by what files keep

module _ (tree : Tree) (s : ℕ) where
  pub place_is : (f : ℕ) (meanings : List (List LineMeaning)) (files : List FileLines) → AllZip (KeepsLines tree) meanings files
      → place_kept (unit_of tree s) s f files ≡ assigning_place (unit_of tree s) s f meanings
  place_is f [] [] all = refl
  place_is f [] (file ∷ files) all = absurd all
  place_is f (ms ∷ meanings) [] all = absurd all
  place_is f (ms ∷ meanings) (file ∷ files) all =
      ap (λ o. option_or o (place_in (unit_of tree s) s f file)) (place_is (f + 1) meanings files all.1)
      ∙ ap (λ o. option_or (assigning_place (unit_of tree s) s (f + 1) meanings) (place_giving f o)) (all.0 s)

  pub places_are : (f : ℕ) (meanings : List (List LineMeaning)) (files : List FileLines) → AllZip (KeepsLines tree) meanings files
      → places_kept (unit_of tree s) s f files ≡ places_of (unit_of tree s) s f meanings
  places_are f [] [] all = refl
  places_are f [] (file ∷ files) all = absurd all
  places_are f (ms ∷ meanings) [] all = absurd all
  places_are f (ms ∷ meanings) (file ∷ files) all =
      ap (λ ps. option_to_list (place_in (unit_of tree s) s f file) ++ ps) (places_are (f + 1) meanings files all.1)
      ∙ ap (λ o. option_to_list (place_giving f o) ++ places_of (unit_of tree s) s (f + 1) meanings) (all.0 s)

-- ---- the last one

module _ (u s : ℕ) where
  before_it : (f : ℕ) (files : List FileLines) (k : ℕ) (p : AssigningPlace) → place_kept u s (f + k) (drop k files) ≡ Some p → place_kept u s f files ≡ Some p
  before_it f files zero p e = ap (λ n. place_kept u s n files) (let same : f ≡ f + 0 = omega arith in same) ∙ e
  before_it f [] (suc k) p e = absurd (cc)
  before_it f (file ∷ files) (suc k) p e =
      let next : f + 1 + k ≡ f + suc k = omega arith in
      ap (λ o. option_or o (place_in u s f file)) (before_it (f + 1) files k p (ap (λ n. place_kept u s n (drop k files)) next ∙ e))

  -- the files from number k on
  from_there : (files : List FileLines) (k : ℕ) (file : FileLines) → k < length files → file ≡ get_or files k file
      → place_kept u s k (drop k files) ≡ option_or (place_kept u s (suc k) (drop (suc k) files)) (place_in u s k file)
  from_there files k file inside is =
      ap (place_kept u s k) (drop-cons files k file inside ∙ ap (λ x. x ∷ drop (suc k) files) (sym is))
      ∙ ap (λ n. option_or (place_kept u s n (drop (suc k) files)) (place_in u s k file)) (let next : k + 1 ≡ suc k = omega arith in next)

  pub found_at : (files : List FileLines) (k : ℕ) (file : FileLines) (l : AskingLine) → k < length files → file ≡ get_or files k file → line_kept file u s ≡ Some l
      → place_kept u s (suc k) (drop (suc k) files) ≡ None → place_kept u s 0 files ≡ Some (record { file = k; line = line_view l })
  found_at files k file l inside is kept none =
      before_it 0 files k (record { file = k; line = line_view l })
      (ap (λ n. place_kept u s n (drop k files)) (let same : 0 + k ≡ k = omega arith in same) ∙ from_there files k file inside is
      ∙ ap (λ o. option_or o (place_in u s k file)) none ∙ ap (λ o. place_giving k (option_map line_view o)) kept)

  pub none_at : (files : List FileLines) (k : ℕ) (file : FileLines) → k < length files → file ≡ get_or files k file → line_kept file u s ≡ None
      → place_kept u s (suc k) (drop (suc k) files) ≡ None → place_kept u s k (drop k files) ≡ None
  none_at files k file inside is kept none =
      from_there files k file inside is ∙ ap (λ o. option_or o (place_in u s k file)) none ∙ ap (λ o. place_giving k (option_map line_view o)) kept

  pub none_behind : (files : List FileLines) → place_kept u s (length files) (drop (length files) files) ≡ None
  none_behind files = ap (place_kept u s (length files)) (drop-length files)

  -- one more file was asked for its line
  pub one_more : (files : List FileLines) (k : ℕ) (file : FileLines) (o : Option (Bor AskingLine)) (old new : List AskingPlace) (all : List AssigningPlace)
      → k < length files → file ≡ get_or files k file → option_copied o ≡ line_kept file u s
      → new ≡ old ++ option_to_list (option_map (place_at k) o)
      → map place_view old ++ places_kept u s k (drop k files) ≡ all → map place_view new ++ places_kept u s (k + 1) (drop (k + 1) files) ≡ all
  one_more files k file o old new all inside is kept pushed before =
      let next : k + 1 ≡ suc k = omega arith in
      let rest = places_kept u s (suc k) (drop (suc k) files) in
      let pushed_place : map place_view (option_to_list (option_map (place_at k) o)) ≡ option_to_list (place_in u s k file) =
      of_option o ∙ ap (λ l. option_to_list (place_giving k (option_map line_view l))) kept in
      ap (λ n. map place_view new ++ places_kept u s n (drop n files)) next
      ∙ ap (λ ps. map place_view ps ++ rest) pushed
      ∙ ap (λ ps. ps ++ rest) (map-append place_view old _ ∙ ap (λ ps. map place_view old ++ ps) pushed_place)
      ∙ append_assoc (map place_view old) (option_to_list (place_in u s k file)) rest
      ∙ ap (λ ps. map place_view old ++ ps) (sym there)
      ∙ before
    where
      of_option : (o : Option (Bor AskingLine)) → map place_view (option_to_list (option_map (place_at k) o)) ≡ option_to_list (place_giving k (option_map line_view (option_copied o)))
      of_option None = refl
      of_option (Some l) = refl

      there : places_kept u s k (drop k files) ≡ option_to_list (place_in u s k file) ++ places_kept u s (suc k) (drop (suc k) files)
      there =
          ap (places_kept u s k) (drop-cons files k file inside ∙ ap (λ x. x ∷ drop (suc k) files) (sym is))
          ∙ ap (λ n. option_to_list (place_in u s k file) ++ places_kept u s n (drop (suc k) files)) (let next : k + 1 ≡ suc k = omega arith in next)

-- ---- those that are overridden

-- the first place whose line asks otherwise than another line, by whether this asks for what the first place's does
first_asking : (x : UserValue) (q : AssigningPlace) (later : List AssigningPlace) (b : Bool) → same_user x q.line.user ≡ b
    → find (asks_otherwise x) (q ∷ later) ≡ cond b (find (asks_otherwise q.line.user) later) (Some q)
first_asking x q later true same = ap (λ d. cond (not d) (Some q) (find (asks_otherwise x) later)) same ∙ ap (λ y. find (asks_otherwise y) later) ((users_decided x q.line.user).0 same)
first_asking x q later false same = ap (λ d. cond (not d) (Some q) (find (asks_otherwise x) later)) same

module _ (places : List AskingPlace) (i : ℕ) where
  abbrev behind : ℕ → List AssigningPlace
  behind k = map place_view (drop k places)

  -- the last place has none after it
  pub none_after : i + 1 ≡ length places → place_asking_otherwise (behind i) ≡ None
  none_after last = at_most_one (behind i) (let mapped = length-map (drop i places) place_view in let left = length-drop i places in omega arith) where
    at_most_one : (ps : List AssigningPlace) → length ps < 2 → place_asking_otherwise ps ≡ None
    at_most_one [] few = refl
    at_most_one (p ∷ []) few = refl
    at_most_one (p ∷ q ∷ ps) few = absurd (omega arith)

  -- and any other the next one, or the one after that
  pub one_after : (p q : AskingPlace) → i < length places → i + 1 < length places → p ≡ get_or places i p → q ≡ get_or places (i + 1) q → (b : Bool) → same_user p.line.now.user q.line.now.user ≡ b
      → place_asking_otherwise (behind i) ≡ cond b (place_asking_otherwise (behind (i + 1))) (Some (place_view q))
  one_after p q inside next is_p is_q b same =
      ap place_asking_otherwise (ap (map place_view) here) ∙ first_asking p.line.now.user (place_view q) (behind (suc (i + 1))) b same
      ∙ ap (λ ps. cond b (place_asking_otherwise (map place_view ps)) (Some (place_view q))) (sym there)
    where
      there : drop (i + 1) places ≡ q ∷ drop (suc (i + 1)) places
      there = drop-cons places (i + 1) q next ∙ ap (λ x. x ∷ drop (suc (i + 1)) places) (sym is_q)

      here : drop i places ≡ p ∷ q ∷ drop (suc (i + 1)) places
      here =
          drop-cons places i p inside ∙ ap (λ x. x ∷ drop (suc i) places) (sym is_p)
          ∙ ap (λ ps. p ∷ ps) (ap (λ n. drop n places) (let same : suc i ≡ i + 1 = omega arith in same) ∙ there)

  -- one more place was looked at
  pub more_overridden : (p : AskingPlace) (by : Option AskingPlace) (old new : List Overridden) → i < length places → p ≡ get_or places i p
      → option_map place_view by ≡ place_asking_otherwise (behind i)
      → map overridden_view (reverse old) ≡ overridden (behind (suc i)) → new ≡ old ++ option_to_list (option_map (overridden_at p) by)
      → map overridden_view (reverse new) ≡ overridden (behind i)
  more_overridden p by old new inside is first before pushed =
      ap (λ xs. map overridden_view (reverse xs)) pushed
      ∙ ap (map overridden_view) (reverse-append old (option_to_list (option_map (overridden_at p) by)))
      ∙ map-append overridden_view (reverse (option_to_list (option_map (overridden_at p) by))) (reverse old)
      ∙ ap (λ xs. xs ++ map overridden_view (reverse old)) (of_found by)
      ∙ ap (λ (o : Option AssigningPlace). option_to_list (option_map overriding_here o) ++ map overridden_view (reverse old)) (first ∙ ap (λ ps. place_asking_otherwise (map place_view ps)) here)
      ∙ ap (λ xs. option_to_list (overriding (place_view p) (behind (suc i))) ++ xs) before
      ∙ ap (λ ps. overridden (map place_view ps)) (sym here)
    where
      here : drop i places ≡ p ∷ drop (suc i) places
      here = drop-cons places i p inside ∙ ap (λ x. x ∷ drop (suc i) places) (sym is)

      overriding_here : AssigningPlace → OverriddenPlace
      overriding_here q = record { place = place_view p; by = q }

      of_found : (o : Option AskingPlace) → map overridden_view (reverse (option_to_list (option_map (overridden_at p) o))) ≡ option_to_list (option_map overriding_here (option_map place_view o))
      of_found None = refl
      of_found (Some q) = refl

pub none_yet : (places : List AskingPlace) → [] ≡ overridden (map place_view (drop (length places) places))
none_yet places = sym (ap (λ ps. overridden (map place_view ps)) (drop-length places))

-- what is found by what files keep is found by their lines
pub all_found : {E : Type 0} (u s : ℕ) (files : List FileLines) (r : Result (Vec Overridden) E) (kept : List AssigningPlace) → kept ≡ places_kept u s 0 files
    → IfOk r (λ found. map overridden_view found.items ≡ overridden kept)
    → IfOk r (λ found. (tree : Tree) (meanings : List (List LineMeaning)) → u ≡ unit_of tree s → AllZip (KeepsLines tree) meanings files → map overridden_view found.items ≡ overridden (places_of u s 0 meanings))
all_found u s files (Ok found) kept is e = λ tree meanings own all.
    e ∙ ap overridden (is ∙ ap (λ w. places_kept w s 0 files) own ∙ places_are tree s 0 meanings files all ∙ ap (λ w. places_of w s 0 meanings) (sym own))
all_found u s files (Err f) kept is e = tt
