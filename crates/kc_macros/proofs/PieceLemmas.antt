-- Insides, pieces and items of a text, byte by byte.
use Rattle.std.proofs.Common.{◌≡◌, ℕ, zero, suc, ◌+◌, ◌<◌, ◌≤◌, Bool, true, false, ◌&&◌, cond, List, [], ◌∷◌, ◌++◌, length, take, drop, map, get_or, Option, Some, None, refl, sym, ap, ◌∙◌, append_assoc, arith, length-append}
use Rattle.std.specs.Prelude.{◌==◌, ◌-◌, option_map, pred}
use Rattle.std.specs.List.{onto_first}
use Rattle.std.proofs.lemmas.List.{append-nil, at_drop_more, at_drop_all, take_more, take_all}
use Rattle.std.proofs.Math.Seq.{take-append_seam}
use Rattle.std.proofs.lemmas.Bool.{eqb-true, lt-ltb, le-ltb}
use Rattle.std.specs.Cmp.{first_so, second_so}
use Rattle.kc_macros_model.specs.References.{open_after, inside_length, pieces, Item, byte, reference, unterminated, item_bytes, reference_of, items}
use Rattle.kc_macros_model.specs.ExpansionRules.{begins_reference}
use Rattle.kc_macros_model.proofs.TextItems.{IsInside, inside_found, items_of_byte, items_of_reference}
use Rattle.std.proofs.lemmas.Grind.{common_steps}
use Rattle.std.specs.Borrow.{Bor}
use Rattle.kc_macros.specs.between.SliceTexts.{texts_of_slices}
use Rattle.kc_macros.specs.checker.Pieces.{pieces_from}

-- a place, if there is one, moved on by a count of bytes
abbrev pub after : ℕ → Option ℕ → Option ℕ
after i o = option_map (λ k. i + k) o

after_suc : (i : ℕ) (o : Option ℕ) → after i (option_map suc o) ≡ after (i + 1) o
after_suc i None = refl
after_suc i (Some k) = ap Some (let e : i + suc k ≡ i + 1 + k = omega arith in e)

module _ (text : List ℕ) (i open_count : ℕ) (h : i < length text) where
  abbrev here : ℕ
  here = get_or text i 0

  inside_step : inside_length open_count (drop i text) ≡ cond (here == 41 && (open_count == 0)) (Some 0)
      (option_map suc (inside_length (open_after here open_count) (drop (i + 1) text)))
  inside_step = at_drop_more (inside_length open_count) text i 0 h

  pub inside_here : (here == 41 && (open_count == 0)) ≡ true → inside_length 0 text ≡ after i (inside_length open_count (drop i text))
      → inside_length 0 text ≡ Some i
  inside_here t same =
      same ∙ ap (after i) (inside_step ∙ ap (λ b. cond b (Some 0) (option_map suc (inside_length (open_after here open_count) (drop (i + 1) text)))) t)
      ∙ ap Some (let e : i + 0 ≡ i = omega arith in e)

  pub inside_later : (here == 41 && (open_count == 0)) ≡ false → inside_length 0 text ≡ after i (inside_length open_count (drop i text))
      → inside_length 0 text ≡ after (i + 1) (inside_length (open_after here open_count) (drop (i + 1) text))
  inside_later t same =
      same ∙ ap (after i) (inside_step ∙ ap (λ b. cond b (Some 0) (option_map suc (inside_length (open_after here open_count) (drop (i + 1) text)))) t)
      ∙ after_suc i (inside_length (open_after here open_count) (drop (i + 1) text))

  piece_step : pieces open_count (drop i text) ≡ cond (here == 44 && (open_count == 0)) ([] ∷ pieces (open_after here open_count) (drop (i + 1) text))
      (onto_first here (pieces (open_after here open_count) (drop (i + 1) text)))
  piece_step = at_drop_more (pieces open_count) text i 0 h

-- a text that was searched to its end without finding the `)` of its reference has none
pub inside_never : (text : List ℕ) (i open_count : ℕ) → length text ≤ i → inside_length 0 text ≡ after i (inside_length open_count (drop i text))
    → inside_length 0 text ≡ None
inside_never text i open_count h same = same ∙ ap (after i) (at_drop_all (inside_length open_count) text i h)

-- a list of texts of which the first has these bytes before its own
abbrev pub front_onto : List ℕ → List (List ℕ) → List (List ℕ)
front_onto [] parts = parts
front_onto (c ∷ s) parts = onto_first c (front_onto s parts)

front_onto_push : (s : List ℕ) (c : ℕ) (parts : List (List ℕ)) → front_onto (s ++ c ∷ []) parts ≡ front_onto s (onto_first c parts)
front_onto_push [] c parts = refl
front_onto_push (d ∷ s) c parts = ap (onto_first d) (front_onto_push s c parts)

front_onto_first : (s p : List ℕ) (parts : List (List ℕ)) → front_onto s (p ∷ parts) ≡ (s ++ p) ∷ parts
front_onto_first [] p parts = refl
front_onto_first (d ∷ s) p parts = ap (onto_first d) (front_onto_first s p parts)

open_after_comma : (c n : ℕ) → (c == 44 && (n == 0)) ≡ true → open_after c n ≡ 0
open_after_comma c n t =
    let comma : c ≡ 44 = eqb-true c 44 (first_so (c == 44) (n == 0) t) in
    let none : n ≡ 0 = eqb-true n 0 (second_so (c == 44) (n == 0) t) in
    ap (λ d. open_after d n) comma ∙ ap (open_after 44) none

module _ (text : List ℕ) (i open_count : ℕ) (h : i < length text) where
  abbrev byte_here : ℕ
  byte_here = get_or text i 0

  pub piece_later : (byte_here == 44 && (open_count == 0)) ≡ false → pieces 0 text ≡ front_onto (take i text) (pieces open_count (drop i text))
      → pieces 0 text ≡ front_onto (take (i + 1) text) (pieces (open_after byte_here open_count) (drop (i + 1) text))
  piece_later t same =
      let rest = pieces (open_after byte_here open_count) (drop (i + 1) text) in
      same ∙ ap (front_onto (take i text)) (piece_step text i open_count h ∙ ap (λ b. cond b ([] ∷ rest) (onto_first byte_here rest)) t)
      ∙ sym (front_onto_push (take i text) byte_here rest) ∙ ap (λ s. front_onto s rest) (sym (take_more text i 0 h))

  pub piece_here : (byte_here == 44 && (open_count == 0)) ≡ true → pieces 0 text ≡ front_onto (take i text) (pieces open_count (drop i text))
      → pieces 0 text ≡ pieces_from i text
  piece_here t same =
      let rest = pieces (open_after byte_here open_count) (drop (i + 1) text) in
      same ∙ ap (front_onto (take i text)) (piece_step text i open_count h ∙ ap (λ b. cond b ([] ∷ rest) (onto_first byte_here rest)) t)
      ∙ front_onto_first (take i text) [] rest
      ∙ ap (λ s. s ∷ rest) (append-nil (take i text))
      ∙ ap (λ n. take i text ∷ pieces n (drop (i + 1) text)) (open_after_comma byte_here open_count t)
      ∙ sym (ap (λ b. cond b (take i text ∷ pieces 0 (drop (i + 1) text)) (text ∷ [])) (lt-ltb i (length text) h))

pub piece_last : (text : List ℕ) (i open_count : ℕ) → length text ≤ i → pieces 0 text ≡ front_onto (take i text) (pieces open_count (drop i text))
    → pieces 0 text ≡ pieces_from (length text) text
piece_last text i open_count h same =
    same ∙ ap (front_onto (take i text)) (at_drop_all (pieces open_count) text i h)
    ∙ front_onto_first (take i text) [] []
    ∙ ap (λ s. s ∷ []) (append-nil (take i text) ∙ take_all i text h)
    ∙ sym (ap (λ b. cond b (take (length text) text ∷ pieces 0 (drop (length text + 1) text)) (text ∷ [])) (le-ltb (length text) (length text) (omega arith)))

-- bytes outside references as items of a text, one for each byte
pub plain_bytes : List ℕ → List Item
plain_bytes s = map byte s

-- if no reference begins at index `i` of a text and its items before `i` are bytes, so are those before `i + 1`
pub items_later : (text : List ℕ) (i : ℕ) → i < length text → begins_reference (drop i text) ≡ false
    → items false 0 text ≡ map byte (take i text) ++ items false 0 (drop i text)
    → items false 0 text ≡ map byte (take (i + 1) text) ++ items false 0 (drop (i + 1) text)
items_later text i h none same =
    let c = get_or text i 0 in
    let front : drop i text ≡ c ∷ drop (i + 1) text = at_drop_more (λ s. s) text i 0 h in
    same ∙ ap (λ is. map byte (take i text) ++ is) (ap (items false 0) front ∙ items_of_byte c (drop (i + 1) text) (ap begins_reference (sym front) ∙ none))
    ∙ sym (append_assoc (map byte (take i text)) (byte c ∷ []) (items false 0 (drop (i + 1) text)))
    ∙ ap (λ is. is ++ items false 0 (drop (i + 1) text)) (sym (map_push (take i text) c) ∙ ap (map byte) (sym (take_more text i 0 h)))
  where
    map_push : (s : List ℕ) (c : ℕ) → map byte (s ++ c ∷ []) ≡ map byte s ++ byte c ∷ []
    map_push [] c = refl
    map_push (d ∷ s) c = ap (λ is. byte d ∷ is) (map_push s c)

-- the front of a reference
record IsFront (text : List ℕ) : Type 0 where
  rest : List ℕ
  whole : text ≡ 36 ∷ 40 ∷ rest

front_of : (text : List ℕ) → begins_reference text ≡ true → IsFront text
front_of [] e = absurd (let z : ⊥ = cc in z)
front_of (c ∷ []) e = absurd (let z : ⊥ = cc in z)
front_of (c ∷ d ∷ s) e =
    let dollar : c ≡ 36 = eqb-true c 36 (first_so (c == 36) (d == 40) e) in
    let paren : d ≡ 40 = eqb-true d 40 (second_so (c == 36) (d == 40) e) in
    record { rest = s; whole = ap (λ x. x ∷ d ∷ s) dollar ∙ ap (λ y. 36 ∷ y ∷ s) paren }

-- the items of a text that begins with a reference are this reference and the items of the bytes after its `)`
pub items_at_reference : (q : Bool) (text : List ℕ) (n : ℕ) → begins_reference text ≡ true → inside_length 0 (drop 2 text) ≡ Some n
    → items q 0 text ≡ reference (take n (drop 2 text)) ∷ items q 0 (drop (n + 1) (drop 2 text))
items_at_reference q text n begins ends =
    let f = front_of text begins in
    let r = inside_found 0 (drop 2 text) n ends in
    let rest : f.rest ≡ drop 2 text = sym (ap (drop 2) f.whole) in
    let closed : inside_length 0 (r.inside ++ 41 ∷ r.rest) ≡ Some (length r.inside) = ap (inside_length 0) (sym r.whole) ∙ ends ∙ ap Some (sym r.place) in
    let inside : take n (drop 2 text) ≡ r.inside = ap (λ s. take n s) r.whole ∙ ap (λ k. take k (r.inside ++ 41 ∷ r.rest)) (sym r.place)
    ∙ take-append_seam r.inside (41 ∷ r.rest) in
    let later : drop (n + 1) (drop 2 text) ≡ r.rest = ap (λ s. drop (n + 1) s) r.whole ∙ ap (λ k. drop (k + 1) (r.inside ++ 41 ∷ r.rest)) (sym r.place)
    ∙ drop_past r.inside r.rest in
    ap (items q 0) (f.whole ∙ ap (λ s. 36 ∷ 40 ∷ s) (rest ∙ r.whole)) ∙ items_of_reference q r.inside r.rest closed
    ∙ ap (λ s. reference s ∷ items q 0 r.rest) (sym inside) ∙ ap (λ s. reference (take n (drop 2 text)) ∷ items q 0 s) (sym later)
  where
    drop_past : (s t : List ℕ) → drop (length s + 1) (s ++ 41 ∷ t) ≡ t
    drop_past [] t = refl
    drop_past (c ∷ s) t = ap (λ n. drop n (c ∷ (s ++ 41 ∷ t))) (let e : suc (length s) + 1 ≡ suc (length s + 1) = omega arith in e) ∙ drop_past s t

pub items_at_unterminated : (q : Bool) (text : List ℕ) → begins_reference text ≡ true → inside_length 0 (drop 2 text) ≡ None
    → (more : List Item) × (items q 0 text ≡ unterminated (drop 2 text) ∷ more)
items_at_unterminated q text begins never =
    let f = front_of text begins in
    let rest : f.rest ≡ drop 2 text = sym (ap (drop 2) f.whole) in
    let whole : text ≡ 36 ∷ 40 ∷ drop 2 text = f.whole ∙ ap (λ s. 36 ∷ 40 ∷ s) rest in (
      items q (pred (length (item_bytes (unterminated (drop 2 text))))) (40 ∷ drop 2 text),
      ap (items q 0) whole ∙ ap (λ r. let i = reference_of (drop 2 text) r in i ∷ items q (pred (length (item_bytes i))) (40 ∷ drop 2 text)) never,
    )

-- the pieces of a reference are those found so far, the next one up to its comma, and those after the comma
pub pieces_more : (before : List (List ℕ)) (rest : List ℕ) (n : ℕ) (whole : List (List ℕ)) → n < length rest → whole ≡ before ++ pieces 0 rest
    → pieces 0 rest ≡ pieces_from n rest
    → whole ≡ (before ++ take n rest ∷ []) ++ pieces 0 (drop (n + 1) rest)
pieces_more before rest n whole h same cut =
    same ∙ ap (λ ps. before ++ ps) (cut ∙ ap (λ b. cond b (take n rest ∷ pieces 0 (drop (n + 1) rest)) (rest ∷ [])) (lt-ltb n (length rest) h))
    ∙ sym (append_assoc before (take n rest ∷ []) (pieces 0 (drop (n + 1) rest)))

pub pieces_all : (before : List (List ℕ)) (rest : List ℕ) (n : ℕ) (whole : List (List ℕ)) → n ≡ length rest → whole ≡ before ++ pieces 0 rest
    → pieces 0 rest ≡ pieces_from n rest
    → whole ≡ before ++ rest ∷ []
pieces_all before rest n whole h same cut =
    same ∙ ap (λ ps. before ++ ps) (cut ∙ ap (λ b. cond b (take n rest ∷ pieces 0 (drop (n + 1) rest)) (rest ∷ [])) (le-ltb n (length rest) (omega (arith, h))))

pub rest_is : (rest : List ℕ) (n : ℕ) → take (length rest - n) (drop n rest) ≡ drop n rest
rest_is rest n = grind (arith, common_steps)

drop_one : (s : List ℕ) (n : ℕ) → drop 1 (drop n s) ≡ drop (n + 1) s
drop_one s zero = refl
drop_one [] (suc n) = sym (ap (λ k. drop k []) (let e : suc n + 1 ≡ suc (n + 1) = omega arith in e))
drop_one (c ∷ s) (suc n) = drop_one s n ∙ ap (λ k. drop k (c ∷ s)) (let e : suc (n + 1) ≡ suc n + 1 = omega arith in e)

texts_push : (ts : List (Bor (List ℕ))) (t : Bor (List ℕ)) → texts_of_slices (ts ++ t ∷ []) ≡ texts_of_slices ts ++ t.now ∷ []
texts_push [] t = refl
texts_push (s ∷ ts) t = ap (λ xs. s.now ∷ xs) (texts_push ts t)

-- the code's slice of the next piece, appended to those of the pieces so far, leaves the pieces after its comma
pub pieces_kept : (before after : List (Bor (List ℕ))) (piece : Bor (List ℕ)) (rest : List ℕ) (n : ℕ) (whole : List (List ℕ)) → n < length rest
    → piece.now ≡ take n rest → after ≡ before ++ piece ∷ []
    → whole ≡ texts_of_slices before ++ pieces 0 rest → pieces 0 rest ≡ pieces_from n rest → (next : List ℕ)
    → next ≡ take (length (take (length rest - n) (drop n rest)) - 1) (drop 1 (take (length rest - n) (drop n rest)))
    → whole ≡ texts_of_slices after ++ pieces 0 next
pieces_kept before after piece rest n whole h text pushed same cut next is =
    pieces_more (texts_of_slices before) rest n whole h same cut
    ∙ ap (λ t. (texts_of_slices before ++ t ∷ []) ++ pieces 0 (drop (n + 1) rest)) (sym text)
    ∙ ap (λ ts. ts ++ pieces 0 (drop (n + 1) rest)) (sym (ap texts_of_slices pushed ∙ texts_push before piece))
    ∙ ap (λ s. texts_of_slices after ++ pieces 0 s) (sym (is ∙ rest_is (take (length rest - n) (drop n rest)) 1
    ∙ ap (drop 1) (rest_is rest n) ∙ drop_one rest n))

-- the code's slice of the last piece, appended to those of the pieces so far, makes them all pieces of the reference
pub pieces_done : (before after : List (Bor (List ℕ))) (piece : Bor (List ℕ)) (rest : List ℕ) (n : ℕ) (whole : List (List ℕ)) → n ≡ length rest
    → piece.now ≡ take n rest → after ≡ before ++ piece ∷ []
    → whole ≡ texts_of_slices before ++ pieces 0 rest → pieces 0 rest ≡ pieces_from n rest → texts_of_slices after ≡ whole
pieces_done before after piece rest n whole h text pushed same cut =
    ap texts_of_slices pushed ∙ texts_push before piece ∙ ap (λ t. texts_of_slices before ++ t ∷ []) (text ∙ take_all n rest (omega (arith, h)))
    ∙ sym (pieces_all (texts_of_slices before) rest n whole h same cut)

-- the items of a text that begins with a reference, given the slices that the code cuts from the text
pub front_cut : (text : List ℕ) (n : ℕ) → begins_reference text ≡ true → inside_length 0 (take (length text - 2) (drop 2 text)) ≡ Some n → (q : Bool)
    → (let s = take (length text - 2) (drop 2 text) in items q 0 text ≡ reference (take n s) ∷ items q 0 (take (length s - (n + 1)) (drop (n + 1) s)))
front_cut text n begins ends q =
    let same = rest_is text 2 in
    let s = take (length text - 2) (drop 2 text) in
    items_at_reference q text n begins (ap (inside_length 0) (sym same) ∙ ends)
    ∙ ap (λ t. reference (take n t) ∷ items q 0 (drop (n + 1) t)) (sym same)
    ∙ ap (λ t. reference (take n s) ∷ items q 0 t) (sym (rest_is s (n + 1)))

pub front_uncut : (text : List ℕ) → begins_reference text ≡ true → inside_length 0 (take (length text - 2) (drop 2 text)) ≡ None → (q : Bool)
    → (more : List Item) × (items q 0 text ≡ unterminated (drop 2 text) ∷ more)
front_uncut text begins never q = items_at_unterminated q text begins (ap (inside_length 0) (sym (rest_is text 2)) ∙ never)

take_past : (s t : List ℕ) → take (length s + 1) (s ++ 41 ∷ t) ≡ s ++ 41 ∷ []
take_past [] t = refl
take_past (c ∷ s) t = ap (λ n. take n (c ∷ (s ++ 41 ∷ t))) (let e : suc (length s) + 1 ≡ suc (length s + 1) = omega arith in e)
    ∙ ap (λ x. c ∷ x) (take_past s t)

module _ (text : List ℕ) (n : ℕ) (begins : begins_reference text ≡ true) (ends : inside_length 0 (take (length text - 2) (drop 2 text)) ≡ Some n) where
  abbrev later : List ℕ
  later = take (length text - 2) (drop 2 text)

  found : IsInside (drop 2 text) n
  found = inside_found 0 (drop 2 text) n (ap (inside_length 0) (sym (rest_is text 2)) ∙ ends)

  inside_taken : take n later ≡ found.inside
  inside_taken =
      ap (λ s. take n s) (rest_is text 2 ∙ found.whole) ∙ ap (λ k. take k (found.inside ++ 41 ∷ found.rest)) (sym found.place)
      ∙ take-append_seam found.inside (41 ∷ found.rest)

  whole_is : text ≡ 36 ∷ 40 ∷ (found.inside ++ 41 ∷ found.rest)
  whole_is = let f = front_of text begins in f.whole ∙ ap (λ s. 36 ∷ 40 ∷ s) (sym (ap (drop 2) f.whole) ∙ found.whole)

  -- the front of a text that begins with a reference is `$(`, the bytes between the parentheses, and `)`
  pub front_whole : take (length (take n later) + 3) text ≡ item_bytes (reference (take n later))
  front_whole =
      ap (λ x. take (length x + 3) text) inside_taken ∙ ap (λ t. take (length found.inside + 3) t) whole_is
      ∙ ap (λ k. take k (36 ∷ 40 ∷ (found.inside ++ 41 ∷ found.rest))) (let e : length found.inside + 3 ≡ suc (suc (length found.inside + 1)) =
      omega arith in e)
      ∙ ap (λ x. 36 ∷ 40 ∷ x) (take_past found.inside found.rest) ∙ sym (ap (λ x. 36 ∷ 40 ∷ (x ++ 41 ∷ [])) inside_taken)

  pub front_fits : length (take n later) + 3 ≤ length text
  front_fits = omega (arith, ap length inside_taken, ap length whole_is, length-append found.inside (41 ∷ found.rest))
