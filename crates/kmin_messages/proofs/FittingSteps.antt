-- The text that is shown, character by character.
use Rattle.std.proofs.Common.{◌≡◌, ℕ, ◌+◌, ◌-◌, ◌<◌, ◌≤◌, Bool, true, false, nat_le, List, [], ◌∷◌, ◌++◌, length, drop, map, get_or, append_assoc, append-nil, length-append, refl, ap, sym, subst, ◌∙◌, arith}
use Rattle.std.proofs.lemmas.Bool.{le-leb}
use Rattle.std.proofs.lemmas.Bool.Decides.{nat_tests}
use Rattle.std.proofs.lemmas.List.{drop_more}
use Rattle.std.proofs.Math.ListN.{drop_of_length-le}
use Rattle.kmin_messages.specs.ShownTexts.{fitting, shown_char, has_no_control_byte}
use Rattle.kmin_messages.specs.between.Pieces.{PushesFitting}
use Rattle.kmin_messages.proofs.SafeBytes.{all_joined}
use Rattle.kmin_messages.proofs.PlainTexts.{char_plain}

-- of what is shown, these bytes are there, and the characters from place n on are still to come
pub record IsShownUpTo (cs done : List ℕ) (n : ℕ) (all : List ℕ) : Type 0 where
  pub whole : done ++ fitting (200 - length done) (map shown_char (drop n cs)) ≡ all
  pub short : length done ≤ 200
  pub plain : has_no_control_byte done ≡ true

piece_fits : (done piece : List ℕ) (rest : List (List ℕ)) → length done + length piece ≤ 200
    → fitting (200 - length done) (piece ∷ rest) ≡ piece ++ fitting (200 - length (done ++ piece)) rest
piece_fits done piece rest h =
    let test : nat_le (length piece) (200 - length done) ≡ true = le-leb (length piece) (200 - length done) (omega arith) in
    let room : 200 - length done - length piece ≡ 200 - length (done ++ piece) = omega (arith, length-append done piece) in
    rw test (ap (λ r. piece ++ fitting r rest) room)

piece_left : (done piece : List ℕ) (rest : List (List ℕ)) → 200 < length done + length piece → length done ≤ 200
    → fitting (200 - length done) (piece ∷ rest) ≡ []
piece_left done piece rest h k =
    let test : nat_le (length piece) (200 - length done) ≡ false = grind (arith, nat_tests) in
    rw test refl

sum_fits : (a b : ℕ) → true ≡ nat_le (a + b) 200 → a + b ≤ 200
sum_fits a b h = grind (arith, nat_tests)

sum_left : (a b : ℕ) → false ≡ nat_le (a + b) 200 → 200 < a + b
sum_left a b h = grind (arith, nat_tests)

module _ (cs done new all : List ℕ) (n m c : ℕ) (so_far : IsShownUpTo cs done n all) (within : n < length cs) (here : c ≡ get_or cs n c) where
  pieces_from : map shown_char (drop n cs) ≡ shown_char c ∷ map shown_char (drop (n + 1) cs)
  pieces_from = ap (map shown_char) (drop_more cs n c within) ∙ ap (λ d. shown_char d ∷ map shown_char (drop (n + 1) cs)) (sym here)

  -- a character that fits is shown
  pub shown_more : m ≡ n + 1 → PushesFitting done new (shown_char c) true → IsShownUpTo cs new m all
  shown_more next_place p =
      let sum : length done + length (shown_char c) ≤ 200 = sum_fits _ _ p.tested in
      let bytes : new ≡ done ++ shown_char c = p.bytes in
      record {
        whole = rw (bytes, next_place) (append_assoc done (shown_char c) (fitting (200 - length (done ++ shown_char c)) (map shown_char (drop (n + 1) cs)))
            ∙ ap (λ t. done ++ t) (sym (piece_fits done (shown_char c) (map shown_char (drop (n + 1) cs)) sum) ∙ ap (fitting (200 - length done)) (sym pieces_from))
            ∙ so_far.whole);
        short = rw bytes (omega (arith, length-append done (shown_char c)));
        plain = rw bytes (all_joined _ done (shown_char c) so_far.plain (char_plain c));
      }

  -- where a character doesn't fit, all is shown
  pub shown_cut : PushesFitting done new (shown_char c) false → new ≡ all
  shown_cut p =
      let sum : 200 < length done + length (shown_char c) = sum_left _ _ p.tested in
      p.bytes ∙ sym (append-nil done)
      ∙ ap (λ t. done ++ t) (sym (piece_left done (shown_char c) (map shown_char (drop (n + 1) cs)) sum so_far.short)
      ∙ ap (fitting (200 - length done)) (sym pieces_from))
      ∙ so_far.whole

-- where no character is left, all is shown
pub shown_end : (cs done all : List ℕ) (n : ℕ) → IsShownUpTo cs done n all → n ≡ length cs → done ≡ all
shown_end cs done all n h e =
    sym (append-nil done)
    ∙ ap (λ t. done ++ t) (sym (ap (λ ds. fitting (200 - length done) (map shown_char ds)) (drop_of_length-le cs (omega (arith, e))))) ∙ h.whole

-- whether a piece fits, by a branch on that
pub fits : (old new piece : List ℕ) (b : Bool) → b ≡ true → PushesFitting old new piece b → PushesFitting old new piece true
fits old new piece b e p = subst (λ v. PushesFitting old new piece v) e p

pub fits_not : (old new piece : List ℕ) (b : Bool) → b ≡ false → PushesFitting old new piece b → PushesFitting old new piece false
fits_not old new piece b e p = subst (λ v. PushesFitting old new piece v) e p
