-- A JSON value whose numbers are small is printed on one line, and is read back.
use Rattle.std.proofs.Common.{◌≡◌, ℕ, suc, ◌+◌, ◌/◌, ◌%◌, ◌<◌, ◌≤◌, ◌^◌, Bool, true, false, not, cond, ◌&&◌, ◌==◌, nat_lt, List, [], ◌∷◌, ◌++◌, length, get_or, decimal, refl, ap, sym, ◌∙◌, subst, arith}
use Rattle.std.specs.List.{AllByRecursion}
use Rattle.std.specs.Char.{digit_char}
use Rattle.std.proofs.lemmas.Bool.{eqb-true, ne_eqb}
use Rattle.std.proofs.lemmas.Fmt.{decimal_is_IsNumeral}
use Rattle.std.proofs.lemmas.Str.Parse.{digit_at}
use Rattle.json.specs.Token.{Token}
use Rattle.json.specs.Json.{Json, null, boolean, string, number, array, object, Items, no_items, item, Members, no_members, member}
use Rattle.json.specs.Print.{print, print_from, token_text, separator, begins, ends, IsNumber, escape, escape_byte, escape_letter, quoted}
use Rattle.json.specs.Tree.{json_tokens, items_tokens, members_tokens, HasNumbers, ItemsHaveNumbers, MembersHaveNumbers}
use Rattle.json.proofs.Printed.Decimals.{IsNumber-decimal}
use Rattle.kmin_messages.specs.ShownTexts.{has_no_byte}
use Rattle.kmin_messages.specs.SmallNumbers.{HasSmallNumbers, ItemsAreSmall, MembersAreSmall}
use Rattle.kmin_messages.proofs.SafeBytes.{cond_passes, all_joined, not_byte}

other_letter : (x : ℕ) → (x == 10) ≡ false → not (escape_letter x == 10) ≡ true
other_letter x h =
    let p = λ (l : ℕ). not (l == 10) in
    cond_passes p _ x _ (ap not h)
    (cond_passes p (x == 8) 98 _ refl (cond_passes p (x == 12) 102 _ refl (cond_passes p (x == 10) 110 _ refl
    (cond_passes p (x == 13) 114 _ refl (cond_passes p (x == 9) 116 0 refl refl)))))

digit_safe : (d : ℕ) → not (digit_char d == 10) ≡ true
digit_safe d = cond_passes (λ l. not (l == 10)) (nat_lt d 10) (48 + d) (87 + d) (not_byte (48 + d) 10 (λ e. omega arith)) (not_byte (87 + d) 10 (λ e. omega arith))

pair_safe : (a b : ℕ) → not (a == 10) ≡ true → not (b == 10) ≡ true → has_no_byte 10 (a ∷ b ∷ []) ≡ true
pair_safe a b h k = rw (h, k) refl

byte_safe_at : (x : ℕ) (b : Bool) → (x == 10) ≡ b → has_no_byte 10 (escape_byte x) ≡ true
unfolding escape_byte
byte_safe_at x true e = rw (eqb-true x 10 e) refl
byte_safe_at x false e =
    cond_passes (has_no_byte 10) (nat_lt 0 (escape_letter x)) (92 ∷ escape_letter x ∷ [])
    (cond (nat_lt x 32) (92 ∷ 117 ∷ 48 ∷ 48 ∷ digit_char (x / 16) ∷ digit_char (x % 16) ∷ []) (x ∷ [])) (pair_safe 92 (escape_letter x) refl (other_letter x e))
    (cond_passes (has_no_byte 10) (nat_lt x 32) (92 ∷ 117 ∷ 48 ∷ 48 ∷ digit_char (x / 16) ∷ digit_char (x % 16) ∷ []) (x ∷ [])
    (pair_safe (digit_char (x / 16)) (digit_char (x % 16)) (digit_safe (x / 16)) (digit_safe (x % 16))) (rw e refl))

escape_safe : (s : List ℕ) → has_no_byte 10 (escape s) ≡ true
escape_safe [] = refl
escape_safe (x ∷ s) = all_joined _ (escape_byte x) (escape s) (byte_safe_at x (x == 10) refl) (escape_safe s)

quoted_safe : (s : List ℕ) → has_no_byte 10 (quoted s) ≡ true
quoted_safe s = all_joined _ (escape s) (34 ∷ []) (escape_safe s) refl

digits_safe : (ds : List ℕ) → ((i : ℕ) → i < length ds → 48 ≤ get_or ds i 0) → has_no_byte 10 ds ≡ true
digits_safe [] h = refl
digits_safe (d ∷ ds) h =
    let first : 48 ≤ d = h 0 (omega arith) in
    rw (ne_eqb d 10 (λ e. omega arith)) (digits_safe ds (λ i l. h (suc i) (omega arith)))

pub decimal_safe : (n : ℕ) → n < 2 ^ 64 → has_no_byte 10 (decimal n) ≡ true
decimal_safe n h = digits_safe (decimal n) (λ i l. (digit_at _ i (decimal_is_IsNumeral n h).0.1 l).0)

-- a token is written without a newline
abbrev IsSafe : Token → Type 0
IsSafe t = has_no_byte 10 (token_text t) ≡ true

joined_safe : (ts us : List Token) → AllByRecursion IsSafe ts → AllByRecursion IsSafe us → AllByRecursion IsSafe (ts ++ us)
joined_safe [] us h k = k
joined_safe (t ∷ ts) us h k = (h.0, joined_safe ts us h.1 k)

mutual
  value_safe : (j : Json) → HasSmallNumbers j → AllByRecursion IsSafe (json_tokens j)
  value_safe null h = (refl, tt)
  value_safe (boolean true) h = (refl, tt)
  value_safe (boolean false) h = (refl, tt)
  value_safe (number s) h = (ap (has_no_byte 10) h.2 ∙ decimal_safe h.0 h.1, tt)
  value_safe (string s) h = (quoted_safe s, tt)
  value_safe (array js) h = (refl, items_safe js h)
  value_safe (object ms) h = (refl, members_safe ms h)

  items_safe : (js : Items) → ItemsAreSmall js → AllByRecursion IsSafe (items_tokens js)
  items_safe no_items h = (refl, tt)
  items_safe (item j js) h = joined_safe (json_tokens j) (items_tokens js) (value_safe j h.0) (items_safe js h.1)

  members_safe : (ms : Members) → MembersAreSmall ms → AllByRecursion IsSafe (members_tokens ms)
  members_safe no_members h = (refl, tt)
  members_safe (member k j ms) h = (
    all_joined (λ c. not (c == 10)) (quoted k) (58 ∷ []) (quoted_safe k) refl,
    joined_safe (json_tokens j) (members_tokens ms) (value_safe j h.0) (members_safe ms h.1),
  )

print_safe : (b : Bool) (ts : List Token) → AllByRecursion IsSafe ts → has_no_byte 10 (print_from b ts) ≡ true
unfolding print_from
print_safe b [] h = refl
print_safe b (t ∷ ts) h =
    all_joined _ (separator b t) _ (cond_passes (has_no_byte 10) (b && begins t) (44 ∷ []) [] refl refl)
    (all_joined _ (token_text t) _ h.0 (print_safe (ends t) ts h.1))

-- a value whose numbers are small is printed without a newline
pub printed_one_line : (j : Json) → HasSmallNumbers j → has_no_byte 10 (print (json_tokens j)) ≡ true
printed_one_line j small = print_safe false (json_tokens j) (value_safe j small)

-- its numbers are those of JSON
mutual
  pub numbers : (j : Json) → HasSmallNumbers j → HasNumbers j
  numbers null h = tt
  numbers (boolean b) h = tt
  numbers (number s) h = subst IsNumber (sym h.2) (IsNumber-decimal h.0 h.1)
  numbers (string s) h = tt
  numbers (array js) h = item_numbers js h
  numbers (object ms) h = member_numbers ms h

  item_numbers : (js : Items) → ItemsAreSmall js → ItemsHaveNumbers js
  item_numbers no_items h = tt
  item_numbers (item j js) h = (numbers j h.0, item_numbers js h.1)

  member_numbers : (ms : Members) → MembersAreSmall ms → MembersHaveNumbers ms
  member_numbers no_members h = tt
  member_numbers (member k j ms) h = (numbers j h.0, member_numbers ms h.1)
