-- What begins bytes: a white byte, a comment, the longest token, or nothing.
use Rattle.kc_tokens.proofs.Common.{◌≡◌, ℕ, suc, ◌+◌, ◌<◌, ◌≤◌, Bool, true, false, ◌&&◌, ◌||◌, eqb, cond, List, [], ◌∷◌, ◌++◌, length, take, drop, get_or, Option, Some, None, refl, ap, sym, ◌∙◌, subst, append_assoc, length-append, arith, take_while, list_all, and_parts, eqb-true, take-append_seam}
use Rattle.kc_tokens.proofs.Common.{IsBetweenQuotes, closing, body_closes, ExprKind, Language, NextToken, White, Comment, Token, Fault, Equal, NotEqual, Less, Greater, LessEqual, GreaterEqual, TokenKind, Word, Quoted, Relation, Not, And, Or, Open, Close, is_quote, is_white_byte, is_word_byte}
use Rattle.kc_tokens.proofs.Common.{dollar_left_out, quoted_up_to, quoted_or_left_out, IsQuotedToken, IsToken, IsLongest}
use Rattle.std.proofs.lemmas.Bool.{both_ways}
use Rattle.kc_value.specs.QuotedTexts.{unescaped}
use Rattle.kc_value.proofs.QuotedLaws.{closed, IsClosed}
use Rattle.kc_tokens.specs.declared.fault.ExprKind.TheVariants.{BadToken, UnclosedQuote, LeftOut}
use Rattle.kc_tokens.specs.Token.{next_token, next_operator}
use Rattle.kc_tokens.specs.TokenGrammar.{NothingBegins, IsFaultAt, dollar, unclosed, dollar_between, other_byte}
use Rattle.kc_tokens.proofs.Dollars.{dollars_between, first_left_out}
use Rattle.kc_tokens.proofs.TokenSteps.{word_run}
use Rattle.kc_tokens.proofs.TokenLaws.{run_all, run_front, front_run, quote_facts, quote_no_slash, lead_quoted, quoted_lead}

-- bytes begin with a token of a kind and a length, the longest that fits
pub record IsTokenAt (language : Language) (k : TokenKind) (len : ℕ) (bytes : List ℕ) : Type 0 where
  pub text : List ℕ
  pub rest : List ℕ
  pub parts : bytes ≡ text ++ rest
  pub size : length text ≡ len
  pub is : IsToken language k text
  pub longest : IsLongest language text bytes

-- bytes begin as a `NextToken` says: with white space, a comment, a token, or a byte at which nothing begins and its fault
abbrev pub IsNextToken : Language → ℕ → List ℕ → NextToken → Type 0
IsNextToken language b bs White = is_white_byte b ≡ true
IsNextToken language b bs Comment = b ≡ 35
IsNextToken language b bs (Token k len) = IsTokenAt language k len (b ∷ bs)
IsNextToken language b bs (Fault k n) = NothingBegins language b bs × ((at : ℕ) → IsFaultAt language at (b ∷ bs) (record { offset = at + n; kind = k }))

-- a fault at the very byte
here_at : (language : Language) (k : ExprKind) (bytes : List ℕ) → ((at : ℕ) → IsFaultAt language at bytes (record { offset = at; kind = k })) → (at : ℕ)
    → IsFaultAt language at bytes (record { offset = at + 0; kind = k })
here_at language k bytes f at = subst (λ n. IsFaultAt language at bytes (record { offset = n; kind = k })) (let q : at ≡ at + 0 = omega arith in q) (f at)

same_head : (a b : ℕ) (xs ys : List ℕ) → a ∷ xs ≡ b ∷ ys → a ≡ b
same_head a b xs ys e = cc

same_rest : (a b : ℕ) (xs ys : List ℕ) → a ∷ xs ≡ b ∷ ys → xs ≡ ys
same_rest a b xs ys e = cc

-- pairs of bytes that are operators
abbrev is_pair : ℕ → ℕ → Bool
is_pair a b = (eqb a 33 && eqb b 61) || (eqb a 60 && eqb b 61) || (eqb a 62 && eqb b 61) || (eqb a 38 && eqb b 38) || (eqb a 124 && eqb b 124)

-- bytes that are operators
abbrev is_single : ℕ → Bool
is_single b = eqb b 33 || eqb b 60 || eqb b 62 || eqb b 61 || eqb b 40 || eqb b 41

-- tokens at the front of bytes that begin with no white byte, comment, word byte or quote
module _ (language : Language) (b : ℕ) (bs : List ℕ) (no_white : is_white_byte b ≡ false) (no_hash : eqb b 35 ≡ false) (no_word : is_word_byte b ≡ false)
    (no_quote : is_quote b ≡ false) where
  word_front : (front rest : List ℕ) → b ∷ bs ≡ front ++ rest → IsToken language Word front → ⊥
  word_front [] rest e is = omega (arith, is.0)
  word_front (c ∷ cs) rest e is =
      let (w, r) = and_parts (is_word_byte c) (list_all is_word_byte cs) is.1 in
      both_ways (is_word_byte b) no_word (ap is_word_byte (same_head b c bs (cs ++ rest) e) ∙ w)

  quoted_front : (front rest : List ℕ) → b ∷ bs ≡ front ++ rest → IsToken language Quoted front → ⊥
  quoted_front front rest e is =
      both_ways (is_quote b) no_quote (ap is_quote (same_head b is.quote bs ((is.body ++ is.quote ∷ []) ++ rest) (e ∙ ap (λ x. x ++ rest) is.parts)) ∙ is.sort)

  at_most_two : (k : TokenKind) (front rest : List ℕ) → b ∷ bs ≡ front ++ rest → IsToken language k front → length front ≤ 2
  at_most_two Word front rest e is = absurd (word_front front rest e is)
  at_most_two Quoted front rest e is = absurd (quoted_front front rest e is)
  at_most_two (Relation Equal) front rest e is = rw is (omega arith)
  at_most_two (Relation NotEqual) front rest e is = rw is (omega arith)
  at_most_two (Relation Less) front rest e is = rw is (omega arith)
  at_most_two (Relation Greater) front rest e is = rw is (omega arith)
  at_most_two (Relation LessEqual) front rest e is = rw is (omega arith)
  at_most_two (Relation GreaterEqual) front rest e is = rw is (omega arith)
  at_most_two Not front rest e is = rw is (omega arith)
  at_most_two And front rest e is = rw is (omega arith)
  at_most_two Or front rest e is = rw is (omega arith)
  at_most_two Open front rest e is = rw is (omega arith)
  at_most_two Close front rest e is = rw is (omega arith)

  pair_front : (c d : ℕ) (rest : List ℕ) → is_pair c d ≡ true → b ∷ bs ≡ c ∷ d ∷ rest → is_pair b (get_or bs 0 0) ≡ true
  pair_front c d rest p e =
      ap (λ x. is_pair x (get_or bs 0 0)) (same_head b c bs (d ∷ rest) e) ∙ ap (λ xs. is_pair c (get_or xs 0 0)) (same_rest b c bs (d ∷ rest) e) ∙ p

  module _ (no_pair : is_pair b (get_or bs 0 0) ≡ false) where
    pair_no : (c d : ℕ) (front rest : List ℕ) → is_pair c d ≡ true → b ∷ bs ≡ front ++ rest → front ≡ c ∷ d ∷ [] → ⊥
    pair_no c d front rest p e f = both_ways _ no_pair (pair_front c d rest p (e ∙ ap (λ x. x ++ rest) f))

    two_no : (c d : ℕ) (front rest : List ℕ) → is_pair c d ≡ true → b ∷ bs ≡ front ++ rest → front ≡ c ∷ d ∷ [] → length front ≤ 1
    two_no c d front rest p e f = absurd (pair_no c d front rest p e f)

    at_most_one : (k : TokenKind) (front rest : List ℕ) → b ∷ bs ≡ front ++ rest → IsToken language k front → length front ≤ 1
    at_most_one Word front rest e is = absurd (word_front front rest e is)
    at_most_one Quoted front rest e is = absurd (quoted_front front rest e is)
    at_most_one (Relation Equal) front rest e is = rw is (omega arith)
    at_most_one (Relation Less) front rest e is = rw is (omega arith)
    at_most_one (Relation Greater) front rest e is = rw is (omega arith)
    at_most_one Not front rest e is = rw is (omega arith)
    at_most_one Open front rest e is = rw is (omega arith)
    at_most_one Close front rest e is = rw is (omega arith)
    at_most_one (Relation NotEqual) front rest e is = two_no 33 61 front rest refl e is
    at_most_one (Relation LessEqual) front rest e is = two_no 60 61 front rest refl e is
    at_most_one (Relation GreaterEqual) front rest e is = two_no 62 61 front rest refl e is
    at_most_one And front rest e is = two_no 38 38 front rest refl e is
    at_most_one Or front rest e is = two_no 124 124 front rest refl e is

    -- no token begins with a byte that is no operator
    module _ (no_single : is_single b ≡ false) where
      one_no : (c : ℕ) (front rest : List ℕ) → is_single c ≡ true → b ∷ bs ≡ front ++ rest → front ≡ c ∷ [] → ⊥
      one_no c front rest s e f = both_ways (is_single b) no_single (ap is_single (same_head b c bs rest (e ∙ ap (λ x. x ++ rest) f)) ∙ s)

      no_token : (k : TokenKind) (front rest : List ℕ) → b ∷ bs ≡ front ++ rest → IsToken language k front → ⊥
      no_token Word front rest e is = word_front front rest e is
      no_token Quoted front rest e is = quoted_front front rest e is
      no_token (Relation Equal) front rest e is = one_no 61 front rest refl e is
      no_token (Relation NotEqual) front rest e is = pair_no 33 61 front rest refl e is
      no_token (Relation Less) front rest e is = one_no 60 front rest refl e is
      no_token (Relation Greater) front rest e is = one_no 62 front rest refl e is
      no_token (Relation LessEqual) front rest e is = pair_no 60 61 front rest refl e is
      no_token (Relation GreaterEqual) front rest e is = pair_no 62 61 front rest refl e is
      no_token Not front rest e is = one_no 33 front rest refl e is
      no_token And front rest e is = pair_no 38 38 front rest refl e is
      no_token Or front rest e is = pair_no 124 124 front rest refl e is
      no_token Open front rest e is = one_no 40 front rest refl e is
      no_token Close front rest e is = one_no 41 front rest refl e is

      nothing_begins : NothingBegins language b bs
      nothing_begins = (no_white, no_hash, λ k text rest e is. no_token k text rest e is)

      bad_is_next : eqb b 36 ≡ false → IsNextToken language b bs (Fault BadToken 0)
      bad_is_next d = (nothing_begins, here_at language BadToken (b ∷ bs) (λ at. other_byte d no_quote))

      dollar_is_next : b ≡ 36 → IsNextToken language b bs (Fault LeftOut 0)
      dollar_is_next e = (
        nothing_begins,
        here_at language LeftOut (b ∷ bs)
            (λ at. subst (λ c. IsFaultAt language at (c ∷ bs) (record { offset = at; kind = LeftOut })) (sym e) dollar),
      )

  -- an operator of one byte, and one of two
  one_byte : (k : TokenKind) (c : ℕ) → b ≡ c → IsToken language k (c ∷ []) → is_pair b (get_or bs 0 0) ≡ false → IsTokenAt language k 1 (b ∷ bs)
  one_byte k c e is n = record {
    text = c ∷ [];
    rest = bs;
    parts = ap (λ d. d ∷ bs) e;
    size = refl;
    is = is;
    longest = λ j front rest q t. at_most_one n j front rest q t;
  }

  two_bytes : (k : TokenKind) (c d : ℕ) → b ≡ c → eqb (get_or bs 0 0) d ≡ true → 0 < d → IsToken language k (c ∷ d ∷ []) → IsTokenAt language k 2 (b ∷ bs)
  two_bytes k c d e f p is = record {
    text = c ∷ d ∷ [];
    rest = drop 1 bs;
    parts = ap (λ x. x ∷ bs) e ∙ ap (λ xs. c ∷ xs) (opened bs (eqb-true _ d f));
    size = refl;
    is = is;
    longest = λ j front rest q t. at_most_two j front rest q t;
  }
    where
      opened : (xs : List ℕ) → get_or xs 0 0 ≡ d → xs ≡ d ∷ drop 1 xs
      opened [] g = absurd (omega (arith, g, p))
      opened (x ∷ xs) g = ap (λ y. y ∷ xs) g

  no_pair_at : (c d : ℕ) → b ≡ c → is_pair c (get_or bs 0 0) ≡ eqb (get_or bs 0 0) d → eqb (get_or bs 0 0) d ≡ false → is_pair b (get_or bs 0 0) ≡ false
  no_pair_at c d e f g = ap (λ x. is_pair x (get_or bs 0 0)) e ∙ f ∙ g

  -- two operators with one first byte
  either_way : (t : Bool) (k j : TokenKind) (c d : ℕ) → b ≡ c → 0 < d → IsToken language k (c ∷ d ∷ []) → IsToken language j (c ∷ [])
      → is_pair c (get_or bs 0 0) ≡ eqb (get_or bs 0 0) d → eqb (get_or bs 0 0) d ≡ t → IsNextToken language b bs (cond t (Token k 2) (Token j 1))
  either_way true k j c d e p is js f g = two_bytes k c d e g p is
  either_way false k j c d e p is js f g = one_byte j c e js (no_pair_at c d e f g)

  or_fault : (t : Bool) (k : TokenKind) (c : ℕ) → b ≡ c → 0 < c → IsToken language k (c ∷ c ∷ []) → is_pair c (get_or bs 0 0) ≡ eqb (get_or bs 0 0) c
      → is_single c ≡ false → eqb c 36 ≡ false → eqb (get_or bs 0 0) c ≡ t → IsNextToken language b bs (cond t (Token k 2) (Fault BadToken 0))
  or_fault true k c e p is f s d g = two_bytes k c c e g p is
  or_fault false k c e p is f s d g = bad_is_next (no_pair_at c c e f g) (ap is_single e ∙ s) (ap (λ x. eqb x 36) e ∙ d)

  single : (k : TokenKind) (c : ℕ) → b ≡ c → is_pair c (get_or bs 0 0) ≡ false → IsToken language k (c ∷ []) → IsNextToken language b bs (Token k 1)
  single k c e n is = one_byte k c e is (ap (λ x. is_pair x (get_or bs 0 0)) e ∙ n)

  by_test : (t : Bool) (c : ℕ) (l m : NextToken) → eqb b c ≡ t → (b ≡ c → IsNextToken language b bs l) → (eqb b c ≡ false → IsNextToken language b bs m)
      → IsNextToken language b bs (cond t l m)
  by_test true c l m e f g = f (eqb-true b c e)
  by_test false c l m e f g = g e

  pair_33 : (t : Bool) → (t || false || false || false || false) ≡ t
  pair_33 true = refl
  pair_33 false = refl

  pair_60 : (t : Bool) → (t || false || false || false) ≡ t
  pair_60 true = refl
  pair_60 false = refl

  pair_62 : (t : Bool) → (t || false || false) ≡ t
  pair_62 true = refl
  pair_62 false = refl

  pair_38 : (t : Bool) → (t || false) ≡ t
  pair_38 true = refl
  pair_38 false = refl

  abbrev second_equal : Bool
  second_equal = eqb (get_or bs 0 0) 61

  pub operator_is_next : IsNextToken language b bs (next_operator b (get_or bs 0 0))
  operator_is_next =
      by_test (eqb b 33) 33 _ _ refl (λ e. either_way second_equal (Relation NotEqual) Not 33 61 e (omega arith) refl refl (pair_33 second_equal) refl)
      (λ n33.
      by_test (eqb b 60) 60 _ _ refl (λ e. either_way second_equal (Relation LessEqual) (Relation Less) 60 61 e (omega arith) refl refl
      (pair_60 second_equal) refl)
      (λ n60.
      by_test (eqb b 62) 62 _ _ refl (λ e. either_way second_equal (Relation GreaterEqual) (Relation Greater) 62 61 e (omega arith) refl refl
      (pair_62 second_equal) refl)
      (λ n62.
      by_test (eqb b 38) 38 _ _ refl (λ e. or_fault (eqb (get_or bs 0 0) 38) And 38 e (omega arith) refl (pair_38 (eqb (get_or bs 0 0) 38)) refl refl refl)
      (λ n38. by_test (eqb b 124) 124 _ _ refl (λ e. or_fault (eqb (get_or bs 0 0) 124) Or 124 e (omega arith) refl refl refl refl refl)
      (λ n124. by_test (eqb b 61) 61 _ _ refl (λ e. single (Relation Equal) 61 e refl refl)
      (λ n61. by_test (eqb b 40) 40 _ _ refl (λ e. single Open 40 e refl refl)
      (λ n40. by_test (eqb b 41) 41 _ _ refl (λ e. single Close 41 e refl refl)
      (λ n41. let pairs : is_pair b (get_or bs 0 0) ≡ false = rw (n33, n60, n62, n38, n124) refl in
      let singles : is_single b ≡ false = rw (n33, n60, n62, n61, n40, n41) refl in
      by_test (eqb b 36) 36 _ _ refl (λ e. dollar_is_next pairs singles e) (λ n36. bad_is_next pairs singles n36)))))))))

-- a word at the front
other_word : (language : Language) (k : TokenKind) (b : ℕ) (bs front rest : List ℕ) → (k ≡ Word → ⊥) → is_word_byte b ≡ true → b ∷ bs ≡ front ++ rest
    → IsToken language k front → ⊥
other_word language Word b bs front rest n w e is = n refl
other_word language Quoted b bs front rest n w e is =
    both_ways (is_word_byte b) (ap is_word_byte (same_head b is.quote bs ((is.body ++ is.quote ∷ []) ++ rest) (e ∙ ap (λ x. x ++ rest) is.parts))
    ∙ (quote_facts is.quote is.sort).2) w
other_word language (Relation Equal) b bs front rest n w e is = both_ways (is_word_byte b)
    (ap is_word_byte (same_head b 61 bs rest (e ∙ ap (λ x. x ++ rest) is))) w
other_word language (Relation NotEqual) b bs front rest n w e is = both_ways (is_word_byte b)
    (ap is_word_byte (same_head b 33 bs (61 ∷ rest) (e ∙ ap (λ x. x ++ rest) is))) w
other_word language (Relation Less) b bs front rest n w e is = both_ways (is_word_byte b)
    (ap is_word_byte (same_head b 60 bs rest (e ∙ ap (λ x. x ++ rest) is))) w
other_word language (Relation Greater) b bs front rest n w e is = both_ways (is_word_byte b)
    (ap is_word_byte (same_head b 62 bs rest (e ∙ ap (λ x. x ++ rest) is))) w
other_word language (Relation LessEqual) b bs front rest n w e is = both_ways (is_word_byte b)
    (ap is_word_byte (same_head b 60 bs (61 ∷ rest) (e ∙ ap (λ x. x ++ rest) is))) w
other_word language (Relation GreaterEqual) b bs front rest n w e is =
    both_ways (is_word_byte b) (ap is_word_byte (same_head b 62 bs (61 ∷ rest) (e ∙ ap (λ x. x ++ rest) is))) w
other_word language Not b bs front rest n w e is = both_ways (is_word_byte b) (ap is_word_byte (same_head b 33 bs rest (e ∙ ap (λ x. x ++ rest) is))) w
other_word language And b bs front rest n w e is = both_ways (is_word_byte b) (ap is_word_byte (same_head b 38 bs (38 ∷ rest) (e ∙ ap (λ x. x ++ rest) is))) w
other_word language Or b bs front rest n w e is = both_ways (is_word_byte b) (ap is_word_byte (same_head b 124 bs (124 ∷ rest) (e ∙ ap (λ x. x ++ rest) is))) w
other_word language Open b bs front rest n w e is = both_ways (is_word_byte b) (ap is_word_byte (same_head b 40 bs rest (e ∙ ap (λ x. x ++ rest) is))) w
other_word language Close b bs front rest n w e is = both_ways (is_word_byte b) (ap is_word_byte (same_head b 41 bs rest (e ∙ ap (λ x. x ++ rest) is))) w

word_longest : (language : Language) (k : TokenKind) (b : ℕ) (bs front rest : List ℕ) → is_word_byte b ≡ true → b ∷ bs ≡ front ++ rest
    → IsToken language k front → length front ≤ length (take_while is_word_byte (b ∷ bs))
word_longest language Word b bs front rest w e is = subst (λ x. length front ≤ length (take_while is_word_byte x)) (sym e) (front_run front rest is.1)
word_longest language Quoted b bs front rest w e is = absurd (other_word language Quoted b bs front rest (λ q. cc) w e is)
word_longest language (Relation op) b bs front rest w e is = absurd (other_word language (Relation op) b bs front rest (λ q. cc) w e is)
word_longest language Not b bs front rest w e is = absurd (other_word language Not b bs front rest (λ q. cc) w e is)
word_longest language And b bs front rest w e is = absurd (other_word language And b bs front rest (λ q. cc) w e is)
word_longest language Or b bs front rest w e is = absurd (other_word language Or b bs front rest (λ q. cc) w e is)
word_longest language Open b bs front rest w e is = absurd (other_word language Open b bs front rest (λ q. cc) w e is)
word_longest language Close b bs front rest w e is = absurd (other_word language Close b bs front rest (λ q. cc) w e is)

word_is_next : (language : Language) (b : ℕ) (bs : List ℕ) → is_word_byte b ≡ true
    → IsTokenAt language Word (length (take_while is_word_byte (b ∷ bs))) (b ∷ bs)
word_is_next language b bs w = record {
  text = take_while is_word_byte (b ∷ bs);
  rest = drop (length (take_while is_word_byte (b ∷ bs))) (b ∷ bs);
  parts = run_front (b ∷ bs);
  size = refl;
  is = (word_run (b ∷ bs) (omega arith) w, run_all (b ∷ bs));
  longest = λ k front rest e is. word_longest language k b bs front rest w e is;
}

-- a quoted token at the front
same_some : (m n : ℕ) → Some m ≡ Some n → m ≡ n
same_some m n e = cc

no_quote_at : (b c : ℕ) (bs xs : List ℕ) → is_quote b ≡ true → is_quote c ≡ false → b ∷ bs ≡ c ∷ xs → ⊥
no_quote_at b c bs xs q n e = both_ways (is_quote b) (ap is_quote (same_head b c bs xs e) ∙ n) q

only_quoted : (language : Language) (k : TokenKind) (b : ℕ) (bs front rest : List ℕ) → is_quote b ≡ true → b ∷ bs ≡ front ++ rest → IsToken language k front
    → IsQuotedToken language front
only_quoted language Word b bs [] rest q e is = absurd (omega (arith, is.0))
only_quoted language Word b bs (x ∷ xs) rest q e is =
    let (w, r) = and_parts (is_word_byte x) (list_all is_word_byte xs) is.1 in
    absurd (both_ways (is_word_byte b) (quote_facts b q).2 (ap is_word_byte (same_head b x bs (xs ++ rest) e) ∙ w))
only_quoted language Quoted b bs front rest q e is = is
only_quoted language (Relation Equal) b bs front rest q e is = absurd (no_quote_at b 61 bs rest q refl (e ∙ ap (λ x. x ++ rest) is))
only_quoted language (Relation NotEqual) b bs front rest q e is = absurd (no_quote_at b 33 bs (61 ∷ rest) q refl (e ∙ ap (λ x. x ++ rest) is))
only_quoted language (Relation Less) b bs front rest q e is = absurd (no_quote_at b 60 bs rest q refl (e ∙ ap (λ x. x ++ rest) is))
only_quoted language (Relation Greater) b bs front rest q e is = absurd (no_quote_at b 62 bs rest q refl (e ∙ ap (λ x. x ++ rest) is))
only_quoted language (Relation LessEqual) b bs front rest q e is = absurd (no_quote_at b 60 bs (61 ∷ rest) q refl (e ∙ ap (λ x. x ++ rest) is))
only_quoted language (Relation GreaterEqual) b bs front rest q e is = absurd (no_quote_at b 62 bs (61 ∷ rest) q refl (e ∙ ap (λ x. x ++ rest) is))
only_quoted language Not b bs front rest q e is = absurd (no_quote_at b 33 bs rest q refl (e ∙ ap (λ x. x ++ rest) is))
only_quoted language And b bs front rest q e is = absurd (no_quote_at b 38 bs (38 ∷ rest) q refl (e ∙ ap (λ x. x ++ rest) is))
only_quoted language Or b bs front rest q e is = absurd (no_quote_at b 124 bs (124 ∷ rest) q refl (e ∙ ap (λ x. x ++ rest) is))
only_quoted language Open b bs front rest q e is = absurd (no_quote_at b 40 bs rest q refl (e ∙ ap (λ x. x ++ rest) is))
only_quoted language Close b bs front rest q e is = absurd (no_quote_at b 41 bs rest q refl (e ∙ ap (λ x. x ++ rest) is))

-- a quoted token at the front reaches up to the closing quote
quoted_len : (language : Language) (b n : ℕ) (bs front rest : List ℕ) → closing b false bs ≡ Some n → b ∷ bs ≡ front ++ rest → IsQuotedToken language front
    → length front ≡ n + 1
quoted_len language b n bs front rest c e is =
    let whole = e ∙ ap (λ x. x ++ rest) is.parts in
    let same : b ≡ is.quote = same_head b is.quote bs ((is.body ++ is.quote ∷ []) ++ rest) whole in
    let tail : bs ≡ is.body ++ is.quote ∷ rest = same_rest b is.quote bs ((is.body ++ is.quote ∷ []) ++ rest) whole
    ∙ append_assoc is.body (is.quote ∷ []) rest in
    let close : closing b false bs ≡ Some (suc (length is.body)) =
    ap (λ x. closing x false bs) same ∙ ap (closing is.quote false) tail ∙ body_closes is.quote is.body is.means rest
    (quote_facts is.quote is.sort).0 is.is_between_quotes in
    let k = same_some (suc (length is.body)) n (sym close ∙ c) in
    omega (arith, k, ap length is.parts, length-append is.body (is.quote ∷ []))

quoted_longest : (language : Language) (k : TokenKind) (b n : ℕ) (bs front rest : List ℕ) → is_quote b ≡ true → closing b false bs ≡ Some n
    → b ∷ bs ≡ front ++ rest → IsToken language k front → length front ≤ n + 1
quoted_longest language k b n bs front rest q c e is =
    let l = quoted_len language b n bs front rest c e (only_quoted language k b bs front rest q e is) in omega (arith, l)

up_to_quote : (b n : ℕ) (bs : List ℕ) (k : IsClosed b false bs n) → take (n + 1) (b ∷ bs) ≡ b ∷ (k.body ++ b ∷ [])
up_to_quote b n bs k =
    let whole : List ℕ = b ∷ (k.body ++ b ∷ []) in
    let parts : b ∷ bs ≡ whole ++ k.rest = ap (λ x. b ∷ x) (k.parts ∙ sym (append_assoc k.body (b ∷ []) k.rest)) in
    let size : length whole ≡ n + 1 = omega (arith, k.len, length-append k.body (b ∷ [])) in
    ap (take (n + 1)) parts ∙ ap (λ m. take m (whole ++ k.rest)) (sym size) ∙ take-append_seam whole k.rest

quoted_at : (language : Language) (b n : ℕ) (bs : List ℕ) → is_quote b ≡ true → closing b false bs ≡ Some n
    → dollar_left_out language (take (n + 1) (b ∷ bs)) ≡ None → IsTokenAt language Quoted (n + 1) (b ∷ bs)
quoted_at language b n bs q c none = by_body (closed b false bs n c)
  where
    by_body : IsClosed b false bs n → IsTokenAt language Quoted (n + 1) (b ∷ bs)
    by_body k =
        let whole : List ℕ = b ∷ (k.body ++ b ∷ []) in
        let parts : b ∷ bs ≡ whole ++ k.rest = ap (λ x. b ∷ x) (k.parts ∙ sym (append_assoc k.body (b ∷ []) k.rest)) in
        let size : length whole ≡ n + 1 = omega (arith, k.len, length-append k.body (b ∷ [])) in
        let inside : dollar_left_out language whole ≡ None = sym (ap (dollar_left_out language) (up_to_quote b n bs k)) ∙ none in
        let dollars = dollars_between b k.body (quote_facts b q).1 (quote_no_slash b q) language _ k.is_between_quotes inside in
        record {
          text = whole;
          rest = k.rest;
          parts = parts;
          size = size;
          is = record { quote = b; body = k.body; means = _; sort = q; parts = refl; is_between_quotes = k.is_between_quotes; dollars = dollars };
          longest = λ j front rest e is. rw size (quoted_longest language j b n bs front rest q c e is);
        }

-- where a quote has a fault, nothing begins
module _ (language : Language) (b : ℕ) (bs : List ℕ) (q : is_quote b ≡ true) (no_white : is_white_byte b ≡ false) (no_hash : eqb b 35 ≡ false) where
  no_quoted : (k : ExprKind) (n : ℕ) → next_token language (b ∷ bs) ≡ Fault k n → NothingBegins language b bs
  no_quoted k n f = (no_white, no_hash, λ j text rest e is. refused text rest e (only_quoted language j b bs text rest q e is))
    where
      refused : (text rest : List ℕ) → b ∷ bs ≡ text ++ rest → IsQuotedToken language text → ⊥
      refused text rest e t =
          let both : Token Quoted (length text) ≡ Fault k n = sym (quoted_lead language text rest t) ∙ ap (next_token language) (sym e) ∙ f in cc

  unclosed_is_next : closing b false bs ≡ None → IsNextToken language b bs (Fault UnclosedQuote 0)
  unclosed_is_next c = (
    no_quoted UnclosedQuote 0 (lead_quoted language b bs q ∙ ap (quoted_up_to language (b ∷ bs)) c),
    here_at language UnclosedQuote (b ∷ bs) (λ at. unclosed q open_to_the_end),
  )
    where
      open_to_the_end : (body means rest : List ℕ) → IsBetweenQuotes b body means → bs ≡ body ++ b ∷ rest → ⊥
      open_to_the_end body means rest is e =
          let both : None ≡ Some (suc (length body)) = sym c ∙ ap (closing b false) e ∙ body_closes b body means rest (quote_facts b q).0 is in cc

  left_out_is_next : (n : ℕ) (o : Option ℕ) → closing b false bs ≡ Some n → dollar_left_out language (take (n + 1) (b ∷ bs)) ≡ o
      → IsNextToken language b bs (quoted_or_left_out (n + 1) o)
  left_out_is_next n None c e = quoted_at language b n bs q c e
  left_out_is_next n (Some k) c e =
      let lead = lead_quoted language b bs q ∙ ap (quoted_up_to language (b ∷ bs)) c ∙ ap (quoted_or_left_out (n + 1)) e in
      (no_quoted LeftOut k lead, by_body (closed b false bs n c))
    where
      by_body : IsClosed b false bs n → (at : ℕ) → IsFaultAt language at (b ∷ bs) (record { offset = at + k; kind = LeftOut })
      by_body w at =
          let inside : dollar_left_out language (b ∷ (w.body ++ b ∷ [])) ≡ Some k = sym (ap (dollar_left_out language) (up_to_quote b n bs w)) ∙ e in
          let (m, after, f) = first_left_out b w.body (quote_facts b q).1 (quote_no_slash b q) language (unescaped false w.body) k w.is_between_quotes inside in
          let parts : bs ≡ (f.front ++ 36 ∷ f.back) ++ b ∷ w.rest = w.parts ∙ ap (λ x. x ++ b ∷ w.rest) f.parts in
          let there : at + 1 + length f.front ≡ at + k = omega (arith, after, f.is_place) in
          let is : IsBetweenQuotes b (f.front ++ 36 ∷ f.back) (unescaped false w.body) = subst (λ x. IsBetweenQuotes b x (unescaped false w.body)) f.parts w.is_between_quotes in
          subst (λ n. IsFaultAt language at (b ∷ bs) (record { offset = n; kind = LeftOut })) there
          (subst (λ x. IsFaultAt language at (b ∷ x) (record { offset = at + 1 + length f.front; kind = LeftOut })) (sym parts)
          (dollar_between f.front f.back (unescaped false w.body) w.rest q is f.dollars))

  quoted_is_next : (o : Option ℕ) → closing b false bs ≡ o → IsNextToken language b bs (quoted_up_to language (b ∷ bs) o)
  quoted_is_next None c = unclosed_is_next c
  quoted_is_next (Some n) c = left_out_is_next n (dollar_left_out language (take (n + 1) (b ∷ bs))) c refl

-- the bytes at the front decide what is there
module _ (language : Language) (b : ℕ) (bs : List ℕ) where
  abbrev operator : NextToken
  operator = next_operator b (get_or bs 0 0)

  abbrev from_quote : NextToken
  from_quote = cond (is_quote b) (quoted_up_to language (b ∷ bs) (closing b false bs)) operator

  abbrev from_word : NextToken
  from_word = cond (is_word_byte b) (Token Word (length (take_while is_word_byte (b ∷ bs)))) from_quote

  at_quote : (t : Bool) → is_white_byte b ≡ false → eqb b 35 ≡ false → is_word_byte b ≡ false → is_quote b ≡ t
      → IsNextToken language b bs (cond t (quoted_up_to language (b ∷ bs) (closing b false bs)) operator)
  at_quote true s h w e = quoted_is_next language b bs e s h (closing b false bs) refl
  at_quote false s h w e = operator_is_next language b bs s h w e

  at_word : (t : Bool) → is_white_byte b ≡ false → eqb b 35 ≡ false → is_word_byte b ≡ t
      → IsNextToken language b bs (cond t (Token Word (length (take_while is_word_byte (b ∷ bs)))) from_quote)
  at_word true s h e = word_is_next language b bs e
  at_word false s h e = at_quote (is_quote b) s h e refl

  at_hash : (t : Bool) → is_white_byte b ≡ false → eqb b 35 ≡ t → IsNextToken language b bs (cond t Comment from_word)
  at_hash true s e = eqb-true b 35 e
  at_hash false s e = at_word (is_word_byte b) s e refl

  at_white : (t : Bool) → is_white_byte b ≡ t → IsNextToken language b bs (cond t White (cond (eqb b 35) Comment from_word))
  at_white true e = e
  at_white false e = at_hash (eqb b 35) e refl

  pub next_token_is : IsNextToken language b bs (next_token language (b ∷ bs))
  unfolding next_token
  next_token_is = at_white (is_white_byte b) refl
