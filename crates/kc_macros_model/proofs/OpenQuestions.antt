-- Questions that a world doesn't answer.
use Rattle.kc_macros_model.proofs.Common.{◌≡◌, ℕ, Bool, true, false, ◌||◌, cond, List, [], ◌∷◌, ◌++◌, Option, Some, None, refl, sym, ap, ◌∙◌, bytes_eq, filter, is_none, reverse, reverse-cons, bytes_eq-Decides, is_in_list, without_repeats, Answer, Event, ask, World, without_answer}
use Rattle.std.proofs.lemmas.List.Elements.{filter-append}

-- the open questions that a question with this answer leaves: the question itself if it has no answer, else no question
abbrev pub if_unanswered : List ℕ → Option Answer → List (List ℕ)
if_unanswered question None = question ∷ []
if_unanswered question (Some a) = []

-- the question that an event of a program asks without getting an answer from the world, or none
abbrev pub open_question : World → Event → List (List ℕ)
open_question w (ask at question) = if_unanswered question (w.answer question)
open_question w e = []

-- a first question without an answer is open
pub first_open : (w : World) (question : List ℕ) (qs : List (List ℕ)) → w.answer question ≡ None → without_answer w (question ∷ qs) ≡ [] → ⊥
first_open w question qs e h =
    let z : question ∷ without_answer w qs ≡ [] =
    sym (ap (λ (a : Option Answer). cond (is_none a) (question ∷ without_answer w qs) (without_answer w qs)) e) ∙ h in
    cc

-- a first question with an answer isn't open
pub first_answered : (w : World) (question : List ℕ) (qs : List (List ℕ)) (a : Answer) → w.answer question ≡ Some a
    → without_answer w (question ∷ qs) ≡ without_answer w qs
first_answered w question qs a e = ap (λ (r : Option Answer). cond (is_none r) (question ∷ without_answer w qs) (without_answer w qs)) e

-- two lists that are empty together are empty
both_empty : (xs ys : List (List ℕ)) → xs ++ ys ≡ [] → (xs ≡ []) × (ys ≡ [])
both_empty [] ys e = (refl, e)
both_empty (x ∷ xs) ys e = absurd (let z : ⊥ = cc in z)

module _ (p : List ℕ → Bool) where
  -- a text of a list of which no element passes a test doesn't pass it
  member_fails : (x : List ℕ) (xs : List (List ℕ)) → is_in_list x xs ≡ true → filter p xs ≡ [] → p x ≡ false
  member_fails x [] h e = absurd (let z : ⊥ = cc in z)
  member_fails x (y ∷ ys) h e = by_tests (bytes_eq y x) (p y) refl refl (member_fails x ys) h e
    where
      by_tests : (b c : Bool) → bytes_eq y x ≡ b → p y ≡ c → (is_in_list x ys ≡ true → filter p ys ≡ [] → p x ≡ false)
          → (b || is_in_list x ys) ≡ true → cond c (y ∷ filter p ys) (filter p ys) ≡ [] → p x ≡ false
      by_tests b true f g ih h e = absurd (let z : ⊥ = cc in z)
      by_tests true false f g ih h e = ap p (sym ((bytes_eq-Decides y x).0 f)) ∙ g
      by_tests false false f g ih h e = ih h e

  -- where the element `x` fails a test, and no other passes it, none does
  with_failing : (x : List ℕ) (xs : List (List ℕ)) → p x ≡ false → filter p xs ≡ [] → filter p (x ∷ xs) ≡ []
  with_failing x xs f e = ap (λ c. cond c (x ∷ filter p xs) (filter p xs)) f ∙ e

  last_fails : (x : List ℕ) → filter p (x ∷ []) ≡ [] → p x ≡ false
  last_fails x e = by_test (p x) e
    where
      by_test : (b : Bool) → cond b (x ∷ []) [] ≡ [] → b ≡ false
      by_test true e = absurd (let z : ⊥ = cc in z)
      by_test false e = refl

  with_last : (x : List ℕ) (xs ys : List (List ℕ)) → (filter p xs ≡ [] → filter p ys ≡ []) → filter p (xs ++ x ∷ []) ≡ [] → filter p (x ∷ ys) ≡ []
  with_last x xs ys ih e =
      let b = both_empty (filter p xs) (filter p (x ∷ [])) (sym (filter-append p xs (x ∷ [])) ∙ e) in
      with_failing x ys (last_fails x b.1) (ih b.0)

  -- where none of a list without repeats passes a test, none of the list does
  pub none_repeated : (xs : List (List ℕ)) → filter p (without_repeats xs) ≡ [] → filter p xs ≡ []
  none_repeated [] e = refl
  none_repeated (x ∷ xs) e = by_test (is_in_list x xs) refl (none_repeated xs) e
    where
      by_test : (b : Bool) → is_in_list x xs ≡ b → (filter p (without_repeats xs) ≡ [] → filter p xs ≡ [])
          → filter p (cond b (without_repeats xs) (without_repeats xs ++ x ∷ [])) ≡ [] → filter p (x ∷ xs) ≡ []
      by_test true h ih e = let r = ih e in with_failing x xs (member_fails x xs h r) r
      by_test false h ih e = with_last x (without_repeats xs) xs ih e

  -- where none of a list that is turned around passes a test, none of the list does
  pub none_turned : (xs : List (List ℕ)) → filter p (reverse xs) ≡ [] → filter p xs ≡ []
  none_turned [] e = refl
  none_turned (x ∷ xs) e = with_last x (reverse xs) xs (none_turned xs) (ap (filter p) (sym (reverse-cons x xs)) ∙ e)

  -- a text that isn't in a list isn't among those that pass a test
  pub absent_filtered : (x : List ℕ) (xs : List (List ℕ)) → is_in_list x xs ≡ false → is_in_list x (filter p xs) ≡ false
  absent_filtered x [] e = refl
  absent_filtered x (y ∷ ys) e = by_tests (p y) (bytes_eq y x) refl (absent_filtered x ys) e
    where
      by_tests : (c b : Bool) → bytes_eq y x ≡ b → (is_in_list x ys ≡ false → is_in_list x (filter p ys) ≡ false) → (b || is_in_list x ys) ≡ false
          → is_in_list x (cond c (y ∷ filter p ys) (filter p ys)) ≡ false
      by_tests c true f ih e = absurd (let z : ⊥ = cc in z)
      by_tests true false f ih e = ap (λ b. b || is_in_list x (filter p ys)) f ∙ ih e
      by_tests false false f ih e = ih e
