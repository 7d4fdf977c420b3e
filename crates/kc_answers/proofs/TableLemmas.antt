-- Questions and answers, through the map that holds them.
use Rattle.kc_answers.proofs.Common.{◌≡◌, ℕ, zero, suc, Bool, true, false, cond, List, [], ◌∷◌, ◌++◌, take, map, Option, Some, None, refl, sym, ap, ◌∙◌, Vec, bytes_eq, option_map, is_none, RecordedAnswers, questions_of, Global, insert_entry, keys_of, keyword_in_table, Answer}
use Rattle.kc_answers.proofs.Common.{answer_of_entry}
use Rattle.std.specs.Prelude.{filter, not, is_some, IfOk, Result, Ok, Err, ◌||◌}
use Rattle.kc_tree_model.specs.Limits.{is_in_list}
use Rattle.kc_answers.specs.RunStates.{with_question}
use Rattle.std.specs.Map.{lookup}
use Rattle.kc_macros_model.specs.Worlds.{not_in}
use Rattle.std.proofs.lemmas.Cmp.{nat_list_eq_equiv}

pub bytes_eq_turned : (x y : List ℕ) → bytes_eq x y ≡ bytes_eq y x
bytes_eq_turned = nat_list_eq_equiv.symm

-- an entry of the code's table of answers: the bytes of a question, and its answer, `None` for a name that isn't set
abbrev pub Entry : Type 0
Entry = Vec ℕ Global × Option (Vec ℕ Global)

abbrev pub answer_items : Option (Vec ℕ Global) → Answer
answer_items a = option_map (λ (t : Vec ℕ Global). t.items) a

found_by : (b : Bool) (e : Entry) (o : Option (Option (Vec ℕ Global))) → cond b (Some (answer_items e.1)) (option_map answer_items o)
    ≡ option_map answer_items (cond b (Some e.1) o)
found_by true e o = refl
found_by false e o = refl

-- the answer to a question is what a look-up of its bytes in the code's table of answers finds
pub find_answer : (question : List ℕ) (es : List Entry) → keyword_in_table (map answer_of_entry es) question
    ≡ option_map answer_items (lookup (λ (k : Vec ℕ Global). bytes_eq question k.items) es)
find_answer question [] = refl
find_answer question (e ∷ es) =
    ap (λ b. cond b (Some (answer_items e.1)) (keyword_in_table (map answer_of_entry es) question)) (bytes_eq_turned e.0.items question)
    ∙ ap (λ o. cond (bytes_eq question e.0.items) (Some (answer_items e.1)) o) (find_answer question es)
    ∙ found_by (bytes_eq question e.0.items) e (lookup (λ (k : Vec ℕ Global). bytes_eq question k.items) es)

-- a question that a table of answers doesn't have is inserted at its end
pub insert_absent : (es : List Entry) (k : Vec ℕ Global) (v : Option (Vec ℕ Global)) → keyword_in_table (map answer_of_entry es) k.items ≡ None
    → map answer_of_entry (insert_entry (λ (a b : Vec ℕ Global). bytes_eq a.items b.items) es k v) ≡ map answer_of_entry es ++ (k.items, answer_items v) ∷ []
insert_absent [] k v h = refl
insert_absent (e ∷ es) k v h = by_test (bytes_eq e.0.items k.items) (bytes_eq_turned k.items e.0.items) h (insert_absent es k v)
  where
    by_test : (b : Bool) → bytes_eq k.items e.0.items ≡ b → cond b (Some (answer_items e.1)) (keyword_in_table (map answer_of_entry es) k.items) ≡ None
        → (keyword_in_table (map answer_of_entry es) k.items ≡ None → map answer_of_entry
        (insert_entry (λ (a b : Vec ℕ Global). bytes_eq a.items b.items) es k v) ≡ map answer_of_entry es ++ (k.items, answer_items v) ∷ [])
        → map answer_of_entry (cond (bytes_eq k.items e.0.items) ((e.0, v) ∷ es) (e ∷ insert_entry (λ (a b : Vec ℕ Global). bytes_eq a.items b.items) es k v))
        ≡ answer_of_entry e ∷ (map answer_of_entry es ++ (k.items, answer_items v) ∷ [])
    by_test true e2 h ih = absurd (let z : ⊥ = cc in z)
    by_test false e2 h ih =
        ap (λ b. map answer_of_entry (cond b ((e.0, v) ∷ es) (e ∷ insert_entry (λ (a b : Vec ℕ Global). bytes_eq a.items b.items) es k v))) e2
        ∙ ap (λ xs. answer_of_entry e ∷ xs) (ih h)

pub take_entries : (n : ℕ) (es : List Entry) → map answer_of_entry (take n es) ≡ take n (map answer_of_entry es)
take_entries zero es = refl
take_entries (suc n) [] = refl
take_entries (suc n) (e ∷ es) = ap (λ xs. answer_of_entry e ∷ xs) (take_entries n es)

-- a question is among those of a table of answers if the table has an answer to it
pub listed_is_found : (es : RecordedAnswers) (question : List ℕ) → is_in_list question (questions_of es) ≡ is_some (keyword_in_table es question)
listed_is_found [] question = refl
listed_is_found (e ∷ es) question = by_test (bytes_eq e.0 question) (listed_is_found es question)
  where
    by_test : (b : Bool) → is_in_list question (questions_of es) ≡ is_some (keyword_in_table es question)
        → (b || is_in_list question (questions_of es)) ≡ is_some (cond b (Some e.1) (keyword_in_table es question))
    by_test true ih = refl
    by_test false ih = ih

pub is_some_map : {A B : Type 0} (f : A → B) (o : Option A) → is_some (option_map f o) ≡ is_some o
is_some_map f None = refl
is_some_map f (Some x) = refl

-- the questions of a table of answers after noting one: the same if the table has it, otherwise those and the new one
pub noted : {A : Type 0} (es : RecordedAnswers) (question : List ℕ) (f : A → Answer) (found : Option A) (b : Bool)
    → option_map f found ≡ keyword_in_table es question
    → is_some found ≡ b
    → with_question (questions_of es) question ≡ cond b (questions_of es) (questions_of es ++ question ∷ [])
noted es question f found b e h = ap (λ t. cond t (questions_of es) (questions_of es ++ question ∷ []))
    (listed_is_found es question ∙ ap is_some (sym e) ∙ is_some_map f found ∙ h)

pub questions_of_append : (es fs : RecordedAnswers) → questions_of (es ++ fs) ≡ questions_of es ++ questions_of fs
questions_of_append [] fs = refl
questions_of_append (e ∷ es) fs = ap (λ qs. e.0 ∷ qs) (questions_of_append es fs)

pub questions_of_keys : (es : List Entry) → map (λ (q : Vec ℕ Global). q.items) (keys_of es) ≡ questions_of (map answer_of_entry es)
questions_of_keys [] = refl
questions_of_keys (e ∷ es) = ap (λ xs. e.0.items ∷ xs) (questions_of_keys es)

-- the keys of the code's table of answers, collected in a vector, are the questions of the table
pub questions_collected : {E : Type 0} (r : Result (Vec (Vec ℕ Global) Global) E) (es : List Entry) (table : RecordedAnswers) → map answer_of_entry es ≡ table
    → IfOk r (λ qs. qs.items ≡ keys_of es)
    → IfOk r (λ qs. map (λ (q : Vec ℕ Global). q.items) qs.items ≡ questions_of table)
questions_collected (Ok qs) es table e h = ap (λ ks. map (λ (q : Vec ℕ Global). q.items) ks) h ∙ questions_of_keys es ∙ ap questions_of e
questions_collected (Err x) es table e h = tt

-- the bytes of the vectors that pass a test of their bytes are the texts that pass it
pub filtered_items : (p : List ℕ → Bool) (vs : List (Vec ℕ Global))
    → map (λ (v : Vec ℕ Global). v.items) (filter (λ (v : Vec ℕ Global). p v.items) vs) ≡ filter p (map (λ (v : Vec ℕ Global). v.items) vs)
filtered_items p [] = refl
filtered_items p (v ∷ vs) = by_test (p v.items) (filtered_items p vs)
  where
    by_test : (b : Bool) → map (λ (u : Vec ℕ Global). u.items) (filter (λ (u : Vec ℕ Global). p u.items) vs) ≡ filter p (map (λ (u : Vec ℕ Global). u.items) vs)
        → map (λ (u : Vec ℕ Global). u.items) (cond b (v ∷ filter (λ (u : Vec ℕ Global). p u.items) vs) (filter (λ (u : Vec ℕ Global). p u.items) vs))
        ≡ cond b (v.items ∷ filter p (map (λ (u : Vec ℕ Global). u.items) vs)) (filter p (map (λ (u : Vec ℕ Global). u.items) vs))
    by_test true ih = ap (λ xs. v.items ∷ xs) ih
    by_test false ih = ih

-- the texts that a table of answers doesn't have are those that aren't among its questions
pub missing_are_not_in : (es : RecordedAnswers) (questions : List (List ℕ))
    → filter (λ question. is_none (keyword_in_table es question)) questions ≡ not_in (questions_of es) questions
missing_are_not_in es [] = refl
missing_are_not_in es (q ∷ qs) =
    ap (λ rest. cond (is_none (keyword_in_table es q)) (q ∷ rest) rest) (missing_are_not_in es qs)
    ∙ ap (λ b. cond b (q ∷ not_in (questions_of es) qs) (not_in (questions_of es) qs))
    (none_or_some (keyword_in_table es q) ∙ ap not (sym (listed_is_found es q)))
  where
    none_or_some : (a : Option Answer) → is_none a ≡ not (is_some a)
    none_or_some None = refl
    none_or_some (Some a) = refl
