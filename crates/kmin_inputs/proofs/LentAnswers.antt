-- Answers from definitions, answer files and the environment, one after another.
use Rattle.kmin_inputs.proofs.Common.{◌≡◌, ℕ, suc, ◌+◌, ◌<◌, Bool, true, false, List, [], ◌∷◌, ◌++◌, length, map, take, get_or, Option, Some, None, refl, sym, ap, ◌∙◌, subst, arith, map-append, option_or, bytes_eq, is_some, if◌then◌else◌, keyword_in_table, Answer, RecordedAnswers, FileContent}
use Rattle.kmin_inputs.proofs.Common.{definition_view, VariableContent, defined_answer, FilesRecord, AreLent}
use Rattle.std.proofs.Math.Seq.{take-suc}
use Rattle.std.specs.Prelude.{◌||◌}
use Rattle.std.proofs.lemmas.Slice.Eq.{bytes_eq-Decides}
use Rattle.std.proofs.lemmas.List.Folds.{list_any-append}
use Rattle.kc_tree_model.specs.Limits.{is_in_list}
use Rattle.kmin_options.specs.declared.job.Definition.{Definition as DeclaredDefinition}
use Rattle.kmin_options.specs.Jobs.{Definition, GivenExpansion}
use Rattle.kmin_inputs.specs.FileContents.{MatchVariable}
use Rattle.kmin_inputs.specs.JobAnswers.{answer_of_variable, lent_answer, AreJobAnswers}
use Rattle.kc_answers.specs.RunStates.{questions_of}
use Rattle.kmin_inputs.specs.between.AnswerSteps.{AnswersAndQuestions}

pub or_none : (a : Option Answer) → option_or a None ≡ a
or_none None = refl
or_none (Some a) = refl

or_assoc : (a b c : Option Answer) → option_or (option_or a b) c ≡ option_or a (option_or b c)
or_assoc None b c = refl
or_assoc (Some a) b c = refl

-- the first of two answers, where the first of them depends on a test
pub or_in_front : (t : Bool) (a : Answer) (b c : Option Answer) → option_or (if t then Some a else b) c ≡ (if t then Some a else option_or b c)
or_in_front true a b c = refl
or_in_front false a b c = refl

-- with one definition more at the end, its name has its value as the answer, and any other name the answer that it had
pub defined_more : (ds : List Definition) (d : Definition) (name : List ℕ)
    → defined_answer (ds ++ d ∷ []) name ≡ (if bytes_eq name d.name then Some (Some d.value) else defined_answer ds name)
defined_more [] d name = refl
defined_more (e ∷ ds) d name =
    ap (λ a. option_or a (if bytes_eq name e.name then Some (Some e.value) else None)) (defined_more ds d name)
    ∙ or_in_front (bytes_eq name d.name) (Some d.value) (defined_answer ds name) (if bytes_eq name e.name then Some (Some e.value) else None)

-- the known value of a variable, if there is one
known_value : VariableContent → Option (List ℕ)
known_value None = None
known_value (Some value) = value

known_matches : (known : VariableContent) → MatchVariable known (known_value known)
unfolding known_value
known_matches None = tt
known_matches (Some value) = refl

pub lent_none : (variable_of : List ℕ → VariableContent) (answers : RecordedAnswers) → AreLent variable_of [] answers answers
lent_none variable_of answers = record {
  values = λ name. known_value (variable_of name);
  environment = λ name. known_matches (variable_of name);
  each = λ question. sym (or_none (keyword_in_table answers question));
}

same_name : (t : Bool) (name question : List ℕ) → bytes_eq name question ≡ t → bytes_eq question name ≡ t
same_name true name question e = (bytes_eq-Decides question name).1 (sym ((bytes_eq-Decides name question).0 e))
same_name false name question e = other (bytes_eq question name) refl
  where
    other : (u : Bool) → bytes_eq question name ≡ u → bytes_eq question name ≡ false
    other false f = f
    other true f = let z : bytes_eq name question ≡ true = (bytes_eq-Decides name question).1 (sym ((bytes_eq-Decides question name).0 f)) in cc

-- a name that has an answer keeps it
module _ (variable_of : List ℕ → VariableContent) (answers : RecordedAnswers) (name : List ℕ) (has : is_some (keyword_in_table answers name) ≡ true) where
  kept_each : (a : Option Answer) (question : List ℕ) → keyword_in_table answers question ≡ a
      → (t : Bool) → bytes_eq name question ≡ t
      → keyword_in_table answers question ≡ option_or (keyword_in_table answers question) (lent_answer (name ∷ []) (λ n. known_value (variable_of n)) question)
  kept_each (Some a) question e t f = rw e refl
  kept_each None question e true f =
      let same : name ≡ question = (bytes_eq-Decides name question).0 f in
      let z : is_some (keyword_in_table answers question) ≡ true = subst (λ n. is_some (keyword_in_table answers n) ≡ true) same has in
      let y : is_some (keyword_in_table answers question) ≡ false = ap (λ (a : Option Answer). is_some a) e in
      let x : true ≡ false = sym z ∙ y in cc
  kept_each None question e false f = rw f (sym (or_none (keyword_in_table answers question)))

  pub lent_kept : AreLent variable_of (name ∷ []) answers answers
  lent_kept = record {
    values = λ n. known_value (variable_of n);
    environment = λ n. known_matches (variable_of n);
    each = λ question. kept_each (keyword_in_table answers question) question refl (bytes_eq name question) refl;
  }

-- a name without an answer gets the one of the environment
module _ (variable_of : List ℕ → VariableContent) (before after : RecordedAnswers) (name : List ℕ) (value : Option (List ℕ)) where
  new_value : (n : List ℕ) → Option (List ℕ)
  new_value n = if bytes_eq n name then value else known_value (variable_of n)

  new_matches : (n : List ℕ) (t : Bool) → bytes_eq n name ≡ t → MatchVariable (variable_of name) value
      → MatchVariable (variable_of n) (if t then value else known_value (variable_of n))
  new_matches n true e m = subst (λ k. MatchVariable (variable_of k) value) (sym ((bytes_eq-Decides n name).0 e)) m
  new_matches n false e m = known_matches (variable_of n)

  new_each : (t : Bool) (question : List ℕ) → bytes_eq question name ≡ t → keyword_in_table before name ≡ None
      → (if t then Some (answer_of_variable value) else keyword_in_table before question)
      ≡ option_or (keyword_in_table before question) (if (bytes_eq name question || false)
      then Some (answer_of_variable (if t then value else known_value (variable_of question))) else None)
  new_each true question e absent =
      let same : question ≡ name = (bytes_eq-Decides question name).0 e in
      let f : bytes_eq name question ≡ true = same_name true question name e in
      rw f (rw same (rw absent refl))
  new_each false question e absent =
      let f : bytes_eq name question ≡ false = same_name false question name e in
      rw f (sym (or_none (keyword_in_table before question)))

  pub lent_new : keyword_in_table before name ≡ None → MatchVariable (variable_of name) value
      → ((question : List ℕ) → keyword_in_table after question ≡ (if bytes_eq question name then Some (answer_of_variable value)
      else keyword_in_table before question))
      → AreLent variable_of (name ∷ []) before after
  unfolding new_value
  lent_new absent m h = record {
    values = new_value;
    environment = λ n. new_matches n (bytes_eq n name) refl m;
    each = λ question. h question ∙ new_each (bytes_eq question name) question refl absent;
  }

-- names after names
module _ (variable_of : List ℕ → VariableContent) (xs ys : List (List ℕ)) (a b c : RecordedAnswers) (h : AreLent variable_of xs a b)
    (k : AreLent variable_of ys b c) where
  both : List ℕ → Option (List ℕ)
  both n = if is_in_list n xs then h.values n else k.values n

  both_match : (n : List ℕ) (t : Bool) → MatchVariable (variable_of n) (if t then h.values n else k.values n)
  both_match n true = h.environment n
  both_match n false = k.environment n

  both_each : (t u : Bool) (question : List ℕ)
      → option_or (if t then Some (answer_of_variable (h.values question)) else None) (if u then Some (answer_of_variable (k.values question)) else None)
      ≡ (if (t || u) then Some (answer_of_variable (if t then h.values question else k.values question)) else None)
  both_each true u question = refl
  both_each false true question = refl
  both_each false false question = refl

  pub lent_append : AreLent variable_of (xs ++ ys) a c
  unfolding both
  lent_append = record {
    values = both;
    environment = λ n. both_match n (is_in_list n xs);
    each = λ question.
        k.each question ∙ ap (λ r. option_or r (lent_answer ys k.values question)) (h.each question)
        ∙ or_assoc (keyword_in_table a question) (lent_answer xs h.values question) (lent_answer ys k.values question)
        ∙ ap (λ r. option_or (keyword_in_table a question) r) (both_each (is_in_list question xs) (is_in_list question ys) question)
        ∙ ap (λ t. option_or (keyword_in_table a question) (if t then Some (answer_of_variable (both question)) else None))
        (sym (list_any-append (λ y. bytes_eq y question) xs ys));
  }

-- the answers of a job's answer files, with those of its definitions and its environment, are the answers of the job
pub answers_of_job : (content_of : List ℕ → FileContent) (variable_of : List ℕ → VariableContent)
    (expansion : GivenExpansion) (recorded defined answers : RecordedAnswers)
    → FilesRecord content_of expansion.answers [] recorded
    → ((question : List ℕ) → keyword_in_table defined question ≡ option_or (defined_answer expansion.definitions question) (keyword_in_table recorded question))
    → AreLent variable_of expansion.environment defined answers → AreJobAnswers content_of variable_of expansion answers
answers_of_job content_of variable_of expansion recorded defined answers f d l = record {
  recorded = recorded;
  files = f;
  values = l.values;
  environment = l.environment;
  each = λ question.
      l.each question ∙ ap (λ r. option_or r (lent_answer expansion.environment l.values question)) (d question)
      ∙ or_assoc (defined_answer expansion.definitions question) (keyword_in_table recorded question) (lent_answer expansion.environment l.values question);
}

-- and so are they with the questions of the answer files
pub questions_of_job : (content_of : List ℕ → FileContent) (variable_of : List ℕ → VariableContent)
    (expansion : GivenExpansion) (recorded defined answers : RecordedAnswers) (answered : List (List ℕ))
    → FilesRecord content_of expansion.answers [] recorded
    → ((question : List ℕ) → keyword_in_table defined question ≡ option_or (defined_answer expansion.definitions question) (keyword_in_table recorded question))
    → AreLent variable_of expansion.environment defined answers → answered ≡ questions_of recorded
    → AnswersAndQuestions content_of variable_of expansion answers answered
unfolding answers_of_job
questions_of_job content_of variable_of expansion recorded defined answers answered f d l q =
    record { job = answers_of_job content_of variable_of expansion recorded defined answers f d l; answered_are = q }

-- the answers with the first k + 1 definitions are those with the first k, and that of the definition at place k
pub defined_next : (definitions : List DeclaredDefinition) (k : ℕ) (absent : DeclaredDefinition) (before answers : RecordedAnswers) → k < length definitions
    → ((question : List ℕ) → keyword_in_table answers question ≡ option_or (defined_answer (map definition_view (take k definitions)) question)
    (keyword_in_table before question))
    → (question : List ℕ)
    → (if bytes_eq question (get_or definitions k absent).name.now then Some (Some (get_or definitions k absent).value.now)
    else keyword_in_table answers question)
    ≡ option_or (defined_answer (map definition_view (take (k + 1) definitions)) question) (keyword_in_table before question)
defined_next definitions k absent before answers n h question =
    let next : k + 1 ≡ suc k = omega arith in
    let d = get_or definitions k absent in
    let view : map definition_view (take (k + 1) definitions) ≡ map definition_view (take k definitions) ++ definition_view d ∷ [] =
    ap (λ j. map definition_view (take j definitions)) next ∙ ap (map definition_view) (take-suc definitions k absent n)
    ∙ map-append definition_view (take k definitions) (d ∷ []) in
    let old = defined_answer (map definition_view (take k definitions)) question in
    ap (λ a. if bytes_eq question d.name.now then Some (Some d.value.now) else a) (h question)
    ∙ sym (or_in_front (bytes_eq question d.name.now) (Some d.value.now) old (keyword_in_table before question))
    ∙ ap (λ a. option_or a (keyword_in_table before question)) (sym (defined_more (map definition_view (take k definitions)) (definition_view d) question))
    ∙ ap (λ ds. option_or (defined_answer ds question) (keyword_in_table before question)) (sym view)

pub no_answer : (answers : RecordedAnswers) (name : List ℕ) → is_some (keyword_in_table answers name) ≡ false → keyword_in_table answers name ≡ None
no_answer answers name h = of (keyword_in_table answers name) h
  where
    of : (a : Option Answer) → is_some a ≡ false → a ≡ None
    of None e = refl
    of (Some a) e = cc
