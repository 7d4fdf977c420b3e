-- The form of a line in one world, compared with its form in a world that may have more answers.
use Rattle.kc_macros_model.proofs.Common.{◌≡◌, ℕ, Bool, true, false, ◌&&◌, ◌||◌, cond, List, [], ◌∷◌, Some, None, refl, sym, ap, ◌∙◌, subst, not, bytes_eq, codes, list_any, list_all, second_so, bytes_eq-Decides, is_in_list, Value, Word, Quoted, is_bare_byte, is_keyword, WrittenToken, written_as}
use Rattle.kc_macros_model.proofs.Common.{in_quotes_of, token_of_value, token_of_quoted_text, is_trivia, is_unknown, SourceSort, LineForm, plain, bare_prompt, replaced_by, named_choice, sources, source_words, help_words, is_word, is_path, form_of_two_words, form_of_first_word, form_of, without_trivia, is_help_line}
use Rattle.kc_macros_model.proofs.Common.{is_undecided}
use Rattle.kc_macros_model.specs.LineForms.{prompt_words, sort_of_source, is_bare_prompt}
use Rattle.kc_macros_model.proofs.ProgramMatches.{NoLess}
use Rattle.kc_macros_model.proofs.LineMatches.{TokenNoLess, same_token, quoted_tokens, unknown_token, RestNoLess, no_more, one_more, LineNoLess, empty_line, trivia_first, known_first, unknown_alone}

abbrev pub is_source : LineForm → Bool
is_source (sources sort v) = true
is_source x = false

-- of two forms of lines neither sources files, or both do so in the same way and the second by a path that is no less known
pub data FormNoLess (lacking newlines : Bool) : LineForm → LineForm → Type 0 where
  no_source : {f g : LineForm} → is_source f ≡ false → is_source g ≡ false → FormNoLess lacking newlines f g
  same_source : (sort : SourceSort) {v u : Value} → NoLess lacking newlines v u → FormNoLess lacking newlines (sources sort v) (sources sort u)

-- two tokens are paths or prompts alike, and the second has no less known a meaning
record IsAlike (lacking newlines : Bool) (t u : WrittenToken) : Type 0 where
  path : is_path u ≡ is_path t
  prompt : is_bare_prompt u ≡ is_bare_prompt t
  meaning : NoLess lacking newlines t.meaning u.meaning

data AreAlike (lacking newlines : Bool) : List WrittenToken → List WrittenToken → Type 0 where
  none_alike : AreAlike lacking newlines [] []
  next_alike : {t u : WrittenToken} {ts us : List WrittenToken} → IsAlike lacking newlines t u → AreAlike lacking newlines ts us
      → AreAlike lacking newlines (t ∷ ts) (u ∷ us)

-- of two lines the second has a form that is no less known, and a help text follows both or neither
pub record SameEffect (lacking newlines : Bool) (ts us : List WrittenToken) : Type 0 where
  pub form : FormNoLess lacking newlines (form_of ts) (form_of us)
  pub help : is_help_line us ≡ is_help_line ts

-- a form is no source if neither of two is
if_source : (c : Bool) (f g : LineForm) → is_source f ≡ false → is_source g ≡ false → is_source (cond c f g) ≡ false
if_source true f g h k = h
if_source false f g h k = k

pair_is_no_source : (word : List ℕ) (t : WrittenToken) → (is_in_list word source_words && is_path t) ≡ false → is_source (form_of_two_words word t) ≡ false
pair_is_no_source word t e =
    let last : LineForm = cond (bytes_eq word (codes "option") && bytes_eq t.bytes (codes "allnoconfig_y")) (replaced_by []) plain in
    let options : LineForm = cond (bytes_eq word (codes "option") && bytes_eq t.bytes (codes "defconfig_list")) (replaced_by (codes "depends on n")) last in
    let chosen = bytes_eq word (codes "choice") && is_word t in
    ap (λ c. is_source (cond c (sources (sort_of_source word) t.meaning) (cond chosen (named_choice t.bytes) options))) e
    ∙ if_source chosen (named_choice t.bytes) options refl
    (if_source (bytes_eq word (codes "option") && bytes_eq t.bytes (codes "defconfig_list")) (replaced_by (codes "depends on n")) last refl
    (if_source (bytes_eq word (codes "option") && bytes_eq t.bytes (codes "allnoconfig_y")) (replaced_by []) plain refl refl))

word_is_no_source : (word : List ℕ) (t : WrittenToken) (rest : List WrittenToken) → is_in_list word source_words ≡ false
    → is_source (form_of_first_word word t rest) ≡ false
word_is_no_source word t [] e = if_source (is_in_list word prompt_words && is_bare_prompt t) (bare_prompt t.bytes) (form_of_two_words word t) refl
    (pair_is_no_source word t (ap (λ c. c && is_path t) e))
word_is_no_source word t (u ∷ us) e = if_source (is_in_list word prompt_words && is_bare_prompt t) (bare_prompt t.bytes) plain refl refl

-- a line whose first token is no word of a source
other_first : (t : WrittenToken) (rest : List WrittenToken) → is_in_list t.bytes source_words ≡ false → is_source (form_of (t ∷ rest)) ≡ false
other_first t [] e = refl
other_first t (u ∷ rest) e = if_source (is_word t) (form_of_first_word t.bytes u rest) plain (word_is_no_source t.bytes u rest e) refl

no_word_first : (t : WrittenToken) (rest : List WrittenToken) → is_word t ≡ false → is_source (form_of (t ∷ rest)) ≡ false
no_word_first t [] e = refl
no_word_first t (u ∷ rest) e = ap (λ c. is_source (cond c (form_of_first_word t.bytes u rest) plain)) e

no_word_help : (t : WrittenToken) (rest : List WrittenToken) → is_word t ≡ false → is_help_line (t ∷ rest) ≡ false
no_word_help t [] e = ap (λ c. c && is_in_list t.bytes help_words) e
no_word_help t (u ∷ rest) e = refl

pub second_of_and : (x : Bool) → (x && false) ≡ false
second_of_and true = refl
second_of_and false = refl

other_help : (t : WrittenToken) (rest : List WrittenToken) → is_in_list t.bytes help_words ≡ false → is_help_line (t ∷ rest) ≡ false
other_help t [] e = ap (λ c. is_word t && c) e ∙ second_of_and (is_word t)
other_help t (u ∷ rest) e = refl

either_false : (x y : Bool) → (x || y) ≡ false → y ≡ false
either_false true y e = absurd (let z : ⊥ = cc in z)
either_false false y e = e

-- the value of a run is no keyword of help texts
keyword_help : (s : List ℕ) → is_keyword s ≡ false → is_in_list s help_words ≡ false
keyword_help s e = by_tests (bytes_eq (codes "help") s) (bytes_eq (codes "---help---") s) refl refl
  where
    is_help_keyword : (word : List ℕ) → is_keyword word ≡ true → bytes_eq word s ≡ true → ⊥
    is_help_keyword word k h = let z : true ≡ false = sym k ∙ ap is_keyword ((bytes_eq-Decides word s).0 h) ∙ e in cc

    by_tests : (x y : Bool) → bytes_eq (codes "help") s ≡ x → bytes_eq (codes "---help---") s ≡ y → (x || (y || false)) ≡ false
    by_tests true y h k = absurd (is_help_keyword (codes "help") refl h)
    by_tests false true h k = absurd (is_help_keyword (codes "---help---") refl k)
    by_tests false false h k = refl

-- a token of a line is unknown only where an answer may be lacking
abbrev Lacks : Bool → List WrittenToken → Type 0
Lacks lacking ts = list_any is_unknown (without_trivia ts) ≡ true → lacking ≡ true

lacks_next : {lacking : Bool} (t : WrittenToken) (ts : List WrittenToken) → is_unknown t ≡ false → Lacks lacking ts → Lacks lacking (t ∷ ts)
lacks_next {lacking = lacking} t ts k h = by_trivia (is_trivia t)
  where
    by_trivia : (g : Bool) → list_any is_unknown (cond (not g) (t ∷ without_trivia ts) (without_trivia ts)) ≡ true → lacking ≡ true
    by_trivia true e = h e
    by_trivia false e = h (sym (ap (λ b. b || list_any is_unknown (without_trivia ts)) k) ∙ e)

-- a line is undecided only where an answer may be lacking
abbrev pub UndecidedLacks : Bool → List WrittenToken → Type 0
UndecidedLacks lacking ts = is_undecided (without_trivia ts) ≡ true → lacking ≡ true

undecided_first : {lacking : Bool} (t : WrittenToken) (ts : List WrittenToken) → is_trivia t ≡ false → Lacks lacking ts → UndecidedLacks lacking (t ∷ ts)
undecided_first t ts g h e =
    h (second_so (is_word t && (is_in_list t.bytes source_words || is_in_list t.bytes help_words)) (list_any is_unknown (without_trivia ts))
    (ap (λ x. is_undecided (cond (not x) (t ∷ without_trivia ts) (without_trivia ts))) (sym g) ∙ e))

after_trivia : {lacking : Bool} (t : WrittenToken) (ts : List WrittenToken) → is_trivia t ≡ true → UndecidedLacks lacking ts → UndecidedLacks lacking (t ∷ ts)
after_trivia t ts g h e = h (ap (λ x. is_undecided (cond (not x) (t ∷ without_trivia ts) (without_trivia ts))) (sym g) ∙ e)

module _ {lacking newlines : Bool} where
  no_effect : (t u : WrittenToken) (ts us : List WrittenToken) → is_source (form_of (t ∷ ts)) ≡ false → is_source (form_of (u ∷ us)) ≡ false
      → is_help_line (t ∷ ts) ≡ false → is_help_line (u ∷ us) ≡ false → SameEffect lacking newlines (t ∷ ts) (u ∷ us)
  no_effect t u ts us e f g h = record { form = no_source e f; help = h ∙ sym g }

  known_rest : {ts us : List WrittenToken} → RestNoLess lacking newlines ts us → list_any is_unknown (without_trivia ts) ≡ false
      → AreAlike lacking newlines (without_trivia ts) (without_trivia us)
  known_rest no_more e = none_alike
  known_rest (one_more (unknown_token l v) r) e = absurd (let z : ⊥ = cc in z)
  known_rest (one_more (quoted_tokens quote x y n) r) e = next_alike (record { path = refl; prompt = refl; meaning = n }) (known_rest r e)
  known_rest (one_more {ts = ts} {us = us} (same_token {t = t} k m) r) e = by_trivia (λ h. known_rest r h) (is_trivia t) e
    where
      by_trivia : (list_any is_unknown (without_trivia ts) ≡ false → AreAlike lacking newlines (without_trivia ts) (without_trivia us)) → (g : Bool)
          → list_any is_unknown (cond (not g) (t ∷ without_trivia ts) (without_trivia ts)) ≡ false
          → AreAlike lacking newlines (cond (not g) (t ∷ without_trivia ts) (without_trivia ts)) (cond (not g) (t ∷ without_trivia us) (without_trivia us))
      by_trivia ih true e = ih e
      by_trivia ih false e = next_alike (record { path = refl; prompt = refl; meaning = m })
          (ih (either_false (is_unknown t) (list_any is_unknown (without_trivia ts)) e))

  lack : {ts us : List WrittenToken} → RestNoLess lacking newlines ts us → Lacks lacking ts × Lacks lacking us
  lack no_more = (λ e. absurd (let z : ⊥ = cc in z), λ e. absurd (let z : ⊥ = cc in z))
  lack (one_more (unknown_token l v) r) = (λ e. l, λ e. l)
  lack (one_more {ts = ts} {us = us} (quoted_tokens quote x y n) r) =
      let h = lack r in (lacks_next (token_of_quoted_text quote x) ts refl h.0, lacks_next (token_of_quoted_text quote y) us refl h.1)
  lack (one_more {ts = ts} {us = us} (same_token {t = t} k m) r) = let h = lack r in (lacks_next t ts k h.0, lacks_next t us k h.1)

  -- a form is the same as one, or no source like another
  choose : (c : Bool) {f g h k : LineForm} → FormNoLess lacking newlines f g → FormNoLess lacking newlines h k
      → FormNoLess lacking newlines (cond c f h) (cond c g k)
  choose true r s = r
  choose false r s = s

  pair_no_less : (word : List ℕ) {t u : WrittenToken} → IsAlike lacking newlines t u → FormNoLess lacking newlines (form_of_two_words word t) (form_of_two_words word u)
  pair_no_less word {t = t} {u = u} a = by_test (is_in_list word source_words && is_path t) refl
    where
      sourced : (z : WrittenToken) → (is_in_list word source_words && is_path z) ≡ true → form_of_two_words word z ≡ sources (sort_of_source word) z.meaning
      sourced z e = ap (λ c. cond c (sources (sort_of_source word) z.meaning)
          (cond (bytes_eq word (codes "choice") && is_word z) (named_choice z.bytes)
          (cond (bytes_eq word (codes "option") && bytes_eq z.bytes (codes "defconfig_list")) (replaced_by (codes "depends on n"))
          (cond (bytes_eq word (codes "option") && bytes_eq z.bytes (codes "allnoconfig_y")) (replaced_by []) plain)))) e

      other : (b : Bool) → (is_in_list word source_words && is_path t) ≡ b → (is_in_list word source_words && is_path u) ≡ b
      other b e = ap (λ p. is_in_list word source_words && p) a.path ∙ e

      by_test : (b : Bool) → (is_in_list word source_words && is_path t) ≡ b → FormNoLess lacking newlines (form_of_two_words word t) (form_of_two_words word u)
      by_test false e = no_source (pair_is_no_source word t e) (pair_is_no_source word u (other false e))
      by_test true e = subst (λ f. FormNoLess lacking newlines f (form_of_two_words word u)) (sym (sourced t e))
          (subst (λ f. FormNoLess lacking newlines (sources (sort_of_source word) t.meaning) f) (sym (sourced u (other true e)))
          (same_source (sort_of_source word) a.meaning))

  -- the form by a word and known tokens after it
  known_form : {ts us : List WrittenToken} (t : WrittenToken) → AreAlike lacking newlines ts us
      → FormNoLess lacking newlines (form_of (t ∷ ts)) (form_of (t ∷ us))
  known_form t none_alike = no_source refl refl
  known_form t (next_alike {t = x} {u = y} {ts = ts} {us = us} a r) =
      choose (is_word t) (subst (λ b. FormNoLess lacking newlines (form_of_first_word t.bytes x ts)
      (cond (is_in_list t.bytes prompt_words && b) (bare_prompt y.bytes) (by_rest y us))) (sym a.prompt)
      (choose (is_in_list t.bytes prompt_words && is_bare_prompt x) (no_source refl refl) (rest r))) (no_source refl refl)
    where
      by_rest : WrittenToken → List WrittenToken → LineForm
      by_rest z zs = elim zs [ [] ↦ form_of_two_words t.bytes z | v ∷ vs ↦ plain ]

      rest : {ts us : List WrittenToken} → AreAlike lacking newlines ts us → FormNoLess lacking newlines (by_rest x ts) (by_rest y us)
      rest none_alike = pair_no_less t.bytes a
      rest (next_alike b s) = no_source refl refl

  known_help : (t : WrittenToken) {ts us : List WrittenToken} → AreAlike lacking newlines ts us → is_help_line (t ∷ us) ≡ is_help_line (t ∷ ts)
  known_help t none_alike = refl
  known_help t (next_alike a r) = refl

  -- a line of the value of a run alone has no effect
  value_alone : (v : Value) → SameEffect lacking newlines (token_of_value None ∷ []) (cond (not (is_trivia (token_of_value v))) (token_of_value v ∷ []) [])
  value_alone None = record { form = no_source refl refl; help = refl }
  value_alone (Some []) = record { form = no_source refl refl; help = refl }
  value_alone (Some (c ∷ s)) = by_tests (list_all is_bare_byte (c ∷ s)) (is_keyword (c ∷ s)) refl
    where
      token : Bool → WrittenToken
      token b = cond b (written_as Word (c ∷ s) (c ∷ s)) (written_as Quoted (in_quotes_of 34 (c ∷ s)) (c ∷ s))

      by_tests : (b k : Bool) → is_keyword (c ∷ s) ≡ k → SameEffect lacking newlines (token_of_value None ∷ [])
          (cond (not (is_trivia (token (b && not k)))) (token (b && not k) ∷ []) [])
      by_tests true true e = record { form = no_source refl refl; help = refl }
      by_tests true false e = record { form = no_source refl refl; help = keyword_help (c ∷ s) e }
      by_tests false k e = record { form = no_source refl refl; help = refl }

  -- a line whose form is known where a question is open has the same effect where more is answered
  pub same_effect : {ts us : List WrittenToken} → LineNoLess lacking newlines ts us → is_undecided (without_trivia ts) ≡ false
      → SameEffect lacking newlines (without_trivia ts) (without_trivia us)
  same_effect empty_line e = record { form = no_source refl refl; help = refl }
  same_effect (trivia_first {t = t} {ts = ts} {us = us} g r) e =
      subst (λ x. SameEffect lacking newlines (cond (not x) (t ∷ without_trivia ts) (without_trivia ts)) (cond (not x) (t ∷ without_trivia us)
      (without_trivia us))) (sym g)
      (same_effect r (ap (λ x. is_undecided (cond (not x) (t ∷ without_trivia ts) (without_trivia ts))) (sym g) ∙ e))
  same_effect (known_first {t = t} {u = u} {ts = ts} {us = us} r g h k rest) e =
      subst (λ x. SameEffect lacking newlines (cond (not x) (t ∷ without_trivia ts) (without_trivia ts)) (without_trivia (u ∷ us))) (sym g)
      (subst (λ x. SameEffect lacking newlines (t ∷ without_trivia ts) (cond (not x) (u ∷ without_trivia us) (without_trivia us))) (sym h)
      (by_token r k (ap (λ x. is_undecided (cond (not x) (t ∷ without_trivia ts) (without_trivia ts))) (sym g) ∙ e)))
    where
      by_tests : (t : WrittenToken) → (x y z : Bool) → is_word t ≡ x → is_in_list t.bytes source_words ≡ y → is_in_list t.bytes help_words ≡ z
          → (x && (y || z) && list_any is_unknown (without_trivia ts)) ≡ false → SameEffect lacking newlines (t ∷ without_trivia ts) (t ∷ without_trivia us)
      by_tests t false y z a b d e = no_effect t t (without_trivia ts) (without_trivia us) (no_word_first t (without_trivia ts) a) (no_word_first t
          (without_trivia us) a)
          (no_word_help t (without_trivia ts) a) (no_word_help t (without_trivia us) a)
      by_tests t true true z a b d e = let n = known_rest rest e in record { form = known_form t n; help = known_help t n }
      by_tests t true false true a b d e = let n = known_rest rest e in record { form = known_form t n; help = known_help t n }
      by_tests t true false false a b d e = no_effect t t (without_trivia ts) (without_trivia us) (other_first t (without_trivia ts) b)
          (other_first t (without_trivia us) b) (other_help t (without_trivia ts) d) (other_help t (without_trivia us) d)

      by_token : {t u : WrittenToken} → TokenNoLess lacking newlines t u → is_unknown t ≡ false → is_undecided (t ∷ without_trivia ts) ≡ false
          → SameEffect lacking newlines (t ∷ without_trivia ts) (u ∷ without_trivia us)
      by_token (same_token {t = t} k m) h e = by_tests t (is_word t) (is_in_list t.bytes source_words) (is_in_list t.bytes help_words) refl refl refl e
      by_token (quoted_tokens quote x y n) h e =
          no_effect (token_of_quoted_text quote x) (token_of_quoted_text quote y) (without_trivia ts) (without_trivia us)
          (no_word_first (token_of_quoted_text quote x) (without_trivia ts) refl) (no_word_first (token_of_quoted_text quote y) (without_trivia us) refl)
          (no_word_help (token_of_quoted_text quote x) (without_trivia ts) refl) (no_word_help (token_of_quoted_text quote y) (without_trivia us) refl)
      by_token (unknown_token l v) h e = absurd (let z : ⊥ = cc in z)
  same_effect (unknown_alone l v {ts = ts} n) e =
      subst (λ x. SameEffect lacking newlines (token_of_value None ∷ x) (cond (not (is_trivia (token_of_value v))) (token_of_value v ∷ x) x)) (sym n)
      (value_alone v)

  pub undecided_lack : {ts us : List WrittenToken} → LineNoLess lacking newlines ts us → UndecidedLacks lacking ts × UndecidedLacks lacking us
  undecided_lack empty_line = (λ e. absurd (let z : ⊥ = cc in z), λ e. absurd (let z : ⊥ = cc in z))
  undecided_lack (unknown_alone l v n) = (λ e. l, λ e. l)
  undecided_lack (trivia_first {t = t} {ts = ts} {us = us} g r) = let h = undecided_lack r in (after_trivia t ts g h.0, after_trivia t us g h.1)
  undecided_lack (known_first {t = t} {u = u} {ts = ts} {us = us} r g h k rest) =
      let l = lack rest in (undecided_first t ts g l.0, undecided_first u us h l.1)
