-- Lines `option env="X"`: the name that one asks is that of a variable, and any other line is read as it is.
use Rattle.kc_macros_model.proofs.Common.{◌≡◌, ℕ, Bool, true, false, cond, List, [], ◌∷◌, ◌++◌, Option, Some, None, refl, subst, not, ◌==◌, codes, is_none, list_all, first_so, second_so, eqb-true, is_environment_name, LineToken, quoted, line_tokens, environment_asked, meant_line}
use Rattle.std.specs.Char.{is_digit}
use Rattle.kc_tokens.specs.Token.{is_name_byte}
use Rattle.kc_macros_model.specs.EnvironmentLines.{solid_tokens, is_run, is_equals_sign, quoted_name, asked_after_sign, asked_after_env, asked_after_option, asked_by, environment_line}
use Rattle.kc_macros_model.proofs.CleanTexts.{IsClean, clean, clean_none, clean_cons, clean_append}

-- the name that is asked
if_some : (P : List ℕ → Type 0) (b : Bool) (o : Option (List ℕ)) (name : List ℕ) → ((n : List ℕ) → o ≡ Some n → P n) → cond b o None ≡ Some name → P name
if_some P true o name h e = h name e
if_some P false o name h e = let z : ⊥ = cc in absurd z

abbrev Names : List ℕ → Type 0
Names name = is_environment_name name ≡ true

quoted_names : (t : LineToken) (name : List ℕ) → quoted_name t ≡ Some name → Names name
quoted_names (quoted quote s) name e = by_test (is_environment_name s) refl e
  where
    by_test : (b : Bool) → is_environment_name s ≡ b → cond b (Some s) None ≡ Some name → Names name
    by_test true h e = let same : s ≡ name = cc in subst Names same h
    by_test false h e = let z : ⊥ = cc in absurd z
quoted_names x name e = let z : ⊥ = cc in absurd z

sign_names : (ts : List LineToken) (name : List ℕ) → asked_after_sign ts ≡ Some name → Names name
sign_names [] name e = let z : ⊥ = cc in absurd z
sign_names (t ∷ []) name e = quoted_names t name e
sign_names (t ∷ u ∷ ts) name e = let z : ⊥ = cc in absurd z

env_names : (ts : List LineToken) (name : List ℕ) → asked_after_env ts ≡ Some name → Names name
env_names [] name e = let z : ⊥ = cc in absurd z
env_names (t ∷ ts) name e = if_some Names (is_equals_sign t) (asked_after_sign ts) name (sign_names ts) e

option_names : (ts : List LineToken) (name : List ℕ) → asked_after_option ts ≡ Some name → Names name
option_names [] name e = let z : ⊥ = cc in absurd z
option_names (t ∷ ts) name e = if_some Names (is_run (codes "env") t) (asked_after_env ts) name (env_names ts) e

asked_names : (ts : List LineToken) (name : List ℕ) → asked_by ts ≡ Some name → Names name
asked_names [] name e = let z : ⊥ = cc in absurd z
asked_names (t ∷ ts) name e = if_some Names (is_run (codes "option") t) (asked_after_option ts) name (option_names ts) e

-- a name has no newline
byte_is_no_newline : (c : ℕ) → is_name_byte c ≡ true → (c == 10) ≡ false
byte_is_no_newline c h = by_test (c == 10) refl
  where
    by_test : (b : Bool) → (c == 10) ≡ b → b ≡ false
    by_test false e = refl
    by_test true e = let z : is_name_byte 10 ≡ true = subst (λ x. is_name_byte x ≡ true) (eqb-true c 10 e) h in let y : ⊥ = cc in absurd y

bytes_clean : (s : List ℕ) → list_all is_name_byte s ≡ true → IsClean s
bytes_clean [] h = clean_none
bytes_clean (c ∷ s) h =
    clean_cons (byte_is_no_newline c (first_so (is_name_byte c) (list_all is_name_byte s) h)) (bytes_clean s (second_so (is_name_byte c) (list_all is_name_byte s) h))

name_clean : (s : List ℕ) → Names s → IsClean s
name_clean [] h = clean_none
name_clean (c ∷ s) h = bytes_clean (c ∷ s) (second_so (not (is_digit c 10)) (list_all is_name_byte (c ∷ s)) h)

pub meant_clean_line : (text : List ℕ) → IsClean text → IsClean (meant_line text)
meant_clean_line text h = by_asked (environment_asked text) refl
  where
    by_asked : (o : Option (List ℕ)) → environment_asked text ≡ o → IsClean (elim o as (λ _. List ℕ) [ None ↦ text | Some name ↦ environment_line name ])
    by_asked None e = h
    by_asked (Some name) e =
        clean_append (codes "option env \"$(") (name ++ codes ")\"") (clean refl)
        (clean_append name (codes ")\"") (name_clean name (asked_names (solid_tokens (line_tokens 0 text)) name e)) (clean refl))

-- a line that asks nothing is read as it is
pub meant_same : (text : List ℕ) → is_none (environment_asked text) ≡ true → meant_line text ≡ text
meant_same text e = by_asked (environment_asked text) e
  where
    by_asked : (o : Option (List ℕ)) → is_none o ≡ true → elim o as (λ _. List ℕ) [ None ↦ text | Some name ↦ environment_line name ] ≡ text
    by_asked None e = refl
    by_asked (Some name) e = let z : ⊥ = cc in absurd z
