-- A line without `=` asks no variable of the environment.
use Rattle.kc_macro_lines.proofs.Common.{◌≡◌, ℕ, Bool, true, false, ◌||◌, cond, List, [], ◌∷◌, ◌++◌, Option, None, refl, sym, ap, ◌∙◌, ◌==◌, codes, bytes_eq, LineToken, trivia, run, quoted, other, broken, line_tokens, bytes_of_tokens, solid_tokens, asked_after_option, asked_by, has_equals_sign}
use Rattle.std.specs.Prelude.{◌&&◌}
use Rattle.kc_macros_model.specs.EnvironmentLines.{asked_after_sign, asked_after_env, environment_asked}
use Rattle.kc_macro_lines.proofs.LineTokenLemmas.{row_of_tokens}

-- the two parts of a text
none_in_parts : (x y : List ℕ) → has_equals_sign (x ++ y) ≡ false → (has_equals_sign x ≡ false) × (has_equals_sign y ≡ false)
none_in_parts [] y h = (refl, h)
none_in_parts (c ∷ x) y h = by_test (none_in_parts x y) (c == 61) h
  where
    by_test : (has_equals_sign (x ++ y) ≡ false → (has_equals_sign x ≡ false) × (has_equals_sign y ≡ false)) → (b : Bool)
        → (b || has_equals_sign (x ++ y)) ≡ false → ((b || has_equals_sign x) ≡ false) × (has_equals_sign y ≡ false)
    by_test ih true h = let z : ⊥ = cc in absurd z
    by_test ih false h = ih h

no_sign : (s : List ℕ) → has_equals_sign s ≡ false → bytes_eq s (codes "=") ≡ false
no_sign [] h = refl
no_sign (c ∷ s) h = by_test (c == 61) h
  where
    by_test : (b : Bool) → (b || has_equals_sign s) ≡ false → (b && bytes_eq s []) ≡ false
    by_test true h = let z : ⊥ = cc in absurd z
    by_test false h = refl

either_none : (b : Bool) (o : Option (List ℕ)) → o ≡ None → cond b o None ≡ None
either_none true o h = h
either_none false o h = refl

none_after_env : (ts : List LineToken) → has_equals_sign (bytes_of_tokens ts) ≡ false → asked_after_env (solid_tokens ts) ≡ None
none_after_env [] h = refl
none_after_env (trivia s ∷ ts) h = none_after_env ts (none_in_parts s (bytes_of_tokens ts) h).1
none_after_env (other s ∷ ts) h = ap (λ b. cond b (asked_after_sign (solid_tokens ts)) None) (no_sign s (none_in_parts s (bytes_of_tokens ts) h).0)
none_after_env (run s ∷ ts) h = refl
none_after_env (quoted quote s ∷ ts) h = refl
none_after_env (broken s ∷ ts) h = refl

none_after_option : (ts : List LineToken) → has_equals_sign (bytes_of_tokens ts) ≡ false → asked_after_option (solid_tokens ts) ≡ None
none_after_option [] h = refl
none_after_option (trivia s ∷ ts) h = none_after_option ts (none_in_parts s (bytes_of_tokens ts) h).1
none_after_option (run s ∷ ts) h =
    either_none (bytes_eq s (codes "env")) (asked_after_env (solid_tokens ts)) (none_after_env ts (none_in_parts s (bytes_of_tokens ts) h).1)
none_after_option (other s ∷ ts) h = refl
none_after_option (quoted quote s ∷ ts) h = refl
none_after_option (broken s ∷ ts) h = refl

none_asked : (ts : List LineToken) → has_equals_sign (bytes_of_tokens ts) ≡ false → asked_by (solid_tokens ts) ≡ None
none_asked [] h = refl
none_asked (trivia s ∷ ts) h = none_asked ts (none_in_parts s (bytes_of_tokens ts) h).1
none_asked (run s ∷ ts) h =
    either_none (bytes_eq s (codes "option")) (asked_after_option (solid_tokens ts)) (none_after_option ts (none_in_parts s (bytes_of_tokens ts) h).1)
none_asked (other s ∷ ts) h = refl
none_asked (quoted quote s ∷ ts) h = refl
none_asked (broken s ∷ ts) h = refl

pub none_without_sign : (text : List ℕ) → has_equals_sign text ≡ false → None ≡ environment_asked text
none_without_sign text h = sym (none_asked (line_tokens 0 text) (ap has_equals_sign (row_of_tokens 0 text) ∙ h))
