-- Titles.
use Rattle.kc_statements.proofs.Common.{◌≡◌, ℕ, ◌<◌, arith, length, true, List, [], ◌∷◌, refl, ap, sym, ◌∙◌, inl, Result, Ok, Err, IfOk, false≢true, lexemes_of, quoted_text, TreeKind, OutOfMemory, Statement, head, ReturnsOrFails}
use Rattle.std.specs.Prelude.{IfErr}
use Rattle.kc_tokens.specs.declared.token.Token.{Token as CodeToken}
use Rattle.kc_tree_model.specs.Forms.{titled_line}
use Rattle.kc_tree_model.specs.Statements.{Head}
use Rattle.kc_statements.specs.checker.Titles.{is_one_quoted}
use Rattle.kc_statements.proofs.FormLemmas.{first_of}

pub title_given : (f : List ℕ → Head) (ts : List CodeToken) → is_one_quoted (lexemes_of ts) ≡ true
    → titled_line f (lexemes_of ts) ≡ Ok (head (f (quoted_text (first_of ts).text.now)))
title_given f [] n = absurd (false≢true n)
title_given f (t ∷ []) n = rw n refl
title_given f (t ∷ u ∷ us) n = absurd (false≢true n)

pub title_there : (ts : List CodeToken) → is_one_quoted (lexemes_of ts) ≡ true → 0 < length ts
title_there [] n = absurd (false≢true n)
title_there (t ∷ ts) n = omega arith

-- what the code reads as a titled statement agrees with the definition, if the title's text does; it fails only out of memory
pub title_by : (f : List ℕ → Head) (x : List ℕ) (r : Result (List ℕ) TreeKind) (given : Result Statement TreeKind) → given ≡ Ok (head (f x))
    → IfOk r (λ t. t ≡ x) → IfErr r (λ k. k ≡ OutOfMemory)
    → ReturnsOrFails (λ t. head (f t)) r given
title_by f x (Ok t) given g ok err = g ∙ ap (λ y. Ok (head (f y))) (sym ok)
title_by f x (Err k) given g ok err = inl err
