-- Examples of lines that have nothing to expand, assign or rewrite, and of sources that aren't among them, computed.
use Rattle.kc_macros_model.proofs.Common.{◌≡◌, ℕ, Bool, true, false, List, [], ◌∷◌, map, refl, codes, bytes_eq, is_plain_line, no_paths}
use Rattle.std.specs.Str.{is_utf8, chars}
use Rattle.kc_tokens.specs.Token.{next_token}

-- whether each line is plain
abbrev plain_ones : (List ℕ → Bool) → List (List ℕ) → List Bool
plain_ones paths lines = map (λ line. is_plain_line paths line) lines

plain_lines : plain_ones no_paths (codes "config A_B" ∷ codes "\tdefault y if B && \"c d\" # $(e)" ∷ codes "\tdefault \"a\\$b\"" ∷ codes "" ∷ codes "\thelp"
    ∷ codes "\tdefault $X" ∷ codes "\tprompt \"a = b\"" ∷ []) ≡ true ∷ true ∷ true ∷ true ∷ true ∷ true ∷ true ∷ []
unfolding next_token is_utf8 chars lib.Utf8.encode
plain_lines = refl

source_lines : plain_ones (bytes_eq (codes "a/b")) (codes "source \"a/b\"" ∷ codes " source a/b # b" ∷ codes "source \"a/c\"" ∷ codes "rsource \"a/b\""
    ∷ codes "osource \"a/b\"" ∷ []) ≡ true ∷ true ∷ false ∷ false ∷ false ∷ []
unfolding next_token is_utf8 chars lib.Utf8.encode
source_lines = refl

pattern_lines : plain_ones (λ path. true) (codes "source \"a*\"" ∷ codes "source \"a?\"" ∷ codes "source \"a[b]\"" ∷ codes "source \"a\" b" ∷ [])
    ≡ false ∷ false ∷ false ∷ true ∷ []
unfolding next_token is_utf8 chars lib.Utf8.encode
pattern_lines = refl
