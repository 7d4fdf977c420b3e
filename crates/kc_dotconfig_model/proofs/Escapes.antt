-- A string's spelling has no other escapes than those that are written exactly if it is the written one.
use Rattle.kc_dotconfig_model.proofs.Common.{◌≡◌, ℕ, Bool, true, false, not, ◌||◌, ◌==◌, cond, List, [], ◌∷◌, ◌++◌, refl, sym, ap, ◌∙◌, IsBetweenQuotes, none, plain, pair, Language, Linux, Strings, Escaped, Raw, has_other_escape, has_escape_notice}
use Rattle.std.specs.List.{flat_map}
use Rattle.std.proofs.lemmas.Bool.{or_parts}
use Rattle.kc_value.specs.QuotedTexts.{quoted, escaped_byte}
use Rattle.kc_tokens.specs.declared.language.Language.TheVariants.{Strict}
use Rattle.kc_dotconfig_model.specs.Formats.{string_spelling}
use Rattle.kc_dotconfig_model.specs.FileLaws.{EscapesAreNoticed}
use Rattle.kc_tree_model.proofs.Consistency.Definitions.{not_not}

-- bytes that are written between quotes have no other escapes
written_has_none : (text : List ℕ) → has_other_escape false (flat_map escaped_byte text ++ 34 ∷ []) ≡ false
written_has_none [] = refl
written_has_none (c ∷ text) = go (c == 34 || (c == 92)) refl (written_has_none text) where
  go : (t : Bool) → (c == 34 || (c == 92)) ≡ t → has_other_escape false (flat_map escaped_byte text ++ 34 ∷ []) ≡ false
      → has_other_escape false ((cond t (92 ∷ c ∷ []) (c ∷ []) ++ flat_map escaped_byte text) ++ 34 ∷ []) ≡ false
  go true e rest = ap (λ b. not b || has_other_escape false (flat_map escaped_byte text ++ 34 ∷ [])) e ∙ rest
  go false e rest = ap (λ b. has_other_escape b (flat_map escaped_byte text ++ 34 ∷ [])) (or_parts (c == 34) (c == 92) e).1 ∙ rest

quoted_has_none : (text : List ℕ) → has_other_escape false (quoted text) ≡ false
quoted_has_none text = written_has_none text

-- the written spelling of a string has no notice
pub spelling_unnoticed : (language : Language) (strings : Strings) (text : List ℕ) → has_escape_notice language strings (string_spelling strings text) ≡ false
spelling_unnoticed Strict strings text = refl
spelling_unnoticed (Linux version) Raw text = refl
spelling_unnoticed (Linux version) Escaped text = quoted_has_none text

-- bytes between quotes without other escapes are those that are written
written_body : {body means : List ℕ} → IsBetweenQuotes 34 body means → has_other_escape false (body ++ 34 ∷ []) ≡ false → body ≡ flat_map escaped_byte means
written_body none e = refl
written_body (plain {c = c} {bs = bs} {cs = cs} quote escape rest) e =
    let same = written_body rest (sym (ap (λ b. has_other_escape b (bs ++ 34 ∷ [])) escape) ∙ e) in
    ap (λ l. c ∷ l) same ∙ sym (ap (λ b. cond b (92 ∷ c ∷ []) (c ∷ []) ++ flat_map escaped_byte cs)
    (ap (λ b. b || (c == 92)) quote ∙ escape))
written_body (pair {c = c} {bs = bs} {cs = cs} rest) e =
    let parts = or_parts (not (c == 34 || (c == 92))) (has_other_escape false (bs ++ 34 ∷ [])) e in
    ap (λ l. 92 ∷ c ∷ l) (written_body rest parts.1)
    ∙ sym (ap (λ b. cond b (92 ∷ c ∷ []) (c ∷ []) ++ flat_map escaped_byte cs) (not_not (c == 34 || (c == 92)) parts.0))

-- in the languages of Linux the spelling of an escaped string has no notice exactly if it is the one that is written
pub escapes_are_noticed : EscapesAreNoticed
escapes_are_noticed version spelling text q = (
  λ e. q.1 ∙ ap (λ body. 34 ∷ (body ++ 34 ∷ [])) (written_body q.2 (sym (ap (has_other_escape false) q.1) ∙ e)),
  λ same. ap (has_other_escape false) same ∙ quoted_has_none text,
)
