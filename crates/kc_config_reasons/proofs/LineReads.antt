-- The meaning of a line is the one that is read.
use Rattle.kc_config_reasons.proofs.Common.{◌≡◌, true, List, ℕ, Option, Some, None, sym, ◌∙◌, ap, subst, Result, Ok, Err, OnOk, option_map, is_utf8, Tree, without_white_end, FileFormat, LineMeaning, Means, Meaning, meaning_view, FileLines, Keeps}
use Rattle.std.specs.Str.{IsUtf8}
use Rattle.std.proofs.lemmas.Str.{IsUtf8-from_is_utf8}
use Rattle.kc_dotconfig_model.specs.PrefixGrammar.{is_name_prefix}
use Rattle.kc_dotconfig_model.specs.between.LineMeanings.{line_meaning}
use Rattle.kc_dotconfig_model.proofs.LineLaws.{line_read}

module _ (format : FileFormat) (tree : Tree) (line text : List ℕ) (o : Option Meaning) (valid : is_name_prefix format.prefix ≡ true) (same : text ≡ line)
    (read : option_map meaning_view o ≡ line_meaning format tree (without_white_end text)) where
  meant : (meaning : LineMeaning) → Means format tree (without_white_end line) meaning → option_map meaning_view o ≡ Some meaning
  meant meaning means = read ∙ ap (λ t. line_meaning format tree (without_white_end t)) same ∙ (line_read format tree (without_white_end line) meaning valid).1 means

  -- a line with a meaning is kept as this meaning has it
  pub keeps_read : {T E : Type 0} (r : Result T E) (n : ℕ) (m : Meaning) (f g : FileLines) → o ≡ Some m → OnOk r (Keeps n (meaning_view m) f g)
      → OnOk r ((meaning : LineMeaning) → is_utf8 line ≡ true → Means format tree (without_white_end line) meaning → Keeps n meaning f g)
  keeps_read (Ok y) n m f g is kept = λ meaning utf8 means.
      let e : Some (meaning_view m) ≡ Some meaning = sym (ap (option_map meaning_view) is) ∙ meant meaning means in
      let one : meaning_view m ≡ meaning = cc in
      subst (λ k. Keeps n k f g) one kept
  keeps_read (Err e) n m f g is kept = tt

  -- and no meaning is without one
  pub none_read : (n : ℕ) (f g : FileLines) → o ≡ None → (meaning : LineMeaning) → is_utf8 line ≡ true → Means format tree (without_white_end line) meaning → Keeps n meaning f g
  none_read n f g is meaning utf8 means =
      let e : None ≡ Some meaning = sym (ap (option_map meaning_view) is) ∙ meant meaning means in
      absurd (cc)

-- bytes that aren't UTF-8 have none
pub no_utf8 : (line : List ℕ) → (IsUtf8 line → ⊥) → is_utf8 line ≡ true → ⊥
no_utf8 line not utf8 = not (IsUtf8-from_is_utf8 line utf8)
