-- Titles and the own texts of defaults are one line of UTF-8.
use Rattle.kc_tree_model.proofs.Common.{◌≡◌, ℕ, false, List, [], ◌∷◌, IsUtf8, Ok, refl, IsUtf8-nil, Expr, quoted_text, Lexeme, lexemes_from, AllTexts, Language, has_newline, own_text}
use Rattle.kc_tree_model.proofs.NestedTrees.LineFits.{IsValueOf}
use Rattle.kc_tree_model.proofs.Consistency.OneLine.{one_lexed, one_quoted, OneText}
use Rattle.kc_tree_model.proofs.Consistency.OwnTexts.{own_text_of_value}
use Rattle.kc_tree_model.proofs.Consistency.TokenBytes.{utf8_tokens, utf8_quoted}

-- a text is one line of UTF-8: it has no newline
abbrev pub IsPlainText : List ℕ → Type 0
IsPlainText text = (has_newline text ≡ false) × IsUtf8 text

plain_quoted : (text : List ℕ) → IsPlainText text → IsPlainText (quoted_text text)
plain_quoted text h = (one_quoted text h.0, utf8_quoted text h.1)

both_texts : (ts : List Lexeme) → AllTexts OneText ts → AllTexts IsUtf8 ts → AllTexts IsPlainText ts
both_texts [] one u = tt
both_texts (t ∷ ts) one u = ((one.0, u.0), both_texts ts one.1 u.1)

plain_tokens : (language : Language) (line : List ℕ) (ts : List Lexeme) → IsPlainText line → lexemes_from language 0 0 line ≡ Ok ts → AllTexts IsPlainText ts
plain_tokens language line ts h e = both_texts ts (one_lexed language line ts h.0 e) (utf8_tokens language line ts h.1 e)

-- the text of a default value that is read from a line of UTF-8 without a newline is one line of UTF-8
pub value_is_plain : (language : Language) (line : List ℕ) (value : Expr) → IsPlainText line → IsValueOf (lexemes_from language 0 0 line) value
    → IsPlainText (own_text value)
value_is_plain language line value h v = own_text_of_value IsPlainText (refl, IsUtf8-nil) plain_quoted (lexemes_from language 0 0 line) value
    (λ ts e. plain_tokens language line ts h e) v

-- the text of the second token of a line of UTF-8 without a newline, read as quoted, is one line of UTF-8
pub title_is_plain : (language : Language) (line : List ℕ) (first t : Lexeme) (us : List Lexeme) → IsPlainText line
    → lexemes_from language 0 0 line ≡ Ok (first ∷ t ∷ us) → IsPlainText (quoted_text t.text)
title_is_plain language line first t us h e = plain_quoted t.text (plain_tokens language line (first ∷ t ∷ us) h e).1.0
