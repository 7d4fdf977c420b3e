-- The lines of options, by their tokens.
use Rattle.kc_statements.proofs.Common.{◌≡◌, ◌<◌, true, List, [], ◌∷◌, length, drop, refl, arith, Option, Some, None, Err, codes, Operand, Lexeme, lexeme_of, lexemes_of, Malformed, no_more, is_the_word, attribute, modules}
use Rattle.kc_tokens.specs.declared.token.Token.{Token as CodeToken}
use Rattle.kc_tree_model.specs.Forms.{environment_of_operand, option_line}
use Rattle.kc_statements.proofs.FormLemmas.{first_of}

-- tokens after the text of an `option env`
none_after : (o : Option Operand) (t : Lexeme) (ts : List Lexeme) → environment_of_operand o (t ∷ ts) ≡ Err Malformed
none_after None t ts = refl
none_after (Some text) t ts = refl

-- the options, by the first token
pub modules_option : (ts : List CodeToken) → 0 < length ts → is_the_word (codes "modules") (lexeme_of (first_of ts)) ≡ true
    → option_line (lexemes_of ts) ≡ no_more (attribute modules) (lexemes_of (drop 1 ts))
modules_option [] l h = absurd (omega (arith, l))
modules_option (t ∷ ts) l h = rw h refl
