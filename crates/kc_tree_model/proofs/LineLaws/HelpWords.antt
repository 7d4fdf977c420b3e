-- A line begins a help text where its one token is the word of one.
use Rattle.kc_tree_model.proofs.Common.{◌≡◌, ℕ, true, false, List, [], ◌∷◌, Option, Some, Result, Ok, Err, refl, ap, sym, ◌∙◌, length, arith, ExprFault, Strict, Lexeme, lexemes_from, read_cut, cut_read, keyword_of, Keyword, is_help_word, is_help_or_fault, begins_help}
use Rattle.std.proofs.lemmas.Bool.{false_from_ne_true}
use Rattle.kc_tree_model.specs.declared.keyword.Keyword.TheVariants as words
use Rattle.kc_tree_model.specs.LineGrammar.{BeginsHelp}

help_word : (k : Option Keyword) → is_help_word k ≡ true → k ≡ Some words.Help
help_word (Some words.Help) h = refl
help_word k h = cc

module _ (text : List ℕ) where
  by_tokens : (r : Result (List Lexeme) ExprFault) → lexemes_from Strict 0 0 text ≡ r → is_help_or_fault r ≡ true → BeginsHelp text
  by_tokens (Err e) h b = cc
  by_tokens (Ok []) h b = cc
  by_tokens (Ok (t ∷ [])) h b = (t, read_cut Strict (length text) 0 text (t ∷ []) (omega arith) h, help_word (keyword_of t) b)
  by_tokens (Ok (t ∷ u ∷ ts)) h b = cc

  pub word_of_help : begins_help text ≡ true → BeginsHelp text
  word_of_help = by_tokens (lexemes_from Strict 0 0 text) refl

  pub help_of_word : BeginsHelp text → begins_help text ≡ true
  help_of_word h = ap is_help_or_fault (cut_read Strict 0 text (h.0 ∷ []) h.1) ∙ ap is_help_word h.2

  pub none_of_help : begins_help text ≡ false → BeginsHelp text → ⊥
  none_of_help e h = let z : true ≡ false = sym (help_of_word h) ∙ e in cc

  pub help_of_none : (BeginsHelp text → ⊥) → begins_help text ≡ false
  help_of_none h = false_from_ne_true (begins_help text) (λ e. h (word_of_help e))
