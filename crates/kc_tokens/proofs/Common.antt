-- The names that most proofs of this crate cite, passed on from one place. Declares nothing.
pub use Rattle.std.proofs.Common.{Bool, Err, List, None, Ok, Option, Result, Some, [], ap, append_assoc, arith, cond, drop, eqb, false, get_or, inl, inr, length, length-append, length-drop, refl, rules, subst, suc, sym, take, true, zero, ℕ, ◌&&◌, ◌++◌, ◌+◌, ◌-◌, ◌<◌, ◌||◌, ◌∙◌, ◌∷◌, ◌≡◌, ◌≤◌, ◌⊎◌}
pub use Rattle.std.proofs.Math.Seq.{take-append_seam, take-length}
pub use Rattle.std.proofs.lemmas.Bool.{and_parts, eqb-true, or_parts}
pub use Rattle.std.proofs.lemmas.Bool.Decides.{nat_tests}
pub use Rattle.std.proofs.lemmas.Grind.{common_steps}
pub use Rattle.std.proofs.lemmas.List.{drop_more}
pub use Rattle.std.proofs.lemmas.List.Sums.{take_while-cons}
pub use Rattle.std.proofs.lemmas.Str.{IsCharBoundary-after_ascii}
pub use Rattle.std.specs.List.{list_all, list_any}
pub use Rattle.std.specs.Prelude.{IsCharBoundary, option_map, take_while}
pub use Rattle.kc_tokens.specs.Token.{Lexeme, bare_dollar, dollar_left_out, is_quote, is_white_byte, is_word_byte, lexemes_from, lexemes_of, quoted_or_left_out, quoted_up_to, with_front}
pub use Rattle.kc_tokens.specs.TokenGrammar.{IsCut, IsLongest, IsQuotedToken, IsToken, comment, ends, token, white}
pub use Rattle.kc_tokens.specs.declared.fault.ExprFault.{ExprFault}
pub use Rattle.kc_tokens.specs.declared.fault.ExprKind.{ExprKind}
pub use Rattle.kc_tokens.specs.declared.language.Language.{Language}
pub use Rattle.kc_tokens.specs.declared.language.Language.TheVariants.{Linux, Strict}
pub use Rattle.kc_tokens.specs.declared.token.NextToken.{NextToken}
pub use Rattle.kc_tokens.specs.declared.token.NextToken.TheVariants.{Comment, Fault, Token, White}
pub use Rattle.kc_tokens.specs.declared.token.Relop.TheVariants.{Equal, Greater, GreaterEqual, Less, LessEqual, NotEqual}
pub use Rattle.kc_tokens.specs.declared.token.TokenKind.{TokenKind}
pub use Rattle.kc_tokens.specs.declared.token.TokenKind.TheVariants.{And, Close, Not, Open, Or, Quoted, Relation, Word}
pub use Rattle.kc_value.proofs.ClosingSteps.{further}
pub use Rattle.kc_value.proofs.QuotedLaws.{body_closes}
pub use Rattle.kc_value.specs.QuotedTexts.{IsBetweenQuotes, closing}
