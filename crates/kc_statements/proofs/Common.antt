-- The names that most proofs of this crate cite, passed on from one place. Declares nothing.
pub use Rattle.std.proofs.Common.{Bool, Err, List, None, Ok, Option, Result, Some, [], ap, arith, cond, drop, false, get_or, inl, inr, length, length-drop, refl, rules, suc, sym, take, true, ℕ, ◌&&◌, ◌++◌, ◌+◌, ◌<◌, ◌==◌, ◌||◌, ◌∙◌, ◌∷◌, ◌≡◌, ◌≤◌}
pub use Rattle.std.proofs.Math.Seq.{take-length}
pub use Rattle.std.proofs.lemmas.Bool.{false≢true}
pub use Rattle.std.proofs.lemmas.Bool.Decides.{nat_tests}
pub use Rattle.std.proofs.lemmas.Grind.{common_steps, elements}
pub use Rattle.std.proofs.lemmas.List.{length-map, take-append-drop}
pub use Rattle.std.proofs.lemmas.Result.{err_from_is_err_and}
pub use Rattle.std.specs.List.{list_any}
pub use Rattle.std.specs.Prelude.{IfOk, codes, slice_index_or}
pub use Rattle.kc_expr.proofs.GrammarComplete.{expr_complete}
pub use Rattle.kc_expr.specs.Expr.{Expr, Operand, alone}
pub use Rattle.kc_expr.specs.Grammar.{extent, is_operand_kind, operand_of_kind, operand_of_lexeme}
pub use Rattle.kc_expr.specs.between.Arena.{Exprs, Grows, node_expr}
pub use Rattle.kc_statements.specs.between.StatementViews.{IfNodeExists, OperandNodeExists, ReturnsOrFails, default_in, if_in, operand_of_expr, operand_or_n, target_in}
pub use Rattle.kc_tokens.specs.QuotedTexts.{quoted_text}
pub use Rattle.kc_tokens.specs.Token.{Lexeme, lexeme_of, lexemes_of}
pub use Rattle.kc_tokens.specs.declared.fault.ExprKind.{ExprKind}
pub use Rattle.kc_tokens.specs.declared.token.TokenKind.{TokenKind}
pub use Rattle.kc_tokens.specs.declared.token.TokenKind.TheVariants.{And, Close, Not, Open, Or, Quoted, Relation, Word}
pub use Rattle.kc_tree_model.specs.Forms.{ParsedExpr, condition_line, default_line, kind_of_fault, last_condition, no_more, optional_if, prompt_line, type_line, ◌>>=◌}
pub use Rattle.kc_tree_model.specs.Keywords.{is_the_word}
pub use Rattle.kc_tree_model.specs.Placement.{is_glob_path}
pub use Rattle.kc_tree_model.specs.Statements.{Attribute, Statement}
pub use Rattle.kc_tree_model.specs.between.Attributes.{DefaultAttribute, TargetAttribute}
pub use Rattle.kc_tree_model.specs.declared.statement.Attribute.TheVariants.{Modules as modules, Range as range, TypedPrompt as typed_prompt}
pub use Rattle.kc_tree_model.specs.declared.statement.Statement.TheVariants.{Attribute as attribute, Head as head}
pub use Rattle.kc_tree_model.specs.declared.fault.TreeKind.{TreeKind}
pub use Rattle.kc_tree_model.specs.declared.fault.TreeKind.TheVariants.{Malformed, OutOfMemory}
