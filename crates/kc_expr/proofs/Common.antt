-- The names that most proofs of this crate cite, passed on from one place. Declares nothing.
pub use Rattle.std.proofs.Common.{Bool, Err, List, None, Ok, Option, Result, Some, [], ap, append-nil, append_assoc, arith, cond, drop, eqb, false, get_or, inl, inr, length, length-append, length-drop, map, pred, refl, replicate, rules, subst, suc, sym, take, true, zero, ℕ, ◌&&◌, ◌++◌, ◌+◌, ◌-◌}
pub use Rattle.std.proofs.Common.{◌<◌, ◌^◌, ◌||◌, ◌∙◌, ◌∷◌, ◌≡◌, ◌≤◌, ◌⊎◌}
pub use Rattle.std.proofs.Math.Seq.{get_or-append_seam, take-append_seam, take-length}
pub use Rattle.std.proofs.lemmas.Bool.{both_ways, cases_lt}
pub use Rattle.std.proofs.lemmas.Grind.{common_steps}
pub use Rattle.std.proofs.lemmas.List.{get_or_append_left, length-map, map-append}
pub use Rattle.std.proofs.lemmas.List.Elements.{All-replicate}
pub use Rattle.std.proofs.lemmas.List.Folds.{list_any-append}
pub use Rattle.std.proofs.lemmas.Result.{IfOk-weaker, err_from_is_err_and, on_ok_weaker}
pub use Rattle.std.proofs.lemmas.Slice.Eq.{bytes_eq-Decides}
pub use Rattle.std.specs.List.{list_any}
pub use Rattle.std.specs.Prelude.{All, bytes_eq, option_and_then, option_map, slice_index_or, slice_set, string_bytes}
pub use Rattle.kc_expr.specs.Expr.{Expr, Operand, alone, both, constant, either, modules, named, negated, quoted, related, shown, value}
pub use Rattle.kc_expr.specs.ExpressionNames.{names_in, operand_names}
pub use Rattle.kc_expr.specs.Grammar.{IsExpr, Level, Read, after_operand, ands, chain, closed, constant_or, extent, factor, fault_of, is_and, is_close, is_operand_kind, is_or, more_ands, more_ors, negation, on_read, one_and, one_factor, operand, operand_of_kind, operand_of_lexeme, ors, parentheses}
pub use Rattle.kc_expr.specs.Grammar.{past_depth_limit, read_ands, read_factor, read_ors, read_to_end, relation, right_operand}
pub use Rattle.kc_expr.specs.Lookup.{AreDistinct, environment_of}
pub use Rattle.kc_expr.specs.between.Arena.{Exprs, Represents, node_expr}
pub use Rattle.kc_expr.specs.between.Names.{with_name}
pub use Rattle.kc_expr.specs.between.ParseResults.{expr_end}
pub use Rattle.kc_expr.specs.between.ReverseNames.{names_in_reverse}
pub use Rattle.kc_expr.specs.between.Visits.{mentions, passes_some_name}
pub use Rattle.kc_expr.specs.checker.Conditions.{as_condition}
pub use Rattle.kc_expr.specs.checker.ExpressionWalks.{IsWalking}
pub use Rattle.kc_expr.specs.checker.Nodes.{NodeFits, expr_of, exprs_after, exprs_of, operand_of, some_node}
pub use Rattle.kc_expr.specs.checker.ParserResults.{IsParsedToEnd, IsRefusedToEnd, first_kind, first_operand, first_relation, relation_of}
pub use Rattle.kc_expr.specs.checker.Store.{Extends, HasNamesOf, IsSound, exprs_in, stored_names}
pub use Rattle.kc_expr.specs.declared.node.Leaf.{Leaf}
pub use Rattle.kc_expr.specs.declared.node.Leaf.TheVariants.{Constant}
pub use Rattle.kc_expr.specs.declared.node.Node.{Node}
pub use Rattle.kc_expr.specs.declared.node.Node.TheVariants.{Alone}
pub use Rattle.kc_expr.specs.declared.node_store.NodeStore.{NodeStore}
pub use Rattle.kc_tokens.proofs.CutLaws.{read_fault}
pub use Rattle.kc_tokens.proofs.KeptLists.{kept_through}
pub use Rattle.kc_tokens.proofs.TokenLaws.{cut_read, lead_quoted}
pub use Rattle.kc_tokens.specs.QuotedTexts.{quoted_text}
pub use Rattle.kc_tokens.specs.Token.{Lexeme, dollar_left_out, is_quote, lexeme_of, lexemes_from, lexemes_of, quoted_or_left_out, quoted_up_to, with_front}
pub use Rattle.kc_tokens.specs.TokenGrammar.{IsFirstTokenFault}
pub use Rattle.kc_tokens.specs.declared.fault.ExprFault.{ExprFault}
pub use Rattle.kc_tokens.specs.declared.fault.ExprKind.{ExprKind}
pub use Rattle.kc_tokens.specs.declared.fault.ExprKind.TheVariants.{LeftOut, Malformed, TooDeep, UnclosedQuote}
pub use Rattle.kc_tokens.specs.declared.language.Language.{Language}
pub use Rattle.kc_tokens.specs.declared.language.Language.TheVariants.{Linux, Strict}
pub use Rattle.kc_tokens.specs.declared.token.NextToken.{NextToken}
pub use Rattle.kc_tokens.specs.declared.token.NextToken.TheVariants.{Comment, Fault, Token, White}
pub use Rattle.kc_tokens.specs.declared.token.Relop.{Relop}
pub use Rattle.kc_tokens.specs.declared.token.TokenKind.{TokenKind}
pub use Rattle.kc_tokens.specs.declared.token.TokenKind.TheVariants.{And, Close, Not, Open, Or, Quoted, Relation, Word}
pub use Rattle.kc_value.specs.QuotedTexts.{closing}
pub use Rattle.kc_value.specs.Tri.{tri_and, tri_or}
pub use Rattle.kc_value.specs.declared.tri.Tri.TheVariants.{M, N, Y}
