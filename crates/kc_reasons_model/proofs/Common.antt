-- The names that most proofs of this crate cite, passed on from one place. Declares nothing.
pub use Rattle.std.proofs.Common.{Bool, IfSome, IsTrue, List, None, Option, Some, [], ap, append-nil, append_assoc, arith, cond, eqb, false, filter, inl, inr, length, length-append, map, not, pos, refl, slice_get, subst, suc, sym, take, true, unwrap_or, zero, ℕ, ℤ, ◌&&◌, ◌++◌, ◌+◌, ◌<◌, ◌||◌, ◌↔◌}
pub use Rattle.std.proofs.Common.{◌∙◌, ◌∷◌, ◌≡◌, ◌≢◌, ◌≤◌, ◌⊎◌}
pub use Rattle.std.proofs.Math.Bool.{beq}
pub use Rattle.std.proofs.Math.ListN.{get_or}
pub use Rattle.std.proofs.Math.Seq.{take-append_seam}
pub use Rattle.std.proofs.lemmas.Bool.{and_from, and_parts, cases_eq, eq-eqb, eqb-true, false≢true, ne_eqb, not-false, not-true, or_cases, or_left, or_parts, or_right, true≢false}
pub use Rattle.std.proofs.lemmas.List.{map-append}
pub use Rattle.std.proofs.lemmas.List.Elements.{All-append, All-contains, All-from_recursion, All-nil, All-weaker, Contains-append_left, Contains-append_right, filter-append, recursion_from_All}
pub use Rattle.std.proofs.lemmas.Slice.Eq.{bytes_eq-Decides}
pub use Rattle.std.specs.List.{All, AllByRecursion, cons_option, list_all, list_any}
pub use Rattle.std.specs.Option.{option_and_then, option_or}
pub use Rattle.std.specs.Prelude.{bytes_eq, codes, filter_map, find, flat_map, int_lt, is_none, is_some, option_map, option_to_list, ◌==◌}
pub use Rattle.kc_dotconfig_model.proofs.MergedUsers.{assigned_length}
pub use Rattle.kc_dotconfig_model.proofs.Tables.{after, at, at2, at3, same_bool, same_from}
pub use Rattle.kc_dotconfig_model.specs.ConfigFiles.{assigned, assigned_over, merged_user}
pub use Rattle.kc_dotconfig_model.specs.ConfigLines.{LineMeaning, assigns, assigns_escaped}
pub use Rattle.kc_dotconfig_model.specs.MissedAssignments.{is_given_n}
pub use Rattle.kc_expr.specs.Expr.{Environment, Expr, alone, both, constant, either, named, negated, quoted, related, shown, value}
pub use Rattle.kc_expr.specs.ExpressionNames.{names_in, operand_names}
pub use Rattle.kc_expr.specs.Grammar.{IsExpr, Level, ands, factor, more_ands, more_ors, negation, one_and, one_factor, operand, ors, parentheses, relation}
pub use Rattle.kc_reasons_model.specs.AssigningLines.{AssigningLine, AssigningPlace, assigning_line, if_any, place_giving, said_to, user_by_line}
pub use Rattle.kc_reasons_model.specs.Blame.{blamed}
pub use Rattle.kc_reasons_model.specs.Cases.{base_case, bound_case, case_of_choice, case_of_symbol, case_of_unit, choice_case, counted_lines, counted_member, default_case, default_choice_case, default_number, default_value, first_member, first_unlisted, given_member, given_tri, is_environment}
pub use Rattle.kc_reasons_model.specs.Cases.{is_listed_default, is_without_m, member_by_default, number_case, number_default_case, symbol_case, tri_case, unasked_case, unasked_tri, user_text_number}
pub use Rattle.kc_reasons_model.specs.Conjuncts.{Part, below, conjuncts, lacking, lacks}
pub use Rattle.kc_reasons_model.specs.DecisiveLimits.{is_decisive}
pub use Rattle.kc_reasons_model.specs.Hindrances.{hindrance_to, hindrances, is_given_both, is_given_y}
pub use Rattle.kc_reasons_model.specs.Laws.{FitUnit, IsDependency, counted_conditions}
pub use Rattle.kc_reasons_model.specs.Places.{LocatedContext, LocatedExpr, lacking_located, located_context, located_dependencies, located_prompt, wanted_of}
pub use Rattle.kc_reasons_model.specs.Reasons.{ExplainedRun, is_empty, low_part, low_parts, names_of, needs_of, unless_one_lacks_nothing, unmet_parts, wanted_of_prompts}
pub use Rattle.kc_reasons_model.specs.Spelling.{in_parentheses, operand_token, spelling, token, under_not}
pub use Rattle.kc_reasons_model.specs.SymbolLines.{SymbolLines}
pub use Rattle.kc_reasons_model.specs.declared.cases.ChoiceCase.{ChoiceCase}
pub use Rattle.kc_reasons_model.specs.declared.cases.ChoiceCase.TheVariants.{FirstListed, FirstUnlisted, NotShown}
pub use Rattle.kc_reasons_model.specs.declared.cases.Hindrance.{Hindrance}
pub use Rattle.kc_reasons_model.specs.declared.cases.Hindrance.TheVariants.{AboveVisibility, BelowSelected, ChoiceNotShown, FirstOfAll, FromEnvironment, Hidden, LaterY, MemberHidden, OutOfRange, Promoted, UpsideDown}
pub use Rattle.kc_reasons_model.specs.declared.cases.Lift.TheVariants.{AsGiven, ImpliedY, WithoutM}
pub use Rattle.kc_reasons_model.specs.declared.cases.TextCase.{TextCase}
pub use Rattle.kc_reasons_model.specs.declared.cases.TextCase.TheVariants.{HighBound, LowBound, NoNumber, UserHighBound, UserLowBound, Zero}
pub use Rattle.kc_reasons_model.specs.declared.cases.TriCase.{TriCase}
pub use Rattle.kc_rules_model.proofs.RowTrees.{m, n, sets, text, tree_a, tree_from_environment, tree_imply, tree_int, tree_pick, tree_select, tree_shown_if, writes, y}
pub use Rattle.kc_rules_model.specs.Equality.{same_tri, same_value}
pub use Rattle.kc_value.specs.Tri.{largest, is_m, is_n, tri_and, tri_or, y_for_m}
pub use Rattle.kc_rules_model.specs.MemberLines.{first_listed, is_listed, merged_lines, last_y, selected_by_lines, selected_without_y}
pub use Rattle.kc_rules_model.specs.Reports.{allowed}
pub use Rattle.kc_rules_model.specs.Rule.{active_default, active_range, assigned_lines, assigned_member, assigned_text, assigned_tri, base, bound, choice_rule, clamped, counted_prompts, default_member, default_text, direct_dependency, is_from_environment, is_shown, is_upside_down, is_visible}
pub use Rattle.kc_rules_model.specs.Rule.{is_visible_member, is_within, leaves_no_m, number_default, rule_of_choice, rule_of_symbol, rule_of_unit, selected, shown_choice_rule, symbol_rule, tri_rule, unassigned_value, user_number, visibility}
pub use Rattle.kc_rules_model.specs.Shapes.{choice_user_fits, symbol_user_fits, unit_user_fits}
pub use Rattle.kc_rules_model.specs.SymbolValues.{condition}
pub use Rattle.kc_rules_model.specs.checker.Agreement.{parts}
pub use Rattle.kc_rules_model.specs.declared.profile.Profile.{Profile}
pub use Rattle.kc_rules_model.specs.declared.profile.Profile.TheVariants.{Classic, Present}
pub use Rattle.kc_rules_model.specs.declared.values.MemberLine.{MemberLine}
pub use Rattle.kc_rules_model.specs.declared.values.UnitValue.{UnitValue}
pub use Rattle.kc_rules_model.specs.declared.values.UserValue.{UserValue}
pub use Rattle.kc_solver.specs.Solutions.{user_of}
pub use Rattle.kc_tokens.specs.Languages.{is_linux_6_12}
pub use Rattle.kc_tokens.specs.Token.{Lexeme}
pub use Rattle.kc_tokens.specs.TokenGrammar.{relation_text}
pub use Rattle.kc_tokens.specs.declared.language.Language.{Language}
pub use Rattle.kc_tokens.specs.declared.language.Language.TheVariants.{Linux}
pub use Rattle.kc_tokens.specs.declared.token.TokenKind.TheVariants.{And, Close, Not, Open, Or, Relation}
pub use Rattle.kc_tree_model.specs.Blocks.{Group, Line, Position}
pub use Rattle.kc_tree_model.specs.Conditions.{Context, attribute_condition, attribute_values, context, prompt_condition}
pub use Rattle.kc_tree_model.specs.Statements.{Attribute, prompt_of}
pub use Rattle.kc_tree_model.specs.TreeLookup.{unit_of}
pub use Rattle.kc_tree_model.specs.Trees.{Choice, Default, MemberDefault, Range, ReverseDependency, Symbol, Tree}
pub use Rattle.kc_value.specs.Kinds.{is_tri_kind}
pub use Rattle.kc_value.specs.Number.{number_of_text}
pub use Rattle.kc_value.specs.QuotedTexts.{escaped_byte}
pub use Rattle.kc_value.specs.declared.tri.Tri.{Tri}
pub use Rattle.kc_value.specs.declared.tri.Tri.TheVariants.{M, N, Y}
pub use Rattle.kc_value.specs.declared.value.Kind.{Kind}
pub use Rattle.kc_value.specs.declared.value.Kind.TheVariants.{Hex, Int, Tristate}
