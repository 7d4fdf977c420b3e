-- The names that most proofs of this crate cite, passed on from one place. Declares nothing.
pub use Rattle.std.proofs.Common.{Bool, Err, IsUtf8, List, None, Ok, Option, Result, Some, [], ap, append-nil, append_assoc, arith, cond, drop, false, filter, get_or, inl, inr, length, length-append, map, not, refl, reverse, rules, subst, suc, sym, take, true, zero, ℕ, ◌&&◌, ◌++◌, ◌+◌, ◌-◌, ◌<◌}
pub use Rattle.std.proofs.Common.{◌||◌, ◌∙◌, ◌∷◌, ◌≡◌, ◌≤◌, ◌⊎◌}
pub use Rattle.std.proofs.lemmas.Bool.{and_parts, eq-eqb, eqb-false, eqb-true, leb-false, leb-true, lt-ltb, ltb-false, ltb-true}
pub use Rattle.std.proofs.lemmas.Bool.Decides.{nat_tests}
pub use Rattle.std.proofs.lemmas.Grind.{common_steps}
pub use Rattle.std.proofs.lemmas.List.{length-map}
pub use Rattle.std.proofs.lemmas.Slice.Eq.{bytes_eq-Decides}
pub use Rattle.std.proofs.lemmas.Str.{IsUtf8-nil}
pub use Rattle.std.specs.List.{AllByRecursion, cons_option, list_all, list_any, position_or_len}
pub use Rattle.std.specs.Map.{lookup}
pub use Rattle.std.specs.Option.{option_or}
pub use Rattle.std.specs.Prelude.{Vec, bytes_eq, codes, filter_map, flat_map, is_none, is_some, nat_le, nat_lt, option_and_then, option_map, slice_get, sum_by, ◌==◌, ◌↔◌}
pub use Rattle.std.specs.declared.alloc.Global.{Global}
pub use Rattle.kc_expr.proofs.GrammarLaws.{expr_sound}
pub use Rattle.kc_expr.proofs.Languages.{strict_in_linux}
pub use Rattle.kc_expr.proofs.TokenTexts.{AllTexts}
pub use Rattle.kc_expr.specs.Expr.{Expr, Operand, alone, both, conditional, named, quoted}
pub use Rattle.kc_expr.specs.Grammar.{IsExpr, Level, extent, is_close, is_operand_kind, more_ands, more_ors, negation, one_and, one_factor, operand, operand_of_kind, operand_of_lexeme, ors, parentheses, relation}
pub use Rattle.kc_tokens.proofs.CutLaws.{read_cut}
pub use Rattle.kc_tokens.proofs.TokenLaws.{cut_read}
pub use Rattle.kc_tokens.specs.QuotedTexts.{between_quotes, quoted_text}
pub use Rattle.kc_tokens.specs.Token.{Lexeme, lexemes_from, is_name_byte}
pub use Rattle.kc_tokens.specs.TokenGrammar.{IsFirstTokenFault}
pub use Rattle.kc_tokens.specs.declared.fault.ExprFault.{ExprFault}
pub use Rattle.kc_tokens.specs.declared.fault.ExprKind.{ExprKind}
pub use Rattle.kc_tokens.specs.declared.language.Language.{Language}
pub use Rattle.kc_tokens.specs.declared.language.Language.TheVariants.{Linux, Strict}
pub use Rattle.kc_tokens.specs.declared.language.LinuxVersion.{LinuxVersion}
pub use Rattle.kc_tokens.specs.declared.language.LinuxVersion.TheVariants.{Unknown}
pub use Rattle.kc_tokens.specs.declared.token.TokenKind.{TokenKind}
pub use Rattle.kc_tokens.specs.declared.token.TokenKind.TheVariants.{And, Close, Not, Open, Or, Quoted, Relation, Word}
pub use Rattle.kc_tree_model.specs.Blocks.{Group, GroupHead, Line, Position, Side, closing, defined_name, file_end, from_head, innermost, inside, is_some_block, is_stray, of_head, open_blocks, opening, opens_choice, side_of, sourced_path}
pub use Rattle.kc_tree_model.specs.Conditions.{GroupInContext, attribute_condition, attribute_values, context_of, group_in_context, groups_in_context}
pub use Rattle.kc_tree_model.specs.Contents.{Contents, choice_number, choice_of, choice_of_first_definition, choice_of_symbol, contents_of, defines, definitions_of, entry_of_head, is_first_definition, is_member_of, symbol_of, type_given, unit_of_head}
pub use Rattle.kc_tree_model.specs.FormGrammar.{HasDeepExpr, IsForm}
pub use Rattle.kc_tree_model.specs.Forms.{ParsedExpr, condition_line, config_line, default_line, environment_line, environment_of_operand, kind_of_fault, last_condition, leading_expr, no_more, option_line, optional_if, path_of, prompt_line, range_line, range_of_operands, source_line, statement_of}
pub use Rattle.kc_tree_model.specs.Forms.{target_line, titled_line, type_line, ◌>>=◌}
pub use Rattle.kc_tree_model.specs.Keywords.{is_name, is_quoted_kind, is_the_word, keyword_of}
pub use Rattle.kc_tree_model.specs.Limits.{FileSource, bytes_in, files_read, is_in_list, is_too_deep, is_too_many, names_defined, open_files, size_in, without_repeats}
pub use Rattle.kc_tree_model.specs.LineGrammar.{IsJoined, help_lines}
pub use Rattle.kc_tree_model.specs.LogicalLines.{LogicalLine, PhysicalLine, begins_help, continuation_count, help_line_count, is_continued, is_help_or_fault, is_help_word, joined_bytes, logical_lines_from, physical_lines, split_at_newlines, with_first_byte, without_last, without_return}
pub use Rattle.kc_tree_model.specs.MoreFiles.{reading_from}
pub use Rattle.kc_tree_model.specs.NestedTrees.{IsNested, Items, block, entry, is_ended_by, listing, none}
pub use Rattle.kc_tree_model.specs.Placement.{is_allowed, is_left_out, is_stray_end, open_entry}
pub use Rattle.kc_tree_model.specs.ReadingFaults.{HasForm, HasTokens, HoldsNever, IsFirstOf, cut_line, help_line}
pub use Rattle.kc_tree_model.specs.ReadingRelation.{Appends, ComesTo, FaultAt, HasFirstFile, IsCutReading, IsRead, IsWholeReading, SourcesLines, SourcesPath, at_end, comes_to_fault, here, into_file, large_file, line, no_file, nothing, of_end, of_line, of_source, past_file, past_line}
pub use Rattle.kc_tree_model.specs.ReadingRelation.{place, sourced, statement}
pub use Rattle.kc_tree_model.specs.Statements.{Attribute, Head, Statement, block_of_head, default_of, environment_default, name_of_head, path_of_head}
pub use Rattle.kc_tree_model.specs.between.Attributes.{DefaultAttribute, TargetAttribute}
pub use Rattle.kc_tree_model.specs.declared.statement.Head.TheVariants.{Choice as choice, Comment as comment, Condition as condition, Config as config, Ends as ends, Mainmenu as mainmenu, Menu as menu, Source as source}
pub use Rattle.kc_tree_model.specs.declared.statement.Attribute.TheVariants.{Default as default, Depends as depends, Help as help, Imply as imply, Modules as modules, Optional as optional}
pub use Rattle.kc_tree_model.specs.declared.statement.Statement.TheVariants.{Attribute as attribute, Head as head}
pub use Rattle.kc_tree_model.specs.declared.statement.Attribute.TheVariants.{Prompt as prompt, Range as range, Select as select, TypedDefault as typed_default, TypedPrompt as typed_prompt, Visible as visible}
pub use Rattle.kc_tree_model.specs.TreeFaults.{definition_faults, faults_of_group, faults_of_head, is_no_member_kind, only_extends_member, when}
pub use Rattle.kc_tree_model.specs.TreeFiles.{Files, file_at, index_of_file, strict_files, with_file}
pub use Rattle.kc_tree_model.specs.TreeLookup.{IsConsistent, own_text}
pub use Rattle.kc_tree_model.specs.TreeReading.{Outcome, at_file_end, continue_after_file, continue_after_line, continue_after_source, continue_after_statement, ended_by_fault, fault_if, path_to_read, paths_or_fault, read_file, read_lines, read_root, statement_by_keyword, statement_by_word}
pub use Rattle.kc_tree_model.specs.TreeReading.{statement_of_tokens, statement_or_fault, with_attribute, with_group, with_statement}
pub use Rattle.kc_tree_model.specs.Trees.{Choice, Default, Entry, ReverseDependency, Symbol, Tree, choice_begins, definition, menu_begins, menu_ends}
pub use Rattle.kc_tree_model.specs.checker.TextsView.{files_of}
pub use Rattle.kc_tree_model.specs.declared.fault.TreeFault.{TreeFault}
pub use Rattle.kc_tree_model.specs.declared.fault.TreeKind.{TreeKind}
pub use Rattle.kc_tree_model.specs.declared.fault.TreeKind.TheVariants.{ChoiceMember, LeftOut, LineTooLong, Malformed, Misplaced, MissingFile, ModulesType, NoType, NotUtf8, SourceLoop, StrayEnd, TooDeep, TooMany, UnknownStatement}
pub use Rattle.kc_tree_model.specs.declared.keyword.Block.{Block}
pub use Rattle.kc_tree_model.specs.declared.keyword.Keyword.{Keyword}
pub use Rattle.kc_tree_model.specs.declared.keyword.OpenEntry.{OpenEntry}
pub use Rattle.kc_value.specs.Lines.{has_newline}
pub use Rattle.kc_value.specs.QuotedTexts.{unescaped}
pub use Rattle.kc_value.specs.declared.limits.TheConstants.{MAX_EXPR_DEPTH, MAX_FILES, MAX_LINE_BYTES, MAX_NAME_BYTES, MAX_OPEN_FILES, MAX_SYMBOLS, MAX_TREE_BYTES}
pub use Rattle.kc_value.specs.declared.value.Kind.{Kind}
