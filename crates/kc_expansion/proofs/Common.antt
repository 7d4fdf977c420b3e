-- The names that most proofs of this crate cite, passed on from one place. Declares nothing.
pub use Rattle.std.proofs.Common.{Bool, Err, Global, List, None, Ok, Option, Result, Some, Vec, [], ap, append_assoc, arith, cond, drop, false, get_or, inl, inr, length, map, not, refl, reverse, subst, suc, sym, take, true, zero, ℕ, ◌&&◌, ◌++◌, ◌+◌, ◌<◌, ◌||◌, ◌∙◌, ◌∷◌, ◌≡◌, ◌≤◌, ◌⊎◌}
pub use Rattle.std.proofs.Math.Seq.{take-append_seam}
pub use Rattle.std.proofs.lemmas.Bool.{eqb-true}
pub use Rattle.std.proofs.lemmas.Bool.Decides.{nat_tests}
pub use Rattle.std.proofs.lemmas.Cmp.{nat_list_eq_equiv}
pub use Rattle.std.proofs.lemmas.List.{append-nil, length-map, reverse-append}
pub use Rattle.std.proofs.lemmas.Slice.Eq.{bytes_eq-Decides}
pub use Rattle.std.specs.Borrow.{Bor}
pub use Rattle.std.specs.Cmp.{first_so, second_so}
pub use Rattle.std.specs.List.{cons_option, list_all, list_any}
pub use Rattle.std.specs.Map.{lookup}
pub use Rattle.std.specs.Prelude.{IfOk, IsErrAnd, OnOk, bytes_eq, codes, filter_map, is_none, is_some, nat_le, nat_lt, replicate, slice_range, sum_by, vec_len, ◌-◌, ◌==◌}
pub use Rattle.std.specs.Str.{is_utf8}
pub use Rattle.kc_answers.specs.RunStates.{RunState, after_outcome, run_at_start, with_questions}
pub use Rattle.kc_expansion.specs.Expansions.{questions_of, tree_of}
pub use Rattle.kc_expansion.specs.TreeLaws.{IsFileOf, paths_read, text_of_key}
pub use Rattle.kc_expansion.specs.between.Reads.{FileRun, Reaches, cut_short, file_run}
pub use Rattle.kc_expansion.specs.checker.ChoiceViews.{name_of_entry}
pub use Rattle.kc_expansion.specs.checker.ExpansionViews.{with_root}
pub use Rattle.kc_expansion.specs.checker.FileLines.{lines_from}
pub use Rattle.kc_expansion.specs.checker.HelpWords.{is_end}
pub use Rattle.kc_expansion.specs.checker.LineViews.{IsHelpPassed, is_first_continued}
pub use Rattle.kc_expansion.specs.checker.ProgramSteps.{Leads}
pub use Rattle.kc_expansion.specs.checker.ReadingViews.{IsWrittenTo, MayBeRead, MayNotBeRead, after_text, assigned_or_fault, fault_at, file_run_of, lines_left, lists_left, reader_for, reader_of, state_of, with_lines}
pub use Rattle.kc_expansion.specs.checker.CopiedLines.{IsCopiedLine}
pub use Rattle.kc_expansion.specs.checker.Sizes.{size_read}
pub use Rattle.kc_expansion.specs.checker.WrittenViews.{text_up_to}
pub use Rattle.kc_expansion.specs.declared.line_places.LineStart.{LineStart}
pub use Rattle.kc_expansion.specs.declared.read_counts.ReadCounts.{ReadCounts}
pub use Rattle.kc_expansion.specs.declared.written_file.WrittenFile.{WrittenFile}
pub use Rattle.kc_expr.specs.Grammar.{is_operand_kind}
pub use Rattle.kc_files.proofs.ProgramLemmas.{grouped, nothing_after, same_rest}
pub use Rattle.kc_files.proofs.StoreLemmas.{grows_same, stays_same}
pub use Rattle.kc_files.specs.TextViews.{items_of, texts_of}
pub use Rattle.kc_files.specs.TreeContents.{FolderContent, HasRisen, IsContentRead, IsFolderRead, IsWholeWorldOf, IsWorldOf, StaysKnown, TreeContents}
pub use Rattle.kc_files.specs.between.KnownFiles.{Agrees, AreAsKnown, AreBytes, FileRead, Grows, KnownFiles, missing, too_long, unreadable, whole}
pub use Rattle.kc_files.specs.checker.FileViews.{file_of, known_of}
pub use Rattle.kc_lines.specs.between.LinePlaces.{IsLogicalAt}
pub use Rattle.kc_macro_forms.specs.between.LineFormViews.{source_sort_of}
pub use Rattle.kc_macro_forms.specs.between.WrittenTokens.{tokens_of}
pub use Rattle.kc_macros.proofs.RunLemmas.{RunsIn}
pub use Rattle.kc_macros.specs.Runs.{HasAnswers, RunEnd, Runs, end_of, end_of_stop, ends, fault_of, out_of_memory, place_of}
pub use Rattle.kc_macros.specs.between.SliceTexts.{texts_of_slices}
pub use Rattle.kc_macros.specs.between.Stops.{FailsWith}
pub use Rattle.kc_macros.specs.between.Variables.{bindings_of}
pub use Rattle.kc_macros.specs.declared.stop.Stop.{Stop}
pub use Rattle.kc_macros_model.proofs.CleanTexts.{neither_first, neither_second}
pub use Rattle.kc_macros_model.proofs.Keys.{same_text}
pub use Rattle.kc_macros_model.proofs.LineCounts.{split_bytes}
pub use Rattle.kc_macros_model.proofs.PlainTokens.{plain_items}
pub use Rattle.kc_macros_model.specs.AnswerFiles.{RecordedAnswers}
pub use Rattle.kc_macros_model.specs.Assignments.{line_content}
pub use Rattle.kc_macros_model.specs.EnvironmentLines.{environment_asked, meant_line}
pub use Rattle.kc_macros_model.specs.LineForms.{LineForm, SourceSort, form_of, is_help_line, is_undecided, line_bytes, sources, without_trivia}
pub use Rattle.kc_macros_model.specs.LineTokens.{LineToken, line_tokens}
pub use Rattle.kc_macros_model.specs.PathPatterns.{is_pattern}
pub use Rattle.kc_macros_model.specs.PlainLines.{tokens_as_they_are}
pub use Rattle.kc_macros_model.specs.Programs.{Fault, Place, Program, does, fails, read_file, returns, stops, ◌>>=◌}
pub use Rattle.kc_macros_model.specs.ReadingStates.{ExpandedFile, Progress, ReadingState, WrittenLine, counted, has_key, initial_state, key_of, progress, stored_file, written_line}
pub use Rattle.kc_macros_model.specs.TreeExpansion.{SourceReader, bytes_of_lines, content_written, contents_read, file_list, form_written, help_after, line_written, lines_read, lines_written, list_name, list_read, one_file, path_meant, path_read, pattern_read, place, root_read, short_line}
pub use Rattle.kc_macros_model.specs.TreeExpansion.{source_followed, source_line, source_read, sourced_read}
pub use Rattle.kc_macros_model.specs.Worlds.{Ending, Outcome, World, failed, outcome, questions_or_fault, returned, stopped, without_answer}
pub use Rattle.kc_macros_model.specs.WrittenTokens.{WrittenToken, in_quotes_of, written_as}
pub use Rattle.kc_macros_model.specs.declared.fault.MacroKind.{MacroKind}
pub use Rattle.kc_macros_model.specs.declared.fault.MacroKind.TheVariants.{MissingFile}
pub use Rattle.kc_tokens.proofs.CutLaws.{read_cut}
pub use Rattle.kc_tokens.specs.QuotedTexts.{quoted_text}
pub use Rattle.kc_tokens.specs.Token.{Lexeme, is_white_byte, is_word_byte, lexemes_from}
pub use Rattle.kc_tokens.specs.TokenGrammar.{IsCut, IsLongest, IsToken, comment, token, white}
pub use Rattle.kc_tokens.specs.declared.fault.ExprFault.{ExprFault}
pub use Rattle.kc_tokens.specs.declared.language.Language.{Language}
pub use Rattle.kc_tokens.specs.declared.language.Language.TheVariants.{Strict}
pub use Rattle.kc_tokens.specs.declared.token.Relop.TheVariants.{Equal}
pub use Rattle.kc_tokens.specs.declared.token.TokenKind.{TokenKind}
pub use Rattle.kc_tokens.specs.declared.token.TokenKind.TheVariants.{Quoted, Relation, Word}
pub use Rattle.kc_tree_model.specs.Blocks.{Group, Position, file_end, innermost, sourced_path}
pub use Rattle.kc_tree_model.specs.Keywords.{is_word_kind, keyword_in_table, keyword_of, keywords}
pub use Rattle.kc_tree_model.specs.Limits.{FileSource, files_read, is_in_list, open_files, size_in, without_repeats}
pub use Rattle.kc_tree_model.specs.LogicalLines.{LogicalLine, PhysicalLine, begins_help, continuation_count, is_continued, is_help, is_help_or_fault, is_help_word, joined_bytes, physical_lines, split_at_newlines, without_return}
pub use Rattle.kc_tree_model.specs.Statements.{Statement, path_of_head}
pub use Rattle.kc_tree_model.specs.declared.statement.Head.TheVariants.{Source as source}
pub use Rattle.kc_tree_model.specs.declared.statement.Statement.TheVariants.{Attribute as attribute, Head as head}
pub use Rattle.kc_tree_model.specs.TreeFiles.{file_at, index_of_file}
pub use Rattle.kc_tree_model.specs.TreeReading.{at_file_end, continue_after_file, continue_after_line, continue_after_source, continue_after_statement, path_to_read, read_lines, read_root, with_group, with_statement}
pub use Rattle.kc_tree_model.specs.declared.fault.TreeFault.{TreeFault}
pub use Rattle.kc_tree_model.specs.declared.fault.TreeKind.{TreeKind}
pub use Rattle.kc_tree_model.specs.declared.fault.TreeKind.TheVariants.{TooDeep, TooMany}
pub use Rattle.kc_tree_model.specs.declared.keyword.Block.{Block}
pub use Rattle.kc_tree_model.specs.declared.keyword.Keyword.{Keyword}
pub use Rattle.kc_value.specs.FileContents.{FileContent}
pub use Rattle.kc_value.specs.declared.limits.TheConstants.{MAX_FILES, MAX_LINE_BYTES, MAX_OPEN_FILES, MAX_TEXT_BYTES, MAX_TREE_BYTES, MAX_WORK}
