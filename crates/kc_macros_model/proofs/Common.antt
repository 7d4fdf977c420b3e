-- The names that most proofs of this crate cite, passed on from one place. Declares nothing.
pub use Rattle.std.proofs.Common.{Bool, Err, List, None, Ok, Option, Result, Some, [], ap, append_assoc, arith, cond, drop, false, inl, inr, length, length-append, map, refl, subst, suc, sym, take, true, zero, zero-add, ℕ, ◌&&◌, ◌++◌, ◌+◌, ◌<◌, ◌||◌, ◌∙◌, ◌∷◌, ◌≡◌, ◌≤◌, ◌⊎◌}
pub use Rattle.std.proofs.Math.Nat.{suc-add}
pub use Rattle.std.proofs.Math.Seq.{take-append_seam}
pub use Rattle.std.proofs.lemmas.Bool.{eqb-true, leb-true, ltb-false, ltb-true}
pub use Rattle.std.proofs.lemmas.Cmp.{nat_list_eq_equiv}
pub use Rattle.std.proofs.lemmas.List.{append-nil, take-append-drop}
pub use Rattle.std.proofs.lemmas.List.Elements.{All-append, All-cons, All-nil}
pub use Rattle.std.proofs.lemmas.List.Folds.{list_any-append}
pub use Rattle.std.proofs.lemmas.Slice.Eq.{bytes_eq-Decides}
pub use Rattle.std.specs.Cmp.{first_so, second_so}
pub use Rattle.std.specs.List.{All, AllByRecursion, list_all, list_any, onto_first, prefix_len}
pub use Rattle.std.specs.Prelude.{bytes_eq, codes, decimal, filter, is_none, is_some, nat_le, nat_lt, not, option_map, pred, reverse, ◌-◌, ◌==◌}
pub use Rattle.kc_macros_model.specs.Assignments.{AssignedText, LineContent, assignment_at, assignment_or, assigns, is_trivia, is_open_front, is_unknown, line_content, stored, tokens, with_token, without_front}
pub use Rattle.kc_macros_model.specs.EnvironmentLines.{environment_asked, meant_line}
pub use Rattle.kc_macros_model.specs.Expansion.{Expander, asked_value, call_value, expanded, fault, is_recursion, item_value, item_values, named_value, piece_values, reference_value, spends, unless_too_long}
pub use Rattle.kc_macros_model.specs.ExpansionRules.{ExpandEach, Expands, Means, Refers, begins_reference, call, done, ending_in, no_pieces, parameter, piece, recursive_variable, simple_variable, unbound, unknown_name}
pub use Rattle.kc_macros_model.specs.LineForms.{LineForm, SourceSort, bare_prompt, form_of_first_word, form_of, form_of_two_words, help_words, is_help_line, is_path, is_undecided, is_word, line_bytes, named_choice, plain, quoted_text_token, replaced_by, source_words, sources, with_nth_token, with_replacement}
pub use Rattle.kc_macros_model.specs.LineForms.{without_trivia}
pub use Rattle.kc_macros_model.specs.LinePlaces.{IsWrittenFor}
pub use Rattle.kc_macros_model.specs.LineTokens.{LineToken, broken, bytes_of_tokens, extent, first_token, trivia, is_run_byte, line_tokens, other, quoted, quoted_token, run, run_token, token_bytes}
pub use Rattle.kc_macros_model.specs.PathPatterns.{files_of_pattern, is_pattern, matches_name, path_pieces, sorted}
pub use Rattle.kc_macros_model.specs.PlainLines.{has_dollar, is_assignment, is_before_help, is_copied, is_kept_token, is_one_of, is_plain_form, is_plain_line, logical_texts, no_paths, plain_path, token_as_it_is, tokens_as_they_are}
pub use Rattle.kc_macros_model.specs.ProgramLaws.{Extends, HasSameFiles}
pub use Rattle.kc_macros_model.specs.Programs.{Answer, Event, Fault, Place, Program, Reply, ask, does, fails, find_file, list_folder, read_file, report, returns, spend, stops, ◌>>=◌}
pub use Rattle.kc_macros_model.specs.ReadingLaws.{IsKeyOf, IsWithinLimits, the_path}
pub use Rattle.kc_macros_model.specs.ReadingStates.{ExpandedFile, Progress, ReadingState, WrittenLine, bound, counted, free_key, has_key, initial_state, is_taken, key_of, progress, stored_file, with_choice, with_listed, written_line}
pub use Rattle.kc_macros_model.specs.References.{Item, byte, escaped, first_item, inside_length, is_plain_dollar, is_reference, is_unterminated, item_bytes, items, open_after, pieces, reference, reference_of, unterminated}
pub use Rattle.kc_macros_model.specs.TreeExpansion.{SourceReader, SourceTarget, bytes_of_lines, content_written, contents_read, file_list, form_written, help_after, line_written, lines_read, lines_written, list_name, newlines_of, one_file, path_meant, path_read, pattern_read, place, root_read}
pub use Rattle.kc_macros_model.specs.TreeExpansion.{short_line, source_fault, source_followed, source_line, source_read, sourced_path, sourced_read, tokens_written}
pub use Rattle.kc_macros_model.specs.Variables.{Bindings, Value, Variable, argument_of, is_environment_name, joined_values, recursive, simple, value_length, value_of_answer}
pub use Rattle.kc_macros_model.specs.Worlds.{Ending, Outcome, World, after_event, failed, has_file, left_after, outcome, question_of, questions_once, questions_or_fault, reply, returned, stopped, unless_fault, unless_unanswered, without_answer}
pub use Rattle.kc_macros_model.specs.WrittenTokens.{WrittenQuotedText, WrittenToken, quoted_text_of, quoted_text_of_value, escaped_text, in_quotes_of, is_bare_byte, is_keyword, joined_quoted_texts, run_value, token_of_quoted_text, token_of_text, token_of_value, written_as, written_item, written_items, written_token}
pub use Rattle.kc_macros_model.specs.declared.fault.MacroKind.{MacroKind}
pub use Rattle.kc_macros_model.specs.declared.fault.MacroKind.TheVariants.{Arguments, LineTooLong, MissingFile, Recursion, SourceLoop, TooDeep, TooMany}
pub use Rattle.kc_macros_model.specs.declared.operator.Operator.TheVariants.{Appends, Sets, SetsNow}
pub use Rattle.kc_macros_model.specs.declared.token_sort.TokenSort.TheVariants.{Trivia, Other, Quoted, Word}
pub use Rattle.kc_tokens.specs.Token.{is_white_byte}
pub use Rattle.kc_tree_model.specs.Keywords.{keyword_in_table}
pub use Rattle.kc_tree_model.specs.Limits.{is_in_list, without_repeats}
pub use Rattle.kc_tree_model.specs.LogicalLines.{PhysicalLine, begins_help, continuation_count, is_continued, joined_bytes, split_at_newlines, with_first_byte, without_return}
pub use Rattle.kc_value.specs.Lines.{has_newline, newline_count}
pub use Rattle.kc_value.specs.declared.limits.TheConstants.{MAX_FILES, MAX_LISTED_NAMES, MAX_OPEN_FILES, MAX_PIECES, MAX_TEXT_BYTES, MAX_TREE_BYTES, MAX_WORK}
pub use mathlib.Core.List.{reverse-cons}
