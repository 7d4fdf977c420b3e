-- The names that most proofs of this crate cite, passed on from one place. Declares nothing.
pub use Rattle.std.proofs.Common.{Bool, List, None, Option, Some, [], ap, append_assoc, arith, cond, drop, false, get_or, leb, length, length-append, length-drop, refl, rules, subst, suc, sym, take, true, zero, ℕ, ◌&&◌, ◌++◌, ◌+◌, ◌-◌, ◌<◌, ◌||◌, ◌∙◌, ◌∷◌, ◌≡◌, ◌≤◌}
pub use Rattle.std.proofs.lemmas.Bool.{eqb-true, le-ltb}
pub use Rattle.std.proofs.lemmas.List.{append-nil, drop_all}
pub use Rattle.std.proofs.lemmas.Simd.{length-chunk}
pub use Rattle.std.specs.List.{list_any, prefix_len}
pub use Rattle.std.specs.Prelude.{bytes_eq, codes, is_some, nat_le, nat_lt, not, option_map, pred, ◌==◌}
pub use Rattle.std.specs.Str.{is_utf8}
pub use Rattle.kc_answers.specs.RunStates.{RunState}
pub use Rattle.kc_macro_forms.specs.between.WrittenTokens.{token_of, tokens_of}
pub use Rattle.kc_macro_lines.specs.checker.QuotedTexts.{quoted_text_left, quoted_text_view, has_dollar_or_backslash, quoted_written}
pub use Rattle.kc_macro_lines.specs.checker.LineFronts.{assigned_of}
pub use Rattle.kc_macro_lines.specs.checker.LineTexts.{ends_extent, first_item_of, first_token_of, has_equals_sign, has_token, token_view}
pub use Rattle.kc_macro_lines.specs.checker.LinesWithoutMacros.{HasNothingToExpand, has_dollar_or_wide, is_acting_word}
pub use Rattle.kc_macros.proofs.ExpansionLemmas.{fails_so, returns_so}
pub use Rattle.kc_macros.proofs.NameLemmas.{no_element}
pub use Rattle.kc_macros.proofs.PieceLemmas.{rest_is}
pub use Rattle.kc_macros.proofs.ProgramLemmas.{leads_on, leads_same, leads_then, runs_same, steps_out, steps_stopped, then_returns, then_same, then_then}
pub use Rattle.kc_macros.proofs.RunLemmas.{passes_on, returns_as, runs_nothing, runs_out, stops_early, then_runs}
pub use Rattle.kc_macros.specs.Runs.{Runs, end_of_stop, ends, place_of}
pub use Rattle.kc_macros.specs.between.Variables.{bindings_of}
pub use Rattle.kc_macros.specs.checker.ProgramSteps.{Leads}
pub use Rattle.kc_macros.specs.declared.stop.Stop.{Stop}
pub use Rattle.kc_macros_model.specs.Assignments.{AssignedText, LineContent, assigned, assignment_at, assignment_or, assignment_to, is_trivia, is_trivia_token, is_open_front, is_unknown, line_content, operator_at, tokens, with_token, without_front}
pub use Rattle.kc_macros_model.specs.EnvironmentLines.{asked_after_option, asked_by, solid_tokens}
pub use Rattle.kc_macros_model.specs.Expansion.{text_value}
pub use Rattle.kc_macros_model.specs.LineForms.{help_words, prompt_words, source_words}
pub use Rattle.kc_macros_model.specs.LineTokens.{LineToken, broken, bytes_of_tokens, extent, first_token, trivia, is_run_byte, line_tokens, other, quoted, quoted_token, run, run_token, token_bytes}
pub use Rattle.kc_macros_model.specs.Programs.{Place, Program, returns, stops, ◌>>=◌}
pub use Rattle.kc_macros_model.specs.References.{Item, byte, escaped, first_item, inside_length, is_plain_dollar, is_reference, is_unterminated, item_bytes, items, reference, reference_of, unterminated}
pub use Rattle.kc_macros_model.specs.Variables.{Bindings, Value}
pub use Rattle.kc_macros_model.specs.Worlds.{returned}
pub use Rattle.kc_macros_model.specs.WrittenTokens.{WrittenToken, quoted_text_of, joined_quoted_texts, run_value, token_of_quoted_text, token_of_text, written_as, written_items, written_token}
pub use Rattle.kc_macros_model.specs.declared.token_sort.TokenSort.TheVariants.{Other, Word}
pub use Rattle.kc_tokens.specs.Token.{is_white_byte}
pub use Rattle.kc_tree_model.specs.Limits.{is_in_list}
pub use lib.Lanes.{chunk}
