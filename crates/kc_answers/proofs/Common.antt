-- The names that most proofs of this crate cite, passed on from one place. Declares nothing.
pub use Rattle.std.proofs.Common.{Bool, Err, List, None, Ok, Option, Result, Some, [], ap, arith, cond, false, inl, inr, length, map, refl, rules, suc, sym, take, true, zero, ℕ, ⊎_elim, ◌++◌, ◌+◌, ◌<◌, ◌∙◌, ◌∷◌, ◌≡◌, ◌≤◌}
pub use Rattle.std.proofs.lemmas.List.{take_all}
pub use Rattle.std.proofs.lemmas.Slice.Eq.{bytes_eq-Decides}
pub use Rattle.std.specs.Map.{keys_of}
pub use Rattle.std.specs.Prelude.{Vec, bytes_eq, is_none, option_map}
pub use Rattle.std.specs.Str.{is_utf8}
pub use Rattle.std.specs.declared.alloc.Global.{Global}
pub use Rattle.kc_answers.specs.ReadAnswers.{end_of_file}
pub use Rattle.kc_answers.specs.RunStates.{questions_of}
pub use Rattle.kc_answers.specs.checker.LinesView.{bytes_of, lines_view}
pub use Rattle.kc_answers.specs.checker.TableView.{answer_of_entry}
pub use Rattle.kc_macros_model.specs.AnswerFiles.{FileEnd, LinesSoFar, RecordedAnswers, and_then, complete, cut_by, fault_at, fault_of_line, first_line, meaning_of_line, recorded_from, with_line, with_meaning}
pub use Rattle.kc_macros_model.specs.Programs.{Answer}
pub use Rattle.kc_macros_model.specs.declared.fault.AnswersFault.{AnswersFault}
pub use Rattle.kc_tree_model.specs.Keywords.{keyword_in_table}
pub use Rattle.kc_tree_model.specs.LogicalLines.{PhysicalLine, split_at_newlines, without_white_end}
pub use Rattle.kc_value.specs.declared.limits.TheConstants.{MAX_ANSWER_BYTES, MAX_ANSWER_LINES}
pub use Rattle.indexmap.specs.IndexMap.{insert_entry}
