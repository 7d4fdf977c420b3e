-- The names that most proofs of this crate cite, passed on from one place. Declares nothing.
pub use Rattle.std.proofs.Common.{Bool, Err, IfErr, IfOk, List, Ok, Option, Result, Some, [], ap, append-nil, append_assoc, arith, false, get_or, inl, inr, length, map, refl, rules, subst, suc, sym, take, true, ℕ, ◌++◌, ◌∙◌, ◌∷◌, ◌≡◌, ◌≢◌, ◌≤◌, ◌⊎◌}
pub use Rattle.std.proofs.lemmas.Grind.{common_steps}
pub use Rattle.std.specs.Borrow.{Bor}
pub use Rattle.std.specs.List.{flat_map}
pub use Rattle.kc_config.specs.ConfigStates.{IsSolved, tree_in}
pub use Rattle.kc_dotconfig_model.specs.between.Notices.{notice_pair}
pub use Rattle.kc_dotconfig.specs.ReadResults.{ReportsFault}
pub use Rattle.kc_dotconfig.specs.declared.fragment.Fragment.{Fragment}
pub use Rattle.kc_dotconfig_model.specs.ConfigFiles.{empty_assignment}
pub use Rattle.kc_dotconfig_model.specs.Formats.{FileFormat}
pub use Rattle.kc_dotconfig_model.specs.OtherChoices.{choice_lines_from}
pub use Rattle.kc_dotconfig_model.specs.between.Formats.{file_format}
pub use Rattle.kc_dotconfig_model.specs.declared.choice_line.ChoiceLine.{ChoiceLine}
pub use Rattle.kc_dotconfig_model.specs.declared.fault.LoadKind.{LoadKind}
pub use Rattle.kc_dotconfig_model.specs.declared.fault.LoadKind.TheVariants.{LineTooLong, Malformed, NotUtf8, OutOfMemory, Read, TooLarge, TooManyLines}
pub use Rattle.kc_expr.specs.Expr.{SymbolValue}
pub use Rattle.kc_minimal_model.specs.Differences.{differences}
pub use Rattle.kc_minimal_model.specs.SymbolLine.{spelled}
pub use Rattle.kc_rules.specs.between.SettledViews.{tree_of_settled}
pub use Rattle.kc_rules_model.specs.SymbolValues.{value_of_symbol}
pub use Rattle.kc_rules_model.specs.declared.values.UnitValue.{UnitValue}
pub use Rattle.kc_rules_model.specs.declared.values.UserValue.{UserValue}
pub use Rattle.kc_solver.proofs.ErrorExits.{no_success, no_value}
pub use Rattle.kc_tree_model.specs.Trees.{Tree}
pub use Rattle.kc_value.specs.FileContents.{FileContent}
pub use Rattle.kmin_inputs.proofs.FailureCounts.{rises_later}
pub use Rattle.kmin_outputs.specs.Outputs.{FilesMean, difference_line}
pub use Rattle.kmin_outputs.specs.Stops.{StopsAmongFiles}
pub use Rattle.kmin_outputs.specs.Strictness.{AllowsNotices}
pub use Rattle.kmin_outputs.specs.between.Comparisons.{StopsProducingOutput, StopsComparing, producing_output, at_left, at_right, at_the_choices, comparing_output}
pub use Rattle.kmin_outputs.specs.between.Lines.{line_between}
pub use Rattle.kmin_outputs.specs.between.LoadResults.{AreLoaded, AreRead, IsLoaded, lists_of}
pub use Rattle.kmin_outputs.specs.between.LoadStops.{StopsLoad, StopsNoticing, at_file, for_memory, load_lines, load_status, refused}
pub use Rattle.kmin_outputs.specs.declared.configurations.ReadFiles.{ReadFiles}
pub use Rattle.kmin_report.proofs.Results.{if_err_map, if_ok_map, memory_err}
pub use Rattle.kmin_report.proofs.WriterLemmas.{lines_append, lines_next, lines_one}
pub use Rattle.kmin_report.specs.Reports.{ErrorLine, choice_notice_lines, fault_line, notice_lines, tree_notice_line}
pub use Rattle.kmin_report.specs.StandardError.{SpelledBytes, TakesLines, none}
pub use Rattle.kmin_report.specs.between.RunErrors.{status_of}
pub use Rattle.kmin_report.specs.declared.run_error.RunError.{RunError}
