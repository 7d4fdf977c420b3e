-- The names that most proofs of this crate cite, passed on from one place. Declares nothing.
pub use Rattle.std.proofs.Common.{Bool, Err, List, None, Ok, Option, Some, [], ap, arith, cond, drop, false, inl, inr, map, option_map, refl, slice_get, string_bytes, subst, sym, true, ℕ, ◌&&◌, ◌==◌, ◌||◌, ◌∙◌, ◌∷◌, ◌≡◌}
pub use Rattle.std.proofs.lemmas.Result.{IfOk-weaker}
pub use Rattle.std.specs.Borrow.{Bor}
pub use Rattle.std.specs.List.{flat_map}
pub use Rattle.kc_dotconfig_model.specs.between.Prefixes.{prefix_bytes}
pub use Rattle.kc_macros.specs.Runs.{fault_of}
pub use Rattle.kc_macros_model.specs.declared.fault.MacroKind.TheVariants.{TooMany}
pub use Rattle.kc_value.specs.Lines.{pieces}
pub use Rattle.kmin_details.specs.between.Details.{line_detail}
pub use Rattle.kmin_details.specs.declared.places.Unreadable.{Unreadable}
pub use Rattle.kmin_details.specs.declared.places.Unreadable.TheVariants.{FailedRead}
pub use Rattle.kmin_faults.specs.between.Steps.{step_of}
pub use Rattle.kmin_report.specs.Reports.{near_names}
pub use Rattle.kmin_report.specs.StandardError.{Detail}
pub use Rattle.kmin_report.specs.between.ReportLines.{report_line}
pub use Rattle.kmin_texts.specs.KnownLines.{IsLineOf, KnownFile}
pub use Rattle.kmin_texts.specs.LineDetails.{is_given, is_of_macro_fault, is_of_missing, is_one_of, never, no_detail, of_cycle, of_line, on_expanded_line, sourced_on, unread}
pub use Rattle.kmin_texts.specs.NumberedLines.{line_at, utf8_line}
pub use Rattle.kmin_texts.specs.between.KeptDetails.{MayBe, kept_detail}
pub use Rattle.kmin_texts.specs.between.NoticeDetails.{nearest_detail}
pub use Rattle.kmin_texts.specs.between.Wordings.{IsDetailOf, asked_by}
