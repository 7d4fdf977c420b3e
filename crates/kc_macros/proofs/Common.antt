-- The names that most proofs of this crate cite, passed on from one place. Declares nothing.
pub use Rattle.std.proofs.Common.{Bool, Err, List, None, Ok, Option, Result, Some, [], ap, append_assoc, arith, cond, drop, false, get_or, inl, inr, length, length-append, map, refl, rules, subst, suc, sym, take, true, zero, ℕ, ◌&&◌, ◌*◌, ◌++◌, ◌+◌, ◌-◌, ◌<◌, ◌∙◌, ◌∷◌, ◌≡◌, ◌≤◌}
pub use Rattle.std.proofs.lemmas.Bool.{le-leb, le-ltb, lt-leb, lt-ltb}
pub use Rattle.std.proofs.lemmas.List.{append-nil, at_drop_all, at_drop_more, take_all}
pub use Rattle.std.specs.Borrow.{Bor}
pub use Rattle.std.specs.Char.{is_digit}
pub use Rattle.std.specs.List.{list_all}
pub use Rattle.std.specs.Prelude.{IsErrAnd, Vec, bytes_eq, is_some, nat_lt, option_map, ◌⊎◌}
pub use Rattle.std.specs.Str.Parse.{digits_value}
pub use Rattle.std.specs.declared.alloc.Global.{Global}
pub use Rattle.kc_answers.specs.RunStates.{RunState, after_outcome, with_question}
pub use Rattle.kc_macros.specs.Runs.{HasAnswers, RunEnd, Runs, cut_short, end_of, end_of_stop, ends, place_of}
pub use Rattle.kc_macros.specs.between.SliceTexts.{texts_of_slices}
pub use Rattle.kc_macros.specs.between.Stops.{FailsWith}
pub use Rattle.kc_macros.specs.between.Variables.{bindings_of, entry_of, variable_of}
pub use Rattle.kc_macros.specs.checker.BuiltIns.{arity_of, message_value}
pub use Rattle.kc_macros.specs.checker.Events.{spent}
pub use Rattle.kc_macros.specs.checker.Frames.{frame_bindings, frame_expander, frame_item, frame_items, frame_names, frame_place, frame_value, paid}
pub use Rattle.kc_macros.specs.checker.PartialValues.{known_bytes, too_long, value_if_known, values_left}
pub use Rattle.kc_macros.specs.checker.Pieces.{pieces_left}
pub use Rattle.kc_macros.specs.checker.ProgramSteps.{Leads, Steps}
pub use Rattle.kc_macros.specs.declared.stop.Stop.{Stop}
pub use Rattle.kc_macros_model.specs.Expansion.{asked_value, built_in_value, call_value, item_value, item_values, named_value, piece_values, reported, unless_too_long}
pub use Rattle.kc_macros_model.specs.Programs.{Fault, Notice, Place, Program, fails, returns, stops, ◌>>=◌}
pub use Rattle.kc_macros_model.specs.References.{Item, byte, inside_length, items, pieces, reference}
pub use Rattle.kc_macros_model.specs.Variables.{Bindings, Value, is_number, joined_values, recursive, simple, value_length, value_of_answer, with_variable}
pub use Rattle.kc_macros_model.specs.Worlds.{Ending, Outcome, World, failed, outcome, returned}
pub use Rattle.kc_macros_model.specs.declared.fault.MacroKind.TheVariants.{Arguments}
pub use Rattle.kc_value.specs.declared.limits.TheConstants.{MAX_TEXT_BYTES}
pub use mathlib.Core.Path.{fun_ext}
