-- The names that most proofs of this crate cite, passed on from one place. Declares nothing.
pub use Rattle.std.proofs.Common.{Bool, IsTrue, List, None, Option, Some, [], ap, append_assoc, arith, cond, drop, eq-eqb, false, get_or, inl, inr, length, length-append, map, not, refl, rules, subst, suc, sym, take, true, zero, ℕ, ◌++◌, ◌+◌, ◌-◌, ◌<◌, ◌==◌, ◌∙◌, ◌∷◌, ◌≡◌, ◌≢◌, ◌≤◌, ◌⊎◌}
pub use Rattle.std.proofs.lemmas.Bool.{cases_eq, false≢true, ne_eqb}
pub use Rattle.std.proofs.lemmas.Grind.{common_steps, elements}
pub use Rattle.std.proofs.lemmas.List.{append-nil, get_or-set_other, get_or-set_same, length-set}
pub use Rattle.std.proofs.lemmas.Result.{err_from_is_err_and}
pub use Rattle.std.specs.BTreeMap.{insert_entry, is_at}
pub use Rattle.std.specs.Cmp.{nat_cmp_is}
pub use Rattle.std.specs.Global.{Vec}
pub use Rattle.std.specs.List.Sorted.{IsStrictlyIncreasing}
pub use Rattle.std.specs.Map.{lookup}
pub use Rattle.std.specs.Option.{option_or}
pub use Rattle.std.specs.Ordering.{match_ordering, nat_cmp}
pub use Rattle.std.specs.Prelude.{Err, IfErr, IfOk, IfSome, Ok, OnOk, Result, is_some, option_map, slice_get, slice_index, slice_set}
pub use Rattle.std.specs.declared.cmp.Ordering.{Ordering}
pub use Rattle.std.specs.declared.cmp.Ordering.TheVariants.{Equal, Greater, Less}
pub use Rattle.kc_dotconfig.specs.Fragments.{FitsTree, changes_of, users_of}
pub use Rattle.kc_dotconfig_model.specs.between.Notices.{notice_pair}
pub use Rattle.kc_dotconfig.specs.between.MeaningViews.{IsWithin, meaning_view}
pub use Rattle.kc_dotconfig.specs.checker.Accumulation.{AcceptsBytes, EndsBadly, EndsWell, Holds, IsGathered}
pub use Rattle.kc_dotconfig.specs.checker.GatheredLines.{IsPlain, held_in, joined, lines_in, lines_more, lines_user, value_in, with_unit}
pub use Rattle.kc_dotconfig.specs.checker.UserValueOrder.{AreAbove, AreBelow, IsAscending, next_at, units_of}
pub use Rattle.kc_dotconfig.specs.declared.accumulator.Accumulator.{Accumulator}
pub use Rattle.kc_dotconfig.specs.declared.meanings.Meaning.{Meaning}
pub use Rattle.kc_dotconfig_model.proofs.Cuts.{split}
pub use Rattle.kc_dotconfig_model.specs.ConfigFiles.{FileMeans, empty_assignment, file_assignment, merged_user}
pub use Rattle.kc_dotconfig_model.specs.ConfigLines.{IsMalformed, LineMeaning, Means, assigns, assigns_escaped, notice, silent, unchosen}
pub use Rattle.kc_dotconfig_model.specs.Formats.{FileFormat}
pub use Rattle.kc_dotconfig_model.specs.LoadFaults.{IsFirstFault, complete}
pub use Rattle.kc_dotconfig_model.specs.OtherChoices.{choice_line_of, kept_last}
pub use Rattle.kc_dotconfig_model.specs.PrefixGrammar.{is_name_prefix}
pub use Rattle.kc_dotconfig_model.specs.between.Formats.{file_format}
pub use Rattle.kc_dotconfig_model.specs.declared.fault.LoadKind.{LoadKind}
pub use Rattle.kc_dotconfig_model.specs.declared.fault.LoadKind.TheVariants.{LineTooLong, Malformed, NotUtf8, OutOfMemory, TooLarge, TooManyLines}
pub use Rattle.kc_dotconfig_model.specs.declared.notice.NoticeKind.{NoticeKind}
pub use Rattle.kc_dotconfig_model.specs.declared.notice.NoticeKind.TheVariants.{Escape}
pub use Rattle.kc_rules.specs.between.SettledViews.{tree_of_settled}
pub use Rattle.kc_rules_model.specs.MemberLines.{is_listed}
pub use Rattle.kc_rules_model.specs.Shapes.{user_fits}
pub use Rattle.kc_rules_model.specs.declared.values.MemberLine.{MemberLine}
pub use Rattle.kc_rules_model.specs.declared.values.UserValue.{UserValue}
pub use Rattle.kc_solver.specs.Changes.{changed_users}
pub use Rattle.kc_solver.specs.Solutions.{user_of}
pub use Rattle.kc_tree.specs.TreeModel.{TreeModel}
pub use Rattle.kc_tree_model.specs.LogicalLines.{without_white_end}
pub use Rattle.kc_tree_model.specs.TreeLookup.{IsConsistent}
pub use Rattle.kc_tree_model.specs.Trees.{Tree}
pub use Rattle.kc_value.specs.declared.limits.TheConstants.{MAX_CONFIG_BLOCK_BYTES, MAX_CONFIG_BYTES, MAX_CONFIG_LINES, MAX_LINE_BYTES}
