-- The names that most proofs of this crate cite, passed on from one place. Declares nothing.
pub use Rattle.std.proofs.Common.{IsTrue, List, None, Option, Some, [], ap, append_assoc, arith, cond, drop, false, inl, inr, length, refl, replicate, subst, suc, sym, take, true, zero, ℕ, ◌++◌, ◌<◌, ◌∙◌, ◌∷◌, ◌≡◌}
pub use Rattle.std.proofs.Math.Seq.{take-length}
pub use Rattle.std.proofs.lemmas.Bool.{cases_eq}
pub use Rattle.std.proofs.lemmas.Grind.{common_steps, elements}
pub use Rattle.std.proofs.lemmas.List.{length-set, map-append, take_more}
pub use Rattle.std.specs.Option.{option_or}
pub use Rattle.std.specs.Ordering.{nat_cmp}
pub use Rattle.std.specs.Prelude.{Contains, filter, is_none, slice_get}
pub use Rattle.kc_config.specs.ConfigStates.{Configured, tree_in}
pub use Rattle.kc_config.specs.checker.Configs.{clears_of, merged_assigns}
pub use Rattle.kc_dotconfig.proofs.Insertions.{length_changed, none_length}
pub use Rattle.kc_dotconfig.specs.Fragments.{FitsTree, changes_of, users_of}
pub use Rattle.kc_dotconfig.specs.checker.UserValueOrder.{units_of}
pub use Rattle.kc_dotconfig_model.specs.ConfigFiles.{empty_assignment, merged_user, merged_users}
pub use Rattle.kc_dotconfig_model.specs.MissedAssignments.{is_missed}
pub use Rattle.kc_rules.specs.between.SettledViews.{tree_of_settled}
pub use Rattle.kc_rules_model.specs.Dependencies.{dependencies}
pub use Rattle.kc_rules_model.specs.MemberLines.{is_listed, last_y}
pub use Rattle.kc_rules_model.specs.Shapes.{user_fits}
pub use Rattle.kc_rules_model.specs.declared.values.MemberLine.{MemberLine}
pub use Rattle.kc_rules_model.specs.declared.values.UserValue.{UserValue}
pub use Rattle.kc_solver.specs.Changes.{FitsChanges, IsChanged, IsCountOf, IsListOf, IsTouched, changed_users}
pub use Rattle.kc_solver.specs.Solutions.{FitsUsers, user_of}
pub use Rattle.kc_tree_model.specs.Trees.{Tree}
