-- The names that most proofs of this crate cite, passed on from one place. Declares nothing.
pub use Rattle.std.proofs.Common.{Bool, IsTrue, List, None, Some, [], ap, arith, cond, drop, false, inl, inr, length, refl, rules, subst, suc, sym, true, zero, ℕ, ◌&&◌, ◌++◌, ◌<◌, ◌∙◌, ◌∷◌, ◌≡◌}
pub use Rattle.std.proofs.Math.Logic.{∥∥₁_elim}
pub use Rattle.std.proofs.lemmas.Grind.{common_steps, elements}
pub use Rattle.std.proofs.lemmas.Result.{IfOk-weaker}
pub use Rattle.std.proofs.lemmas.Str.{is_utf8-from_IsUtf8}
pub use Rattle.std.specs.List.{filter, range_with_len}
pub use Rattle.std.specs.Prelude.{slice_get}
pub use Rattle.kc_rules.specs.between.SettledViews.{tree_of_settled}
pub use Rattle.kc_rules_model.specs.Equality.{same_lines}
pub use Rattle.kc_rules_model.specs.Reports.{is_unmet}
pub use Rattle.kc_rules_model.specs.Shapes.{is_member}
pub use Rattle.kc_rules_model.specs.declared.values.MemberLine.{MemberLine}
pub use Rattle.kc_tree.specs.between.Views.{symbol_view}
pub use Rattle.kc_tree_model.specs.Trees.{Symbol, Tree}
pub use Rattle.kc_value.specs.Kinds.{is_tri_kind}
