-- The names that most proofs of this crate cite, passed on from one place. Declares nothing.
pub use Rattle.std.proofs.Common.{Bool, List, None, Option, Some, [], ap, arith, cond, drop, false, inl, inr, length, map, refl, reverse, string_bytes, subst, suc, sym, take, true, zero, ℕ, ◌&&◌, ◌++◌, ◌+◌, ◌-◌, ◌<◌, ◌==◌, ◌||◌, ◌∙◌, ◌∷◌, ◌≡◌, ◌≤◌}
pub use Rattle.std.proofs.lemmas.Bool.{cases_Bool, eq-eqb, false≢true, ne_eqb}
pub use Rattle.std.proofs.lemmas.List.{reverse-append, reverse-reverse}
pub use Rattle.std.proofs.lemmas.Result.{IfOk-weaker}
pub use Rattle.std.specs.List.{list_any, range_with_len}
pub use Rattle.std.specs.Prelude.{filter_map, find, is_some, nat_le, option_and_then, option_map, slice_get, slice_index_or, slice_range}
pub use Rattle.kc_checks.specs.between.Summaries.{group_at}
pub use Rattle.kc_dependencies.proofs.Pushes.{any_map}
pub use Rattle.kc_expr.specs.between.Arena.{Exprs, node_expr}
pub use Rattle.kc_parser.specs.between.ListingView.{RepresentsGroups, RepresentsHead}
pub use Rattle.kc_parser.specs.declared.listing.Listing.{Listing}
pub use Rattle.kc_tree.specs.between.Views.{default_view, member_default_view, range_view, reverse_dependency_view, symbol_view}
pub use Rattle.kc_tree_model.specs.Blocks.{Group, GroupHead, from_head}
pub use Rattle.kc_tree_model.specs.TreeReading.{reading}
pub use Rattle.kc_tree_model.specs.Trees.{MemberDefault, Tree}
pub use Rattle.kmin_faults.specs.Causes.{choice_depends, default_names_unit, is_of_unit, names_unit, prompts_name_unit, range_names_unit, reverse_names_unit, symbol_depends}
pub use Rattle.kmin_faults.specs.Cycles.{step_at}
pub use Rattle.kmin_faults.specs.FirstPlaces.{later}
pub use Rattle.kmin_faults.specs.between.Steps.{step_of}
pub use Rattle.kmin_faults.specs.between.StoredDefinitions.{begins_before, defined_by, defines, definition_at, gives_type, has_type, is_typed, last_line, position_of}
pub use Rattle.kmin_faults.specs.declared.first_places.TextPlace.{TextPlace}
