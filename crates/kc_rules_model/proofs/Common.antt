-- The names that most proofs of this crate cite, passed on from one place. Declares nothing.
pub use Rattle.std.proofs.Common.{Bool, IfSome, IsTrue, List, None, Option, Some, [], ap, arith, cond, false, find, inl, inr, length, map, not, pos, refl, slice_get, sym, true, unwrap_or, ℕ, ℤ, ◌&&◌, ◌<◌, ◌==◌, ◌||◌, ◌∙◌, ◌∷◌, ◌≡◌, ◌≤◌}
pub use Rattle.std.proofs.lemmas.Bool.{and_from, and_parts, cases_Bool, eqb-true, false≢true, ltb-true, or_cases, true≢false}
pub use Rattle.std.proofs.lemmas.Str.{IsUtf8-nil, is_utf8-from_IsUtf8}
pub use Rattle.std.specs.List.{list_all, list_any}
pub use Rattle.std.specs.Option.{option_and_then, option_map, option_or}
pub use Rattle.std.specs.Prelude.{codes, is_none, is_some, nat_lt}
pub use Rattle.kc_expr.specs.Expr.{Expr, alone, both, constant, named, quoted, shown}
pub use Rattle.kc_value.specs.Tri.{is_n}
pub use Rattle.kc_rules_model.specs.MemberLines.{first_listed, is_listed, last_y, selected_by_lines, selected_without_y}
pub use Rattle.kc_rules_model.specs.Rule.{active_range, choice_rule, default_member, default_text, is_shown, is_visible, is_visible_member, is_within, modules_value, number_default, number_rule, rule_of_choice, rule_of_symbol, rule_of_unit, string_rule, symbol_rule, user_number}
pub use Rattle.kc_rules_model.specs.Shapes.{symbol_value_fits, text_fits, unit_value_fits}
pub use Rattle.kc_rules_model.specs.declared.profile.Profile.{Profile}
pub use Rattle.kc_rules_model.specs.declared.profile.Profile.TheVariants.{Classic, Present}
pub use Rattle.kc_rules_model.specs.declared.values.MemberLine.{MemberLine}
pub use Rattle.kc_rules_model.specs.declared.values.UnitValue.{UnitValue}
pub use Rattle.kc_rules_model.specs.declared.values.UserValue.{UserValue}
pub use Rattle.kc_solver.specs.Solutions.{FitsValues, user_of}
pub use Rattle.kc_tokens.specs.Languages.{is_linux_6_12}
pub use Rattle.kc_tokens.specs.declared.language.Language.TheVariants.{Strict}
pub use Rattle.kc_tree_model.specs.TreeLookup.{IsConsistent}
pub use Rattle.kc_tree_model.specs.Trees.{Choice, Default, Symbol, Tree, choice_begins, definition}
pub use Rattle.kc_value.specs.Kinds.{is_number, is_tristate}
pub use Rattle.kc_value.specs.Number.{number_of_text}
pub use Rattle.kc_value.specs.declared.tri.Tri.{Tri}
pub use Rattle.kc_value.specs.declared.tri.Tri.TheVariants.{M, N, Y}
pub use Rattle.kc_value.specs.declared.value.Kind.{Kind}
pub use Rattle.kc_value.specs.declared.value.Kind.TheVariants.{Hex, Int, Text, Tristate}
