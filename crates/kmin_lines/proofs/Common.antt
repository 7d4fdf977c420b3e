-- The names that most proofs of this crate cite, passed on from one place. Declares nothing.
pub use Rattle.std.proofs.Common.{Bool, List, Option, Some, [], ap, arith, cond, drop, false, get_or, length, length-append, map, refl, rules, suc, sym, take, true, ℕ, ◌&&◌, ◌++◌, ◌+◌, ◌-◌, ◌<◌, ◌==◌, ◌∙◌, ◌∷◌, ◌≡◌}
pub use Rattle.std.proofs.lemmas.Bool.{eqb-true, false_from_ne_true}
pub use Rattle.std.proofs.lemmas.Map.Text.{hash_map_updates_str}
pub use Rattle.std.proofs.lemmas.Str.{is_utf8-from_IsUtf8}
pub use Rattle.std.specs.List.{list_all, onto_first}
pub use Rattle.std.specs.Str.{bytes_eq, is_utf8}
pub use Rattle.kc_value.specs.Lines.{pieces}
pub use Rattle.kmin_lines.specs.Lines.{have_same_lines, left_over, lines_of, without_carriage_return, without_one}
pub use Rattle.kmin_lines.specs.WordFiles.{files_of, with_lists}
pub use Rattle.kmin_lines.specs.WordLines.{are_utf8, words_in}
pub use Rattle.kmin_lines.specs.between.Texts.{files_view, lists_view, texts_of}
pub use Rattle.kmin_lines.specs.checker.Bags.{HasLines, times_among}
pub use Rattle.indexmap.specs.IndexMap.{get_by}
