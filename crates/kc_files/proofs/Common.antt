-- The names that most proofs of this crate cite, passed on from one place. Declares nothing.
pub use Rattle.std.proofs.Common.{Bool, List, None, Option, Some, [], ap, arith, cond, drop, false, get_or, inl, inr, length, length-drop, map, not, refl, rules, subst, suc, sym, take, true, zero, ℕ, ◌&&◌, ◌++◌, ◌+◌, ◌-◌, ◌<◌, ◌==◌, ◌||◌, ◌∙◌, ◌∷◌, ◌≡◌, ◌≤◌, ◌⊎◌}
pub use Rattle.std.proofs.Math.Seq.{drop-cons}
pub use Rattle.std.proofs.lemmas.Bool.Decides.{nat_tests}
pub use Rattle.std.proofs.lemmas.Grind.{common_steps}
pub use Rattle.std.proofs.lemmas.Slice.Eq.{bytes_eq-Decides}
pub use Rattle.std.specs.List.{list_any, suffix_len}
pub use Rattle.std.specs.Map.{lookup}
pub use Rattle.std.specs.Option.{option_copied}
pub use Rattle.std.specs.Prelude.{Err, IfOk, Ok, OnErr, OnOk, Result, Vec, bytes_eq, filter, if◌then◌else◌, is_some, nat_lt, option_map, unwrap_or}
pub use Rattle.std.specs.declared.alloc.Global.{Global}
pub use Rattle.kc_files.specs.PathsOfKeys.{path_of_key}
pub use Rattle.kc_files.specs.TextViews.{items_of, texts_of}
pub use Rattle.kc_files.specs.TreeContents.{StaysKnown, TreeContents}
pub use Rattle.kc_files.specs.between.FileRuns.{Comes, HaveSameOutcome}
pub use Rattle.kc_files.specs.between.KnownFiles.{Agrees, FileRead, FolderRead, Grows, KnownFiles, names, too_many, unlisted}
pub use Rattle.kc_files.specs.checker.EndMatches.{AreSpread, HasEndMatches}
pub use Rattle.kc_files.specs.checker.ExpandedViews.{HasDistinctKeys, IsPushed, expanded_file, with_file}
pub use Rattle.kc_files.specs.checker.FileViews.{file_of, folder_of, known_of, seen_as}
pub use Rattle.kc_files.specs.checker.PatternRuns.{Finds, FindsMore, found_of, slashed}
pub use Rattle.kc_files.specs.declared.expanded_files.FileOfKey.{FileOfKey}
pub use Rattle.kc_macros_model.specs.PathPatterns.{FoundPaths, files_of_pattern, found, matches_name, matching_listed, path_pieces, paths_below, paths_in_folder, paths_in_folders, paths_with_files, sorted}
pub use Rattle.kc_macros_model.specs.Programs.{Fault, Place, Program, does, fails, list_folder, returns, ◌>>=◌}
pub use Rattle.kc_macros_model.specs.ReadingStates.{ExpandedFile, free_key, has_key, is_taken, key_of}
pub use Rattle.kc_macros_model.specs.Worlds.{Outcome, World, failed, has_file, outcome, returned}
pub use Rattle.kc_tree_model.specs.Keywords.{keyword_in_table}
pub use Rattle.kc_value.specs.declared.limits.TheConstants.{MAX_LISTED_NAMES}
pub use Rattle.indexmap.specs.IndexMap.{insert_entry}
