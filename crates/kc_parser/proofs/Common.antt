-- The names that most proofs of this crate cite, passed on from one place. Declares nothing.
pub use Rattle.std.proofs.Common.{Bool, Err, List, None, Ok, OnOk, Option, Result, Some, [], ap, arith, cond, count_by, drop, false, get_or, inl, inr, length, length-append, length-drop, map, not, refl, reverse, rules, subst, suc, sym, take, true, zero, ℕ, ◌&&◌, ◌++◌, ◌+◌, ◌-◌, ◌<◌, ◌==◌, ◌||◌, ◌↔◌}
pub use Rattle.std.proofs.Common.{◌∙◌, ◌∷◌, ◌≡◌, ◌≤◌, ◌⊎◌}
pub use Rattle.std.proofs.Math.Seq.{take-length}
pub use Rattle.std.proofs.lemmas.Bool.Decides.{nat_tests}
pub use Rattle.std.proofs.lemmas.Grind.{common_steps, elements}
pub use Rattle.std.proofs.lemmas.List.{append-nil, drop-append-le, get_or-reverse, get_or_append_left, length-reverse, map-append, take-append-drop}
pub use Rattle.std.proofs.lemmas.List.Elements.{All-append, All-cons, All-nil}
pub use Rattle.std.proofs.lemmas.List.Sums.{sum_by-cons}
pub use Rattle.std.proofs.lemmas.Option.{slice_get-get_or}
pub use Rattle.std.proofs.lemmas.Slice.Eq.{bytes_eq-Decides}
pub use Rattle.std.specs.List.{list_any}
pub use Rattle.std.specs.Prelude.{All, IsSome, bytes_eq, filter, filter_map, is_some, nat_le, nat_lt, option_and_then, option_map, slice_get, slice_index, slice_range}
pub use Rattle.std.specs.Str.{is_utf8}
pub use Rattle.kc_expr.proofs.Places.{place_of_more, place_of_none}
pub use Rattle.kc_expr.specs.Lookup.{index_of_name}
pub use Rattle.kc_expr.specs.between.Arena.{Exprs, Grows, node_expr}
pub use Rattle.kc_expr.specs.between.Names.{with_name}
pub use Rattle.kc_parser.specs.between.EnclosingChoices.{HaveChoices, begins_choice, choices_opened, choices_opened_after, innermost_choice, is_choice_code}
pub use Rattle.kc_parser.specs.between.ListingView.{LineNodesExist, RepresentsGroup, RepresentsGroups, RepresentsHead, RepresentsLists, line_in}
pub use Rattle.kc_parser.specs.between.SymbolTable.{HasNames, number_in, number_in_slot}
pub use Rattle.kc_parser.specs.checker.Faults.{fault_in}
pub use Rattle.kc_parser.specs.checker.LinePlacement.{entry_kept, fault_before, is_allowed_here, is_stray_block}
pub use Rattle.kc_parser.specs.checker.OpenBlockViews.{block_kept, choice_in, choice_kept, is_block, is_choice, is_file}
pub use Rattle.kc_parser.specs.checker.StateViews.{IsCounted, RepresentsOpenBlock, RepresentsOpenBlocks, at_line}
pub use Rattle.kc_parser.specs.checker.Steps.{AppendsHead, IsIndentedLeft, IsLeft, ReturnsFileRead, ReturnsLineRead, limits, line_here}
pub use Rattle.kc_parser.specs.checker.Symbols.{is_full}
pub use Rattle.kc_parser.specs.declared.listing.Listing.{Listing}
pub use Rattle.kc_parser.specs.declared.state.OpenBlock.{OpenBlock}
pub use Rattle.kc_parser.specs.declared.state.ReaderState.{ReaderState}
pub use Rattle.kc_parser.specs.declared.state.SourceFiles.{SourceFiles}
pub use Rattle.kc_statements.specs.between.StatementViews.{attribute_in}
pub use Rattle.kc_tokens.specs.Token.{Lexeme, lexemes_from, lexemes_of}
pub use Rattle.kc_tokens.specs.declared.language.Language.{Language}
pub use Rattle.kc_tree_model.specs.Blocks.{Group, GroupHead, defined_name, file_end, from_head, innermost, is_some_block, of_head, open_blocks, opened_block, opens_choice, sourced_path}
pub use Rattle.kc_tree_model.specs.Limits.{FileSource, bytes_in, is_in_list, names_defined, open_files, size_in}
pub use Rattle.kc_tree_model.specs.Placement.{is_allowed, is_left_out, is_stray_end}
pub use Rattle.kc_tree_model.specs.Statements.{Attribute, Head, path_of_head, same_block}
pub use Rattle.kc_tree_model.specs.declared.statement.Head.TheVariants.{Choice as choice, Comment as comment, Condition as condition, Config as config, Ends as ends, Mainmenu as mainmenu, Menu as menu, Source as source}
pub use Rattle.kc_tree_model.specs.declared.statement.Statement.TheVariants.{Head as head}
pub use Rattle.kc_tree_model.specs.TreeReading.{Outcome, at_file_end, ended_by_fault, read_file, with_group}
pub use Rattle.kc_tree_model.specs.declared.fault.TreeFault.{TreeFault}
pub use Rattle.kc_tree_model.specs.declared.fault.TreeKind.{TreeKind}
pub use Rattle.kc_tree_model.specs.declared.fault.TreeKind.TheVariants.{LeftOut, Misplaced, MissingFile, OutOfMemory, StrayEnd, TooDeep, TooMany}
pub use Rattle.kc_tree_model.specs.declared.keyword.Block.{Block}
pub use Rattle.kc_tree_model.specs.declared.keyword.Keyword.{Keyword}
pub use Rattle.kc_value.specs.declared.limits.TheConstants.{MAX_LINE_BYTES, MAX_SYMBOLS, MAX_TREE_BYTES}
