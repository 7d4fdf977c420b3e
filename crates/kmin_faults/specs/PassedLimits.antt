-- The limits that lines of a tree pass.
use Rattle.std.specs.Prelude.{ℕ, nat_le, List, [], ◌∷◌, Option, Some, None, Result, Ok, Err, filter_map, length, if◌then◌else◌}
use Rattle.kc_value.specs.declared.limits.TheConstants.{MAX_FILES}
use Rattle.kc_tokens.specs.Token.{Lexeme}
use Rattle.kc_tokens.specs.declared.fault.ExprFault.{ExprFault}
use Rattle.kc_tree_model.specs.Blocks.{Group, sourced_path}
use Rattle.kc_tree_model.specs.Keywords.{keyword_of}
use Rattle.kc_tree_model.specs.Limits.{is_in_list, is_long_name}
use Rattle.kc_tree_model.specs.declared.keyword.Keyword.{Keyword}
use Rattle.kc_tree_model.specs.declared.keyword.Keyword.TheVariants as words
use Rattle.kc_macros_model.specs.LineForms.{source_words}
use Rattle.kmin_faults.specs.declared.passed_limits.Limit.{Limit}
use Rattle.kmin_faults.specs.declared.passed_limits.Limit.TheVariants.{Symbols, Choices, Files, TreeBytes, NameBytes, Work}

-- the limit that a definition passes, by the tokens after its keyword: that of a name's bytes where its name is too long, else that
-- of symbols
abbrev pub limit_of_name : List Lexeme → Limit
limit_of_name [] = Symbols
limit_of_name (name ∷ others) = if is_long_name name.text then NameBytes else Symbols

-- the limit that the last `source` of a tree passes, at which its reading ends after these groups: that of files where as many were
-- sourced as files may be, else that of their bytes
abbrev pub limit_of_source : (read : List Group) → Limit
limit_of_source read = if nat_le MAX_FILES (length (filter_map sourced_path read)) then Files else TreeBytes

-- the limit that a line passes, by its keyword and the tokens after that; None where that isn't known
abbrev pub limit_by_keyword : (read : List Group) → Option Keyword → List Lexeme → Option Limit
limit_by_keyword read (Some words.Config) ts = Some (limit_of_name ts)
limit_by_keyword read (Some words.Select) ts = Some NameBytes
limit_by_keyword read (Some words.Imply) ts = Some NameBytes
limit_by_keyword read (Some words.Choice) ts = Some Choices
limit_by_keyword read (Some words.Source) ts = Some (limit_of_source read)
limit_by_keyword read keyword ts = None

-- the limit that a line of a tree passes, by its tokens, where these groups were read up to the fault
abbrev pub limit_of : (read : List Group) → Result (List Lexeme) ExprFault → Option Limit
limit_of read (Err fault) = None
limit_of read (Ok []) = None
limit_of read (Ok (word ∷ ts)) = limit_by_keyword read (keyword_of word) ts

-- the limit that a line passes in the expansion of its tree, by its first word: that of work; None for a line that sources files,
-- where that isn't known
abbrev pub expansion_limit : (word : List ℕ) → Option Limit
expansion_limit word = if is_in_list word source_words then None else Some Work
