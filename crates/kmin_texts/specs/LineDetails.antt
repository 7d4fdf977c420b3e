-- The texts that messages may have, by what is known of the files that they are about.
use Rattle.std.specs.Prelude.{ℕ, ◌==◌, Bool, true, false, ◌&&◌, ◌||◌, List, [], ◌∷◌, ◌++◌, Option, Some, None, Ok, Err, bytes_eq, codes, map, option_and_then, slice_get, if◌then◌else◌}
use Rattle.std.specs.List.{flat_map, list_any}
use Rattle.std.specs.Option.{option_to_list}
use Rattle.std.specs.Str.Lossy.{utf8_lossy}
use Rattle.kc_tokens.specs.Token.{lexemes_from}
use Rattle.kc_tokens.specs.declared.language.Language.{Language}
use Rattle.kc_tree_model.specs.LogicalLines.{without_white_end}
use Rattle.kc_tree_model.specs.TreeFiles.{Files, file_at, path_at}
use Rattle.kc_tree_model.specs.Blocks.{Group, Position}
use Rattle.kc_tree_model.specs.TreeReading.{reading}
use Rattle.kc_tree_model.specs.Trees.{Tree}
use Rattle.kc_tree_model.specs.declared.fault.TreeKind.{TreeKind}
use Rattle.kc_tree_model.specs.declared.fault.TreeKind.TheVariants as kinds
use Rattle.kc_dotconfig_model.specs.between.LineMeanings.{value_parts}
use Rattle.kc_dotconfig_model.specs.declared.fault.LoadKind.{LoadKind}
use Rattle.kc_dotconfig_model.specs.declared.fault.LoadKind.TheVariants as loads
use Rattle.kc_dotconfig_model.specs.declared.notice.NoticeKind.{NoticeKind}
use Rattle.kc_dotconfig_model.specs.declared.notice.NoticeKind.TheVariants.{UnknownSymbol, NotOfType}
use Rattle.kc_macros_model.specs.Programs.{Fault}
use Rattle.kc_macros_model.specs.declared.fault.AnswersKind.{AnswersKind}
use Rattle.kc_macros_model.specs.declared.fault.AnswersKind.TheVariants as answers
use Rattle.kc_macros_model.specs.declared.fault.MacroKind.{MacroKind}
use Rattle.kc_macros_model.specs.declared.fault.MacroKind.TheVariants as macros
use Rattle.kmin_faults.specs.Cycles.{Step, cycle_steps, unit_names}
use Rattle.kmin_faults.specs.FirstPlaces.{first_type, other_definition}
use Rattle.kmin_faults.specs.PassedLimits.{expansion_limit, limit_of}
use Rattle.kmin_faults.specs.SourcedPaths.{is_open, sourced_path}
use Rattle.kmin_faults.specs.declared.passed_limits.Limit.{Limit}
use Rattle.kmin_faults.specs.declared.passed_limits.Limit.TheVariants as limits
use Rattle.kmin_report.specs.Reports.{ErrorLine, TextsRead, tree_line, cycle_line, fault_line, notice_line, answers_line, macro_notice_line, macro_fault_line}
use Rattle.kmin_report.specs.StandardError.{Detail}
use Rattle.kmin_texts.specs.KnownLines.{KnownFile, KnownLines}
use Rattle.kmin_details.specs.LineTexts.{after_white, file_line_text, first_run, tree_line_text, up_to_white}
use Rattle.kmin_details.specs.NearNames.{nearest}
use Rattle.kmin_texts.specs.NumberedLines.{line_at, utf8_line}
use Rattle.kmin_details.specs.Texts.{cycle_text, expansion_text, first_place_text, limit_text, missing_text, unknown_text, unreadable_text, value_text}
use Rattle.kmin_details.specs.between.NamedSymbols.{named_on}
use Rattle.kmin_details.specs.declared.places.Unreadable.{Unreadable}
use Rattle.kmin_details.specs.declared.places.Unreadable.TheVariants.{NotThere, NoPermission, Folder, FailedRead}

-- a text without names of symbols
abbrev pub words : (text : List ℕ) → Detail
words text = record { text = text; names = [] }

-- no text
abbrev pub no_detail : Detail
no_detail = words []

-- of a symbol that the tree lacks: its name, and a name that is near, if there is one
abbrev pub unknown : (name : List ℕ) (near : Option (List ℕ)) → Detail
unknown name near = record { text = unknown_text name near; names = name ∷ option_to_list near }

-- of a value that isn't of its symbol's type
abbrev pub value : (name text : List ℕ) → Detail
value name text = record { text = value_text name text; names = name ∷ [] }

-- whether two lists of names are the same
abbrev pub are_same_names : List (List ℕ) → List (List ℕ) → Bool
are_same_names [] [] = true
are_same_names (x ∷ xs) (y ∷ ys) = bytes_eq x y && are_same_names xs ys
are_same_names xs ys = false

-- whether two details are the same
abbrev pub is_same_detail : Detail → Detail → Bool
is_same_detail a b = bytes_eq a.text b.text && are_same_names a.names b.names

-- whether a detail is one of these
abbrev pub is_one_of : List Detail → Detail → Bool
is_one_of details detail = list_any (is_same_detail detail) details

-- why a file can't be read
abbrev pub unread : (why : Unreadable) → List Detail
unread why = words (unreadable_text why) ∷ []

-- the reasons for which a file may be unreadable, as far as it is known: a read can fail where its bytes are known
abbrev pub reasons : KnownFile → List Unreadable
reasons None = NotThere ∷ NoPermission ∷ Folder ∷ FailedRead ∷ []
reasons (Some (Err why)) = why ∷ []
reasons (Some (Ok bytes)) = FailedRead ∷ []

-- a path alone, where its file may be one that can be read
abbrev pub path_alone : KnownFile → (path : List ℕ) → List Detail
path_alone (Some (Err why)) path = []
path_alone known path = words (utf8_lossy path) ∷ []

-- a path and why its file can't be read, or that alone where no words of the line may be shown; the path alone where it can be read
abbrev pub path_details : KnownFile → (path : List ℕ) → List Detail
path_details known path =
    path_alone known path ++ flat_map (λ why. words (missing_text path why) ∷ words (unreadable_text why) ∷ []) (reasons known)

-- a path that a line sources: alone where it is a pattern or has a macro
abbrev pub sourced : (known_of : List ℕ → KnownFile) → Option (List ℕ) → List Detail
sourced known_of None = []
sourced known_of (Some path) = if is_open path then words (utf8_lossy path) ∷ [] else path_details (known_of path) path

-- what a function gives of a line, if there is one
abbrev pub of_line : (List ℕ → List Detail) → (line : Option (List ℕ)) → List Detail
of_line f None = []
of_line f (Some line) = f line

-- what a line of the file at the path `file` of a tree sources, if the line is UTF-8, and why that can't be read
abbrev pub sourced_on : (known_of : List ℕ → KnownFile) → Language → (file : List ℕ) → (line : Option (List ℕ)) → List Detail
sourced_on known_of language file line = of_line (λ text. sourced known_of (sourced_path file (lexemes_from language 0 0 text))) (utf8_line line)

-- of a line of a tree with a fault of this kind, if the line is UTF-8
abbrev pub on_tree_line : Language → TreeKind → (line : Option (List ℕ)) → List Detail
on_tree_line language kind line = of_line (λ text. words (tree_line_text kind text (lexemes_from language 0 0 text)) ∷ []) (utf8_line line)

-- of a limit, if it is known
abbrev pub of_limit : Option Limit → List Detail
of_limit None = []
of_limit (Some limit) = words (limit_text limit) ∷ []

-- the line with a number of the file with a number among texts, if it is there and UTF-8
abbrev pub line_of_texts : Files → (file number : ℕ) → Option (List ℕ)
line_of_texts texts file number =
    utf8_line (option_and_then (λ bytes. line_at bytes number) (option_and_then (file_at texts) (path_at texts file)))

-- the limit that the line with a number of the file with a number passes, in a tree whose texts are read from the path `first` on
abbrev pub limit_at_line : (texts : Files) → (first : List ℕ) → (file number : ℕ) → Option Limit
limit_at_line texts first file number =
    option_and_then (λ line. limit_of (reading texts first).read (lexemes_from texts.language 0 0 line)) (line_of_texts texts file number)

-- the limit that the texts of a tree, read from the path `first` on, pass at a line: that of the bytes of all files where it has the
-- number 0, else that of the line; None where no file is at fault
abbrev pub limit_passed : (texts : Files) → (first : List ℕ) → (file : Option ℕ) → (number : ℕ) → Option Limit
limit_passed texts first None number = None
limit_passed texts first (Some file) number = if number == 0 then Some limits.TreeBytes else limit_at_line texts first file number

-- the place of a first definition for a fault at a place: of the first one with a type, or of another definition
abbrev pub first_place_in : (is_typed : Bool) → (read : List Group) → (at : Position) → Option Position
first_place_in true read at = first_type read at
first_place_in false read at = other_definition read at

-- the same in texts that are read from the path `first` on; None where no file is at fault
abbrev pub first_place : (is_typed : Bool) → (texts : Files) → (first : List ℕ) → (file : Option ℕ) → (number : ℕ) → Option Position
first_place is_typed texts first None number = None
first_place is_typed texts first (Some file) number = first_place_in is_typed (reading texts first).read (record { file = file; line = number })

-- of a line of the file at a path, below the folder of a tree
abbrev pub of_path : (root : List ℕ) → (path : Option (List ℕ)) → (number : ℕ) → List Detail
of_path root None number = []
of_path root (Some path) number = words (first_place_text (root ++ 47 ∷ path) number) ∷ []

-- of a place in a tree whose files have these names in messages, if there is one
abbrev pub of_place : (root : List ℕ) → (names : Files) → Option Position → List Detail
of_place root names None = []
of_place root names (Some place) = of_path root (path_at names place.file) place.line

-- no details, whyever a file can't be read
abbrev pub never : Unreadable → List Detail
never why = []

-- whether a detail may be one of these, which a file that is known so far gives by its bytes, or, where it can't be read, one of those
-- that it has for the reason; any where nothing is known of the file
abbrev pub is_given : KnownFile → (of_bytes : List ℕ → List Detail) → (of_reason : Unreadable → List Detail) → Detail → Bool
is_given None of_bytes of_reason detail = true
is_given (Some (Err why)) of_bytes of_reason detail = is_one_of (of_reason why) detail
is_given (Some (Ok bytes)) of_bytes of_reason detail = is_one_of (of_reason FailedRead) detail || is_one_of (of_bytes bytes) detail

-- whether a detail may be that of a fault of a tree, at a line of the file at a path; `known_of` has what is known of files so far
abbrev pub is_of_tree_fault : (root : List ℕ) → Language → (known_of : List ℕ → KnownFile) → (path : List ℕ) (number : ℕ) → TreeKind → TextsRead → Detail → Bool
is_of_tree_fault root language known_of path number kinds.TooMany read detail = is_one_of (of_limit (limit_passed read.texts read.first read.file number)) detail
is_of_tree_fault root language known_of path number kinds.TypeConflict read detail =
    is_one_of (of_place root read.names (first_place true read.texts read.first read.file number)) detail
is_of_tree_fault root language known_of path number kinds.ChoiceMember read detail =
    is_one_of (of_place root read.names (first_place false read.texts read.first read.file number)) detail
is_of_tree_fault root language known_of path number kinds.MissingFile read detail =
    is_given (known_of path) (λ bytes. sourced_on known_of language path (line_at bytes number)) unread detail
is_of_tree_fault root language known_of path number kind read detail =
    is_given (known_of path) (λ bytes. on_tree_line language kind (line_at bytes number)) never detail

-- why a configuration file can't be read, where that is its fault
abbrev pub unread_file : LoadKind → (why : Unreadable) → List Detail
unread_file loads.Read why = unread why
unread_file kind why = []

-- of a line of a configuration file with a fault of this kind
abbrev pub on_file_line : LoadKind → (line : Option (List ℕ)) → List Detail
on_file_line kind line = of_line (λ text. words (file_line_text kind text) ∷ []) line

-- why a file of answers can't be read, where that is its fault
abbrev pub unread_answers : AnswersKind → (why : Unreadable) → List Detail
unread_answers answers.Read why = unread why
unread_answers kind why = []

-- of a line of a file of answers with a fault of this kind
abbrev pub on_answers_line : AnswersKind → (line : Option (List ℕ)) → List Detail
on_answers_line answers.Malformed (Some line) = words (first_run line) ∷ []
on_answers_line kind line = []

-- of a name that the tree lacks: with that of the tree's names which is nearest to it, or alone, where none was looked for
abbrev pub of_unknown : (names : List (List ℕ)) → (name : Option (List ℕ)) → List Detail
of_unknown names None = []
of_unknown names (Some name) = unknown name (nearest name names) ∷ unknown name None ∷ []

-- whether a detail is that of some name that the tree lacks, by the names of the tree
abbrev pub is_of_unknown : (names : List (List ℕ)) → Detail → Bool
is_of_unknown names detail = is_one_of (of_unknown names (slice_get detail.names 0)) detail

-- whether a detail may be that of a notice of this kind, whatever its line is, by the names of the tree
abbrev pub is_of_kind : NoticeKind → (names : List (List ℕ)) → Detail → Bool
is_of_kind UnknownSymbol names detail = is_of_unknown names detail
is_of_kind kind names detail = true

-- of a name and its value; where no words of the file may be shown, of the name alone
abbrev pub of_value : Option (List ℕ × List ℕ) → List Detail
of_value None = []
of_value (Some parts) = value parts.0 parts.1 ∷ unknown parts.0 None ∷ []

-- of a line of a configuration file with a notice of this kind, by the prefix of names, and by the names of the tree
abbrev pub on_notice_line : NoticeKind → (prefix : List ℕ) → (names : List (List ℕ)) → (line : List ℕ) → List Detail
on_notice_line UnknownSymbol prefix names line = of_unknown names (named_on prefix line)
on_notice_line NotOfType prefix names line = of_value (value_parts prefix (without_white_end line))
on_notice_line kind prefix names line = []

-- the same of a line that may not be there, if it is UTF-8
abbrev pub on_noticed : NoticeKind → (prefix : List ℕ) → (names : List (List ℕ)) → (line : Option (List ℕ)) → List Detail
on_noticed kind prefix names line = of_line (on_notice_line kind prefix names) (utf8_line line)

-- whether a detail may be that of a notice at a line of a file that is known so far
abbrev pub is_of_notice : NoticeKind → (prefix : List ℕ) → (names : List (List ℕ)) → KnownFile → (number : ℕ) → Detail → Bool
is_of_notice kind prefix names known number detail =
    is_of_kind kind names detail && is_given known (λ bytes. on_noticed kind prefix names (line_at bytes number)) never detail

-- the limit that a line passes in the expansion of its tree, by its first word
abbrev pub on_expanded_line : (line : Option (List ℕ)) → List Detail
on_expanded_line line = of_line (λ text. of_limit (expansion_limit (up_to_white (after_white text)))) line

-- whether a line has a `$`, and so a path with a macro, which no line of standard error has expanded
abbrev pub has_macro : (line : Option (List ℕ)) → Bool
has_macro None = false
has_macro (Some line) = list_any (λ b. b == 36) line

-- whether a detail may be that of a file that an expansion can't open, by the line that sources it
abbrev pub is_of_missing : Language → (known_of : List ℕ → KnownFile) → KnownFile → (path : List ℕ) (number : ℕ) → Detail → Bool
is_of_missing language known_of None path number detail = true
is_of_missing language known_of (Some (Err why)) path number detail = is_one_of (unread why) detail
is_of_missing language known_of (Some (Ok bytes)) path number detail =
    has_macro (line_at bytes number) || is_one_of (unread FailedRead) detail || is_one_of (sourced_on known_of language path (line_at bytes number)) detail

-- whether a detail may be that of a fault of an expansion, at a line of a file; `known_of` has what is known of files so far
abbrev pub is_of_macro_fault : Language → (known_of : List ℕ → KnownFile) → Fault → MacroKind → Detail → Bool
is_of_macro_fault language known_of fault macros.MissingFile detail =
    is_of_missing language known_of (known_of fault.at.file) fault.at.file fault.at.line detail
is_of_macro_fault language known_of fault macros.TooMany detail =
    if fault.at.line == 0 then is_one_of (of_limit (Some limits.TreeBytes)) detail
    else is_given (known_of fault.at.file) (λ bytes. on_expanded_line (line_at bytes fault.at.line)) never detail
is_of_macro_fault language known_of fault kind detail = is_one_of (words (expansion_text fault.text) ∷ []) detail

-- names with a space between them
abbrev pub spaced : List (List ℕ) → List ℕ
spaced [] = []
spaced (name ∷ others) = name ++ flat_map (λ other. codes " " ++ other) others

-- of a cycle of units with these names: its steps, or the names alone where a step isn't found
abbrev pub of_steps : (names : List (List ℕ)) → Option (List Step) → Detail
of_steps names None = words (spaced names)
of_steps names (Some steps) = record { text = cycle_text steps; names = map (λ (step : Step). step.name) steps }

-- of a cycle of units of a tree
abbrev pub of_cycle : Tree → (units : List ℕ) → Detail
of_cycle tree units = let names = unit_names tree units in of_steps names (cycle_steps tree units names)

-- Whether a detail may be that of a line of standard error over a tree in the folder `root`, by what is known of files: just what the
-- line at fault has, as far as its file is known. It may lack, as where memory ran out for it.
abbrev pub is_detail_of : (root : List ℕ) → Language → (prefix : List ℕ) → KnownLines → ErrorLine → Detail → Bool
is_detail_of root language prefix known (tree_line path number kind read) detail =
    is_of_tree_fault root language (known.tree root) path number kind read detail
is_detail_of root language prefix known (cycle_line path number tree units) detail = is_same_detail detail (of_cycle tree units)
is_detail_of root language prefix known (fault_line path number kind) detail =
    is_given (known.named path) (λ bytes. on_file_line kind (line_at bytes number)) (unread_file kind) detail
is_detail_of root language prefix known (notice_line path notice names) detail =
    is_of_notice notice.1 prefix names (known.named path) notice.0 detail
is_detail_of root language prefix known (answers_line path number kind) detail =
    is_given (known.named path) (λ bytes. on_answers_line kind (line_at bytes number)) (unread_answers kind) detail
is_detail_of root language prefix known (macro_notice_line notice) detail = is_same_detail detail (words (expansion_text notice.text))
is_detail_of root language prefix known (macro_fault_line fault) detail =
    is_of_macro_fault language (known.tree root) fault fault.kind detail
is_detail_of root language prefix known line detail = false
