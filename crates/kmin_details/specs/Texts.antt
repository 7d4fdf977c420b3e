-- The texts of messages for names, files, places, limits and cycles.
use Rattle.std.specs.Prelude.{ℕ, List, [], ◌∷◌, ◌++◌, Option, Some, None, codes, decimal, if◌then◌else◌}
use Rattle.std.specs.List.{flat_map, list_all}
use Rattle.std.specs.Str.Lossy.{utf8_lossy}
use Rattle.kc_tokens.specs.Token.{is_name_byte}
use Rattle.kc_value.specs.declared.limits.TheConstants.{MAX_CHOICES, MAX_FILES, MAX_LISTED_NAMES, MAX_NAME_BYTES, MAX_SYMBOLS, MAX_TREE_BYTES, MAX_WORK}
use Rattle.kmin_details.specs.declared.places.Unreadable.{Unreadable}
use Rattle.kmin_details.specs.declared.places.Unreadable.TheVariants.{NotThere, NoPermission, Folder, FailedRead}
use Rattle.kmin_faults.specs.declared.passed_limits.Limit.{Limit}
use Rattle.kmin_faults.specs.declared.passed_limits.Limit.TheVariants.{Symbols, Choices, Files, TreeBytes, NameBytes, ListedNames, Work}
use Rattle.kmin_faults.specs.Cycles.{Step}
use Rattle.kmin_faults.specs.declared.causes.Cause.{Cause}
use Rattle.kmin_faults.specs.declared.causes.Cause.TheVariants.{DependsOn, Prompt, Default, Range, Select, Imply, Member, Tristate}

-- a name as a text shows it: in quotes where it has a byte that names of symbols don't have, as a space
abbrev pub name_word : (name : List ℕ) → List ℕ
name_word name = if list_all is_name_byte name then name else 34 ∷ (name ++ 34 ∷ [])

-- of a symbol that the tree lacks: its name, and the name nearest to it, if one is near
abbrev pub unknown_text : (name : List ℕ) (near : Option (List ℕ)) → List ℕ
unknown_text name None = name_word name
unknown_text name (Some near) = name_word name ++ (codes ", perhaps " ++ near)

-- of a value that isn't of its symbol's type: `NAME=VALUE`
abbrev pub value_text : (name value : List ℕ) → List ℕ
value_text name value = name ++ (codes "=" ++ value)

-- why a file can't be read
abbrev pub unreadable_text : Unreadable → List ℕ
unreadable_text NotThere = codes "not there"
unreadable_text NoPermission = codes "no permission"
unreadable_text Folder = codes "a folder"
unreadable_text FailedRead = codes "a failed read"

-- of a sourced file that can't be read: its path, and why; with U+FFFD in place of what isn't UTF-8
abbrev pub missing_text : (path : List ℕ) → Unreadable → List ℕ
missing_text path why = utf8_lossy path ++ (codes ": " ++ unreadable_text why)

-- of an expansion: the text of its message; with U+FFFD in place of what isn't UTF-8
abbrev pub expansion_text : (text : List ℕ) → List ℕ
expansion_text text = utf8_lossy text

-- of a second definition or another type: the place of the first, `first at FILE:LINE`
abbrev pub first_place_text : (path : List ℕ) (line : ℕ) → List ℕ
first_place_text path line = codes "first at " ++ (utf8_lossy path ++ (codes ":" ++ decimal line))

-- the most of what a limit counts
abbrev pub limit_count : Limit → ℕ
limit_count Symbols = MAX_SYMBOLS
limit_count Choices = MAX_CHOICES
limit_count Files = MAX_FILES
limit_count TreeBytes = MAX_TREE_BYTES
limit_count NameBytes = MAX_NAME_BYTES
limit_count ListedNames = MAX_LISTED_NAMES
limit_count Work = MAX_WORK

-- what a limit counts
abbrev pub limit_unit : Limit → List ℕ
limit_unit Symbols = codes "symbols"
limit_unit Choices = codes "choices"
limit_unit Files = codes "files"
limit_unit TreeBytes = codes "bytes of all files"
limit_unit NameBytes = codes "bytes of a name"
limit_unit ListedNames = codes "names in folders"
limit_unit Work = codes "steps of work"

-- of a limit that a tree exceeds: `more than COUNT UNIT`
abbrev pub limit_text : Limit → List ℕ
limit_text limit = codes "more than " ++ (decimal (limit_count limit) ++ (codes " " ++ limit_unit limit))

-- what makes a symbol or a choice depend on another, in words between their names
abbrev pub cause_text : Cause → List ℕ
cause_text DependsOn = codes "depends on"
cause_text Prompt = codes "has a prompt by"
cause_text Default = codes "has a default by"
cause_text Range = codes "has a range by"
cause_text Select = codes "is selected by"
cause_text Imply = codes "is implied by"
cause_text Member = codes "has a member's prompt by"
cause_text Tristate = codes "is a tristate by"

-- a step in words: `A depends on B`
abbrev pub step_text : Step → List ℕ
step_text step = step.name ++ (codes " " ++ (cause_text step.cause ++ (codes " " ++ step.other)))

-- of a cycle: its steps, with a comma and a space between them
abbrev pub cycle_text : List Step → List ℕ
cycle_text [] = []
cycle_text (step ∷ steps) = step_text step ++ flat_map (λ other. codes ", " ++ step_text other) steps
