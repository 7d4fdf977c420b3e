-- What options give, by the values that the parser of the words found.
use Rattle.std.specs.Prelude.{ℕ, ◌+◌, Bool, not, ◌&&◌, ◌||◌, ◌==◌, nat_lt, nat_le, List, [], length, take, drop, position, count_by, Option, Some, None, Result, Ok, Err, is_some, codes, unwrap_or, option_map, bytes_eq, if◌then◌else◌}
use Rattle.std.specs.List.{list_all, filter_map}
use Rattle.clap.specs.Words.{matched_of, first_value, is_present}
use Rattle.clap.specs.Matches.{raw_values}
use Rattle.clap.specs.declared.parser.matches.Found.{Found}
use Rattle.kc_value.specs.declared.limits.TheConstants.{MAX_VARIABLE_BYTES}
use Rattle.kc_dotconfig_model.specs.PrefixGrammar.{is_prefix}
use Rattle.kc_value.specs.Lines.{has_newline}
use Rattle.kc_macros_model.specs.Variables.{is_environment_name}
use Rattle.kc_tree_model.specs.LogicalLines.{without_white_end}
use Rattle.kmin_options.specs.Jobs.{Definition, GivenExpansion}

-- the one value that was found for an option or a word of the command line; empty if there is none
abbrev pub value_of : Found → List ℕ → List ℕ
value_of found id = unwrap_or (first_value found id) []

-- the values that were found for a repeatable option or word of the command line, in order
abbrev pub values_of : Found → List ℕ → List (List ℕ)
values_of found id = unwrap_or (option_map raw_values (matched_of found id)) []

-- whether a flag is given on the command line: the flag then has the value `true`
abbrev pub is_given : Found → List ℕ → Bool
is_given found id = bytes_eq (value_of found id) (codes "true")

-- a value of the command line, or the line of the message with which it is refused
abbrev pub ValueResult : Type 0 → Type 0
ValueResult A = Result A (List ℕ)

-- the definition of a name by a value, whose white bytes at the end are dropped; `None` unless an environment may have the name,
-- and the value has at most `MAX_VARIABLE_BYTES` bytes and no newline
abbrev pub named_value : List ℕ → List ℕ → Option Definition
named_value name value =
    if is_environment_name name && (nat_le (length value) MAX_VARIABLE_BYTES && not (has_newline value))
    then Some (record { name = name; value = without_white_end value })
    else None

-- the definition that a text `NAME=VALUE` gives, cut at its first `=`; `None` if the text is malformed
abbrev pub definition_of : List ℕ → Option Definition
definition_of text = elim (position (λ b. b == 61) text) [ Some n ↦ named_value (take n text) (drop (n + 1) text) | None ↦ None ]

-- whether a text is a definition `NAME=VALUE`
abbrev pub is_definition : List ℕ → Bool
is_definition text = is_some (definition_of text)

-- the definitions of the values of `--define`; refused unless each value is a definition
abbrev pub definitions_of : List (List ℕ) → ValueResult (List Definition)
definitions_of texts = if list_all is_definition texts then Ok (filter_map definition_of texts) else Err (codes "define: Malformed\n")

-- the values of `--env`; refused unless each is a name that an environment may have
abbrev pub environment_of : List (List ℕ) → ValueResult (List (List ℕ))
environment_of names = if list_all is_environment_name names then Ok names else Err (codes "env: Malformed\n")

-- the path of the first Kconfig file of a tree whose macros are expanded; refused if it has a newline
abbrev pub expanded_tree_of : List ℕ → ValueResult (List ℕ)
expanded_tree_of path = if has_newline path then Err (codes "tree: Malformed\n") else Ok path

-- how many of the paths are `/dev/stdin`
abbrev pub inputs_among : List (List ℕ) → ℕ
inputs_among paths = count_by (λ path. bytes_eq path (codes "/dev/stdin")) paths

-- whether a path isn't `-`, by which many programs name standard input or output
abbrev pub names_file : List ℕ → Bool
names_file path = not (bytes_eq path (codes "-"))

-- whether no path is `-`, of the answer files and of the configuration files
abbrev pub name_files : (answers paths : List (List ℕ)) → Bool
name_files answers paths = list_all names_file answers && list_all names_file paths

-- the message with which `-` is refused as a file that is read
abbrev pub unread_dash : List ℕ
unread_dash = codes "error: '-' isn't read as a file\n\n  tip: /dev/stdin is standard input, ./- a file of that name\n"

-- the paths of configuration files; refused if one of them or of those of answer files is `-`, or if they name standard input
-- more than once, compared as texts
abbrev pub paths_beside : (answers paths : List (List ℕ)) → ValueResult (List (List ℕ))
paths_beside answers paths =
    if not (name_files answers paths) then Err unread_dash
    else (if nat_lt 1 (inputs_among answers + inputs_among paths) then Err (codes "stdin: NamedTwice\n") else Ok paths)

-- the result of a function on a value, or the refusal of that value
abbrev pub and_then : {A B : Type 0} → ValueResult A → (A → ValueResult B) → ValueResult B
and_then (Ok x) f = f x
and_then (Err line) f = Err line

-- the values of `--answers`, `--define` and `--env`; refused if one is malformed, or if the path of `--tree` has a newline
abbrev pub expansion_of : Found → ValueResult GivenExpansion
expansion_of found =
    and_then (definitions_of (values_of found (codes "define"))) (λ definitions.
    and_then (environment_of (values_of found (codes "env"))) (λ environment.
    and_then (expanded_tree_of (value_of found (codes "tree"))) (λ tree.
    Ok (record { answers = values_of found (codes "answers"); definitions = definitions; environment = environment }))))

-- whether `--expand`, `--answers`, `--define` or `--env` is given, each of which turns the expansion of macros on
abbrev pub is_expanded : Found → Bool
is_expanded found =
    is_given found (codes "expand")
    || (nat_lt 0 (length (values_of found (codes "answers")))
    || (nat_lt 0 (length (values_of found (codes "define")))
    || nat_lt 0 (length (values_of found (codes "env")))))

-- the values of `--answers`, `--define` and `--env`, or `None` if no option turns the expansion of macros on
abbrev pub expansion_if_given : Found → ValueResult (Option GivenExpansion)
expansion_if_given found = if is_expanded found then and_then (expansion_of found) (λ e. Ok (Some e)) else Ok None

-- the value of `--prefix`; refused unless names of symbols in configuration files may have it in front
abbrev pub prefix_of : List ℕ → ValueResult (List ℕ)
prefix_of text = if is_prefix text then Ok text else Err (codes "prefix: Malformed\n")

-- the message with which `--no-prefix` is refused beside `--prefix`
abbrev pub two_prefixes : List ℕ
two_prefixes =
    codes "error: the argument '--prefix <TEXT>' cannot be used with '--no-prefix'\n\nFor more information, try '--help'.\n"

-- what comes before names in configuration files: nothing with `--no-prefix`, which is refused where the words give `--prefix`
-- too, whatever its text, and else the value of `--prefix`
abbrev pub name_prefix_of : Found → ValueResult (List ℕ)
name_prefix_of found =
    if is_given found (codes "no-prefix")
    then (if is_present found (codes "prefix") then Err two_prefixes else Ok [])
    else prefix_of (value_of found (codes "prefix"))
