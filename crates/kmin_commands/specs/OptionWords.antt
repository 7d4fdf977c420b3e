-- The words of the command line that name a command or give an option.
use Rattle.std.specs.Prelude.{ℕ, ◌==◌, Bool, ◌||◌, List, [], ◌∷◌, ◌++◌, Some, None, filter, map, option_map, unwrap_or, position, take, codes, bytes_eq, nat_eq}
use Rattle.std.specs.List.{flat_map, list_any, starts_with}
use Rattle.clap.specs.Simple.{values_of}
use Rattle.clap.specs.Walk.{action_of}
use Rattle.clap.specs.Words.{App, Rule, Shape, Text}

-- whether a word is one of these
abbrev pub is_among : (words : List Text) → (word : Text) → Bool
is_among words word = list_any (λ (other : Text). bytes_eq other word) words

-- the words that name a command
abbrev pub commands : List Text
commands = codes "min" ∷ codes "full" ∷ codes "missed" ∷ codes "check" ∷ codes "explain" ∷ codes "compare" ∷ codes "tidy" ∷ codes "wants" ∷ []

-- the words that name an option with a value
abbrev pub valued : List Text
valued = codes "--root" ∷ codes "--tree" ∷ codes "--language" ∷ codes "--prefix" ∷ codes "--strings" ∷ codes "--imply" ∷ codes "--answers"
    ∷ codes "--define" ∷ codes "--env" ∷ codes "--output" ∷ codes "-o" ∷ codes "--from" ∷ codes "--messages" ∷ codes "--format" ∷ []

-- the words that name an option without a value
abbrev pub flags : List Text
flags = codes "--no-prefix" ∷ codes "--strict" ∷ codes "--expand" ∷ codes "--drop" ∷ codes "--exit-code" ∷ codes "--long" ∷ codes "--by-cause" ∷ codes "--every" ∷ codes "--deep" ∷ codes "--all" ∷ codes "--write" ∷ codes "-z" ∷ codes "--unused" ∷ []

-- whether a word names a command
abbrev pub names_command : (word : Text) → Bool
names_command word = is_among commands word

-- whether a word is an option whose value is the next word
abbrev pub takes_next : (word : Text) → Bool
takes_next word = is_among valued word

-- whether a word is an option without a value
abbrev pub is_flag : (word : Text) → Bool
is_flag word = is_among flags word

-- a word up to its first `=`, if it has one
abbrev pub name_part : (word : Text) → Text
name_part word = elim (position (λ b. b == 61) word) [ Some n ↦ take n word | None ↦ word ]

-- whether a word gives an option: it names one, or has a value after the name, as in `--root=DIR` and `-oFILE`
abbrev pub gives_option : (word : Text) → Bool
gives_option word = (takes_next (name_part word) || is_flag (name_part word)) || starts_with nat_eq word (codes "-o")

-- the words that name an option, by its long and its short name; none name an argument that has neither
abbrev pub words_of : Rule → List Text
words_of rule = unwrap_or (option_map (λ (name : Text). (codes "--" ++ name) ∷ []) rule.long) []
    ++ unwrap_or (option_map (λ (letter : ℕ). (codes "-" ++ letter ∷ []) ∷ []) rule.short) []

-- whether an option has a value
abbrev pub has_value : Rule → Bool
has_value rule = values_of (action_of rule) == 1

-- the words that name an option of a command of a program, of those that pass a test
abbrev pub option_words : (test : Rule → Bool) → App → List Text
option_words test program = flat_map (λ (command : Shape). flat_map words_of (filter test command.rules)) program.subs

-- the words that name a command of a program
abbrev pub command_words : App → List Text
command_words program = map (λ (command : Shape). command.name) program.subs
