-- Words of the command line of which options are before the command.
use Rattle.std.specs.Prelude.{ℕ, ◌+◌, Bool, true, false, List, [], ◌∷◌, ◌++◌, Option, Some, None, option_map, take, drop, if◌then◌else◌}
use Rattle.kmin_commands.specs.OptionWords.{gives_option, names_command, takes_next}

-- the place of the command in words, if only options are before it; `is_value` if the first word is the value of an option
abbrev pub command_place : (is_value : Bool) → (words : List (List ℕ)) → Option ℕ
command_place is_value [] = None
command_place true (word ∷ words) = option_map (λ place. place + 1) (command_place false words)
command_place false (word ∷ words) =
    if names_command word then Some 0
    else (if gives_option word then option_map (λ place. place + 1) (command_place (takes_next word) words) else None)

-- words with the word at a place put in front of the others
abbrev pub moved_to_front : (place : ℕ) → (words : List (List ℕ)) → List (List ℕ)
moved_to_front place words = take 1 (drop place words) ++ (take place words ++ drop (place + 1) words)

-- words with the command first, and right after it the options that were before it; others stay as they are
abbrev pub command_first : (words : List (List ℕ)) → List (List ℕ)
command_first words = elim (command_place false words) [ Some place ↦ moved_to_front place words | None ↦ words ]
