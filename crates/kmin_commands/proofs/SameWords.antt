-- Lists of the same words, and the words that name the program's commands and options.
use Rattle.std.proofs.Common.{◌≡◌, Bool, true, false, true≢false, ◌&&◌, ◌||◌, not, List, [], ◌∷◌, sym, refl, ap, subst}
use Rattle.std.specs.Prelude.{bytes_eq}
use Rattle.std.specs.List.{list_all}
use Rattle.std.proofs.lemmas.Slice.Eq.{bytes_eq-Decides}
use Rattle.clap.specs.Words.{App, Text}
use Rattle.clap.proofs.OnLiterals.{clap_on_literals}
use Rattle.kmin_commands.specs.declared.commands.Choices.{Choices}
use Rattle.kmin_commands.specs.Declarations.{IsProgram, program}
use Rattle.kmin_commands.specs.OptionWords.{command_words, commands, flags, has_value, is_among, option_words, valued}

-- two tests are the same if each holds where the other does
same_tests : (a b : Bool) → (a ≡ true → b ≡ true) → (b ≡ true → a ≡ true) → a ≡ b
same_tests true b there back = sym (there refl)
same_tests false true there back = back refl
same_tests false false there back = refl

both : (a b : Bool) → (a && b) ≡ true → (a ≡ true) × (b ≡ true)
both true b h = (refl, h)
both false b h = absurd (true≢false (sym h))

-- whether each of the words is one of the others
abbrev are_among : (others words : List Text) → Bool
are_among others words = list_all (is_among others) words

-- a word is one of others, if it is their first or is among the rest
either : (others words : List Text) (first word : Text) (b : Bool) → bytes_eq first word ≡ b → is_among others first ≡ true
    → (is_among words word ≡ true → is_among others word ≡ true) → (b || is_among words word) ≡ true → is_among others word ≡ true
either others words first word true same here rest h = subst (λ (w : Text). is_among others w ≡ true) ((bytes_eq-Decides first word).0 same) here
either others words first word false other here rest h = rest h

-- a word that is one of some words is one of others that have all of these
within : (others words : List Text) (word : Text) → are_among others words ≡ true → is_among words word ≡ true → is_among others word ≡ true
within others [] word all among = absurd (true≢false (sym among))
within others (first ∷ words) word all among =
    let parts = both (is_among others first) (are_among others words) all in
    either others words first word (bytes_eq first word) refl parts.0 (within others words word parts.1) among

-- lists of the same words have the same words among them
same_words : (xs ys : List Text) (word : Text) → are_among ys xs ≡ true → are_among xs ys ≡ true → is_among xs word ≡ is_among ys word
same_words xs ys word there back = same_tests _ _ (within ys xs word there) (within xs ys word back)

valued_of : (choices : Choices) (word : Text) → is_among valued word ≡ is_among (option_words has_value (program choices)) word
unfolding clap_on_literals
valued_of choices word = same_words valued (option_words has_value (program choices)) word refl refl

flags_of : (choices : Choices) (word : Text) → is_among flags word ≡ is_among (option_words (λ rule. not (has_value rule)) (program choices)) word
unfolding clap_on_literals
flags_of choices word = same_words flags (option_words (λ rule. not (has_value rule)) (program choices)) word refl refl

commands_of : (choices : Choices) → command_words (program choices) ≡ commands
commands_of choices = refl

-- the words of the tables are those of the program
pub valued_is : (app : App) (word : Text) → IsProgram app → is_among valued word ≡ is_among (option_words has_value app) word
valued_is app word is = rw is.2 (valued_of is.0 word)

pub flags_is : (app : App) (word : Text) → IsProgram app → is_among flags word ≡ is_among (option_words (λ rule. not (has_value rule)) app) word
flags_is app word is = rw is.2 (flags_of is.0 word)

pub commands_is : (app : App) (word : Text) → IsProgram app → is_among commands word ≡ is_among (command_words app) word
commands_is app word is = rw is.2 (ap (λ words. is_among words word) (sym (commands_of is.0)))
