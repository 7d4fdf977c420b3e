-- Lines whose first tokens make them neither an assignment nor a form, nor the beginning of a help text.
use Rattle.std.specs.Prelude.{◌≡◌, ℕ, pred, true, false, ◌&&◌, ◌||◌, ◌==◌, Bool, nat_le, List, [], ◌∷◌, length, get_or, None, bytes_eq, codes}
use Rattle.std.specs.List.{list_any}
use Rattle.kc_tree_model.specs.Limits.{is_in_list}
use Rattle.kc_macros_model.specs.LineTokens.{LineToken, trivia, run, quoted, other, broken}
use Rattle.kc_macros_model.specs.Assignments.{assignment_to}
use Rattle.kc_macros_model.specs.LineForms.{prompt_words, source_words, help_words}

-- whether a word is one that a path, a help text, the name of a choice or an option may follow
abbrev pub is_acting_word : List ℕ → Bool
is_acting_word word = is_in_list word source_words || is_in_list word help_words || bytes_eq word (codes "choice") || bytes_eq word (codes "option")

-- whether a word has the last byte of `source`, `help`, `---help---`, `choice` or `option`
abbrev pub ends_acting : List ℕ → Bool
ends_acting word = let c = get_or word (pred (length word)) 0 in c == 101 || (c == 112 || (c == 45 || c == 110))

-- whether some word that a prompt or a title follows has this first and this last byte
abbrev pub bounds_prompt : (first last : ℕ) → Bool
bounds_prompt first last =
    (first == 98 && (last == 108)) || ((first == 116 && (last == 101)) || ((first == 115 && (last == 103)) || ((first == 104 && (last == 120)) || ((first == 105 && (last == 116)) || ((first == 112 && (last == 116)) || ((first == 109 && (last == 117)) || ((first == 99 && (last == 116)))))))))

-- whether a word has the first and the last byte of one that a prompt or a title follows
abbrev pub may_begin_prompt : List ℕ → Bool
may_begin_prompt word = bounds_prompt (get_or word 0 0) (get_or word (pred (length word)) 0)

-- whether a text has a `$`, or a byte that isn't ASCII
abbrev pub has_dollar_or_wide : List ℕ → Bool
has_dollar_or_wide text = list_any (λ c. c == 36 || nat_le 128 c) text

-- the first of these tokens that isn't a `trivia`, if there is one, isn't a `run` either
abbrev pub HasNoWordNext : List LineToken → Type 0
HasNoWordNext [] = Unit {0}
HasNoWordNext (trivia s ∷ ts) = HasNoWordNext ts
HasNoWordNext (run s ∷ ts) = ⊥
HasNoWordNext (quoted quote s ∷ ts) = Unit {0}
HasNoWordNext (other s ∷ ts) = Unit {0}
HasNoWordNext (broken s ∷ ts) = Unit {0}

-- the first word of a line, with the tokens after it, is no cause to write the line anew: the word is no name of an assignment,
-- `is_acting_word` is false for it, and if it is among `prompt_words`, `HasNoWordNext` holds for the tokens
pub record BeginsNothingToExpand (word : List ℕ) (ts : List LineToken) : Type 0 where
  pub unassigned : assignment_to (run word) ts ≡ None
  pub acting : is_acting_word word ≡ false
  pub prompt : is_in_list word prompt_words ≡ true → HasNoWordNext ts

-- the first of these tokens that isn't a `trivia` is no cause to write their line anew: it is no `run`, or `BeginsNothingToExpand` holds
abbrev pub HasNothingToExpand : List LineToken → Type 0
HasNothingToExpand [] = Unit {0}
HasNothingToExpand (trivia s ∷ ts) = HasNothingToExpand ts
HasNothingToExpand (run s ∷ ts) = BeginsNothingToExpand s ts
HasNothingToExpand (quoted quote s ∷ ts) = Unit {0}
HasNothingToExpand (other s ∷ ts) = Unit {0}
HasNothingToExpand (broken s ∷ ts) = Unit {0}
