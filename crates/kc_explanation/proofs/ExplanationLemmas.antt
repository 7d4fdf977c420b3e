-- The text of a symbol's reasons, line after line.
use Rattle.std.specs.Prelude.{option_map, unwrap_or}
use Rattle.kc_explanation.proofs.Common.{◌≡◌, ℕ, List, [], ◌++◌, Some, ap, ◌∙◌, append_assoc, slice_get, Tree, Symbol, UnitValue, Strings, Position}
use Rattle.kc_reasons_model.specs.PlainReasons.{PlainReasons}
use Rattle.kc_reasons_model.specs.SymbolLines.{SymbolLines}
use Rattle.kc_located_reasons.specs.LocatedNeeds.{LocatedPart}
use Rattle.kc_explanation.specs.Located.{ReasonPlaces, located_details, located_details_at, located_unmet, located_unmet_at}

pub located_details_is : (strings : Strings) (paths : List (List ℕ)) (tree : Tree) (values : List UnitValue) (s : ℕ) (symbol : Symbol) (lines : SymbolLines)
    (r : PlainReasons) (places : ReasonPlaces) → slice_get tree.symbols s ≡ Some symbol
    → located_details_at strings paths tree values s lines r places ≡ located_details strings paths tree values symbol lines r places
located_details_is strings paths tree values s symbol lines r places e =
    ap (λ o. unwrap_or (option_map (λ k. located_details strings paths tree values k lines r places) o) []) e

pub located_unmet_is : (strings : Strings) (paths : List (List ℕ)) (tree : Tree) (values : List UnitValue) (s : ℕ) (symbol : Symbol) (selectors : List Position)
    (selected_by : List ℕ) (parts : List (List LocatedPart)) → slice_get tree.symbols s ≡ Some symbol
    → located_unmet_at strings paths tree values s selectors selected_by parts ≡ located_unmet strings paths tree values symbol selectors selected_by parts
located_unmet_is strings paths tree values s symbol selectors selected_by parts e =
    ap (λ o. unwrap_or (option_map (λ k. located_unmet strings paths tree values k selectors selected_by parts) o) []) e

-- two texts, each appended to what was there; three
pub joined_two : (old one two a b : List ℕ) → one ≡ old ++ a → two ≡ one ++ b → two ≡ old ++ (a ++ b)
joined_two old one two a b h1 h2 = h2 ∙ ap (λ x. x ++ b) h1 ∙ simp append_assoc

pub joined_three : (old one two three a b c : List ℕ) → one ≡ old ++ a → two ≡ one ++ b → three ≡ two ++ c → three ≡ old ++ (a ++ (b ++ c))
joined_three old one two three a b c h1 h2 h3 = h3 ∙ ap (λ x. x ++ c) (h2 ∙ ap (λ x. x ++ b) h1) ∙ simp append_assoc
