-- Lines, one after another, and the lines of differences.
use Rattle.std.proofs.Common.{◌+◌, ◌<◌, None, if◌then◌else◌}
use Rattle.std.specs.List.{filter_map, cons_option}
use Rattle.std.proofs.Math.Seq.{take-suc}
use Rattle.kmin_outputs.proofs.Common.{◌≡◌, ℕ, suc, Bool, true, false, List, [], ◌∷◌, ◌++◌, Option, Some, get_or, map, take, length, refl, sym, ap, ◌∙◌, arith, append-nil, append_assoc, flat_map, SymbolValue, Tree, UnitValue, value_of_symbol, differences, difference_line, line_between}
use Rattle.kc_rules_model.specs.Reports.{symbol_numbers}
use Rattle.kc_minimal.specs.between.DifferenceViews.{difference_view}
use Rattle.kc_minimal.specs.declared.difference.Difference.{Difference as DifferenceRef}
use Rattle.kc_minimal_model.specs.Differences.{Difference, is_same_value, difference_at}
use Rattle.kmin_records.specs.declared.output_form.OutputForm.{OutputForm}
use Rattle.kc_dotconfig_model.specs.declared.format.Strings.{Strings}

flat_map_append : {A : Type 0} (f : A → List ℕ) (xs ys : List A) → flat_map f (xs ++ ys) ≡ flat_map f xs ++ flat_map f ys
flat_map_append f [] ys = refl
flat_map_append f (x ∷ xs) ys = rw (flat_map_append f xs ys, append_assoc) refl

-- the lines of the first k + 1 elements of a list are those of the first k, and the line of the element at place k
pub line_more : {A : Type 0} (f : A → List ℕ) (xs : List A) (k : ℕ) (d : A) (text after : List ℕ) → k < length xs
    → text ≡ flat_map f (take k xs) → after ≡ text ++ f (get_or xs k d) → after ≡ flat_map f (take (k + 1) xs)
line_more f xs k d text after h e a =
    let n : k + 1 ≡ suc k = omega arith in
    rw n (a ∙ ap (λ z. z ++ f (get_or xs k d)) e ∙ sym (ap (flat_map f) (take-suc xs k d h) ∙ flat_map_append f (take k xs) (get_or xs k d ∷ [])
    ∙ ap (λ z. flat_map f (take k xs) ++ z) (append-nil (f (get_or xs k d)))))

-- each difference has the values of its symbol
has_values_of : (form : OutputForm) (strings : Strings) (tree : Tree) (v w : List UnitValue) (s : ℕ) (a b : SymbolValue) (d : Difference) (same : Bool)
    → value_of_symbol tree v s ≡ Some a
    → value_of_symbol tree w s ≡ Some b
    → (if same then None else Some (record { symbol = s; left = a; right = b })) ≡ Some d → difference_line form strings tree d
    ≡ line_between form strings tree v w d.symbol
has_values_of form strings tree v w s a b d true e f h = cc
has_values_of form strings tree v w s a b d false e f h =
    let same : record { symbol = s; left = a; right = b } ≡ d = cc in
    rw (← same) (rw (e, f) refl)

pub has_values : (form : OutputForm) (strings : Strings) (tree : Tree) (v w : List UnitValue) (s : ℕ) (a b : Option SymbolValue) (d : Difference) → value_of_symbol tree v s ≡ a
    → value_of_symbol tree w s ≡ b
    → difference_at s a b ≡ Some d → difference_line form strings tree d ≡ line_between form strings tree v w d.symbol
has_values form strings tree v w s None b d e f h = cc
has_values form strings tree v w s (Some a) None d e f h = cc
has_values form strings tree v w s (Some a) (Some b) d e f h = has_values_of form strings tree v w s a b d (is_same_value a b) e f h

-- what differs at a symbol, by the values there
abbrev found_at : Tree → List UnitValue → List UnitValue → ℕ → Option Difference
found_at tree v w s = difference_at s (value_of_symbol tree v s) (value_of_symbol tree w s)

-- the lines of differences by their symbols
lines_of : (form : OutputForm) (strings : Strings) (tree : Tree) (v w : List UnitValue) (found : Option Difference) (rest : List Difference)
    → ((d : Difference) → found ≡ Some d → difference_line form strings tree d ≡ line_between form strings tree v w d.symbol)
    → flat_map (difference_line form strings tree) rest ≡ flat_map (λ (d : DifferenceRef). line_between form strings tree v w d.symbol) (map difference_view rest)
    → flat_map (difference_line form strings tree) (cons_option found rest) ≡ flat_map (λ (d : DifferenceRef). line_between form strings tree v w d.symbol)
    (map difference_view (cons_option found rest))
lines_of form strings tree v w None rest h e = e
lines_of form strings tree v w (Some d) rest h e = rw (h d refl, e) refl

pub difference_lines_are : (form : OutputForm) (strings : Strings) (tree : Tree) (v w : List UnitValue) (numbers : List ℕ)
    → flat_map (difference_line form strings tree) (filter_map (found_at tree v w) numbers)
    ≡ flat_map (λ (d : DifferenceRef). line_between form strings tree v w d.symbol) (map difference_view (filter_map (found_at tree v w) numbers))
difference_lines_are form strings tree v w [] = refl
difference_lines_are form strings tree v w (s ∷ numbers) =
    lines_of form strings tree v w (found_at tree v w s) (filter_map (found_at tree v w) numbers)
    (λ d e. has_values form strings tree v w s (value_of_symbol tree v s) (value_of_symbol tree w s) d refl refl e) (difference_lines_are form strings tree v w numbers)

-- the lines of all differences that were found between two valuations are those of `difference_line`
pub compared_text : (form : OutputForm) (strings : Strings) (tree whole : Tree) (v w a b : List UnitValue) (listed given : List DifferenceRef) (text : List ℕ)
    → whole ≡ tree → a ≡ v → b ≡ w → given ≡ listed → listed ≡ map difference_view (differences tree v w)
    → text ≡ flat_map (λ (d : DifferenceRef). line_between form strings whole a b d.symbol) given
    → text ≡ flat_map (difference_line form strings tree) (differences tree v w)
compared_text form strings tree whole v w a b listed given text t e f g l h =
    let k : text ≡ flat_map (λ (d : DifferenceRef). line_between form strings tree v w d.symbol) (map difference_view (differences tree v w)) =
    rw (t, e, f, g, l) at h in
    k ∙ sym (difference_lines_are form strings tree v w (symbol_numbers tree))
