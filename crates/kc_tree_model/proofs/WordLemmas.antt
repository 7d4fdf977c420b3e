-- Words are looked up among those of their length.
use Rattle.std.proofs.Common.{◌==◌}
use Rattle.std.specs.Str.{bytes_eq}
use Rattle.std.specs.Bool.{if◌then◌else◌}
use Rattle.kc_tree_model.proofs.Common.{◌≡◌, ℕ, Bool, true, false, List, [], ◌∷◌, length, filter, cond, refl, ap, sym, ◌∙◌, Option, Some, None, rules, bytes_eq-Decides, nat_tests, Keyword}
use Rattle.kc_tree_model.specs.Keywords.{keyword_in_table, keywords}
use Rattle.kc_tree_model.specs.checker.WordLengths.{of_length}

-- a test that is true only of equal texts fails on others
no_text : (e x : List ℕ) (b : Bool) → bytes_eq e x ≡ b → (e ≡ x → ⊥) → b ≡ false
no_text e x false t d = refl
no_text e x true t d = absurd (d ((bytes_eq-Decides e x).0 t))

-- equal numbers pass the test
length_same : (m n : ℕ) → m ≡ n → (m == n) ≡ false → ⊥
length_same m n q d = absurd (search (rules, nat_tests))

-- texts of two lengths differ
lengths_differ : (e x : List ℕ) → (length e == length x) ≡ false → bytes_eq e x ≡ false
lengths_differ e x d = no_text e x (bytes_eq e x) refl (λ q. length_same (length e) (length x) (ap length q) d)

-- an entry of another length is passed over
passed : (e : List ℕ × Keyword) (es fs : List (List ℕ × Keyword)) (x : List ℕ) (b : Bool)
    → keyword_in_table fs x ≡ keyword_in_table es x → (b ≡ false → bytes_eq e.0 x ≡ false)
    → keyword_in_table (cond b (e ∷ fs) fs) x ≡ keyword_in_table (e ∷ es) x
passed e es fs x true ih h = ap (λ (r : Option Keyword). if bytes_eq e.0 x then Some e.1 else r) ih
passed e es fs x false ih h = rw (h refl) ih

by_length : (es : List (List ℕ × Keyword)) (x : List ℕ) → keyword_in_table (filter (λ e. length e.0 == length x) es) x ≡ keyword_in_table es x
by_length [] x = refl
by_length (e ∷ es) x = passed e es (filter (λ e. length e.0 == length x) es) x (length e.0 == length x) (by_length es x) (lengths_differ e.0 x)

-- a word of n bytes has the same keyword among the words of n bytes as in the whole table
pub of_that_length : (n : ℕ) (x : List ℕ) → length x ≡ n → keyword_in_table (of_length n) x ≡ keyword_in_table keywords x
of_that_length n x l = ap (λ m. keyword_in_table (of_length m) x) (sym l) ∙ by_length keywords x

-- no word has one of the other lengths
none_of_length : (n : ℕ) → (2 == n) ≡ false → (3 == n) ≡ false → (4 == n) ≡ false → (5 == n) ≡ false → (6 == n) ≡ false → (7 == n) ≡ false
    → (8 == n) ≡ false → (9 == n) ≡ false → (10 == n) ≡ false → (12 == n) ≡ false → of_length n ≡ []
none_of_length n two three four five six seven eight nine ten twelve = simp (two, three, four, five, six, seven, eight, nine, ten, twelve)

differs : (k n : ℕ) → (n ≡ k → ⊥) → (k == n) ≡ false
differs k n d = search (rules, nat_tests)

pub other_length : (x : List ℕ) → (length x ≡ 2 → ⊥) → (length x ≡ 3 → ⊥) → (length x ≡ 4 → ⊥) → (length x ≡ 5 → ⊥) → (length x ≡ 6 → ⊥) → (length x ≡ 7 → ⊥)
    → (length x ≡ 8 → ⊥) → (length x ≡ 9 → ⊥) → (length x ≡ 10 → ⊥) → (length x ≡ 12 → ⊥) → None ≡ keyword_in_table keywords x
other_length x a b c d e f g h i j =
    let n = length x in
    sym (ap (λ es. keyword_in_table es x) (none_of_length n (differs 2 n a) (differs 3 n b) (differs 4 n c) (differs 5 n d) (differs 6 n e) (differs 7 n f)
    (differs 8 n g) (differs 9 n h) (differs 10 n i) (differs 12 n j))) ∙ by_length keywords x
