-- The bytes appended while a text is spelled in quotes.
use Rattle.kc_value.proofs.Common.{◌≡◌, ℕ, ◌+◌, ◌<◌, ◌≤◌, ◌||◌, true, false, get_or, List, [], ◌∷◌, ◌++◌, length, take, append_assoc, refl, ap, sym, ◌∙◌, ◌==◌, flat_map, ne_eqb, take_all, take-append_seam, escaped_byte, quoted}
use Rattle.std.proofs.lemmas.List.{flat_map_more, take_more}

-- bytes stay at the front when others are appended
pub still_there : (base more now : List ℕ) → now ≡ base ++ more → take (length base) now ≡ base
still_there base more now e = ap (λ t. take (length base) t) e ∙ take-append_seam base more

pub still_there_before : (base more now next : List ℕ) (b : ℕ) → now ≡ base ++ more → next ≡ now ++ b ∷ [] → take (length base) next ≡ base
still_there_before base more now next b e n = still_there base (more ++ b ∷ []) next (n ∙ ap (λ t. t ++ b ∷ []) e ∙ append_assoc base more (b ∷ []))

-- the byte at the place is spelled after those before it
spelled_on : (base xs now next : List ℕ) (i : ℕ) → i < length xs → now ≡ base ++ 34 ∷ flat_map escaped_byte (take i xs)
    → next ≡ now ++ escaped_byte (get_or xs i 0) → next ≡ base ++ 34 ∷ flat_map escaped_byte (take (i + 1) xs)
spelled_on base xs now next i l e n =
    let on : (34 ∷ flat_map escaped_byte (take i xs)) ++ escaped_byte (get_or xs i 0) ≡ 34 ∷ flat_map escaped_byte (take i xs ++ get_or xs i 0 ∷ []) =
    flat_map_more escaped_byte (34 ∷ []) (take i xs) (get_or xs i 0) in
    n ∙ ap (λ t. t ++ escaped_byte (get_or xs i 0)) e ∙ append_assoc base (34 ∷ flat_map escaped_byte (take i xs)) (escaped_byte (get_or xs i 0))
    ∙ ap (λ t. base ++ t) on ∙ ap (λ t. base ++ 34 ∷ flat_map escaped_byte t) (sym (take_more xs i 0 l))

-- a `"` is a byte that gets a backslash in front
pub quote_escaped : (x : ℕ) → x ≡ 34 → (x == 34 || (x == 92)) ≡ true
quote_escaped x e = rw e refl

pub backslash_escaped : (x : ℕ) → x ≡ 92 → (x == 34 || (x == 92)) ≡ true
backslash_escaped x e = rw e refl

pub none_escaped : (x : ℕ) → (x ≡ 34 → ⊥) → (x ≡ 92 → ⊥) → (x == 34 || (x == 92)) ≡ false
none_escaped x p q = rw (ne_eqb x 34 p, ne_eqb x 92 q) refl

-- a `"` or a backslash is spelled as a backslash and itself, after the spelling of the bytes before it
pub spelled_pair : (base xs now mid next : List ℕ) (i : ℕ) → i < length xs → (get_or xs i 0 == 34 || (get_or xs i 0 == 92)) ≡ true
    → now ≡ base ++ 34 ∷ flat_map escaped_byte (take i xs) → mid ≡ now ++ 92 ∷ [] → next ≡ mid ++ get_or xs i 0 ∷ []
    → next ≡ base ++ 34 ∷ flat_map escaped_byte (take (i + 1) xs)
spelled_pair base xs now mid next i l t e m n =
    let pair : escaped_byte (get_or xs i 0) ≡ 92 ∷ get_or xs i 0 ∷ [] = rw t refl in
    spelled_on base xs now next i l e (n ∙ ap (λ z. z ++ get_or xs i 0 ∷ []) m ∙ append_assoc now (92 ∷ []) (get_or xs i 0 ∷ [])
    ∙ ap (λ z. now ++ z) (sym pair))

-- a byte other than a `"` and a backslash is spelled alone, after the spelling of the bytes before it
pub spelled_plain : (base xs now next : List ℕ) (i : ℕ) → i < length xs → (get_or xs i 0 == 34 || (get_or xs i 0 == 92)) ≡ false
    → now ≡ base ++ 34 ∷ flat_map escaped_byte (take i xs) → next ≡ now ++ get_or xs i 0 ∷ [] → next ≡ base ++ 34 ∷ flat_map escaped_byte (take (i + 1) xs)
spelled_plain base xs now next i l t e n =
    let plain : escaped_byte (get_or xs i 0) ≡ get_or xs i 0 ∷ [] = rw t refl in
    spelled_on base xs now next i l e (n ∙ ap (λ z. now ++ z) (sym plain))

-- a closing `"` after the spelling of all bytes of a text ends its quoted spelling
pub all_spelled : (base xs text now next : List ℕ) (i : ℕ) → length xs ≤ i → xs ≡ text → now ≡ base ++ 34 ∷ flat_map escaped_byte (take i xs)
    → next ≡ now ++ 34 ∷ [] → next ≡ base ++ quoted text
all_spelled base xs text now next i l same e n =
    n ∙ ap (λ t. t ++ 34 ∷ []) e ∙ append_assoc base (34 ∷ flat_map escaped_byte (take i xs)) (34 ∷ []) ∙ ap (λ t. base ++ quoted t) (take_all i xs l ∙ same)
