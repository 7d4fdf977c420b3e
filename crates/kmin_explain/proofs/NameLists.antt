-- The names of a list, and those of symbols.
use Rattle.kmin_explain.proofs.Common.{◌≡◌, ℕ, ◌+◌, ◌<◌, Bool, true, false, not, cond, List, [], ◌∷◌, length, map, drop, get_or, Option, Some, sym, ◌∙◌, ap, arith, All, find, IsAscii, Bor, filter_map, at_drop_more, All-nil, All-cons, Tree, is_unknown, each_once_after, with_meant}
use Rattle.std.specs.List.{list_all}
use Rattle.std.proofs.lemmas.Str.Ascii.{IsAscii-from_all}
use Rattle.std.proofs.lemmas.Bool.{and_parts}
use Rattle.kc_tokens.specs.Token.{is_name_byte}
use Rattle.kc_dotconfig_model.specs.PrefixGrammar.{is_name_prefix}
use Rattle.kmin_explain.proofs.EachOnce.{one_name}

pub if_not_none : (some none : Bool) → some ≡ not none → none ≡ false → not some ≡ false
if_not_none some none e f = ap not (e ∙ ap not f)

-- a name that means a symbol is passed over
pub passed_over : (tree : Tree) (prefix : List ℕ) (names : List (Bor (List ℕ))) (i : ℕ) (d : Bor (List ℕ)) (all : Option (List ℕ)) → i < length names
    → is_unknown tree prefix (get_or names i d).now ≡ false → find (is_unknown tree prefix) (map (λ (name : Bor (List ℕ)). name.now) (drop i names)) ≡ all
    → find (is_unknown tree prefix) (map (λ (name : Bor (List ℕ)). name.now) (drop (i + 1) names)) ≡ all
passed_over tree prefix names i d all inside known before =
    sym (at_drop_more (λ (xs : List (Bor (List ℕ))). find (is_unknown tree prefix) (map (λ (name : Bor (List ℕ)). name.now) xs)) names i d inside
    ∙ ap (λ b. cond b (Some (get_or names i d).now) (find (is_unknown tree prefix) (map (λ (name : Bor (List ℕ)). name.now) (drop (i + 1) names)))) known)
    ∙ before

-- the symbols of one name more are found
pub one_more_meant : (f : List ℕ → Option ℕ) (found new : List ℕ) (names : List (Bor (List ℕ))) (i : ℕ) (d : Bor (List ℕ)) (all : List ℕ) → i < length names
    → new ≡ with_meant found (f (get_or names i d).now)
    → each_once_after found (filter_map f (map (λ (name : Bor (List ℕ)). name.now) (drop i names))) ≡ all
    → each_once_after new (filter_map f (map (λ (name : Bor (List ℕ)). name.now) (drop (i + 1) names))) ≡ all
one_more_meant f found new names i d all inside is before =
    ap (λ (xs : List ℕ). each_once_after xs (filter_map f (map (λ (name : Bor (List ℕ)). name.now) (drop (i + 1) names)))) is
    ∙ one_name f found (get_or names i d).now (map (λ (name : Bor (List ℕ)). name.now) (drop (i + 1) names))
    ∙ sym (at_drop_more (λ (xs : List (Bor (List ℕ))). each_once_after found (filter_map f (map (λ (name : Bor (List ℕ)). name.now) xs))) names i d inside)
    ∙ before

low_byte : (b : ℕ) → is_name_byte b ≡ true → b < 128
low_byte b e = grind arith

all_low : (bs : List ℕ) → list_all is_name_byte bs ≡ true → All (λ b. b < 128) bs
all_low [] e = All-nil (λ b. b < 128)
all_low (b ∷ bs) e = let parts = and_parts (is_name_byte b) (list_all is_name_byte bs) e in All-cons (λ b. b < 128) b bs (low_byte b parts.0) (all_low bs parts.1)

-- a prefix of names is ASCII
pub prefix_ascii : (bs : List ℕ) → is_name_prefix bs ≡ true → IsAscii bs
prefix_ascii bs e = IsAscii-from_all bs (all_low bs (and_parts _ (list_all is_name_byte bs) e).1)
