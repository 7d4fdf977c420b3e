-- Marks of the symbols in a list, and lists of symbols of a tree.
use Rattle.kmin_explain.proofs.Common.{◌≡◌, ℕ, ◌<◌, Bool, true, false, cond, List, [], ◌∷◌, ◌++◌, length, All, refl, sym, subst, ◌∙◌, ap, arith, list_any, range_with_len, Option, Tree, UnitValue, AreMarked, each_once_after}
use Rattle.std.specs.Prelude.{◌==◌, ◌||◌}
use Rattle.std.specs.List.{slice_index_or}
use Rattle.std.proofs.lemmas.List.Elements.{All-filter}
use Rattle.std.proofs.lemmas.Bool.{eqb-true}
use Rattle.kc_rules_model.specs.declared.values.UserValue.{UserValue}
use Rattle.kc_rules_model.specs.Reports.{is_unmet, unmet}
use Rattle.kc_dotconfig_model.specs.MissedAssignments.{is_missed, missed}
use Rattle.kmin_explain.specs.declared.each_once.SymbolsOnce.{SymbolsOnce}
use Rattle.kmin_explain.specs.Names.{with_number}
use Rattle.kmin_explain.proofs.EachOnce.{range_below}

or_false : (b : Bool) → (b || false) ≡ b
or_false true = refl
or_false false = refl

or_assoc : (a b c : Bool) → (a || (b || c)) ≡ ((a || b) || c)
or_assoc true b c = refl
or_assoc false b c = refl

any_more : (p : ℕ → Bool) (xs : List ℕ) (x : ℕ) → list_any p (xs ++ x ∷ []) ≡ (list_any p xs || p x)
any_more p [] x = or_false (p x)
any_more p (y ∷ xs) x = ap (λ b. p y || b) (any_more p xs x) ∙ or_assoc (p y) (list_any p xs) (p x)

absorbed : (a b : Bool) → (a || b) ≡ ((a || b) || a)
absorbed true b = refl
absorbed false b = sym (or_false b)

-- a number that is there makes no difference
kept : (x k : ℕ) (xs : List ℕ) → list_any (λ t. t == x) xs ≡ true → list_any (λ t. t == k) xs ≡ (list_any (λ t. t == k) xs || (x == k))
kept x k [] there = absurd (cc)
kept x k (y ∷ xs) there = by_head (y == x) refl there (λ h. kept x k xs h) where
  by_head : (b : Bool) → (y == x) ≡ b → (b || list_any (λ t. t == x) xs) ≡ true
      → (list_any (λ t. t == x) xs ≡ true → list_any (λ t. t == k) xs ≡ (list_any (λ t. t == k) xs || (x == k)))
      → ((y == k) || list_any (λ t. t == k) xs) ≡ (((y == k) || list_any (λ t. t == k) xs) || (x == k))
  by_head true is h rest =
      absorbed (y == k) (list_any (λ t. t == k) xs) ∙ ap (λ n. ((y == k) || list_any (λ t. t == k) xs) || (n == k)) (eqb-true y x is)
  by_head false is h rest = ap (λ b. (y == k) || b) (rest h) ∙ or_assoc (y == k) (list_any (λ t. t == k) xs) (x == k)

-- whether a number is among others with one more
among_more : (found : List ℕ) (x k : ℕ) → list_any (λ t. t == k) (with_number found x) ≡ (list_any (λ t. t == k) found || (x == k))
among_more found x k = by_test (list_any (λ t. t == x) found) refl where
  by_test : (b : Bool) → list_any (λ t. t == x) found ≡ b → list_any (λ t. t == k) (cond b found (found ++ x ∷ [])) ≡ (list_any (λ t. t == k) found || (x == k))
  by_test true is = kept x k found is
  by_test false is = any_more (λ t. t == k) found x

-- whether a number is among numbers that are found, then those of a list, each once
pub among_once : (found xs : List ℕ) (k : ℕ) → list_any (λ t. t == k) (each_once_after found xs) ≡ (list_any (λ t. t == k) found || list_any (λ t. t == k) xs)
among_once found [] k = sym (or_false (list_any (λ t. t == k) found))
among_once found (x ∷ xs) k =
    among_once (with_number found x) xs k ∙ ap (λ b. b || list_any (λ t. t == k) xs) (among_more found x k)
    ∙ sym (or_assoc (list_any (λ t. t == k) found) (x == k) (list_any (λ t. t == k) xs))

-- so marks have the symbols of a list
pub marks_are : (o : SymbolsOnce) (none xs : List ℕ) (n s : ℕ) → AreMarked o → length o.is_found.items ≡ n → o.found.items ≡ each_once_after none xs → none ≡ []
    → s < n → slice_index_or o.is_found.items s false ≡ list_any (λ m. m == s) xs
marks_are o none xs n s marks many found empty below =
    marks.marks s (subst (λ k. s < k) (sym many) below) ∙ ap (list_any (λ m. m == s)) found
    ∙ ap (λ f. list_any (λ m. m == s) (each_once_after f xs)) empty ∙ among_once [] xs s

-- the symbols that are missed, or selected against their dependencies, are of the tree
pub missed_below : (tree : Tree) (users : List (Option UserValue)) (values : List UnitValue) → All (λ s. s < length tree.symbols) (missed tree users values)
missed_below tree users values =
    All-filter (is_missed tree users values) (λ s. s < length tree.symbols) (range_with_len 0 (length tree.symbols)) (range_below 0 (length tree.symbols) (length tree.symbols) (omega arith))

pub unmet_below : (tree : Tree) (values : List UnitValue) → All (λ s. s < length tree.symbols) (unmet tree values)
unmet_below tree values =
    All-filter (is_unmet tree values) (λ s. s < length tree.symbols) (range_with_len 0 (length tree.symbols)) (range_below 0 (length tree.symbols) (length tree.symbols) (omega arith))
