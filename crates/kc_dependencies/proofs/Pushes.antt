-- Tests over lists: the elements that a visit appends.
use Rattle.std.proofs.Common.{IsSome}
use Rattle.std.specs.List.{filter_map, cons_option}
use Rattle.std.proofs.Math.Bool.{or_assoc}
use Rattle.std.proofs.lemmas.List.Elements.{All-append, All-cons, All-nil}
use Rattle.kc_dependencies.proofs.Common.{◌≡◌, ℕ, ◌+◌, ◌<◌, Bool, true, false, ◌||◌, ◌==◌, List, [], ◌∷◌, ◌++◌, length, map, get_or, take, Option, Some, None, subst, refl, sym, ap, ◌∙◌, flat_map, list_any, false≢true, list_any-append, operand_names, operand_or_empty, Tree, mentions, is_at, has}
use Rattle.kc_dependencies.proofs.Common.{AreUnits}
use Rattle.std.proofs.lemmas.List.Folds.{list_any_more}
use Rattle.kc_expr.specs.Expr.{Expr, alone, related, negated, both, either, shown}
use Rattle.kc_expr.specs.between.Operand.{operand_alone}

-- whether `start` holds or one of the first `i` elements passes a test, or the element at `i` passes it, is the same for the
-- first `i + 1` elements
pub any_pushed : {X : Type 0} (m : X → Bool) (xs : List X) (i : ℕ) (x : X) (start old new : Bool) → i < length xs → x ≡ get_or xs i x → new ≡ (old || m x)
    → old ≡ (start || list_any m (take i xs)) → new ≡ (start || list_any m (take (i + 1) xs))
any_pushed m xs i x start old new h e a b =
    a ∙ ap (λ t. t || m x) b ∙ or_assoc start (list_any m (take i xs)) (m x)
    ∙ ap (λ t. start || t) (ap (λ y. list_any m (take i xs) || m y) e ∙ sym (list_any_more m xs i x h))

pub any_same : {X : Type 0} (p q : X → Bool) → ((x : X) → p x ≡ q x) → (xs : List X) → list_any p xs ≡ list_any q xs
any_same p q f [] = refl
any_same p q f (x ∷ xs) = ap (λ t. t || list_any p xs) (f x) ∙ ap (λ t. q x || t) (any_same p q f xs)

pub any_map : {X Y : Type 0} (p : Y → Bool) (f : X → Y) (xs : List X) → list_any p (map f xs) ≡ list_any (λ x. p (f x)) xs
any_map p f [] = refl
any_map p f (x ∷ xs) = ap (λ t. p (f x) || t) (any_map p f xs)

pub any_flat : {X Y : Type 0} (p : Y → Bool) (f : X → List Y) (xs : List X) → list_any p (flat_map f xs) ≡ list_any (λ x. list_any p (f x)) xs
any_flat p f [] = refl
any_flat p f (x ∷ xs) = list_any-append p (f x) (flat_map f xs) ∙ ap (λ t. list_any p (f x) || t) (any_flat p f xs)

any_cons : (d : ℕ) (o : Option ℕ) (us : List ℕ) → list_any (λ e. e == d) (cons_option o us) ≡ (is_at d o || list_any (λ e. e == d) us)
any_cons d None us = refl
any_cons d (Some u) us = refl

pub any_filtered : {X : Type 0} (h : X → Option ℕ) (d : ℕ) (xs : List X) → list_any (λ e. e == d) (filter_map h xs) ≡ list_any (λ x. is_at d (h x)) xs
any_filtered h d [] = refl
any_filtered h d (x ∷ xs) = any_cons d (h x) (filter_map h xs) ∙ ap (λ t. is_at d (h x) || t) (any_filtered h d xs)

-- the names of an expression that is an operand alone, as a bound of a range is, are the names of the operand
pub operand_mention : (p : List ℕ → Bool) (e : Expr) → IsSome (operand_alone e) → list_any p (operand_names (operand_or_empty e)) ≡ mentions p e
operand_mention p (alone a) h = refl
operand_mention p (related op a b) h = absurd (false≢true h)
operand_mention p (negated e) h = absurd (false≢true h)
operand_mention p (both a b) h = absurd (false≢true h)
operand_mention p (either a b) h = absurd (false≢true h)
operand_mention p (shown e) h = absurd (false≢true h)

pub nothing_more : (b : Bool) → b ≡ (b || false)
nothing_more true = refl
nothing_more false = refl

-- a truth joined by `or` with one truth and then with another is joined with both at once
pub two_pushed : (o a b m n : Bool) → m ≡ (o || a) → n ≡ (m || b) → n ≡ (o || (a || b))
two_pushed o a b m n e f = f ∙ ap (λ t. t || b) e ∙ or_assoc o a b

-- a list of units with one more at its end has a unit if the list has it or it is the one at the end
pub has_pushed : (old new : List ℕ) (u d : ℕ) → new ≡ old ++ u ∷ [] → has new d ≡ (has old d || (u == d))
has_pushed old new u d e = ap (λ us. has us d) e ∙ list_any-append (λ m. m == d) old (u ∷ []) ∙ ap (λ t. has old d || t) (sym (nothing_more (u == d)))

pub units_pushed : (tree : Tree) (old new : List ℕ) (u : ℕ) → new ≡ old ++ u ∷ [] → u < length tree.units → AreUnits tree old → AreUnits tree new
units_pushed tree old new u e below all =
    subst (λ us. AreUnits tree us) (sym e) (All-append (λ w. w < length tree.units) old (u ∷ []) all
    (All-cons (λ w. w < length tree.units) u [] below (All-nil (λ w. w < length tree.units))))
