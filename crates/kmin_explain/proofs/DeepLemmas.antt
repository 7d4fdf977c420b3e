-- The symbols to go on with, found one after the other.
use Rattle.kmin_explain.proofs.Common.{◌≡◌, ℕ, ◌+◌, ◌<◌, List, [], ◌∷◌, ◌++◌, length, map, drop, get_or, Some, sym, ◌∙◌, ap, refl, flat_map, slice_get, option_map, unwrap_or, at_drop_more, Tree, Symbol, UnitValue, environment, PlainReasons, each_once_after, SourcesModel, reasons_of, blamed_in}
use Rattle.kmin_explain.proofs.Common.{next_of}
use Rattle.kmin_explain.specs.Deep.{next_by}
use Rattle.kmin_explain.proofs.OnceLemmas.{after_both}

-- one element more
pub one_more_blamed : {X : Type 0} (f : X → List ℕ) (xs : List X) (i : ℕ) (d : X) (found new all : List ℕ) → i < length xs
    → new ≡ each_once_after found (f (get_or xs i d))
    → each_once_after found (flat_map f (drop i xs)) ≡ all → each_once_after new (flat_map f (drop (i + 1) xs)) ≡ all
one_more_blamed f xs i d found new all inside is before =
    ap (λ (k : List ℕ). each_once_after k (flat_map f (drop (i + 1) xs))) is
    ∙ sym (after_both found (f (get_or xs i d)) (flat_map f (drop (i + 1) xs)))
    ∙ ap (each_once_after found) (sym (at_drop_more (flat_map f) xs i d inside))
    ∙ before

-- by the view of the elements
module _ {X Y : Type 0} (view : X → Y) (f : Y → List ℕ) where
  pub viewed : (xs : List X) → flat_map f (map view xs) ≡ flat_map (λ x. f (view x)) xs
  viewed [] = refl
  viewed (x ∷ xs) = ap (λ ys. f (view x) ++ ys) (viewed xs)

  pub one_more_viewed : (xs : List X) (i : ℕ) (d : X) (found new all : List ℕ) → i < length xs
      → new ≡ each_once_after found (f (view (get_or xs i d)))
      → each_once_after found (flat_map f (map view (drop i xs))) ≡ all → each_once_after new (flat_map f (map view (drop (i + 1) xs))) ≡ all
  one_more_viewed xs i d found new all inside is before =
      ap (each_once_after new) (viewed (drop (i + 1) xs))
      ∙ one_more_blamed (λ x. f (view x)) xs i d found new all inside is (ap (each_once_after found) (sym (viewed (drop i xs))) ∙ before)

-- those to go on with from a symbol of the tree
next_is : (g : SourcesModel) (s : ℕ) (symbol : Symbol) → slice_get g.tree.symbols s ≡ Some symbol → next_of g s ≡ next_by g (reasons_of g s symbol)
next_is g s symbol at = ap (λ o. unwrap_or (option_map (λ k. next_by g (reasons_of g s k)) o) []) at

-- what is added for what its prompts need, and then for what is unmet
pub next_added : (g : SourcesModel) (s : ℕ) (symbol : Symbol) (r : PlainReasons) (tree : Tree) (values : List UnitValue) → slice_get g.tree.symbols s ≡ Some symbol
    → r ≡ reasons_of g s symbol → tree ≡ g.tree → values ≡ g.values → (found one two : List ℕ)
    → one ≡ each_once_after found (blamed_in tree (environment tree values) r.needs)
    → two ≡ each_once_after one (blamed_in tree (environment tree values) r.unmet)
    → two ≡ each_once_after found (next_of g s)
next_added g s symbol r tree values at are is_tree is_values found one two first second =
    second ∙ ap (λ k. each_once_after k (blamed_in tree (environment tree values) r.unmet)) first
    ∙ sym (after_both found (blamed_in tree (environment tree values) r.needs) (blamed_in tree (environment tree values) r.unmet))
    ∙ ap (λ v. each_once_after found (blamed_in tree (environment tree v) r.needs ++ blamed_in tree (environment tree v) r.unmet)) is_values
    ∙ ap (λ t. each_once_after found (blamed_in t (environment t g.values) r.needs ++ blamed_in t (environment t g.values) r.unmet)) is_tree
    ∙ ap (λ k. each_once_after found (next_by g k)) are
    ∙ ap (each_once_after found) (sym (next_is g s symbol at))
