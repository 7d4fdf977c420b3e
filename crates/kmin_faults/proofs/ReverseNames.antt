-- Tests of the names in an expression, in either order.
use Rattle.kmin_faults.proofs.Common.{◌≡◌, ℕ, Bool, ◌||◌, List, [], ◌++◌, map, refl, sym, ap, ◌∙◌, slice_index_or, list_any, any_map}
use Rattle.std.proofs.Math.Bool.{or_comm}
use Rattle.std.proofs.lemmas.List.Folds.{list_any-append}
use Rattle.kc_expr.specs.Expr.{Expr, alone, related, negated, both, either, shown}
use Rattle.kc_expr.specs.ExpressionNames.{names_in}
use Rattle.kc_expr.specs.between.ReverseNames.{names_in_reverse}

module _ (p : List ℕ → Bool) where
  turned : (xs ys vs ws : List (List ℕ)) → list_any p vs ≡ list_any p xs → list_any p ws ≡ list_any p ys → list_any p (ws ++ vs) ≡ list_any p (xs ++ ys)
  turned xs ys vs ws e f =
      list_any-append p ws vs ∙ ap (λ t. t || list_any p vs) f ∙ ap (λ t. list_any p ys || t) e ∙ or_comm (list_any p ys) (list_any p xs)
      ∙ sym (list_any-append p xs ys)

  pub either_order : (e : Expr) → list_any p (names_in_reverse e) ≡ list_any p (names_in e)
  either_order (alone a) = refl
  either_order (related op a b) = refl
  either_order (negated e) = either_order e
  either_order (shown e) = either_order e
  either_order (both a b) = turned (names_in a) (names_in b) (names_in_reverse a) (names_in_reverse b) (either_order a) (either_order b)
  either_order (either a b) = turned (names_in a) (names_in b) (names_in_reverse a) (names_in_reverse b) (either_order a) (either_order b)

  -- a test of names by their numbers, where the numbers are those of an expression's names
  pub numbers_pass : (held : List (List ℕ)) (found : List ℕ) (e : Expr) → map (λ i. slice_index_or held i []) found ≡ names_in_reverse e
      → list_any (λ i. p (slice_index_or held i [])) found ≡ list_any p (names_in e)
  numbers_pass held found e h = sym (any_map p (λ i. slice_index_or held i []) found) ∙ ap (list_any p) h ∙ either_order e
