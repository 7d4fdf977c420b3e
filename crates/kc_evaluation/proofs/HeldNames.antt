-- The values that an arena's names are given are the values of all names.
use Rattle.kc_evaluation.proofs.Common.{◌≡◌, ℕ, List, [], ◌∷◌, Option, Some, None, refl, sym, ap, ◌∙◌, Expr, Tree, environment, UnitValue}
use Rattle.std.specs.Prelude.{option_and_then}
use Rattle.std.specs.List.{AllByRecursion}
use Rattle.std.proofs.lemmas.Option.{slice_get-get_or}
use Rattle.kc_expr.specs.Expr.{value}
use Rattle.kc_expr.specs.Lookup.{environment_of, index_of_name}
use Rattle.kc_expr.specs.ExpressionNames.{names_in}
use Rattle.kc_expr.proofs.Places.{place_there}
use Rattle.kc_tree_model.specs.TreeLookup.{symbol_named}
use Rattle.kc_rules_model.specs.checker.Agreement.{value_agrees}
use Rattle.kc_evaluation.specs.checker.SymbolValueViews.{symbol_value_at}
use Rattle.kc_rules_model.specs.SymbolValues.{value_of_symbol, condition}

every : {X : Type 0} (P : X → Type 0) → ((x : X) → P x) → (xs : List X) → AllByRecursion P xs
every P f [] = tt
every P f (x ∷ xs) = (f x, every P f xs)

module _ (tree : Tree) (values : List UnitValue) (names : List (List ℕ)) (held : (x : List ℕ) → index_of_name x names ≡ None → symbol_named tree x ≡ None) where
  at_place : (x : List ℕ) (o : Option ℕ) → index_of_name x names ≡ o → option_and_then (symbol_value_at tree values names) o ≡ environment tree values x
  at_place x None e = sym (ap (option_and_then (value_of_symbol tree values)) (held x e))
  at_place x (Some i) e =
      let (h, g) = place_there x names i e in
      ap (option_and_then (environment tree values)) (slice_get-get_or names i [] h) ∙ ap (environment tree values) g

  pub all_names : (x : List ℕ) → environment_of names (symbol_value_at tree values names) x ≡ environment tree values x
  all_names x = at_place x (index_of_name x names) refl

  pub values_agree : (e : Expr) → value (environment_of names (symbol_value_at tree values names)) e ≡ condition tree values e
  values_agree e =
      value_agrees (environment_of names (symbol_value_at tree values names)) (environment tree values) e
      (every (λ x. environment_of names (symbol_value_at tree values names) x ≡ environment tree values x) all_names (names_in e))
