-- What texts are written by, where symbols are explained.
use Rattle.kmin_explain.proofs.Common.{◌≡◌, ℕ, List, ◌++◌, Option, ◌∙◌, ap, Exprs, Case, PlainReasons, SymbolLines, valuation_exprs, valuation_tree, valuation_values, ReasonPlaces, located_first_line, located_details_at, SourcesModel}
use Rattle.kc_tree_model.specs.Blocks.{Position}
use Rattle.kc_evaluation.specs.declared.valuation.Valuation.{Valuation}
use Rattle.kc_explanation.specs.declared.context.Context.{Context}
use Rattle.kc_explanation.specs.checker.Contexts.{exprs_of, tree_of, values_of}

-- texts are written by the values, the spelling and the paths that symbols are explained by
pub record IsContextOf (g : SourcesModel) (m : Exprs) (by : Context) : Type 0 where
  pub strings : by.strings ≡ g.strings
  pub paths : by.paths.now ≡ g.tree_paths
  pub exprs : exprs_of by ≡ m
  pub tree : tree_of by ≡ g.tree
  pub values : values_of by ≡ g.values

pub context_of : (g : SourcesModel) (m : Exprs) (by : Context) (under : Valuation) → by.under.now ≡ under → by.strings ≡ g.strings → by.paths.now ≡ g.tree_paths
    → valuation_exprs under ≡ m → valuation_tree under ≡ g.tree → valuation_values under ≡ g.values → IsContextOf g m by
context_of g m by under same strings paths exprs tree values = record {
  strings = strings;
  paths = paths;
  exprs = ap valuation_exprs same ∙ exprs;
  tree = ap valuation_tree same ∙ tree;
  values = ap valuation_values same ∙ values;
}

module _ (g : SourcesModel) (m : Exprs) (by : Context) (is : IsContextOf g m by) where
  pub first_line_in : (old new : List ℕ) (s : ℕ) (chosen : Option ℕ) (case : Case) (at : Option Position)
      → new ≡ old ++ located_first_line by.strings by.paths.now (tree_of by) (values_of by) s chosen case at
      → new ≡ old ++ located_first_line g.strings g.tree_paths g.tree g.values s chosen case at
  first_line_in old new s chosen case at e =
      e ∙ ap (λ k. old ++ located_first_line k by.paths.now (tree_of by) (values_of by) s chosen case at) is.strings
      ∙ ap (λ ps. old ++ located_first_line g.strings ps (tree_of by) (values_of by) s chosen case at) is.paths
      ∙ ap (λ t. old ++ located_first_line g.strings g.tree_paths t (values_of by) s chosen case at) is.tree
      ∙ ap (λ v. old ++ located_first_line g.strings g.tree_paths g.tree v s chosen case at) is.values

  pub details_in : (old new : List ℕ) (s : ℕ) (lines : Exprs → SymbolLines) (r : Exprs → PlainReasons) (places : Exprs → ReasonPlaces)
      → new ≡ old ++ located_details_at by.strings by.paths.now (tree_of by) (values_of by) s (lines (exprs_of by)) (r (exprs_of by)) (places (exprs_of by))
      → new ≡ old ++ located_details_at g.strings g.tree_paths g.tree g.values s (lines m) (r m) (places m)
  details_in old new s lines r places e =
      e ∙ ap (λ k. old ++ located_details_at k by.paths.now (tree_of by) (values_of by) s (lines (exprs_of by)) (r (exprs_of by)) (places (exprs_of by))) is.strings
      ∙ ap (λ ps. old ++ located_details_at g.strings ps (tree_of by) (values_of by) s (lines (exprs_of by)) (r (exprs_of by)) (places (exprs_of by))) is.paths
      ∙ ap (λ t. old ++ located_details_at g.strings g.tree_paths t (values_of by) s (lines (exprs_of by)) (r (exprs_of by)) (places (exprs_of by))) is.tree
      ∙ ap (λ v. old ++ located_details_at g.strings g.tree_paths g.tree v s (lines (exprs_of by)) (r (exprs_of by)) (places (exprs_of by))) is.values
      ∙ ap (λ x. old ++ located_details_at g.strings g.tree_paths g.tree g.values s (lines x) (r x) (places x)) is.exprs
