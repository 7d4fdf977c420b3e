-- The reasons of a symbol hold of a configuration.
use Rattle.kc_config_reasons.proofs.Common.{◌≡◌, ℕ, ◌<◌, List, Option, Some, length, refl, sym, ◌∙◌, ap, subst, Result, Ok, Err, IfOk, option_map, Tree, Symbol, unit_of, UserValue, TreeModel, profile_of, tree_model_of, tree_in}
use Rattle.std.specs.Prelude.{slice_get}
use Rattle.kc_rules_model.specs.declared.profile.Profile.{Profile}
use Rattle.kc_rules_model.specs.declared.values.UnitValue.{UnitValue}
use Rattle.kc_config.specs.ConfigStates.{Configured, IsSolved}
use Rattle.kc_reasons_model.specs.PlainReasons.{PlainReasons, plain_reasons, plain_reasons_at}
use Rattle.kc_reasons_model.proofs.CaseLaws.{cases_give}
use Rattle.kc_reasons_model.proofs.ClaimLaws.{claims}
use Rattle.kc_reasons_model.proofs.HindranceLaws.{missed_hindered}
use Rattle.kc_reasons.specs.declared.reasons.SymbolReasons.{SymbolReasons}
use Rattle.kc_reasons.specs.between.ReasonsView.{reasons_view}
use Rattle.kc_config_reasons.specs.ConfigReasons.{unit_in, user_in, AreReasonsIn}

hold : (c : Configured) (s : ℕ) (symbol : Symbol) → IsSolved c → slice_get (tree_in c).symbols s ≡ Some symbol → unit_in c s < length (tree_in c).units
    → AreReasonsIn c s symbol (plain_reasons (profile_of c.system) (tree_in c) s symbol (user_in c s) c.values)
hold c s symbol solved is inside = record {
  are = refl;
  gives = solved.gives.solves.holds (unit_in c s) inside ∙ ap Some (sym (cases_give (profile_of c.system) (tree_in c) (unit_in c s) (user_in c s) c.values));
  claims = claims (profile_of c.system) (tree_in c) (unit_in c s) (user_in c s) c.values;
  missed = λ one. missed_hindered (profile_of c.system) (tree_in c) c.users c.values s symbol solved.gives.solves is inside (solved.fits.1 (unit_in c s) inside) one;
}

-- the reasons that are found for the tree, profile, user value and values of a configuration
pub reasons_hold : (c : Configured) (s : ℕ) (profile : Profile) (tree : Tree) (user : Option UserValue) (values : List UnitValue) (r : PlainReasons) → IsSolved c
    → unit_in c s < length (tree_in c).units → profile ≡ profile_of c.system → tree ≡ tree_in c → user ≡ user_in c s → values ≡ c.values
    → plain_reasons_at profile tree s user values ≡ Some r
    → (symbol : Symbol) → slice_get (tree_in c).symbols s ≡ Some symbol → AreReasonsIn c s symbol r
reasons_hold c s profile tree user values r solved inside same_profile same_tree same_user same_values found symbol is =
    subst (AreReasonsIn c s symbol) (one (sym at ∙ found)) (hold c s symbol solved is inside)
  where
    at : plain_reasons_at profile tree s user values ≡ Some (plain_reasons (profile_of c.system) (tree_in c) s symbol (user_in c s) c.values)
    at =
        ap (λ p. plain_reasons_at p tree s user values) same_profile ∙ ap (λ t. plain_reasons_at (profile_of c.system) t s user values) same_tree
        ∙ ap (λ x. plain_reasons_at (profile_of c.system) (tree_in c) s x values) same_user ∙ ap (λ v. plain_reasons_at (profile_of c.system) (tree_in c) s (user_in c s) v) same_values
        ∙ ap (option_map (λ found. plain_reasons (profile_of c.system) (tree_in c) s found (user_in c s) c.values)) is

    one : {a b : PlainReasons} → Some a ≡ Some b → a ≡ b
    one e = cc

-- the unit of a symbol that a tree has is a unit of the tree
pub unit_inside : (m n : TreeModel) (s k : ℕ) → m ≡ n → k ≡ unit_of m.tree s → k < length m.tree.units → unit_of n.tree s < length n.tree.units
unit_inside m n s k same is below = subst (λ (t : TreeModel). unit_of t.tree s < length t.tree.units) same (subst (λ j. j < length m.tree.units) is below)

-- and so where memory may run out
pub all_hold : {E : Type 0} (c : Configured) (s : ℕ) (profile : Profile) (m : TreeModel) (user : Option UserValue) (values : List UnitValue) (r : Result SymbolReasons E) → IsSolved c
    → unit_in c s < length (tree_in c).units → profile ≡ profile_of c.system → m ≡ tree_model_of c.system → user ≡ user_in c s → values ≡ c.values
    → IfOk r (λ found. plain_reasons_at profile m.tree s user values ≡ Some (reasons_view m.exprs found))
    → IfOk r (λ found. (symbol : Symbol) → slice_get (tree_in c).symbols s ≡ Some symbol → AreReasonsIn c s symbol (reasons_view (tree_model_of c.system).exprs found))
all_hold c s profile m user values (Ok found) solved inside same_profile same_tree same_user same_values is =
    reasons_hold c s profile (tree_in c) user values (reasons_view (tree_model_of c.system).exprs found) solved inside same_profile refl same_user same_values
    (subst (λ (t : TreeModel). plain_reasons_at profile t.tree s user values ≡ Some (reasons_view t.exprs found)) same_tree is)
all_hold c s profile m user values (Err e) solved inside same_profile same_tree same_user same_values is = tt
