-- The values of names that are no variables.
use Rattle.std.proofs.Common.{◌≡◌, ◌≢◌, ℕ, ◌<◌, true, false, cond, List, [], ◌∷◌, length, Some, refl, ap, ◌∙◌, arith}
use Rattle.std.specs.Prelude.{decimal}
use Rattle.kc_macros_model.specs.declared.fault.MacroKind.TheVariants.{Undefined, Arguments}
use Rattle.kc_macros_model.specs.declared.fault.MacroNoticeKind.TheVariants.{Info}
use Rattle.kc_macros_model.specs.Programs.{Place, returns, fails}
use Rattle.kc_macros_model.specs.declared.built_in.BuiltIn.{BuiltIn}
use Rattle.kc_macros_model.specs.declared.built_in.BuiltIn.TheVariants as functions
use Rattle.kc_macros_model.specs.Variables.{Value, is_number, is_environment_name}
use Rattle.kc_macros_model.specs.Expansion.{asked_value, built_in_value, other_value}
use Rattle.kc_macros.specs.checker.BuiltIns.{arity_of}

pub no_element : {A : Type 0} (xs : List A) → length xs ≡ 0 → xs ≡ []
no_element [] h = refl
no_element (x ∷ xs) h = absurd (omega arith)

module _ (at : Place) (name : List ℕ) (args : List Value) where
  pub file_named : length args ≡ 0 → built_in_value at name functions.Filename args ≡ returns (Some at.file)
  file_named h = ap (built_in_value at name functions.Filename) (no_element args h)

  pub line_named : length args ≡ 0 → built_in_value at name functions.Lineno args ≡ returns (Some (decimal at.line))
  line_named h = ap (built_in_value at name functions.Lineno) (no_element args h)

  pub other_with_args : 0 < length args → other_value at name args ≡ fails (record { at = at; kind = Undefined; text = name })
  other_with_args h = by_args args h
    where
      by_args : (xs : List Value) → 0 < length xs → other_value at name xs ≡ fails (record { at = at; kind = Undefined; text = name })
      by_args [] h = absurd (omega arith)
      by_args (x ∷ xs) h = refl

  pub number_ungiven : length args ≡ 0 → is_number name ≡ true → other_value at name args ≡ returns (Some [])
  number_ungiven h n = ap (other_value at name) (no_element args h) ∙ ap (λ b. cond b (returns (Some []))
      (cond (is_environment_name name) (asked_value at name) (fails (record { at = at; kind = Undefined; text = name })))) n

  pub name_undefined : length args ≡ 0 → is_number name ≡ false → is_environment_name name ≡ false → other_value at name args
      ≡ fails (record { at = at; kind = Undefined; text = name })
  name_undefined h n e =
      ap (other_value at name) (no_element args h)
      ∙ ap (λ b. cond b (returns (Some [])) (cond (is_environment_name name) (asked_value at name)
      (fails (record { at = at; kind = Undefined; text = name })))) n
      ∙ ap (λ b. cond b (asked_value at name) (fails (record { at = at; kind = Undefined; text = name }))) e

-- a built-in function that is called with another count of arguments than it takes fails with `Arguments`
pub wrong_count : (at : Place) (name : List ℕ) (f : BuiltIn) (args : List Value) → length args ≢ arity_of f
    → built_in_value at name f args ≡ fails (record { at = at; kind = Arguments; text = name })
wrong_count at name functions.Filename [] h = absurd (h refl)
wrong_count at name functions.Filename (a ∷ args) h = refl
wrong_count at name functions.Lineno [] h = absurd (h refl)
wrong_count at name functions.Lineno (a ∷ args) h = refl
wrong_count at name functions.Shell [] h = refl
wrong_count at name functions.Shell (a ∷ []) h = absurd (h refl)
wrong_count at name functions.Shell (a ∷ b ∷ args) h = refl
wrong_count at name functions.Info [] h = refl
wrong_count at name functions.Info (a ∷ []) h = absurd (h refl)
wrong_count at name functions.Info (a ∷ b ∷ args) h = refl
wrong_count at name functions.WarningIf [] h = refl
wrong_count at name functions.WarningIf (a ∷ []) h = refl
wrong_count at name functions.WarningIf (a ∷ b ∷ []) h = absurd (h refl)
wrong_count at name functions.WarningIf (a ∷ b ∷ d ∷ args) h = refl
wrong_count at name functions.ErrorIf [] h = refl
wrong_count at name functions.ErrorIf (a ∷ []) h = refl
wrong_count at name functions.ErrorIf (a ∷ b ∷ []) h = absurd (h refl)
wrong_count at name functions.ErrorIf (a ∷ b ∷ d ∷ args) h = refl
