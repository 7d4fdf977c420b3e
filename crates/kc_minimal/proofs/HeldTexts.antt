-- The minimal and the full file of the values that a configuration has.
use Rattle.kc_minimal.proofs.Common.{◌≡◌, ◌≤◌, ℕ, true, List, length, sym, ◌∙◌, ap, subst, UnitValue, Settled, tree_of_settled, profile_of, FileFormat, is_name_prefix, Configured, tree_in, IsSolved, full_file, Loads, minimal_file, IsCanonicalText}
use Rattle.kc_dotconfig_model.specs.ConfigFiles.{file_lines}
use Rattle.kc_value.specs.declared.limits.TheConstants.{MAX_CONFIG_BYTES, MAX_CONFIG_LINES}
use Rattle.kc_minimal_model.specs.FileLimits.{ReadFilesAreAccepted}
use Rattle.kc_minimal_model.specs.FullFileLaws.{FullFilesLeadBack, IsUnlifted}
use Rattle.kc_minimal_model.specs.FileValues.{ReadsTo, has_short_lines}
use Rattle.kc_minimal_model.specs.CanonicalText.{MinimalTextsAreCanonical}

module _ (format : FileFormat) (valid : is_name_prefix format.prefix ≡ true) (held : Configured) (solved : IsSolved held) (settled : Settled)
    (values : List UnitValue) (same : settled ≡ held.system) (same_values : values ≡ held.values) (text : List ℕ) where
  pub minimal_held : MinimalTextsAreCanonical → text ≡ minimal_file format (profile_of settled) (tree_of_settled settled) values
      → IsCanonicalText format (profile_of held.system) (tree_in held) held.values text
  minimal_held law is =
      let e = is ∙ ap (λ s. minimal_file format (profile_of s) (tree_of_settled s) values) same
      ∙ ap (minimal_file format (profile_of held.system) (tree_in held)) same_values in
      subst (IsCanonicalText format (profile_of held.system) (tree_in held) held.values) (sym e)
      (law format (profile_of held.system) (tree_in held) held.users held.values valid solved.settled solved.fits solved.gives.solves)

  pub full_held : text ≡ full_file format (tree_of_settled settled) values → text ≡ full_file format (tree_in held) held.values
  full_held is = is ∙ ap (λ s. full_file format (tree_of_settled s) values) same ∙ ap (full_file format (tree_in held)) same_values

  pub full_back : FullFilesLeadBack → text ≡ full_file format (tree_of_settled settled) values → IsUnlifted (profile_of held.system) (tree_in held) held.values
      → ReadsTo format (profile_of held.system) (tree_in held) text held.values
  full_back law is unlifted =
      subst (λ t. ReadsTo format (profile_of held.system) (tree_in held) t held.values) (sym (full_held is))
      (law format (profile_of held.system) (tree_in held) held.users held.values valid solved.settled solved.fits solved.gives unlifted)

  pub full_accepted : FullFilesLeadBack → ReadFilesAreAccepted → text ≡ full_file format (tree_of_settled settled) values
      → IsUnlifted (profile_of held.system) (tree_in held) held.values
      → length text ≤ MAX_CONFIG_BYTES → length (file_lines text) ≤ MAX_CONFIG_LINES → has_short_lines text ≡ true
      → Loads format (profile_of held.system) (tree_in held) text held.values
  full_accepted law accepts is unlifted small few short =
      let back = full_back law is unlifted in
      record { accepted = accepts format (profile_of held.system) (tree_in held) text held.values back small few short; reads = back }
