-- The differences of two configurations.
use Rattle.std.proofs.Common.{◌↔◌, IsTrue}
use Rattle.kc_minimal.proofs.Common.{◌≡◌, true, List, [], ◌∷◌, length, map, refl, sym, ◌∙◌, ap, subst, Tree, UniquelySolves, Profile, rule, UnitValue, Settled, tree_of_settled, profile_of, FileFormat, is_name_prefix, Configured, tree_in, IsSolved, minimal_file, difference_view}
use Rattle.kc_solver.specs.Solutions.{FitsUsers}
use Rattle.kc_rules_model.specs.Shapes.{user_fits}
use Rattle.kc_minimal_model.specs.Differences.{Difference, differences}
use Rattle.kc_minimal_model.specs.Headline.{DifferencesDecideMinimalFiles}
use Rattle.kc_minimal.specs.declared.difference.Difference.{Difference as DifferenceOfCode}

-- a list whose image is empty is empty
no_difference : (ds : List Difference) → map difference_view ds ≡ [] → ds ≡ []
no_difference [] e = refl
no_difference (d ∷ ds) e = cc

pub compared : DifferencesDecideMinimalFiles → (l r : Configured) → IsSolved l → IsSolved r → tree_in l ≡ tree_in r → profile_of l.system ≡ profile_of r.system
    → (found : List DifferenceOfCode) → found ≡ map difference_view (differences (tree_in l) l.values r.values) → (format : FileFormat)
    → is_name_prefix format.prefix ≡ true
    → (found ≡ []) ↔ (minimal_file format (profile_of l.system) (tree_in l) l.values ≡ minimal_file format (profile_of l.system) (tree_in l) r.values)
compared law l r solved other tree profile found is format valid =
    let fits = subst (λ (t : Tree). FitsUsers (length t.units) (λ u x. IsTrue (user_fits t u x)) r.users) (sym tree) other.fits in
    let gives = subst (λ (p : Profile). UniquelySolves (length (tree_in l).units) (rule p (tree_in l)) r.users r.values) (sym profile)
    (subst (λ (t : Tree). UniquelySolves (length t.units) (rule (profile_of r.system) t) r.users r.values) (sym tree) other.gives) in
    let both = law format (profile_of l.system) (tree_in l) l.users r.users l.values r.values valid solved.settled solved.fits fits solved.gives gives in
    (λ none. both.0 (no_difference (differences (tree_in l) l.values r.values) (sym is ∙ none)), λ same. is ∙ ap (map difference_view) (both.1 same))

-- the differences found for a settled tree and two lists of values are those for an equal tree and equal values
pub compared_as : (s t : Settled) (v v_held w w_held : List UnitValue) → s ≡ t → v ≡ v_held → w ≡ w_held → (found : List DifferenceOfCode)
    → found ≡ map difference_view (differences (tree_of_settled s) v w) → found ≡ map difference_view (differences (tree_of_settled t) v_held w_held)
compared_as s t v v_held w w_held es ev ew found is =
    is ∙ ap (λ x. map difference_view (differences (tree_of_settled x) v w)) es ∙ ap (λ x. map difference_view (differences (tree_of_settled t) x w)) ev
    ∙ ap (λ x. map difference_view (differences (tree_of_settled t) v_held x)) ew
