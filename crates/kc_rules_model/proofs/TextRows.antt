-- Ints: a range, and the text of a value. An `option env`: its text is the value, and no file has it.
use Rattle.kc_rules_model.proofs.Common.{◌≡◌, false, [], ◌∷◌, refl, codes, Present}
use Rattle.std.specs.Fmt.{digits}
use Rattle.kc_value.specs.Number.{int_text}
use Rattle.kc_rules_model.specs.Rule.{rule}
use Rattle.kc_rules_model.specs.Reports.{is_written}
use Rattle.kc_rules_model.proofs.RowTrees.{by_rules, text, writes, tree_int, tree_from_environment}

user_value_above_its_range : by_rules Present tree_int (writes (codes "25") ∷ []) (text (codes "10") ∷ []) ≡ text (codes "10") ∷ []
unfolding rule int_text digits
user_value_above_its_range = refl

-- the value is the text, and not its number printed anew
leading_zeros_stay : by_rules Present tree_int (writes (codes "010") ∷ []) (text (codes "010") ∷ []) ≡ text (codes "010") ∷ []
unfolding rule int_text digits
leading_zeros_stay = refl

user_value_beside_the_environment : by_rules Present tree_from_environment (writes (codes "u") ∷ []) (text (codes "e") ∷ []) ≡ text (codes "e") ∷ []
unfolding rule int_text digits
user_value_beside_the_environment = refl

not_in_a_full_file : is_written tree_from_environment (text (codes "e") ∷ []) 0 ≡ false
not_in_a_full_file = refl
