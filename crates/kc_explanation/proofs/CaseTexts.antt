-- The words of a case, one after the other.
use Rattle.kc_explanation.proofs.Common.{◌≡◌, ◌++◌, refl, append-nil}
use Rattle.kc_reasons_model.specs.declared.cases.Case.{Case}
use Rattle.kc_reasons_model.specs.declared.cases.Case.TheVariants.{Tri, Text, Choice}
use Rattle.kc_explanation.specs.Explained.{text_case_text, choice_case_text, case_text}
use Rattle.kc_explanation.specs.checker.CaseWords.{given_text, lifted_text}

pub case_text_is : (case : Case) → given_text case ++ lifted_text case ≡ case_text case
case_text_is (Tri c lift) = refl
case_text_is (Text c) = append-nil (text_case_text c)
case_text_is (Choice c) = append-nil (choice_case_text c)
