-- The words of a case of any type.
use Rattle.std.specs.Prelude.{ℕ, List, []}
use Rattle.kc_reasons_model.specs.declared.cases.Case.{Case}
use Rattle.kc_reasons_model.specs.declared.cases.Case.TheVariants.{Tri as TriGiven, Text as TextGiven, Choice as ChoiceGiven}
use Rattle.kc_explanation.specs.Explained.{tri_case_text, lift_text, text_case_text, choice_case_text}

-- what gives a value
abbrev pub given_text : Case → List ℕ
given_text (TriGiven c lift) = tri_case_text c
given_text (TextGiven c) = text_case_text c
given_text (ChoiceGiven c) = choice_case_text c

-- and why an `m` became `y`, if it did
abbrev pub lifted_text : Case → List ℕ
lifted_text (TriGiven c lift) = lift_text lift
lifted_text (TextGiven c) = []
lifted_text (ChoiceGiven c) = []
