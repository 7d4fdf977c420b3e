use Rattle.kmin_inputs.proofs.Common.{◌≡◌, ℕ, List, map, take, option_or, keyword_in_table, definition_view, defined_answer}
use Rattle.kmin_inputs.proofs.answers.define.Given as goal

abbrev pub invariant-loop-definition : goal.invariant-loop-definition
invariant-loop-definition l =
    (question : List ℕ) → keyword_in_table l.answers question
    ≡ option_or (defined_answer (map definition_view (take l.definition-index l.definitions)) question) (keyword_in_table l.fn.answers question)
