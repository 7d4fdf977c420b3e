-- The meaning of a line of a file of answers for the code, as `kc_macros_model` defines it.
use Rattle.std.specs.Prelude.{ℕ, List, option_map}
use Rattle.std.specs.Borrow.{Bor}
use Rattle.kc_answers.specs.declared.answer_lines.AnswerLine.{AnswerLine}
use Rattle.kc_answers.specs.declared.answer_lines.AnswerLine.TheVariants.{Comment, Answer, Command, Malformed}
use Rattle.kc_macros_model.specs.AnswerFiles.{AnswerLine as LineMeaning, comment, answer, command, malformed}

-- the meaning that the code gives a line of an answer file, as a value of the type that `kc_macros_model` has for such meanings
abbrev pub line_view : AnswerLine → LineMeaning
line_view Comment = comment
line_view (Answer question text) = answer question.now (option_map (λ (t : Bor (List ℕ)). t.now) text)
line_view (Command question) = command question.now
line_view Malformed = malformed
