-- The fault of a file of answers when memory runs out.
use Rattle.kc_macros_model.specs.declared.fault.AnswersKind.TheVariants.{OutOfMemory}
use Rattle.kc_macros_model.specs.declared.fault.AnswersFault.{AnswersFault}

-- the fault of a file of answers when memory runs out, which has no line
abbrev pub no_memory : AnswersFault
no_memory = record { line = 0; kind = OutOfMemory }
